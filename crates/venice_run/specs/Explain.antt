-- The command `explain`: it prints for each pass an order of evaluation, and what that holds.
use Rattle.std.specs.Prelude.{ℕ, List, [], ◌∷◌, ◌++◌, map, codes}
use Rattle.eval_order.specs.BestOrder.{best_order}
use Rattle.eval_order.specs.Held.{held_of}
use Rattle.ven_io.specs.Files.{Behaviour}
use Rattle.pass_plan.specs.Label.{label_of}
use Rattle.pass_plan.specs.Need.{greatest}
use Rattle.pass_plan.specs.Pass.{Pass}
use Rattle.venice_run.specs.Answer.{Answer, prints}
use Rattle.venice_run.specs.Check.{pass_word}
use Rattle.venice_run.specs.Line.{Words, Number, spaced}
use Rattle.venice_run.specs.Lines.{lines_from}
use Rattle.venice_run.specs.Plan.{splits}
use Rattle.venice_run.specs.Programs.{program_under}
use Rattle.venice_run.specs.Stage.{Stage, ◌>>=◌}

-- a line of a word and numbers
abbrev pub numbers_line : List ℕ → List ℕ → List ℕ
numbers_line word numbers = spaced word (map Number numbers)

-- an order, what it holds at each place, the most of these, and the least that any order holds at its fullest
abbrev pub order_text : (order held : List ℕ) → (least : ℕ) → List ℕ
order_text order held least =
    numbers_line (codes "order") order ++ (numbers_line (codes "held") held
    ++ (numbers_line (codes "most") (greatest held ∷ []) ++ numbers_line (codes "least") (least ∷ [])))

-- the lines of pass k
abbrev pub pass_lines : ℕ → Pass → List ℕ
pass_lines k pass =
    spaced (codes "pass") (Number k ∷ Words (pass_word pass.kind) ∷ [])
    ++ order_text (best_order pass.tree) (held_of pass.tree (best_order pass.tree)) (label_of pass.tree)

unfoldable pub explain : Behaviour → (program : List ℕ) → Stage Answer
explain files program = do
  checked ← program_under files program
  split ← splits checked
  prints (lines_from pass_lines 1 split.passes)
