-- The command `check`: it prints the shapes of the outputs, the need, the passes with their tiles, and the bound.
use Rattle.std.specs.Prelude.{ℕ, List, [], ◌∷◌, ◌++◌, codes}
use Rattle.ven_base.specs.declared.ops.Fold.TheVariants.{Sum, Min, Max}
use Rattle.ven_io.specs.Files.{Behaviour}
use Rattle.array_file.specs.Output.{heading_text}
use Rattle.pass_plan.specs.declared.parts.Tile.{Tile}
use Rattle.pass_plan.specs.declared.pass.PassKind.{PassKind}
use Rattle.pass_plan.specs.declared.pass.PassKind.TheVariants as pass_kind
use Rattle.pass_plan.specs.Need.{need_of, bound_of}
use Rattle.pass_plan.specs.Pass.{Pass}
use Rattle.pass_plan.specs.Tile.{tile_of, tiles_of}
use Rattle.shape_check.specs.Node.{elem_of, shape_of}
use Rattle.shape_check.specs.Statement.{Statement, Input, Let, Output}
use Rattle.venice_run.specs.Answer.{Answer, prints}
use Rattle.venice_run.specs.Line.{Words, Number, spaced}
use Rattle.venice_run.specs.Lines.{lines_from}
use Rattle.venice_run.specs.Plan.{plan_under}
use Rattle.venice_run.specs.Stage.{Stage, ◌>>=◌}

-- an output's line `NAME TYPE[R,C]`; other statements have none
abbrev pub output_line : Statement → List ℕ
output_line (Input name elem shape) = []
output_line (Let name value) = []
output_line (Output name value) = heading_text name (elem_of value) (shape_of value)

-- the word of each kind of pass
abbrev pub pass_word : PassKind → List ℕ
pass_word pass_kind.Map = codes "map"
pass_word (pass_kind.Reduce Sum) = codes "sum"
pass_word (pass_kind.Reduce Min) = codes "min"
pass_word (pass_kind.Reduce Max) = codes "max"

-- the line of pass k: its kind, the rows and columns of its domain and of a tile, and the number of tiles
abbrev pub tiled_line : ℕ → Pass → Tile → List ℕ
tiled_line k pass tile =
    spaced (codes "pass") (
    Number k ∷ Words (pass_word pass.kind) ∷ Number pass.domain.rows ∷ Number pass.domain.cols
    ∷ Words (codes "tile") ∷ Number tile.h ∷ Number tile.w ∷ Words (codes "tiles") ∷ Number (tiles_of pass.domain tile)
    ∷ [])

abbrev pub pass_line : ℕ → ℕ → Pass → List ℕ
pass_line spad k pass = tiled_line k pass (tile_of pass spad)

abbrev pub need_line : List Pass → List ℕ
need_line passes = spaced (codes "need") (Number (need_of passes) ∷ [])

abbrev pub bound_line : List Pass → List ℕ
bound_line passes = spaced (codes "bound") (Number (bound_of passes) ∷ [])

-- outputs, need, passes and bound
abbrev pub plan_text : List Statement → List Pass → ℕ → List ℕ
plan_text program passes spad =
    lines_from (λ k. output_line) 0 program
    ++ (need_line passes ++ (lines_from (pass_line spad) 1 passes ++ bound_line passes))

unfoldable pub check : Behaviour → (program : List ℕ) → ℕ → Stage Answer
check files program spad = do
  planned ← plan_under files program spad
  prints (plan_text planned.program planned.split.passes spad)
