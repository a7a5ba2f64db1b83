-- The command `run`: it compiles a program, saves its image, and prints what the image's run on the machine leaves, which
-- is what the program means, with the run's steps and cycles.
use Rattle.std.specs.Prelude.{ℕ, List, Option}
use Rattle.ven_io.specs.Files.{Behaviour}
use Rattle.expr_split.specs.DeclaredTable.{input_table}
use Rattle.venice_run.specs.Answer.{Answer}
use Rattle.venice_run.specs.Compiled.{saves_run}
use Rattle.venice_run.specs.Grants.{grants_under}
use Rattle.venice_run.specs.Inputs.{inputs_under}
use Rattle.venice_run.specs.Plan.{plan_under}
use Rattle.venice_run.specs.Stage.{Stage, ◌>>=◌}

unfoldable pub run : Behaviour → (program inputs image : List ℕ) → (lanes spad : ℕ) → (grants : Option (List ℕ))
    → Stage Answer
run files program inputs image lanes spad grants = do
  planned ← plan_under files program spad
  arrays ← inputs_under files inputs (input_table planned.program)
  list ← grants_under files grants
  saves_run image planned lanes spad arrays list
