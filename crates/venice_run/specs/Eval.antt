-- The command `eval`: it prints what the program means.
use Rattle.std.specs.Prelude.{ℕ, List}
use Rattle.ven_io.specs.Files.{Behaviour}
use Rattle.array_file.specs.Output.{arrays_text}
use Rattle.shape_check.specs.Meaning.{meaning_of}
use Rattle.expr_split.specs.DeclaredTable.{input_table}
use Rattle.venice_run.specs.Answer.{Answer, prints}
use Rattle.venice_run.specs.Inputs.{inputs_under}
use Rattle.venice_run.specs.Programs.{program_under}
use Rattle.venice_run.specs.Stage.{Stage, ◌>>=◌}

unfoldable pub eval : Behaviour → (program inputs : List ℕ) → Stage Answer
eval files program inputs = do
  checked ← program_under files program
  arrays ← inputs_under files inputs (input_table checked)
  prints (arrays_text (meaning_of checked arrays))
