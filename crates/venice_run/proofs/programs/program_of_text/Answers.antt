use Rattle.shape_check.specs.Checked.{program_of}
use Rattle.venice_run.specs.Endings.{parse_ending, check_ending}
use Rattle.venice_run.specs.Programs.{Parses, Checks, program_in}
use Rattle.venice_run.specs.Stage.{Goes}
use Rattle.venice_run.proofs.Stages.{step_ends, last_ends}
use Rattle.venice_run.proofs.programs.program_of_text.Goals as goal

pub returns-in_err-program : goal.returns-in_err-program
unfolding program_in
returns-in_err-program c =
    step_ends parse_ending (Parses c.args.text.now) program_of _ _ c.from_residual.ensures.1 c.in_err-program.ensures.read

pub returns-in_err-checked : goal.returns-in_err-checked
unfolding program_in
returns-in_err-checked c =
    Goes c.in_ok-program.program c.in_ok-program.ensures.read
    (last_ends check_ending (Checks c.in_ok-program.program.stmts) program_of _ _ c.from_residual-in_err-checked.ensures.1 c.in_err-checked.ensures.fault)

pub returns : goal.returns
unfolding program_in
returns c = Goes c.in_ok-program.program c.in_ok-program.ensures.read c.in_ok-checked.ensures.ok
