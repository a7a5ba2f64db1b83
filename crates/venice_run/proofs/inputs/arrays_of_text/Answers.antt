use Rattle.ven_base.specs.Pairs.{Pairs}
use Rattle.venice_run.specs.Endings.{array_ending}
use Rattle.venice_run.specs.Inputs.{Reads, arrays_in}
use Rattle.venice_run.proofs.Stages.{last_ends}
use Rattle.venice_run.proofs.inputs.arrays_of_text.Goals as goal

pub returns-in_err-read_arrays : goal.returns-in_err-read_arrays
unfolding arrays_in
returns-in_err-read_arrays c = last_ends array_ending (Reads c.args.text.now) (λ (arrays : Pairs). arrays) _ _ c.from_residual.ensures.1 c.in_err-read_arrays.ensures.read

pub returns : goal.returns
unfolding arrays_in
returns c = c.in_ok-read_arrays.ensures.read
