use Rattle.std.proofs.Common.{inr, refl}
use Rattle.venice_run.specs.declared.ending.Ending.TheVariants.{Failed}
use Rattle.venice_run.specs.declared.ending.Fault.TheVariants.{Memory}
use Rattle.venice_run.proofs.top.say_ending.Goals as goal

pub returns-in-Err : goal.returns-in-Err
returns-in-Err g c = record { message = Failed Memory; is = inr refl; says = c.put_line-in-Err.ensures }
