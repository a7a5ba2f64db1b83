use Rattle.std.proofs.Common.{subst}
use Rattle.venice_asm.specs.Fitting.{IsNoRegister}
use Rattle.venice_asm.proofs.Fittings.{register_misfit}
use Rattle.venice_asm.proofs.fitting.read_name.Goals as goal

pub returns-in-Err : goal.returns-in-Err
returns-in-Err c = register_misfit c.args.version c.args.kind c.args.label.now c.in-Err.misfit c.in-Register.is (subst (λ b. IsNoRegister b c.in-Err.misfit) c.bytes-in-Register.ensures.value c.in-Err.ensures)
