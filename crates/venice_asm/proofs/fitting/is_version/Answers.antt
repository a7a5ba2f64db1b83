use Rattle.std.proofs.Common.{◌∙◌}
use Rattle.venice_asm.proofs.Fittings.{no_number}
use Rattle.venice_asm.proofs.fitting.is_version.Goals as goal

pub returns-in_default : goal.returns-in_default
returns-in_default c = c.is_in_own_range.ensures ∙ no_number c.args.operand.now c.in_default.not-Number
