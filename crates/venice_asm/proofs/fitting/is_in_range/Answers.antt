use Rattle.std.proofs.Common.{◌∙◌}
use Rattle.venice_asm.proofs.Fittings.{own_range}
use Rattle.venice_asm.proofs.fitting.is_in_range.Goals as goal

pub returns-in_default : goal.returns-in_default
returns-in_default c = c.is_in_own_range.ensures ∙ own_range c.args.kind c.args.operand.now c.in_default.not-Version c.in_default.not-ModeFlags c.in_default.not-NoSum
