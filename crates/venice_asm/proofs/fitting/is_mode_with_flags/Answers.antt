use Rattle.std.proofs.Common.{◌∙◌}
use Rattle.venice_asm.proofs.Fittings.{no_two_letters}
use Rattle.venice_asm.proofs.fitting.is_mode_with_flags.Goals as goal

pub returns-in_default : goal.returns-in_default
returns-in_default c = c.is_in_own_range.ensures ∙ no_two_letters c.args.operand.now c.in_default.not-ModeAB
