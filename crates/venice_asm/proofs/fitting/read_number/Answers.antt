use Rattle.std.proofs.Common.{sym, ◌∙◌}
use Rattle.venice_asm.proofs.Fittings.{outside_number, not_below}
use Rattle.venice_asm.proofs.fitting.read_number.Goals as goal

pub returns-in-Some : goal.returns-in-Some
returns-in-Some c version = outside_number version c.args.kind c.args.n 4294967295 c.in-Some.field-0 (not_below c.args.n c.in-Err.ensures) (sym c.number_operand-in-Err.ensures ∙ c.in-Some.is)
