use Rattle.std.proofs.Common.{arith, sym}
use Rattle.venice_asm.proofs.Fittings.{no_register}
use Rattle.venice_asm.proofs.fitting.register_behind.Goals as goal

pub returns-else-number-from : goal.returns-else-number-from
returns-else-number-from c =
    no_register c.args.digits.now c.capped_number-number.result (sym c.if-not-is_plain_decimal.ensures) c.requires c.capped_number-number.ensures (λ lt. absurd (omega (arith, c.if-number-from.false, c.from.ensures)))
