use Rattle.std.proofs.Common.{◌≡◌, ◌^◌, min, take}
use Rattle.ven_io.specs.Number.{digits_value}
use Rattle.ven_io.proofs.numbers.capped_value.Given as goal

abbrev pub invariant-loop-digit : goal.invariant-loop-digit
invariant-loop-digit l = l.value ≡ min (digits_value l.base (take l.digit-index l.digits)) (2 ^ 32)
