use Rattle.std.proofs.Common.{rules, arith}
use Rattle.ven_base.specs.Name.{IsName}
use Rattle.ven_base.proofs.Words.{IsStored-written}
use Rattle.ven_base.proofs.name.Name.from_bytes.Goals as goal

pub invariant_of-result : goal.invariant_of-result
invariant_of-result c =
    let h : IsName c.args.bytes.now = record { token = search rules; short = omega arith; free = search rules } in
    rw c.copy_from_slice.ensures.after (IsStored-written c.args.bytes.now h)
