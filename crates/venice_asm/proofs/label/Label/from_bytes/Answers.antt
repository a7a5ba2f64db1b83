use Rattle.std.proofs.Common.{rules, arith}
use Rattle.venice_asm.specs.Label.{IsLabel}
use Rattle.venice_asm.proofs.Storing.{IsStored-written}
use Rattle.venice_asm.proofs.label.Label.from_bytes.Goals as goal

pub invariant_of-result : goal.invariant_of-result
invariant_of-result c =
    let h : IsLabel c.args.bytes.now = record { token = search rules; short = omega arith } in
    rw c.copy_from_slice.ensures.after (IsStored-written c.args.bytes.now h)
