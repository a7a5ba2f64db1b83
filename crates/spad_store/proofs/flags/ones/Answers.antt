use Rattle.std.proofs.Common.{◌∙◌, ap, ◌-◌, ◌^◌, ◌≡◌, arith}
use Rattle.std.proofs.lemmas.Nat.Bits.{ones_shr}
use Rattle.spad_store.proofs.flags.ones.Goals as goal

pub returns : goal.returns
returns c =
    let count : 64 - (64 - c.args.count) ≡ c.args.count = omega arith in
    ones_shr 64 (64 - c.args.count) (omega arith) ∙ ap (λ n. 2 ^ n - 1) count
