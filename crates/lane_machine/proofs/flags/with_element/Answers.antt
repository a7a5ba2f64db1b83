use Rattle.std.proofs.Common.{◌∙◌, ◌≡◌, ◌+◌, ◌-◌, ◌*◌, ◌/◌, ◌%◌, ◌^◌, ap, sym, arith}
use Rattle.std.proofs.lemmas.Nat.Bits.{ones_shr}
use Rattle.ven_base.specs.Elem.{size_of}
use Rattle.spad_store.proofs.Bits.{mask_is}
use Rattle.venice_isa.proofs.Beats.{size_at_most}
use Rattle.lane_machine.proofs.Flagged.{flag_set, flag_clear}
use Rattle.lane_machine.proofs.flags.with_element.Goals as goal

pub returns-then-flag : goal.returns-then-flag
returns-then-flag c = λ flags so_far is.
    let size = size_of c.args.elem in
    let k = c.args.k in
    let back : 64 - (64 - size) ≡ size = omega (arith, size_at_most c.args.elem) in
    let ones : (2 ^ 64 - 1) / 2 ^ (64 - size) ≡ 2 ^ size - 1 = ones_shr 64 (64 - size) (omega arith) ∙ ap (λ n. 2 ^ n - 1) back in
    let mask : (2 ^ 64 - 1) / 2 ^ (64 - c.size-size.result) * 2 ^ (k * c.size-size.result) % 2 ^ 64 ≡ (2 ^ size - 1) * 2 ^ (k * size) =
    ap (λ n. (2 ^ 64 - 1) / 2 ^ (64 - n) * 2 ^ (k * n) % 2 ^ 64) c.size-size.ensures
    ∙ ap (λ n. n * 2 ^ (k * size) % 2 ^ 64) ones
    ∙ mask_is size (k * size) (omega arith) in
    flag_set c.args.elem k c.args.bits flags so_far ((2 ^ 64 - 1) / 2 ^ (64 - c.size-size.result) * 2 ^ (k * c.size-size.result) % 2 ^ 64) mask (sym is ∙ c.if-flag.true)

pub returns-else-flag : goal.returns-else-flag
returns-else-flag c = λ flags so_far is. flag_clear c.args.elem c.args.k c.args.bits flags so_far (sym is ∙ c.if-flag.false)
