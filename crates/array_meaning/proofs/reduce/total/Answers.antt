use Rattle.std.proofs.Common.{◌≡◌, ◌<◌, ◌∙◌, sym, ap, arith, length}
use Rattle.std.specs.Prelude.{ℤ, pos, ◌+ℤ◌, slice_index_or}
use Rattle.std.specs.Int.{w64}
use Rattle.std.proofs.lemmas.Int.{ints}
use mir.Val.{to_z, of_z}
use Rattle.ven_base.proofs.Operations.{element_small}
use Rattle.array_meaning.proofs.Loops.{small_read, element_read, total_more}
use Rattle.array_meaning.proofs.reduce.total.Goals as goal

pub loop-value-preserved : goal.loop-value-preserved
loop-value-preserved c =
    let xs = c.args.values.now in
    let i = c.loop-value.value-index in
    let x : ℤ = slice_index_or xs i (pos 0) in
    let sum : ℤ = to_z w64 c.loop-value.sum-bits in
    let below : i < length xs = c.loop-value-test.true in
    let element = c.requires.in_type i (pos 0) below in
    let small = element_small c.args.elem x element in
    let low = small.0 in
    let high = small.1 in
    let read_x = element_read c.args.elem x element in
    let read : to_z w64 (of_z w64 (sum +ℤ x)) ≡ sum +ℤ x =
    small_read (sum +ℤ x) (omega (arith, ints, c.loop-value.invariant.low, c.requires.few)) (omega (arith, ints, c.loop-value.invariant.high, c.requires.few)) in
    let next = ap (λ y. to_z w64 (of_z w64 (sum +ℤ y))) read_x ∙ read in
    record {
      value = next ∙ ap (λ y. y +ℤ x) c.loop-value.invariant.value ∙ sym (total_more xs i below);
      low = omega (arith, ints, next, c.loop-value.invariant.low);
      high = omega (arith, ints, next, c.loop-value.invariant.high);
    }
