use Rattle.std.proofs.Common.{◌≡◌, ◌+◌, ◌*◌, ◌≤◌, ◌∙◌, ap, sym, subst, arith, ℤ, w64, to_z, of_z}
use Rattle.std.specs.Prelude.{◌+ℤ◌, suc}
use Rattle.std.proofs.lemmas.Int.{ints, to_z-of_z}
use Rattle.std.proofs.Math.Nat.{mul-le-mul_left}
use Rattle.ven_base.specs.Elem.{size_of, IsElement}
use Rattle.venice_isa.proofs.Wholes.{size_positive}
use Rattle.lane_machine.specs.Current.{IsBounded}
use Rattle.lane_machine.specs.Elements.{element_in, sum_of_elements}
use Rattle.lane_machine.proofs.Groups.{bounded_more}
use Rattle.lane_machine.proofs.group.sum_in.Goals as goal

pub overflow_add-sum : goal.overflow_add-sum
overflow_add-sum g c =
    let elem = g.E.KnownElem.ELEM in
    let sum : ℤ = to_z w64 c.loop-k.sum-bits in
    let n = c.number-sum.result in
    let read : to_z w64 (of_z w64 n) ≡ n = to_z-of_z w64 n (record { sfits = c.number-sum.type_inv }) in
    let next = bounded_more c.ELEM.result c.loop-k.k sum n c.loop-k.invariant.bounded c.number-sum.ensures.in_type in
    let few : c.args.count * 1 ≤ c.args.count * size_of elem = mul-le-mul_left c.args.count (size_positive elem) in
    omega (arith, ints, read, next.from_least, next.to_greatest, few)

pub loop-k-preserved : goal.loop-k-preserved
loop-k-preserved g c =
    let elem = g.E.KnownElem.ELEM in
    let results = c.args.results.now in
    let k = c.loop-k.k in
    let sum : ℤ = to_z w64 c.loop-k.sum-bits in
    let n = c.number-sum.result in
    let read : to_z w64 (of_z w64 n) ≡ n = to_z-of_z w64 n (record { sfits = c.number-sum.type_inv }) in
    let next = bounded_more c.ELEM.result k sum n c.loop-k.invariant.bounded c.number-sum.ensures.in_type in
    let few : c.args.count * 1 ≤ c.args.count * size_of elem = mul-le-mul_left c.args.count (size_positive elem) in
    let value : n ≡ element_in elem results k = c.number-sum.ensures.value ∙ ap (λ elem. element_in elem results k) c.ELEM.ensures in
    let counted : k + 1 ≡ suc k = omega arith in
    let more : sum_of_elements elem results (k + 1) ≡ sum_of_elements elem results k +ℤ element_in elem results k = ap (sum_of_elements elem results) counted in
    record {
      is = omega (arith, ints, read, next.from_least, next.to_greatest, few, value, more, c.loop-k.invariant.is);
      bounded = subst (IsBounded (k + 1)) (omega (arith, ints, read, next.from_least, next.to_greatest, few)) next;
    }
