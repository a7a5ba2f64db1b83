use Rattle.std.proofs.Common.{◌∙◌, ◌≡◌, ◌+◌, ◌*◌, ◌/◌, ◌≤◌, ap, sym, subst, refl, arith, ℤ, w64, to_z, of_z}
use Rattle.ven_base.specs.Elem.{size_of}
use Rattle.ven_base.specs.Operation.{bits_of}
use Rattle.venice_isa.specs.Cell.{overwritten}
use Rattle.venice_isa.specs.Element.{low_bytes, bytes_of}
use Rattle.venice_isa.proofs.Wholes.{size_positive}
use Rattle.lane_machine.specs.Elements.{HasSpelled}
use Rattle.lane_machine.proofs.Spelled.{spelled_more, elements_fit}
use Rattle.lane_machine.proofs.operand.repeat_as.Goals as goal

pub loop-k-preserved : goal.loop-k-preserved
loop-k-preserved g c =
    let elem = g.E.KnownElem.ELEM in
    let n : ℤ = to_z w64 (of_z w64 c.args.n) in
    let k = c.loop-k.k in
    let bytes = c.loop-k.bytes in
    let same = c.ELEM-elem.ensures in
    let counted : 16 / c.size-k-end.result ≡ 16 / size_of elem = ap (λ size. 16 / size) (c.size-k-end.ensures ∙ ap size_of same) in
    let fits : (k + 1) * size_of elem ≤ 16 = elements_fit (size_of elem) k (size_positive elem) (omega (arith, counted)) in
    let is : c.put.new.bytes ≡ overwritten bytes (k * size_of elem) (bytes_of elem n) = c.put.ensures
    ∙ ap (λ bits. overwritten bytes (k * size_of c.ELEM-elem.result) (low_bytes (size_of c.ELEM-elem.result) bits)) c.bits_of.ensures.value
    ∙ ap (λ elem. overwritten bytes (k * size_of elem) (low_bytes (size_of elem) (bits_of elem n))) same in
    subst (HasSpelled elem (k + 1) (λ _. n)) (sym is) (spelled_more elem (λ _. n) k bytes n c.loop-k.invariant fits refl)
