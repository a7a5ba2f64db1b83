use Rattle.std.proofs.Common.{◌∙◌, ◌≡◌, ◌+◌, ◌*◌, ◌/◌, ◌≤◌, ap, sym, subst, arith, max, ℕ, ℤ, w64, to_z, of_z}
use Rattle.std.proofs.lemmas.Int.{to_z-of_z}
use Rattle.ven_base.specs.Elem.{size_of}
use Rattle.ven_base.specs.Operation.{bits_of}
use Rattle.venice_isa.specs.Answer.{answer_of}
use Rattle.venice_isa.specs.Cell.{overwritten}
use Rattle.venice_isa.specs.Element.{low_bytes, bytes_of}
use Rattle.lane_machine.specs.Elements.{element_in, wider, HasSpelled}
use Rattle.lane_machine.proofs.Spelled.{spelled_more, wider_fits}
use Rattle.lane_machine.proofs.kernel.each.Goals as goal

pub loop-k-preserved : goal.loop-k-preserved
loop-k-preserved g c =
    let elem = g.E.KnownElem.ELEM in
    let from = g.F.KnownElem.ELEM in
    let op = c.args.op in
    let a = c.args.a.now in
    let b = c.args.b.now in
    let k = c.loop-k.k in
    let so_far = c.loop-k.answers in
    let as_elem = c.ELEM-elem.result in
    let same_elem = c.ELEM-elem.ensures in
    let same_from = c.ELEM-from.ensures in
    let number_a = c.number.result in
    let number_b = c.number-in-loop-k.result in
    let n = c.answer_of-n.result in
    let read_a : to_z w64 (of_z w64 number_a) ≡ number_a = to_z-of_z w64 number_a (record { sfits = c.number.type_inv }) in
    let read_b : to_z w64 (of_z w64 number_b) ≡ number_b = to_z-of_z w64 number_b (record { sfits = c.number-in-loop-k.type_inv }) in
    let read_n : to_z w64 (of_z w64 n) ≡ n = to_z-of_z w64 n (record { sfits = c.answer_of-n.type_inv }) in
    let number : n ≡ answer_of op elem (element_in from a k) (element_in elem b k) = c.answer_of-n.ensures
    ∙ ap (λ x. answer_of op as_elem x (to_z w64 (of_z w64 number_b))) (read_a ∙ c.number.ensures.value ∙ ap (λ from. element_in from a k) same_from)
    ∙ ap (λ y. answer_of op as_elem (element_in from a k) y) (read_b ∙ c.number-in-loop-k.ensures.value ∙ ap (λ elem. element_in elem b k) same_elem)
    ∙ ap (λ elem'. answer_of op elem' (element_in from a k) (element_in elem b k)) same_elem in
    let is : c.put_answer.new.bytes ≡ overwritten so_far (k * size_of elem) (bytes_of elem n) = c.put_answer.ensures
    ∙ ap (λ bits. overwritten so_far (k * size_of as_elem) (low_bytes (size_of as_elem) bits)) (c.bits_of.ensures.value ∙ ap (bits_of as_elem) read_n)
    ∙ ap (λ elem. overwritten so_far (k * size_of elem) (low_bytes (size_of elem) (bits_of elem n))) same_elem in
    let most : c.max-k-end.result ≡ wider elem from = omega (arith, c.max-k-end.ensures, c.size.ensures, c.size-2.ensures, ap size_of same_elem, ap size_of same_from) in
    let counted : 16 / c.max-k-end.result ≡ 16 / wider elem from = ap (λ n. 16 / n) most in
    let fits = wider_fits elem from k (omega (arith, counted)) in
    let answers : ℕ → ℤ = λ k. answer_of op elem (element_in from a k) (element_in elem b k) in
    subst (HasSpelled elem (k + 1) answers) (sym is) (spelled_more elem answers k so_far n c.loop-k.invariant fits.0 number)
