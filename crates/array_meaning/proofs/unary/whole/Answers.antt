use Rattle.std.proofs.Common.{◌≡◌, ◌<◌, ◌≤◌, List, [], ◌∷◌, length, sym, ap, ◌∙◌, subst}
use Rattle.std.specs.Prelude.{ℤ, All}
use Rattle.std.specs.Int.{w64}
use Rattle.std.proofs.lemmas.Int.{to_z-of_z}
use mir.Val.{to_z, of_z}
use Rattle.ven_base.specs.Elem.{IsElement}
use Rattle.ven_base.specs.Extent.{element_limit}
use Rattle.ven_base.specs.Folding.{folded}
use Rattle.shape_check.specs.Node.{Fold}
use Rattle.array_meaning.specs.Operand.{IsValueOf}
use Rattle.array_meaning.proofs.Values.{slice_some, slice_few, slice_in, fold_value}
use Rattle.array_meaning.proofs.unary.whole.Goals as goal

pub slice-requires : goal.slice-requires
slice-requires c = c.requires.value.slice c.requires.ready.typed.1.no_literal

pub reduced-value-requires-clause-some : goal.reduced-value-requires-clause-some
reduced-value-requires-clause-some c =
    let r = c.requires in
    subst (λ (xs : List ℤ). 0 < length xs) (sym c.slice.ensures)
    (slice_some r.arrays r.node c.args.a
    (record { types = r.ready.types; stands = r.ready.stands; typed = r.ready.typed.0 })
    r.value r.ready.typed.1.no_literal)

pub reduced-value-requires-clause-few : goal.reduced-value-requires-clause-few
reduced-value-requires-clause-few c =
    let r = c.requires in
    subst (λ (xs : List ℤ). length xs ≤ element_limit) (sym c.slice.ensures)
    (slice_few r.arrays r.node c.args.a
    (record { types = r.ready.types; stands = r.ready.stands; typed = r.ready.typed.0 })
    r.value r.ready.typed.1.no_literal)

pub reduced-value-requires-clause-in_type : goal.reduced-value-requires-clause-in_type
reduced-value-requires-clause-in_type c =
    let r = c.requires in
    subst (All (IsElement c.args.elem)) (sym c.slice.ensures)
    (slice_in r.arrays r.node c.args.a c.args.elem
    (record { types = r.ready.types; stands = r.ready.stands; typed = r.ready.typed.0 })
    r.value r.ready.typed.1.no_literal r.ready.typed.1.elem_is)

pub returns : goal.returns
returns c = λ arrays e ready value.
    let x = c.args in
    let n = c.reduced-value.result in
    let read : to_z w64 (of_z w64 n) ≡ n = to_z-of_z w64 n (record { sfits = c.reduced-value.type_inv }) in
    subst (IsValueOf arrays (Fold x.elem x.shape x.fold e)) (sym c.own.ensures)
    (fold_value arrays x.elem x.shape x.fold e x.a n c.in_ok-values.values ready value
    (c.reduced-value.ensures ∙ ap (folded x.fold x.elem) c.slice.ensures)
    (c.in_ok-values.ensures.items ∙ (λ k. read k ∷ [])))
