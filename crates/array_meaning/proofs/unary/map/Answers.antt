use Rattle.std.proofs.Common.{List, length, sym, ap, ◌∙◌, subst}
use Rattle.std.specs.Prelude.{ℤ}
use Rattle.ven_base.specs.Extent.{Extent}
use Rattle.ven_base.specs.Mapping.{result_shape, FitsShape}
use Rattle.shape_check.specs.Node.{Map}
use Rattle.shape_check.specs.Meaning.{values_with}
use Rattle.array_meaning.specs.Operand.{IsValueOf}
use Rattle.array_meaning.specs.Sources.{mapped_at}
use Rattle.array_meaning.proofs.Values.{slice_length, map_value}
use Rattle.array_meaning.proofs.unary.map.Goals as goal

pub slice-requires : goal.slice-requires
slice-requires c = c.requires.1.value.slice c.requires.1.ready.typed.1.no_literal

pub mapped-requires-clause-full : goal.mapped-requires-clause-full
mapped-requires-clause-full c =
    let r = c.requires.1 in
    ap length c.slice.ensures ∙ slice_length r.arrays r.node c.args.a r.value r.ready.typed.1.no_literal

pub mapped-requires-clause-fits : goal.mapped-requires-clause-fits
mapped-requires-clause-fits c =
    let r = c.requires.1 in
    subst (λ (s : Extent). FitsShape c.args.mapping s) (sym r.value.shape_is) r.ready.typed.1.fits

pub returns : goal.returns
returns c = λ elem arrays e ready value.
    let x = c.args in
    let of = x.a.shape in
    subst (IsValueOf arrays (Map elem x.shape x.mapping e)) (sym c.own.ensures)
    (map_value arrays elem x.shape x.mapping e x.a c.in_ok-values.values ready value
    (c.in_ok-values.ensures
    ∙ ap (λ (xs : List ℤ). values_with (result_shape x.mapping of) (mapped_at x.mapping of xs)) c.slice.ensures))
