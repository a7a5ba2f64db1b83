use Rattle.std.proofs.Common.{length, sym, ap, ◌∙◌, subst}
use Rattle.std.specs.Prelude.{All}
use Rattle.ven_base.specs.Elem.{IsElement}
use Rattle.shape_check.specs.Node.{RowFold}
use Rattle.array_meaning.specs.Operand.{IsValueOf}
use Rattle.array_meaning.specs.Rows.{row_reductions}
use Rattle.array_meaning.proofs.Values.{slice_length, slice_in, row_fold_value}
use Rattle.array_meaning.proofs.unary.rows.Goals as goal

pub slice-requires : goal.slice-requires
slice-requires c = c.requires.value.slice c.requires.ready.typed.1.no_literal

pub reduced_rows-requires-clause-full : goal.reduced_rows-requires-clause-full
reduced_rows-requires-clause-full c =
    let r = c.requires in
    ap length c.slice.ensures ∙ slice_length r.arrays r.node c.args.a r.value r.ready.typed.1.no_literal

pub reduced_rows-requires-clause-in_type : goal.reduced_rows-requires-clause-in_type
reduced_rows-requires-clause-in_type c =
    let r = c.requires in
    subst (All (IsElement c.args.elem)) (sym c.slice.ensures)
    (slice_in r.arrays r.node c.args.a c.args.elem
    (record { types = r.ready.types; stands = r.ready.stands; typed = r.ready.typed.0 })
    r.value r.ready.typed.1.no_literal r.ready.typed.1.elem_is)

pub returns : goal.returns
returns c = λ arrays e ready value.
    let x = c.args in
    subst (IsValueOf arrays (RowFold x.elem x.shape x.fold e)) (sym c.own.ensures)
    (row_fold_value arrays x.elem x.shape x.fold e x.a c.in_ok-values.values ready value
    (c.in_ok-values.ensures ∙ ap (row_reductions x.fold x.elem x.a.shape) c.slice.ensures))
