use Rattle.std.proofs.Common.{sym, subst}
use Rattle.shape_check.specs.Node.{Cast}
use Rattle.array_meaning.specs.Operand.{IsValueOf}
use Rattle.array_meaning.proofs.Values.{are_there, cast_value}
use Rattle.array_meaning.proofs.unary.cast.Goals as goal

pub cast-requires : goal.cast-requires
cast-requires c =
    let r = c.requires in
    are_there r.arrays r.node c.args.a c.view.result c.args.shape c.elements.result r.value c.view.ensures
    r.ready.typed.1.shape_is c.elements.ensures.value

pub returns : goal.returns
returns c = λ arrays e ready value.
    let x = c.args in
    subst (IsValueOf arrays (Cast x.elem x.shape e)) (sym c.own.ensures)
    (cast_value arrays x.elem x.shape e x.a c.view.result c.elements.result c.in_ok-values.values ready value
    c.view.ensures c.elements.ensures.value c.in_ok-values.ensures)
