use Rattle.std.proofs.Common.{sym, subst}
use Rattle.shape_check.specs.Node.{One}
use Rattle.array_meaning.specs.Operand.{IsValueOf}
use Rattle.array_meaning.proofs.Values.{one_ready, one_value}
use Rattle.array_meaning.proofs.unary.one.Goals as goal

pub one-requires : goal.one-requires
one-requires c =
    let r = c.requires in
    let x = c.args in
    one_ready r.arrays x.elem x.shape x.op r.node x.a c.view.result c.elements.result r.ready r.value c.view.ensures
    c.elements.ensures.is_shape c.elements.ensures.value

pub returns : goal.returns
returns c = λ arrays e ready value.
    let x = c.args in
    subst (IsValueOf arrays (One x.elem x.shape x.op e)) (sym c.own.ensures)
    (one_value arrays x.elem x.shape x.op e x.a c.view.result c.elements.result c.in_ok-values.values ready value
    c.view.ensures c.elements.ensures.value c.in_ok-values.ensures)
