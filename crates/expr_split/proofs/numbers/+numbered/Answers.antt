use Rattle.std.proofs.Common.{sym, ap, ◌∙◌}
use Rattle.pass_plan.specs.Tree as tree
use Rattle.pass_plan.specs.Shown.{tree_of}
use Rattle.expr_split.specs.Terms.{term_of}
use Rattle.expr_split.proofs.Numbering.{onto_two, onto_select, onto_as}
use Rattle.expr_split.proofs.numbers.+numbered.Goals as goal

pub returns-in_ok-new-in-Two-2 : goal.returns-in_ok-new-in-Two-2
returns-in_ok-new-in-Two-2 t c =
    let op = c.in-Two.op in
    let elem = c.in-Two.elem in
    let s = term_of c.deref-in-Two.result.now in
    let u = term_of c.deref-in-Two-2.result.now in
    let both = onto_two op elem s u c.args.leaves.now.keys c.numbered-in-Two.new.leaves.keys c.numbered-in-Two-2.new.leaves.keys (tree_of c.in_ok-a-in-Two.a) (tree_of c.in_ok-b-in-Two.b) c.in_ok-a-in-Two.ensures c.in_ok-b-in-Two.ensures in
    let a = ap term_of c.deref-in-Two.ensures in
    let b = ap term_of c.deref-in-Two-2.ensures in
    let x = ap tree_of (sym c.in_ok-new-in-Two.ensures.ok) in
    let y = ap tree_of (sym c.in_ok-new-in-Two-2.ensures.ok) in
    onto_as (tree.Two op elem s u) (term_of c.args.term.now) c.args.leaves.now.keys c.numbered-in-Two-2.new.leaves.keys (tree.Two op elem (tree_of c.in_ok-a-in-Two.a) (tree_of c.in_ok-b-in-Two.b))
    (tree.Two op elem (tree_of c.in_ok-new-in-Two.field-0.value) (tree_of c.in_ok-new-in-Two-2.field-0.value))
    ((λ k. tree.Two op elem (a k) (b k)) ∙ sym (ap term_of c.in-Two.is)) (λ k. tree.Two op elem (x k) (y k)) both

pub returns-in_ok-new-in-Select-3 : goal.returns-in_ok-new-in-Select-3
returns-in_ok-new-in-Select-3 t c =
    let elem = c.in-Select.elem in
    let s = term_of c.deref-in-Select.result.now in
    let u = term_of c.deref-in-Select-2.result.now in
    let v = term_of c.deref-in-Select-3.result.now in
    let m = tree_of c.in_ok-c-in-Select.c in
    let n = tree_of c.in_ok-x-in-Select.x in
    let o = tree_of c.in_ok-y-in-Select.y in
    let before = c.args.leaves.now.keys in
    let last = c.numbered-in-Select-3.new.leaves.keys in
    let all = onto_select elem s u v before c.numbered-in-Select.new.leaves.keys c.numbered-in-Select-2.new.leaves.keys last m n o c.in_ok-c-in-Select.ensures c.in_ok-x-in-Select.ensures c.in_ok-y-in-Select.ensures in
    let p = ap term_of c.deref-in-Select.ensures in
    let q = ap term_of c.deref-in-Select-2.ensures in
    let r = ap term_of c.deref-in-Select-3.ensures in
    let x = ap tree_of (sym c.in_ok-new-in-Select.ensures.ok) in
    let y = ap tree_of (sym c.in_ok-new-in-Select-2.ensures.ok) in
    let z = ap tree_of (sym c.in_ok-new-in-Select-3.ensures.ok) in
    onto_as (tree.Select elem s u v) (term_of c.args.term.now) before last (tree.Select elem m n o)
    (tree.Select elem (tree_of c.in_ok-new-in-Select.field-0.value) (tree_of c.in_ok-new-in-Select-2.field-0.value) (tree_of c.in_ok-new-in-Select-3.field-0.value))
    ((λ k. tree.Select elem (p k) (q k) (r k)) ∙ sym (ap term_of c.in-Select.is)) (λ k. tree.Select elem (x k) (y k) (z k)) all
