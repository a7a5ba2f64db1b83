use Rattle.std.proofs.Common.{ℕ, sym, ap, ◌∙◌}
use Rattle.pass_plan.specs.declared.tree.Tree.{Tree}
use Rattle.pass_plan.specs.Label.{label_of, needed_together}
use Rattle.pass_plan.specs.Shown.{tree_of}
use Rattle.pass_plan.proofs.Labels.{label_of-two, label_of-select}
use Rattle.pass_plan.proofs.needs.+label.Goals as goal

abbrev shown : Tree → ℕ
shown tree = label_of (tree_of tree)

-- src/needs.rt:12:1
pub returns-in-Two : goal.returns-in-Two
returns-in-Two t c =
    let a = c.label-in-Two.ensures ∙ ap shown c.deref-in-Two.ensures in
    let b = c.label-in-Two-2.ensures ∙ ap shown c.deref-in-Two-2.ensures in
    c.together-in-Two.ensures
    ∙ ap (λ n. needed_together n c.label-in-Two-2.result 0) a
    ∙ ap (λ n. needed_together (shown c.in-Two.a.value) n 0) b
    ∙ sym (label_of-two (tree_of c.args.tree.now) (tree_of c.in-Two.a.value) (tree_of c.in-Two.b.value) c.in-Two.elem c.in-Two.op (ap tree_of c.in-Two.is))

-- src/needs.rt:12:1
pub returns-in-Select : goal.returns-in-Select
returns-in-Select t c =
    let p = c.label-in-Select.ensures ∙ ap shown c.deref-in-Select.ensures in
    let q = c.label-in-Select-2.ensures ∙ ap shown c.deref-in-Select-2.ensures in
    let r = c.label-in-Select-3.ensures ∙ ap shown c.deref-in-Select-3.ensures in
    c.together-in-Select.ensures
    ∙ ap (λ n. needed_together n c.label-in-Select-2.result c.label-in-Select-3.result) p
    ∙ ap (λ n. needed_together (shown c.in-Select.c.value) n c.label-in-Select-3.result) q
    ∙ ap (λ n. needed_together (shown c.in-Select.c.value) (shown c.in-Select.x.value) n) r
    ∙ sym (label_of-select (tree_of c.args.tree.now) (tree_of c.in-Select.c.value) (tree_of c.in-Select.x.value) (tree_of c.in-Select.y.value) c.in-Select.elem (ap tree_of c.in-Select.is))
