use Rattle.std.proofs.Common.{◌≡◌, ℕ, ◌++◌, List, ap, ◌∙◌, sym, subst}
use Rattle.std.specs.List.{range_with_len}
use Rattle.std.proofs.lemmas.List.{length-map}
use Rattle.pass_plan.specs.Label.{label_of}
use Rattle.pass_plan.specs.Shown.{tree_of}
use Rattle.buffer_lifetimes.specs.Step.{Step, step_of, steps_of}
use Rattle.buffer_lifetimes.specs.Order.{IsOrder}
use Rattle.buffer_lifetimes.specs.OrderOf.{code_of, order_of}
use Rattle.buffer_lifetimes.proofs.Lawful.{has_order}
use Rattle.buffer_lifetimes.proofs.Counts.{counts_steps}
use Rattle.buffer_lifetimes.proofs.assign.order.Goals as goal

pub returns-clause-steps : goal.returns-clause-steps
returns-clause-steps c =
    let tree = tree_of c.args.tree.now in
    let slots : c.label-slots.result ≡ label_of tree = c.label-slots.ensures in
    let free = c.as_slice-2.ensures.value ∙ c.in_ok-free.ensures ∙ ap (range_with_len 0) slots in
    c.in_ok-evaluate.ensures.steps ∙ (λ j. steps_of (c.new-steps.ensures.items j) ++ (code_of tree (free j)).steps)

pub returns-clause-lawful : goal.returns-clause-lawful
returns-clause-lawful c =
    let tree = tree_of c.args.tree.now in
    let to = (order_of tree).to in
    let slots : c.label-slots.result ≡ label_of tree = c.label-slots.ensures in
    let is = has_order tree c.requires.normal.root c.requires.normal.selects in
    subst (λ (s : List Step). IsOrder tree c.label-slots.result s to) (sym (returns-clause-steps c)) (subst (λ (n : ℕ). IsOrder tree n (order_of tree).steps to) (sym slots) is)

pub returns-clause-count : goal.returns-clause-count
returns-clause-count c =
    let tree = tree_of c.args.tree.now in
    sym (length-map c.evaluate.new.steps.items step_of) ∙ counts_steps tree c.label-slots.result (steps_of c.evaluate.new.steps.items) (order_of tree).to (returns-clause-lawful c)
