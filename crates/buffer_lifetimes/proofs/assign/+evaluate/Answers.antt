use Rattle.std.proofs.Common.{rules, ◌≡◌, ℕ, ◌<◌, ◌≤◌, [], ◌∷◌, ◌++◌, length, get_or, ap, ◌∙◌, sym, subst, arith, true, refl}
use Rattle.std.proofs.lemmas.Result.{IfOk-weaker}
use Rattle.std.proofs.lemmas.List.{length-set, length-map}
use Rattle.pass_plan.specs.Tree.{nodes_of, is_computed, operands_of}
use Rattle.pass_plan.specs.Shown.{tree_of}
use Rattle.pass_plan.specs.declared.turn.Turn.{Turn}
use Rattle.pass_plan.specs.Numbers.{places_of}
use Rattle.pass_plan.specs.NumberShown.{no_tree}
use Rattle.pass_plan.proofs.Operands.{operand_smaller}
use Rattle.buffer_lifetimes.specs.Step.{steps_of}
use Rattle.buffer_lifetimes.specs.OrderOf.{remove_slot, step_for, code_of}
use Rattle.buffer_lifetimes.proofs.Evaluation.{going_first, going_next, steps_after, slot_after, turn_place, place_below, few_operands}
use Rattle.buffer_lifetimes.proofs.assign.+evaluate.Goals as goal

abbrev first_turn : Turn
first_turn = record { place = 0; number = 0; label = 0 }

pub loop-turn-init : goal.loop-turn-init
loop-turn-init m c = record {
  turns = c.turns-turn-items.ensures.places;
  going = going_first (tree_of c.args.subtree.now.tree.now) (steps_of c.args.steps.now.items) c.args.free.now _ c.in_ok-left.left.items refl c.in_ok-left.ensures;
  long = refl;
}

pub operand-requires-clause-place : goal.operand-requires-clause-place
operand-requires-clause-place m c =
    let t = tree_of c.args.subtree.now.tree.now in
    let i = c.loop-turn.turn-index in
    let at = turn_place t c.turns-turn-items.result.now first_turn i c.loop-turn.invariant.turns c.loop-turn-test.true in
    subst (λ (k : ℕ). k < length (operands_of t)) at.1 (place_below t i at.0)

pub evaluate-requires : goal.evaluate-requires
evaluate-requires m c =
    let t = tree_of c.args.subtree.now.tree.now in
    let i = c.loop-turn.turn-index in
    let at = turn_place t c.turns-turn-items.result.now first_turn i c.loop-turn.invariant.turns c.loop-turn-test.true in
    let place = get_or (places_of t) i 0 in
    let below = place_below t i at.0 in
    let smaller = operand_smaller t place no_tree below in
    let is = ap nodes_of (c.operand.ensures.tree ∙ ap (λ k. get_or (operands_of t) k no_tree) (sym at.1)) in
    let n = c.requires.0 in
    (omega arith, (_, c.operand.ensures.nodes n c.requires.1))

pub bounds-slots-turn : goal.bounds-slots-turn
bounds-slots-turn m c =
    let t = tree_of c.args.subtree.now.tree.now in
    let i = c.loop-turn.turn-index in
    let at = turn_place t c.turns-turn-items.result.now first_turn i c.loop-turn.invariant.turns c.loop-turn-test.true in
    omega (arith, at.1, place_below t i at.0, few_operands t)

pub offset_bounds-slots-turn : goal.offset_bounds-slots-turn
offset_bounds-slots-turn m c =
    let t = tree_of c.args.subtree.now.tree.now in
    let i = c.loop-turn.turn-index in
    let at = turn_place t c.turns-turn-items.result.now first_turn i c.loop-turn.invariant.turns c.loop-turn-test.true in
    omega (arith, at.1, place_below t i at.0, few_operands t)

pub loop-turn-preserved : goal.loop-turn-preserved
loop-turn-preserved m c =
    let t = tree_of c.args.subtree.now.tree.now in
    let i = c.loop-turn.turn-index in
    let inv = c.loop-turn.invariant in
    let at = turn_place t c.turns-turn-items.result.now first_turn i inv.turns c.loop-turn-test.true in
    let low : (get_or c.turns-turn-items.result.now i first_turn).place < length c.loop-turn.slots = omega (arith, at.1, place_below t i at.0, few_operands t, inv.long) in
    record {
      turns = inv.turns;
      going = going_next t (steps_of c.args.steps.now.items) (steps_of c.loop-turn.steps.items) (steps_of c.evaluate.new.steps.items) c.args.free.now i _ c.in_ok-to.to c.loop-turn.slots c.loop-turn.left.items c.in_ok-left-2.left.items inv.going at.0 at.1 low
          (code_of (tree_of c.operand.result.tree.now) c.as_slice.result.now) (λ j. code_of (c.operand.ensures.tree j) (c.as_slice.ensures.value j)) c.in_ok-to.ensures.steps c.in_ok-to.ensures.slot
          (c.in_ok-left-2.ensures ∙ ap (remove_slot c.in_ok-to.to) c.as_slice-in-loop-turn.ensures.value);
      long = length-set c.loop-turn.slots _ c.in_ok-to.to ∙ inv.long;
    }

pub returns-clause-steps : goal.returns-clause-steps
returns-clause-steps m c =
    let t = tree_of c.args.subtree.now.tree.now in
    let inv = c.loop-turn.invariant in
    let end : length (places_of t) ≤ c.loop-turn.turn-index = omega (arith, ap length inv.turns, length-map c.turns-turn-items.result.now (λ (turn : Turn). turn.place)) in
    let inner : is_computed t ≡ true = search rules in
    IfOk-weaker c.step.result _ _ (λ to h. steps_after t (steps_of c.args.steps.now.items) (steps_of c.loop-turn.steps.items) c.args.free.now c.loop-turn.turn-index c.loop-turn.slots c.loop-turn.left.items inv.going end inner c.in_ok-args.args.items _ c.in_ok-args.ensures
    (h ∙ ap (λ left. steps_of c.loop-turn.steps.items ++ step_for t c.in_ok-args.args.items left ∷ []) c.as_slice-2.ensures.value)) c.step.ensures.steps

pub returns-clause-slot : goal.returns-clause-slot
returns-clause-slot m c =
    let t = tree_of c.args.subtree.now.tree.now in
    let inv = c.loop-turn.invariant in
    let end : length (places_of t) ≤ c.loop-turn.turn-index = omega (arith, ap length inv.turns, length-map c.turns-turn-items.result.now (λ (turn : Turn). turn.place)) in
    let inner : is_computed t ≡ true = search rules in
    IfOk-weaker c.step.result _ _ (λ to h. h ∙ ap (λ left. (step_for t c.in_ok-args.args.items left).to) c.as_slice-2.ensures.value
    ∙ slot_after t (steps_of c.args.steps.now.items) (steps_of c.loop-turn.steps.items) c.args.free.now c.loop-turn.turn-index c.loop-turn.slots c.loop-turn.left.items inv.going end inner c.in_ok-args.args.items c.in_ok-args.ensures) c.step.ensures.slot
