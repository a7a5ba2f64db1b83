use Rattle.std.proofs.Common.{◌≡◌, length, map}
use Rattle.pass_plan.specs.Tree.{nodes_of}
use Rattle.pass_plan.specs.Shown.{tree_of}
use Rattle.pass_plan.specs.Numbers.{places_of}
use Rattle.pass_plan.specs.declared.turn.Turn.{Turn}
use Rattle.buffer_lifetimes.specs.Step.{steps_of}
use Rattle.buffer_lifetimes.proofs.Evaluation.{Going}
use Rattle.buffer_lifetimes.proofs.assign.+evaluate.Given as goal

abbrev pub decreases-evaluate : goal.decreases-evaluate
decreases-evaluate l = nodes_of (tree_of l.subtree.now.tree.now)

abbrev pub invariant-loop-turn : goal.invariant-loop-turn
invariant-loop-turn l =
    let t = tree_of l.subtree.tree.now in
    record {
      turns : map (λ (turn : Turn). turn.place) l.turn-items ≡ places_of t;
      going : Going t (steps_of l.fn.steps.items) l.fn.free l.turn-index l.slots l.left.items (steps_of l.steps.items);
      long : length l.slots ≡ 3;
    }
