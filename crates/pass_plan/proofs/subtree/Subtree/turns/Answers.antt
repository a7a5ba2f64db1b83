use Rattle.std.proofs.Common.{◌+◌, map, ap, sym, ◌∙◌}
use Rattle.pass_plan.specs.Tree.{operands_of}
use Rattle.pass_plan.specs.Shown.{tree_of}
use Rattle.pass_plan.proofs.Nodes.{first_turns}
use Rattle.pass_plan.proofs.Turns.{places_alike}
use Rattle.pass_plan.proofs.subtree.Subtree.turns.Goals as goal

pub returns-then-is_computed-clause-places : goal.returns-then-is_computed-clause-places
returns-then-is_computed-clause-places c =
    let t = tree_of c.args.self.now.tree.now in
    let whole = c.requires in
    let n = whole.0 in
    let nodes = whole.1 in
    let first = first_turns c.args.self.now.nodes.now c.index-self-0.result t n nodes.nodes (sym c.is_computed.ensures ∙ c.if-is_computed.true) in
    ap (map (λ turn. turn.place)) (c.as_slice.ensures ∙ first) ∙ places_alike (operands_of t) 0 (n + 1) 1
