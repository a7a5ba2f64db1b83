use Rattle.std.proofs.Common.{◌≡◌, ◌+◌, map, ap, ◌∙◌}
use Rattle.std.specs.Prelude.{slice_set, max}
use Rattle.std.proofs.lemmas.List.{map-set}
use Rattle.pass_plan.specs.Label.{needed}
use Rattle.pass_plan.specs.Numbers.{Node}
use Rattle.pass_plan.specs.NumberShown.{node_of}
use Rattle.pass_plan.specs.NumberSize.{node_by}
use Rattle.pass_plan.proofs.number.put.Goals as goal

pub returns-clause-nodes : goal.returns-clause-nodes
returns-clause-nodes c =
    let turns = c.in_ok-turns.ensures.turns in
    let label = c.label_with-label.ensures ∙ ap (λ ts. max c.args.least (needed (map (λ turn. turn.label) ts))) (c.as_slice.ensures ∙ turns) in
    let inner = c.all_inner-inner.ensures in
    let node : Node = record { number = c.args.at + 1; label = c.label_with-label.result; inner = 1 + c.all_inner-inner.result; least = c.args.least; turns = c.in_ok-turns.turns.items } in
    let same : node ≡ node_by c.args.sizes.now (c.args.at + 1) c.args.least = λ i. record { number = c.args.at + 1; label = label i; inner = 1 + inner i; least = c.args.least; turns = turns i } in
    map-set node_of c.args.nodes.now.items c.args.at _ ∙ ap (λ n. slice_set (map node_of c.args.nodes.now.items) c.args.at n) same
