use Rattle.std.proofs.Common.{sym, ◌∙◌}
use Rattle.pass_plan.specs.Shown.{tree_of}
use Rattle.pass_plan.proofs.Nodes.{first_label, no_label}
use Rattle.pass_plan.proofs.subtree.Subtree.label.Goals as goal

pub returns-then-is_computed : goal.returns-then-is_computed
returns-then-is_computed c =
    first_label c.args.self.now.nodes.now c.index-self-0.result (tree_of c.args.self.now.tree.now) c.requires.0 c.requires.1.nodes (sym c.is_computed.ensures ∙ c.if-is_computed.true)

pub returns-else-is_computed : goal.returns-else-is_computed
returns-else-is_computed c = sym (no_label (tree_of c.args.self.now.tree.now) (sym c.is_computed.ensures ∙ c.if-is_computed.false))
