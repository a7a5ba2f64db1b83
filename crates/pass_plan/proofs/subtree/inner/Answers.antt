use Rattle.std.proofs.Common.{◌<◌, length, arith}
use Rattle.pass_plan.specs.Tree.{operands_of}
use Rattle.pass_plan.specs.Shown.{tree_of}
use Rattle.pass_plan.proofs.Nodes.{enough_nodes, some_nodes, first_inner}
use Rattle.pass_plan.proofs.Operands.{computed_arity}
use Rattle.pass_plan.proofs.subtree.inner.Goals as goal

pub bounds-nodes-0 : goal.bounds-nodes-0
bounds-nodes-0 c =
    let t = tree_of c.args.tree.now in
    let some : 0 < length (operands_of t) = omega arith in
    some_nodes c.args.nodes.now t c.requires.number c.requires.rest c.requires.is (computed_arity t some)

pub returns-else-arity-eq0-clause-within : goal.returns-else-arity-eq0-clause-within
returns-else-arity-eq0-clause-within c =
    let t = tree_of c.args.tree.now in
    let some : 0 < length (operands_of t) = omega arith in
    let first = first_inner c.args.nodes.now c.index-nodes-0.result t c.requires.number c.requires.rest c.requires.is (computed_arity t some) in
    let enough = enough_nodes c.args.nodes.now t c.requires.number c.requires.rest c.requires.is in
    omega (arith, first.1)
