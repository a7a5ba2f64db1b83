use Rattle.std.proofs.Common.{arith}
use Rattle.pass_plan.specs.Shown.{tree_of}
use Rattle.pass_plan.proofs.Operands.{inner_fits}
use Rattle.pass_plan.proofs.number.numbered.Goals as goal

pub number-requires : goal.number-requires
number-requires c = let fits = inner_fits (tree_of c.args.tree.now) in omega arith
