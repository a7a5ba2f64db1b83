use Rattle.std.proofs.Common.{length, arith}
use Rattle.expr_split.specs.Places.{input_types, plan_of}
use Rattle.expr_split.proofs.Totals.{areas-weigh, nodes-grow, works-are, counts-are}
use Rattle.expr_split.proofs.Need.{need_some}
use Rattle.expr_split.proofs.Limits.{splits_small}
use Rattle.expr_split.proofs.MappedLeaves.{maps_few, program-maps}
use Rattle.expr_split.proofs.laws.size_laws.Goals as goal

pub returns : goal.returns
returns c = record {
  bounds = λ program split checked is. omega (arith, areas-weigh program checked, works-are (length (input_types program)) (plan_of program).passes split.passes is.passes);
  needs = need_some;
  trees = λ program split checked is. omega (arith, nodes-grow program checked, counts-are (length (input_types program)) (plan_of program).passes split.passes is.passes);
  maps = maps_few;
  few = λ program split checked is. record {
    nodes = omega (arith, nodes-grow program checked, counts-are (length (input_types program)) (plan_of program).passes split.passes is.passes, checked.limits.nodes);
    maps = omega (arith, maps_few program split is, program-maps program, checked.limits.nodes);
  };
  small = splits_small;
}
