use Rattle.std.proofs.Common.{◌≡◌, ◌≤◌}
use Rattle.lane_machine.specs.Elements.{sum_of_elements}
use Rattle.lane_machine.specs.Current.{IsBounded}
use Rattle.lane_machine.proofs.group.sum_in.Given as goal

abbrev pub invariant-loop-k : goal.invariant-loop-k
invariant-loop-k g l = record {
  is : l.sum ≡ sum_of_elements g.E.KnownElem.ELEM l.results l.k;
  bounded : IsBounded l.k l.sum;
}
