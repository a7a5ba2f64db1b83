use Rattle.std.proofs.Common.{◌≡◌, ◌≤◌, ◌+◌, ◌*◌, take}
use Rattle.std.specs.Prelude.{sum_by}
use Rattle.ven_base.specs.Extent.{element_limit}
use Rattle.pass_plan.specs.Pass.{node_limit}
use Rattle.pass_plan.specs.Need.{pass_work}
use Rattle.pass_plan.specs.Shown.{passes_of}
use Rattle.pass_plan.proofs.needs.bound.Given as goal

abbrev pub invariant-loop-pass : goal.invariant-loop-pass
invariant-loop-pass l = record {
  sum_is : l.sum ≡ sum_by pass_work (take l.pass-index (passes_of l.passes));
  few : l.sum ≤ l.pass-index * (element_limit * (node_limit + 8));
}
