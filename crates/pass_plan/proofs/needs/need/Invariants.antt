use Rattle.std.proofs.Common.{◌≡◌, take}
use Rattle.pass_plan.specs.Need.{need_of}
use Rattle.pass_plan.specs.Shown.{passes_of}
use Rattle.pass_plan.proofs.needs.need.Given as goal

abbrev pub invariant-loop-pass : goal.invariant-loop-pass
invariant-loop-pass l = l.need ≡ need_of (take l.pass-index (passes_of l.passes))
