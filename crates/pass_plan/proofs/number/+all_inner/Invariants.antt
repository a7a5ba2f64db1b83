use Rattle.std.proofs.Common.{length}
use Rattle.pass_plan.proofs.number.+all_inner.Given as goal

abbrev pub decreases-all_inner : goal.decreases-all_inner
decreases-all_inner l = length l.sizes.now
