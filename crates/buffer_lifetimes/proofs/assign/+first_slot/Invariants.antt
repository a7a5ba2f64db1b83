use Rattle.std.proofs.Common.{length}
use Rattle.buffer_lifetimes.proofs.assign.+first_slot.Given as goal

abbrev pub decreases-first_slot : goal.decreases-first_slot
decreases-first_slot l = length l.args.now
