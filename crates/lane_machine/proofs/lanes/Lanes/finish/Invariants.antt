use Rattle.std.specs.Prelude.{IfSome, slice_get, drop}
use Rattle.ven_base.specs.Store.{store_of}
use Rattle.lane_machine.proofs.Finishing.{IsFinishing}
use Rattle.lane_machine.proofs.lanes.Lanes.finish.Given as goal

abbrev pub invariant-loop-k : goal.invariant-loop-k
invariant-loop-k l = IfSome (slice_get l.initial.self.jobs 0) (λ job.
    IsFinishing l.initial.self (store_of l.initial.cells l.initial.memory) job (drop 1 l.initial.self.jobs) l._k l.self (store_of l.cells l.memory))
