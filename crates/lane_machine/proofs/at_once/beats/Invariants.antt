use Rattle.std.proofs.Common.{◌-◌}
use Rattle.std.specs.Prelude.{ℕ, List}
use Rattle.ven_base.specs.Store.{store_of}
use Rattle.lane_machine.specs.ToGo.{BeatsToGo}
use Rattle.lane_machine.proofs.at_once.beats.Given as goal

abbrev pub invariant-loop-k : goal.invariant-loop-k
invariant-loop-k l = (memory : List ℕ) → BeatsToGo l.lanes l.work l.count l.initial.current (store_of l.initial.cells memory) (l.count - l._k) l.current (store_of l.cells memory)
