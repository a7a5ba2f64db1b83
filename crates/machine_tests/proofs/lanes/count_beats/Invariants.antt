use Rattle.std.specs.Prelude.{All}
use Rattle.ven_base.specs.Store.{store_of, store_size, IsInRange}
use Rattle.machine_tests.proofs.lanes.count_beats.Given as goal

abbrev pub invariant-loop-turn : goal.invariant-loop-turn
invariant-loop-turn g l = All (λ job. IsInRange (g.U.Unit.reads job.work) (g.U.Unit.writes job.work) (store_size (store_of l.cells l.memory))) (g.U.Unit.jobs l.unit)
