use Rattle.std.proofs.Common.{◌≡◌}
use Rattle.std.specs.Prelude.{All}
use Rattle.ven_base.specs.Store.{store_of, store_size, IsInRange}
use Rattle.machine_tests.proofs.channels.beats_of.Given as goal

abbrev pub invariant-loop-made : goal.invariant-loop-made
invariant-loop-made g l =
    All (λ job. IsInRange (g.U.Unit.reads job.work) (g.U.Unit.writes job.work) (store_size (store_of l.cells l.memory))) (g.U.Unit.jobs l.unit)
    × (store_size (store_of l.cells l.memory) ≡ store_size (store_of l.initial.cells l.initial.memory))
