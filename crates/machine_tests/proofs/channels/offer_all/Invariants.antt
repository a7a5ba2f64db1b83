use Rattle.std.proofs.Common.{◌≤◌}
use Rattle.std.specs.Prelude.{All}
use Rattle.ven_base.specs.Store.{store_of, store_size}
use Rattle.venice_isa.specs.Footprint.{HasFootprint}
use Rattle.dma_engine.specs.Direction.{issue_of}
use Rattle.machine_tests.proofs.channels.offer_all.Given as goal

abbrev pub invariant-loop-work : goal.invariant-loop-work
invariant-loop-work g l = All (λ job. HasFootprint (store_size (store_of l.cells l.memory)) (issue_of g.D.Directed.DIRECTION job.work)) l.channel × (l.taken ≤ l.work-index)
