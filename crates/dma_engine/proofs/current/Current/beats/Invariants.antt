use Rattle.ven_base.specs.Store.{store_of}
use Rattle.dma_engine.specs.Rows.{BeatsToGo}
use Rattle.dma_engine.proofs.current.Current.beats.Given as goal

abbrev pub invariant-loop-left : goal.invariant-loop-left
invariant-loop-left g l = BeatsToGo g.D.Directed.DIRECTION l.initial.self (store_of l.initial.cells l.initial.memory) l.count l.left l.self (store_of l.cells l.memory)

abbrev pub decreases-loop-left : goal.decreases-loop-left
decreases-loop-left g l = l.left
