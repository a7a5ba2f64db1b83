use Rattle.std.proofs.Common.{arith}
use Rattle.ven_base.specs.Store.{store_of}
use Rattle.dma_engine.proofs.Rows.{goes_on_to_go}
use Rattle.dma_engine.proofs.current.Current.beats.Goals as goal

pub loop-left-preserved : goal.loop-left-preserved
loop-left-preserved g c =
    goes_on_to_go g.D.Directed.DIRECTION c.args.self.now (store_of c.args.cells.now c.args.memory.now) c.args.count c.loop-left.left c.min-here.result c.loop-left.self c.beats_in_row.new.self
    (store_of c.loop-left.cells c.loop-left.memory) (store_of c.beats_in_row.new.cells c.beats_in_row.new.memory) c.loop-left.invariant (omega (arith, c.min-here.ensures)) c.beats_in_row.ensures.on c.beats_in_row.ensures.store c.beats_in_row.ensures.same_size
