use Rattle.std.proofs.Common.{arith}
use Rattle.dma_engine.proofs.Currents.{has_beats}
use Rattle.dma_engine.proofs.current.Current.spare.Goals as goal

pub overflow_sub-result : goal.overflow_sub-result
overflow_sub-result c = omega (arith, has_beats c.args.self.now c.requires, c.beats.ensures, c.done.ensures)

pub overflow_sub-result-2 : goal.overflow_sub-result-2
overflow_sub-result-2 c = omega (arith, has_beats c.args.self.now c.requires, c.beats.ensures, c.done.ensures)

pub returns : goal.returns
returns c = omega (arith, has_beats c.args.self.now c.requires, c.beats.ensures, c.done.ensures)
