use Rattle.std.proofs.Common.{◌+◌, ◌*◌, ◌∙◌, ap}
use Rattle.venice_isa.specs.Beat.{beats_of_row}
use Rattle.dma_engine.specs.Current.{done_of}
use Rattle.dma_engine.proofs.current.Current.done.Goals as goal

pub returns : goal.returns
unfolding done_of
returns c =
    let current = c.args.self.now in
    ap (λ row. row * c.from-2.result + c.from-3.result) c.from.ensures
    ∙ ap (λ beats. current.row * beats + c.from-3.result) (c.from-2.ensures ∙ c.row_beats.ensures)
    ∙ ap (λ column. current.row * beats_of_row current.work.bytes 16 + column) c.from-3.ensures
