use Rattle.std.proofs.Common.{rules, ap, w64, false, true}
use Rattle.std.proofs.lemmas.Int.{to_z-of_z}
use Rattle.dma_segments.specs.FillWork.{move_kind, word_of}
use Rattle.dma_segments.proofs.fill_works.fill_work.Goals as goal

pub returns : goal.returns
returns c =
    let f = c.args.fill.now in
    rw c.move_kind.ensures (rw c.word_of.ensures (ap (λ v. record { kind = move_kind f.elem true false; vl = f.cols; rows = f.rows; dst = f.at; a = word_of v; b = 0; dst_step = f.step; a_step = 0; b_step = 0 }) (to_z-of_z w64 f.value (search rules))))
