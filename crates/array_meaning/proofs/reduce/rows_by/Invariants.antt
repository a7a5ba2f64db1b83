use Rattle.std.proofs.Common.{◌≡◌, map}
use Rattle.std.specs.List.{range_with_len}
use Rattle.ven_base.specs.Folding.{folded}
use Rattle.array_meaning.specs.Rows.{row_in}
use Rattle.array_meaning.proofs.reduce.rows_by.Given as goal

abbrev pub invariant-loop-i : goal.invariant-loop-i
invariant-loop-i l = l.reductions.items ≡ map (λ i. folded l.fold l.elem (row_in l.values l.shape.cols i)) (range_with_len 0 l.i)
