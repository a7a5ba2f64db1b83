use Rattle.std.proofs.Common.{◌≡◌, take}
use Rattle.std.specs.Prelude.{pos, fold, slice_index_or}
use Rattle.std.specs.Int.{int_max}
use Rattle.array_meaning.proofs.reduce.greatest.Given as goal

-- the greatest so far
abbrev pub invariant-loop-value : goal.invariant-loop-value
invariant-loop-value l = l.greatest ≡ fold int_max (slice_index_or l.values 0 (pos 0)) (take l.value-index l.values)
