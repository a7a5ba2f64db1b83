use Rattle.std.proofs.Common.{◌≡◌, map}
use Rattle.std.specs.List.{range_with_len}
use Rattle.array_meaning.proofs.fill.filled.Given as goal

-- the values at the places so far
abbrev pub invariant-loop-place : goal.invariant-loop-place
invariant-loop-place g l = l.values.items ≡ map (g.S.Source.value_at l.source) (range_with_len 0 l.place)
