use Rattle.std.proofs.Common.{◌≡◌, ◌*◌, take}
use Rattle.std.specs.Prelude.{pos, ◌≤ℤ◌, neg_ℤ}
use Rattle.ven_base.specs.Folding.{total_of}
use Rattle.array_meaning.proofs.reduce.total.Given as goal

-- the sum so far, which is as far from 0 as so many numbers can be
abbrev pub invariant-loop-value : goal.invariant-loop-value
invariant-loop-value l = record {
  value : l.sum ≡ total_of (take l.value-index l.values);
  low : neg_ℤ (pos (l.value-index * 4294967296)) ≤ℤ l.sum;
  high : l.sum ≤ℤ pos (l.value-index * 4294967296);
}
