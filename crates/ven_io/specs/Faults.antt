-- Counts of faults: how a caller sees that an answer `Failed` came from outside.
use Rattle.std.specs.Prelude.{◌≡◌, ℕ, ◌+◌, ◌-◌, ◌^◌, min}

-- one more in a u64 that stays at its greatest value
abbrev pub one_more : ℕ → ℕ
one_more count = min (count + 1) (2 ^ 64 - 1)

-- A call that has failed is counted once, and no other call is counted.
pub record CountsFaults (before now : ℕ) (has_failed : Type 0) : Type 0 where
  pub failed : has_failed → now ≡ one_more before
  pub kept : (has_failed → ⊥) → now ≡ before
