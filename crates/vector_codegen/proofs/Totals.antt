-- Sums of rows.
use Rattle.std.specs.Prelude.{ℕ, zero, suc, ◌+◌, ℤ, pos, ◌+ℤ◌}

-- the exact sum of so many values, from one index on
abbrev pub row_sum : (ℕ → ℤ) → ℕ → ℕ → ℤ
row_sum value i zero = pos 0
row_sum value i (suc count) = value i +ℤ row_sum value (i + 1) count
