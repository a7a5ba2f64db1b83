-- Inner: what the next elements of a row get.
use Rattle.std.specs.Prelude.{ℕ, ◌+◌, ℤ, List}
use Rattle.venice_isa.specs.declared.work.VecWork.{VecWork}
use Rattle.ven_base.specs.Cell.{Cell}
use Rattle.venice_isa.specs.Whole.{result_at}

-- the results for the elements from `first` on
abbrev pub results_from : VecWork → List Cell → (r first : ℕ) → ℕ → ℤ
results_from work cells r first k = result_at work cells r (first + k)
