-- Places of a row or a column, counted from 0.
use Rattle.std.specs.Prelude.{◌+◌, ◌-◌, ◌*◌, ◌≤◌, ◌<◌, ℕ, ℤ, pos, negsuc, unsigned_abs, nat_lt, if◌then◌else◌, Option, None, Some, ◌≤ℤ◌, neg_ℤ}
use Rattle.std.specs.Int.{int_rem_euclid}
use Rattle.ven_base.specs.Extent.{Extent, elements_of, element_limit}

-- this place, where it is one of the n places from 0 on
abbrev pub place_within : ℕ → ℤ → Option ℕ
place_within n (pos k) = if nat_lt k n then Some k else None
place_within n (negsuc k) = None

-- the place, going round the n places
abbrev pub place_round : ℕ → ℤ → ℕ
place_round n k = unsigned_abs (int_rem_euclid k (pos n))

-- the furthest that a shift or a rotation may go, to either side
abbrev pub move_limit : ℕ
move_limit = 4294967295

pub record IsMove (d : ℤ) : Type 0 where
  pub least : neg_ℤ (pos move_limit) ≤ℤ d
  pub most : d ≤ℤ pos move_limit

-- count places from the first on in steps of step, the last of them below n
pub record IsCut (n first count step : ℕ) : Type 0 where
  pub some : 1 ≤ count
  pub moves : 1 ≤ step
  pub inside : first + (count - 1) * step < n

-- how often rows and columns may be repeated
pub record IsRepeat (kr kc : ℕ) (result : Extent) : Type 0 where
  pub some_rows : 1 ≤ kr
  pub some_cols : 1 ≤ kc
  pub within : elements_of result ≤ element_limit
