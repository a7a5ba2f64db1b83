-- Programs by number, one after another. They are put together by halves, so that even thousands nest little.
use Rattle.std.specs.Prelude.{ℕ, zero, suc, ◌+◌, ◌-◌, ◌/◌, ◌==◌, nat_le, if◌then◌else◌, List, length, get_or}
use Rattle.host_programs.specs.Program.{Program, Idle, Both}

abbrev pub at_most_one : (first count : ℕ) → (each : ℕ → Program) → Program
at_most_one first count each = if count == 0 then Idle else each first

-- those of `count` numbers from `first` on, in so many levels of halves
unfoldable pub between : (levels first count : ℕ) → (each : ℕ → Program) → Program
between zero first count each = at_most_one first count each
between (suc levels) first count each =
    if nat_le count 1 then at_most_one first count each
    else Both (between levels first (count / 2) each)
    (between levels (first + count / 2) (count - count / 2) each)

-- those of the first so many numbers
abbrev pub each_of : (count : ℕ) → (each : ℕ → Program) → Program
each_of count each = between count 0 count each

-- those of a list
abbrev pub all_of : List Program → Program
all_of ps = each_of (length ps) (λ k. get_or ps k Idle)
