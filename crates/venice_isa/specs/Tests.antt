-- The tests of a work that is to be issued, as truth values. That the last two decide `HasFootprint` and `Conflicts` is
-- a law (`TestsDecide`).
use Rattle.std.specs.Prelude.{ℕ, zero, suc, ◌+◌, ◌==◌, Bool, true, false, not, ◌&&◌, ◌||◌, nat_lt}
use Rattle.ven_base.specs.Store.{Place, in_cells, in_memory, Size}
use Rattle.venice_isa.specs.declared.region.Region.{Region}
use Rattle.venice_isa.specs.declared.issue.Issue.{Issue}
use Rattle.venice_isa.specs.declared.issue.Issue.TheVariants.{Vector, Read, Write}
use Rattle.venice_isa.specs.Mode.{uses_b, is_conditional}
use Rattle.venice_isa.specs.Region.{place_in}
use Rattle.venice_isa.specs.Footprint.{source_a, source_b, destination, cells_of, memory_of}

-- no count of the work is 0; a wait has none
abbrev pub has_counts : Issue → Bool
has_counts (Vector work) = nat_lt 0 work.vl && nat_lt 0 work.rows
has_counts (Read work) = nat_lt 0 work.rows && nat_lt 0 work.bytes
has_counts (Write work) = nat_lt 0 work.rows && nat_lt 0 work.bytes
has_counts _ = true

-- ---- places that pass a test

-- some number below the end does
abbrev pub some_below : (end : ℕ) → (ℕ → Bool) → Bool
some_below zero test = false
some_below (suc n) test = test n || some_below n test

-- some byte of the region does
abbrev pub some_byte : Region → (ℕ → Bool) → Bool
some_byte region test =
    some_below region.rows (λ r. some_below region.columns (λ j.
    some_below region.size (λ byte. test (place_in region r j + byte))))

-- some place that the issue reads does
abbrev pub some_read : Issue → (Place → Bool) → Bool
some_read (Vector work) test =
    (not work.kind.a_scalar && some_byte (source_a work) (λ p. test (in_cells p)))
    || (uses_b work.kind.op && not work.kind.b_scalar && some_byte (source_b work) (λ p. test (in_cells p)))
    || (is_conditional work.kind.op && some_byte (destination work) (λ p. test (in_cells p)))
some_read (Read work) test = some_byte (memory_of work) (λ p. test (in_memory p))
some_read (Write work) test = some_byte (cells_of work) (λ p. test (in_cells p))
some_read _ test = false

-- some place that it writes does
abbrev pub some_written : Issue → (Place → Bool) → Bool
some_written (Vector work) test = some_byte (destination work) (λ p. test (in_cells p))
some_written (Read work) test = some_byte (cells_of work) (λ p. test (in_cells p))
some_written (Write work) test = some_byte (memory_of work) (λ p. test (in_memory p))
some_written _ test = false

-- ---- range and conflict

-- a store of this size lacks the place
abbrev pub is_outside : Size → Place → Bool
is_outside size (in_cells p) = not (nat_lt p size.cells)
is_outside size (in_memory p) = not (nat_lt p size.memory)

abbrev pub is_same : Place → Place → Bool
is_same (in_cells p) (in_cells q) = p == q
is_same (in_memory p) (in_memory q) = p == q
is_same _ _ = false

-- whether a store of this size has the issue's footprint
unfoldable pub is_in_range : Size → Issue → Bool
is_in_range size issue = not (some_read issue (is_outside size)) && not (some_written issue (is_outside size))

-- whether the two works conflict
unfoldable pub are_in_conflict : (first second : Issue) → Bool
are_in_conflict first second =
    some_written first (λ place. some_read second (is_same place) || some_written second (is_same place))
    || some_read first (λ place. some_written second (is_same place))
