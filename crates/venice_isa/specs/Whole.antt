-- What a vector instruction does, as one simultaneous map: all sources are taken from the cells as
-- they are before, and each element of the destination gets its result.
use Rattle.std.specs.Prelude.{◌≡◌, ℕ, zero, suc, ◌+◌, ◌<◌, ℤ, pos, negsuc, ◌+ℤ◌, Bool, false, ◌&&◌, not, ◌==◌, ◌⊎◌, List, length, if◌then◌else◌, IsTrue, IsFalse}
use Rattle.ven_base.specs.Elem.{size_of}
use Rattle.ven_base.specs.Wrap.{wrapped}
use Rattle.venice_isa.specs.declared.work.VecWork.{VecWork}
use Rattle.venice_isa.specs.declared.kind.VecKind.{VecKind}
use Rattle.venice_isa.specs.Mode.{uses_b, is_comparison, is_conditional}
use Rattle.ven_base.specs.Cell.{Cell}
use Rattle.venice_isa.specs.Cell.{cell_at, flag_of, part}
use Rattle.venice_isa.specs.declared.region.Region.{Region}
use Rattle.venice_isa.specs.Region.{place_in, Covers, HasElementsApart, IsApartFrom, HasSamePlaces}
use Rattle.venice_isa.specs.Element.{number_at, spelled}
use Rattle.venice_isa.specs.Footprint.{source_a, source_b, destination, written_in_row}
use Rattle.venice_isa.specs.Answer.{result_of}

-- A's number for element j of row r: the scalar, wrapped into A's type, or the element that stands there
abbrev pub number_of_a : VecWork → List Cell → ℕ → ℕ → ℤ
number_of_a work cells r j =
    if work.kind.a_scalar
    then wrapped work.kind.from (pos work.a)
    else number_at work.kind.from cells (place_in (source_a work) r j)

-- B's number for element j of row r
abbrev pub number_of_b : VecWork → List Cell → ℕ → ℕ → ℤ
number_of_b work cells r j =
    if work.kind.b_scalar
    then wrapped work.kind.elem (pos work.b)
    else number_at work.kind.elem cells (place_in (source_b work) r j)

-- the result for element j of row r
unfoldable pub result_at : VecWork → List Cell → ℕ → ℕ → ℤ
result_at work cells r j = result_of work.kind (number_of_a work cells r j) (number_of_b work cells r j)

-- a comparison that answers 1 sets the flags of its element
abbrev pub is_one : ℤ → Bool
is_one (pos n) = n == 1
is_one (negsuc n) = false

-- the flags of an element's cells, without accumulate
abbrev pub flag_for : VecKind → ℤ → Bool
flag_for kind result = is_comparison kind.op && is_one result

-- a conditional move leaves an element alone where the flag of the first byte of B's is clear
unfoldable pub is_left_alone : VecWork → List Cell → ℕ → ℕ → Bool
is_left_alone work cells r j =
    is_conditional work.kind.op && not (flag_of (cell_at cells (place_in (source_b work) r j)))

-- the cells that element j of row r gets
unfoldable pub new_element : VecWork → List Cell → ℕ → ℕ → List Cell
new_element work cells r j =
    let result = result_at work cells r j in
    if is_left_alone work cells r j
    then part cells (place_in (destination work) r j) (size_of work.kind.elem)
    else spelled work.kind.elem result (flag_for work.kind result)

-- the exact sum of the results for so many elements of row r, from element j on
abbrev pub sum_of_results : VecWork → List Cell → ℕ → ℕ → ℕ → ℤ
sum_of_results work cells r j zero = pos 0
sum_of_results work cells r j (suc count) = result_at work cells r j +ℤ sum_of_results work cells r (j + 1) count

-- the cells of a row's sum, which wraps and clears its flags
abbrev pub spelled_sum : VecWork → ℤ → List Cell
spelled_sum work sum = spelled work.kind.elem (wrapped work.kind.elem sum) false

-- the cells that element j of row r of the destination gets: a result, or with accumulate the row's sum
abbrev pub after_work : VecWork → List Cell → ℕ → ℕ → List Cell
after_work work cells r j =
    if work.kind.acc then spelled_sum work (sum_of_results work cells r 0 work.vl) else new_element work cells r j

-- the whole effect of a vector instruction
pub record IsWhole (work : VecWork) (before after : List Cell) : Type 0 where
  pub same_length : length after ≡ length before
  pub written : (r j : ℕ) → r < work.rows → j < written_in_row work
      → part after (place_in (destination work) r j) (size_of work.kind.elem) ≡ after_work work before r j
  pub kept : (p : ℕ) → ¬ Covers (destination work) p → cell_at after p ≡ cell_at before p

-- no count is 0
pub record HasCounts (work : VecWork) : Type 0 where
  pub elements : 0 < work.vl
  pub rows : 0 < work.rows

-- a source has the destination's places, or shares no byte with it
abbrev pub IsInPlaceOrApart : VecWork → Region → Type 0
IsInPlaceOrApart work source = HasSamePlaces source (destination work) ⊎ IsApartFrom source (destination work)

-- the instruction is one simultaneous map whatever the order of its beats: no byte belongs to two
-- elements of the destination, and each source that isn't a scalar has, element by element, the
-- destination's places and size, or shares no byte with it
pub record IsSimple (work : VecWork) : Type 0 where
  pub counts : HasCounts work
  pub elements_apart : HasElementsApart (destination work)
  pub a_in_place_or_apart : IsFalse work.kind.a_scalar → IsInPlaceOrApart work (source_a work)
  pub b_in_place_or_apart : IsTrue (uses_b work.kind.op) → IsFalse work.kind.b_scalar
      → IsInPlaceOrApart work (source_b work)
