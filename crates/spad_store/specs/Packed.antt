-- Inner: how the scratchpad keeps its cells: the bytes in one list, the flags in words of 64 bits.
use Rattle.std.specs.Prelude.{◌≡◌, ℕ, ◌+◌, ◌/◌, ◌%◌, ◌<◌, ◌≤◌, ◌==◌, Bool, List, [], ◌∷◌, length, slice_index_or}
use Rattle.std.specs.Int.{bit_at}
use Rattle.ven_base.specs.Cell.{Cell}
use Rattle.spad_store.specs.Sizes.{IsSpadSize}
use Rattle.spad_store.specs.declared.spad.Spad.TheInside.{Inside}

-- a bit as a flag
unfoldable pub has_bit : (bits place : ℕ) → Bool
has_bit bits place = bit_at bits place == 1

-- the flag at a place is a bit of one of the words
unfoldable pub flag_in : (words : List ℕ) (place : ℕ) → Bool
flag_in words place = has_bit (slice_index_or words (place / 64) 0) (place % 64)

-- the cells with these bytes, whose flags stand in the words from a place on
abbrev pub cells_from : (place : ℕ) → (bytes words : List ℕ) → List Cell
cells_from place [] words = []
cells_from place (byte ∷ bytes) words = (byte, flag_in words place) ∷ cells_from (place + 1) bytes words

-- so many words hold the flags of so many cells
abbrev pub enough_words : ℕ → ℕ
enough_words cells = cells / 64 + 1

-- what callers see
abbrev pub cells_of : Inside → List Cell
cells_of spad = cells_from 0 spad.bytes.items spad.flags.items

pub record IsPacked (spad : Inside) : Type 0 where
  pub size : IsSpadSize (length spad.bytes.items)
  pub words : length spad.flags.items ≡ enough_words (length spad.bytes.items)

-- some flags of the words are these now, and all others stay
pub record HasPut (before after : List ℕ) (place count : ℕ) (flag : ℕ → Bool) : Type 0 where
  pub same_length : length after ≡ length before
  pub inside : (k : ℕ) → k < count → flag_in after (place + k) ≡ flag k
  pub below : (p : ℕ) → p < place → flag_in after p ≡ flag_in before p
  pub behind : (p : ℕ) → place + count ≤ p → flag_in after p ≡ flag_in before p
