-- The cells that bytes and words of flags stand for.
use Rattle.std.proofs.Common.{◌≡◌, ℕ, zero, suc, ◌+◌, ◌-◌, ◌*◌, ◌/◌, ◌%◌, ◌<◌, ◌≤◌, inl, inr, ap, sym, subst, ◌∙◌, refl, arith, List, [], ◌∷◌, ◌++◌, length, map, take, drop, set, get_or, replicate, false}
use Rattle.std.specs.Prelude.{Bool, ◌⊎◌}
use Rattle.std.specs.List.{zip}
use Rattle.std.proofs.lemmas.Bool.{cases_eq, cases_lt}
use Rattle.std.proofs.lemmas.List.{ext_get_or, length-set, get_or-set_same, get_or-set_other, length-replicate, get_or-replicate, length-take-le, length-drop, length-map, length-append, get_or_append_left, get_or_past, get_or_read, get_or-append_right, get_or-take, get_or-drop, get_or-map}
use Rattle.std.proofs.lemmas.Slice.Zip.{get_or-zip, length-zip}
use Rattle.ven_base.specs.Cell.{Cell}
use Rattle.spad_store.specs.Cells.{bytes_from, flags_from, with_bytes, with_flags}
use Rattle.spad_store.specs.Packed.{has_bit, flag_in, cells_from, HasPut}
use Rattle.spad_store.proofs.Bits.{no_ones}
use Rattle.spad_store.proofs.Words.{flag_is_bit}

abbrev empty : Cell
empty = (0, false)

pub length_cells : (place : ℕ) (bytes words : List ℕ) → length (cells_from place bytes words) ≡ length bytes
length_cells place [] words = refl
length_cells place (byte ∷ bytes) words = ap suc (length_cells (place + 1) bytes words)

cell_behind : (place : ℕ) (bytes words : List ℕ) (k : ℕ) → k < length bytes → get_or (cells_from place bytes words) k (0, false) ≡ (get_or bytes k 0, flag_in words (place + k))
cell_behind place [] words k below = absurd (omega arith)
cell_behind place (byte ∷ bytes) words zero below =
    let here : place ≡ place + zero = omega arith in
    ap (λ p. (byte, flag_in words p)) here
cell_behind place (byte ∷ bytes) words (suc k) below =
    let there : (place + 1) + k ≡ place + suc k = omega arith in
    cell_behind (place + 1) bytes words k (omega arith) ∙ ap (λ p. (get_or bytes k 0, flag_in words p)) there

module _ (bytes words : List ℕ) where
  abbrev cells : List Cell
  cells = cells_from 0 bytes words

  pub cell_is : (k : ℕ) → k < length bytes → get_or (cells_from 0 bytes words) k (0, false) ≡ (get_or bytes k 0, flag_in words k)
  cell_is k below =
      let here : 0 + k ≡ k = omega arith in
      cell_behind 0 bytes words k below ∙ ap (λ p. (get_or bytes k 0, flag_in words p)) here

  -- a list of cells with these bytes and flags
  pub packed_is : (other : List Cell) → length other ≡ length bytes → ((k : ℕ) → k < length bytes → get_or other k (0, false) ≡ (get_or bytes k 0, flag_in words k)) → cells_from 0 bytes words ≡ other
  packed_is other long each =
      ext_get_or (0, false) cells other (length_cells 0 bytes words ∙ sym long)
      (λ k below. let within : k < length bytes = omega (arith, length_cells 0 bytes words) in cell_is k within ∙ sym (each k within))

  pub bytes_are : (place count : ℕ) → place + count ≤ length bytes → take count (drop place bytes) ≡ bytes_from cells place count
  bytes_are place count inside =
      let part = take count (drop place bytes) in
      let from = take count (drop place cells) in
      let all : length cells ≡ length bytes = length_cells 0 bytes words in
      let long : length part ≡ count = length-take-le count (drop place bytes) (omega (arith, length-drop place bytes)) in
      let from_long : length from ≡ count = length-take-le count (drop place cells) (omega (arith, all, length-drop place cells)) in
      ext_get_or 0 part (bytes_from cells place count) (long ∙ sym (length-map from (λ cell. cell.0) ∙ from_long))
      (λ k below.
      let within : k < count = omega arith in
      get_or-take count (drop place bytes) k 0 within
      ∙ get_or-drop place bytes k 0
      ∙ sym (get_or-map (λ (cell : Cell). cell.0) from k (0, false) 0 (omega arith)
      ∙ ap (λ (cell : Cell). cell.0) (get_or-take count (drop place cells) k (0, false) within ∙ get_or-drop place cells k (0, false) ∙ cell_is (place + k) (omega arith))))

  pub flags_are : (place count : ℕ) (flags : List Bool) → place + count ≤ length bytes → length flags ≡ count → ((k : ℕ) → k < count → get_or flags k false ≡ flag_in words (place + k)) → flags ≡ flags_from cells place count
  flags_are place count flags inside long each =
      let from = take count (drop place cells) in
      let all : length cells ≡ length bytes = length_cells 0 bytes words in
      let from_long : length from ≡ count = length-take-le count (drop place cells) (omega (arith, all, length-drop place cells)) in
      ext_get_or false flags (flags_from cells place count) (long ∙ sym (length-map from (λ cell. cell.1) ∙ from_long))
      (λ k below.
      let within : k < count = omega arith in
      each k within
      ∙ sym (get_or-map (λ (cell : Cell). cell.1) from k (0, false) false (omega arith)
      ∙ ap (λ (cell : Cell). cell.1) (get_or-take count (drop place cells) k (0, false) within ∙ get_or-drop place cells k (0, false) ∙ cell_is (place + k) (omega arith))))

-- the scratchpad's size is that of its bytes
pub size_is : (bytes words : List ℕ) (all : List Cell) → cells_from 0 bytes words ≡ all → length bytes ≡ length all
size_is bytes words all is = sym (length_cells 0 bytes words) ∙ ap length is

module _ (bytes words : List ℕ) (all : List Cell) (is : cells_from 0 bytes words ≡ all) (at : ℕ) (inside : at < length bytes) where
  cell_at_is : get_or all at (0, false) ≡ (get_or bytes at 0, flag_in words at)
  cell_at_is = ap (λ (cells : List Cell). get_or cells at (0, false)) (sym is) ∙ cell_is bytes words at inside

  pub byte_is : (byte : ℕ) → byte ≡ get_or bytes at byte → byte ≡ (get_or all at (0, false)).0
  byte_is byte read = get_or_read bytes at byte inside read 0 ∙ sym (ap (λ (cell : Cell). cell.0) cell_at_is)

  pub flag_is : flag_in words at ≡ (get_or all at (0, false)).1
  flag_is = sym (ap (λ (cell : Cell). cell.1) cell_at_is)

-- the words have the flags of all cells
pub words_enough : (bytes words place count : ℕ) → words ≡ bytes / 64 + 1 → place + count ≤ bytes → place + count ≤ 64 * words
words_enough bytes words place count enough inside = omega arith

-- ---- a part of a list is other items

module _ {A : Type 0} (items new : List A) (place : ℕ) (d : A) (inside : place + length new ≤ length items) where
  abbrev changed : List A
  changed = take place items ++ (new ++ drop (place + length new) items)

  front_long : length (take place items) ≡ place
  front_long = length-take-le place items (omega arith)

  pub length_changed : length (take place items ++ (new ++ drop (place + length new) items)) ≡ length items
  length_changed = omega (arith, front_long, length-append (take place items) (new ++ drop (place + length new) items), length-append new (drop (place + length new) items), length-drop (place + length new) items)

  pub changed_below : (k : ℕ) → k < place → get_or (take place items ++ (new ++ drop (place + length new) items)) k d ≡ get_or items k d
  changed_below k below =
      get_or_append_left (take place items) (new ++ drop (place + length new) items) d k (omega (arith, front_long)) ∙ get_or-take place items k d below

  pub changed_inside : (k : ℕ) → place ≤ k → k < place + length new → get_or (take place items ++ (new ++ drop (place + length new) items)) k d ≡ get_or new (k - place) d
  changed_inside k from below =
      get_or-append_right (take place items) (new ++ drop (place + length new) items) place k d front_long from
      ∙ get_or_append_left new (drop (place + length new) items) d (k - place) (omega arith)

  pub changed_behind : (k : ℕ) → place + length new ≤ k → get_or (take place items ++ (new ++ drop (place + length new) items)) k d ≡ get_or items k d
  changed_behind k behind =
      let there : place + length new + (k - place - length new) ≡ k = omega arith in
      get_or-append_right (take place items) (new ++ drop (place + length new) items) place k d front_long (omega arith)
      ∙ get_or-append_right new (drop (place + length new) items) (length new) (k - place) d refl (omega arith)
      ∙ get_or-drop (place + length new) items (k - place - length new) d
      ∙ ap (λ n. get_or items n d) there

-- ---- inside or outside of a part

abbrev Outside : (place count k : ℕ) → Type 0
Outside place count k = (k < place) ⊎ (place + count ≤ k)

inside_or_outside : (place count k : ℕ) → ((place ≤ k) × (k < place + count)) ⊎ Outside place count k
inside_or_outside place count k =
    elim (cases_lt k place) [
      | inl below ↦ inr (inl below)
      | inr from ↦ elim (cases_lt k (place + count)) [ inl inside ↦ inl (from, inside) | inr behind ↦ inr (inr behind) ]
    ]

same_outside : (place count other k : ℕ) → other ≡ count → Outside place count k → Outside place other k
same_outside place count other k same outside =
    elim outside [ inl below ↦ inl below | inr behind ↦ inr (omega arith) ]

unchanged : {A : Type 0} (items new : List A) (place : ℕ) (d : A) → place + length new ≤ length items → (k : ℕ) → Outside place (length new) k → get_or (take place items ++ (new ++ drop (place + length new) items)) k d ≡ get_or items k d
unchanged items new place d inside k outside =
    elim outside [
      | inl below ↦ changed_below items new place d inside k below
      | inr behind ↦ changed_behind items new place d inside k behind
    ]

module _ (words words' : List ℕ) (place count : ℕ) (flag : ℕ → Bool) (put : HasPut words words' place count flag) (k : ℕ) where
  flag_inside : place ≤ k → k < place + count → flag_in words' k ≡ flag (k - place)
  flag_inside from below =
      let there : place + (k - place) ≡ k = omega arith in
      ap (flag_in words') (sym there) ∙ put.inside (k - place) (omega arith)

  flag_outside : Outside place count k → flag_in words' k ≡ flag_in words k
  flag_outside outside = elim outside [ inl below ↦ put.below k below | inr behind ↦ put.behind k behind ]

zeros_long : (count : ℕ) → length (replicate {A = ℕ} count 0) ≡ count
zeros_long count = length-replicate {A = ℕ} count 0

get_or_zeros : (count k : ℕ) → get_or (replicate {A = ℕ} count 0) k 0 ≡ 0
get_or_zeros count k =
    elim (cases_lt k count) [
      | inl below ↦ get_or-replicate count k 0 0 below
      | inr behind ↦ get_or_past (replicate count 0) k 0 (omega (arith, zeros_long count))
    ]

-- ---- what the calls do

-- a new scratchpad is empty
pub empty_is : (count more : ℕ) → cells_from 0 (replicate count 0) (replicate more 0) ≡ replicate count (0, false)
empty_is count more =
    let none : (k : ℕ) → flag_in (replicate more 0) k ≡ false = λ k.
    flag_is_bit (replicate more 0) k (k / 64) (k % 64) refl refl ∙ ap (λ w. has_bit w (k % 64)) (get_or_zeros more (k / 64)) ∙ no_ones (k % 64) in
    packed_is (replicate count 0) (replicate more 0) (replicate count (0, false)) (length-replicate count empty ∙ sym (zeros_long count))
    (λ k below.
    let within : k < count = omega (arith, zeros_long count) in
    get_or-replicate count k (0, false) (0, false) within
    ∙ ap (λ byte. (byte, false)) (sym (get_or-replicate count k 0 0 within))
    ∙ ap (λ flag. (get_or (replicate count 0) k 0, flag)) (sym (none k)))

around : (k place : ℕ) → (k ≡ place → ⊥) → Outside place 1 k
around k place other = elim (cases_lt k place) [ inl below ↦ inl below | inr from ↦ inr (omega arith) ]

-- one cell is put
pub put_is : (bytes words words' : List ℕ) (place byte : ℕ) (flag : Bool) → place < length bytes → HasPut words words' place 1 (λ _. flag) → cells_from 0 (set bytes place byte) words' ≡ set (cells_from 0 bytes words) place (byte, flag)
put_is bytes words words' place byte flag inside put =
    let cells = cells_from 0 bytes words in
    let all : length cells ≡ length bytes = length_cells 0 bytes words in
    packed_is (set bytes place byte) words' (set cells place (byte, flag)) (length-set cells place (byte, flag) ∙ all ∙ sym (length-set bytes place byte))
    (λ k below.
    let within : k < length bytes = omega (arith, length-set bytes place byte) in
    elim (cases_eq k place) [
      | inl same ↦
          let here : place + 0 ≡ place = omega arith in
          let cell : get_or (set cells place (byte, flag)) place (0, false) ≡ (get_or (set bytes place byte) place 0, flag_in words' place) =
          get_or-set_same cells place (byte, flag) (0, false) (omega (arith, all))
          ∙ ap (λ b. (b, flag)) (sym (get_or-set_same bytes place byte 0 inside))
          ∙ ap (λ f. (get_or (set bytes place byte) place 0, f)) (sym (put.inside 0 (omega arith)) ∙ ap (flag_in words') here) in
          subst (λ n. get_or (set cells place (byte, flag)) n (0, false) ≡ (get_or (set bytes place byte) n 0, flag_in words' n)) (sym same) cell
      | inr other ↦
          get_or-set_other cells place k (byte, flag) (0, false) other
          ∙ cell_is bytes words k within
          ∙ ap (λ b. (b, flag_in words k)) (sym (get_or-set_other bytes place k byte 0 other))
          ∙ ap (λ f. (get_or (set bytes place byte) k 0, f)) (sym (flag_outside words words' place 1 (λ _. flag) put k (around k place other)))
    ])

-- bytes are put, and clear their flags
pub put_bytes_is : (bytes words words' new : List ℕ) (place : ℕ) → place + length new ≤ length bytes → HasPut words words' place (length new) (λ _. false) → cells_from 0 (take place bytes ++ (new ++ drop (place + length new) bytes)) words' ≡ with_bytes (cells_from 0 bytes words) place new
put_bytes_is bytes words words' new place inside put =
    let cells = cells_from 0 bytes words in
    let after = take place bytes ++ (new ++ drop (place + length new) bytes) in
    let cleared : ℕ → Cell = λ byte. (byte, false) in
    let clear = map cleared new in
    let some : length clear ≡ length new = length-map new cleared in
    let same : with_bytes cells place new ≡ take place cells ++ (clear ++ drop (place + length clear) cells) = ap (λ n. take place cells ++ (clear ++ drop (place + n) cells)) (sym some) in
    let all : length cells ≡ length bytes = length_cells 0 bytes words in
    let fits : place + length clear ≤ length cells = omega arith in
    let long : length after ≡ length bytes = length_changed bytes new place 0 inside in
    packed_is after words' (take place cells ++ (clear ++ drop (place + length clear) cells)) (length_changed cells clear place (0, false) fits ∙ all ∙ sym long)
    (λ k below.
    let within : k < length bytes = omega arith in
    elim (inside_or_outside place (length new) k) [
      | inl in_part ↦
          changed_inside cells clear place (0, false) fits k in_part.0 (omega arith)
          ∙ get_or-map cleared new (k - place) 0 (0, false) (omega arith)
          ∙ ap (λ b. (b, false)) (sym (changed_inside bytes new place 0 inside k in_part.0 in_part.1))
          ∙ ap (λ f. (get_or after k 0, f)) (sym (flag_inside words words' place (length new) (λ _. false) put k in_part.0 in_part.1))
      | inr outside ↦
          unchanged cells clear place (0, false) fits k (same_outside place (length new) (length clear) k some outside)
          ∙ cell_is bytes words k within
          ∙ ap (λ b. (b, flag_in words k)) (sym (unchanged bytes new place 0 inside k outside))
          ∙ ap (λ f. (get_or after k 0, f)) (sym (flag_outside words words' place (length new) (λ _. false) put k outside))
    ])
    ∙ sym same

-- ---- sizes

pub length_with_bytes : (cells : List Cell) (place : ℕ) (new : List ℕ) → place + length new ≤ length cells → length (with_bytes cells place new) ≡ length cells
length_with_bytes cells place new inside =
    let cleared : ℕ → Cell = λ byte. (byte, false) in
    let clear = map cleared new in
    let some : length clear ≡ length new = length-map new cleared in
    ap (λ n. length (take place cells ++ (clear ++ drop (place + n) cells))) (sym some)
    ∙ length_changed cells clear place (0, false) (omega arith)

pub length_with_flags : (cells : List Cell) (place : ℕ) (flags : List Bool) → place + length flags ≤ length cells → length (with_flags cells place flags) ≡ length cells
length_with_flags cells place flags inside =
    let byte : Cell → ℕ = λ cell. cell.0 in
    let part = take (length flags) (drop place cells) in
    let old = bytes_from cells place (length flags) in
    let old_long : length old ≡ length flags = length-map part byte ∙ length-take-le (length flags) (drop place cells) (omega (arith, length-drop place cells)) in
    let new = zip old flags in
    let some : length new ≡ length flags = omega (arith, length-zip old flags) in
    ap (λ n. length (take place cells ++ (new ++ drop (place + n) cells))) (sym some)
    ∙ length_changed cells new place (0, false) (omega arith)

-- ---- flags are put

pub put_flags_is : (bytes words words' : List ℕ) (place count : ℕ) (flags : List Bool) (flag : ℕ → Bool) → place + count ≤ length bytes → length flags ≡ count → ((k : ℕ) → k < count → get_or flags k false ≡ flag k) → HasPut words words' place count flag → cells_from 0 bytes words' ≡ with_flags (cells_from 0 bytes words) place flags
put_flags_is bytes words words' place count flags flag inside long each put =
    let cells = cells_from 0 bytes words in
    let all : length cells ≡ length bytes = length_cells 0 bytes words in
    let old = bytes_from cells place (length flags) in
    let old_is : old ≡ take (length flags) (drop place bytes) = sym (bytes_are bytes words place (length flags) (omega arith)) in
    let old_long : length old ≡ length flags = ap length old_is ∙ length-take-le (length flags) (drop place bytes) (omega (arith, length-drop place bytes)) in
    let new = zip old flags in
    let some : length new ≡ length flags = omega (arith, length-zip old flags) in
    let same : with_flags cells place flags ≡ take place cells ++ (new ++ drop (place + length new) cells) = ap (λ n. take place cells ++ (new ++ drop (place + n) cells)) (sym some) in
    let fits : place + length new ≤ length cells = omega arith in
    packed_is bytes words' (take place cells ++ (new ++ drop (place + length new) cells)) (length_changed cells new place (0, false) fits ∙ all)
    (λ k within.
    elim (inside_or_outside place count k) [
      | inl in_part ↦
          let there : place + (k - place) ≡ k = omega arith in
          let low : k - place < count = omega arith in
          changed_inside cells new place (0, false) fits k in_part.0 (omega arith)
          ∙ get_or-zip old flags (k - place) (0, false) (omega arith) (omega arith)
          ∙ ap (λ f. (get_or old (k - place) 0, f)) (each (k - place) low ∙ sym (flag_inside words words' place count flag put k in_part.0 in_part.1))
          ∙ ap (λ b. (b, flag_in words' k)) (ap (λ xs. get_or xs (k - place) 0) old_is ∙ get_or-take (length flags) (drop place bytes) (k - place) 0 (omega arith) ∙ get_or-drop place bytes (k - place) 0 ∙ ap (λ n. get_or bytes n 0) there)
      | inr outside ↦
          unchanged cells new place (0, false) fits k (same_outside place count (length new) k (some ∙ long) outside)
          ∙ cell_is bytes words k within
          ∙ ap (λ f. (get_or bytes k 0, f)) (sym (flag_outside words words' place count flag put k outside))
    ])
    ∙ sym same
