-- Bytes of values, and the numbers that they spell.
use Rattle.std.proofs.Common.{◌≡◌, ℕ, zero, suc, ◌+◌, ◌/◌, ◌%◌, ◌^◌, ◌<◌, ◌≤◌, inl, inr, ap, sym, ◌∙◌, subst, refl, arith, List, length, get_or, drop, map, false, ℤ, pos, replicate, Option, None, Some}
use Rattle.std.specs.Prelude.{slice_get}
use Rattle.std.specs.Option.{option_map}
use Rattle.std.proofs.lemmas.List.{length-map, length-take, length-drop, get_or-map, ext_get_or, length-replicate}
use Rattle.std.proofs.lemmas.Option.{get_or_from_slice_get, slice_get-get_or, slice_get_past}
use Rattle.std.proofs.lemmas.Bool.{cases_lt}
use Rattle.std.proofs.Math.Nat.{zero-div, div-one, div-div-eq-div-mul, pow-succ'}
use Rattle.ven_base.specs.declared.elem.Elem.{Elem}
use Rattle.ven_base.specs.declared.elem.Elem.TheVariants.{U8, I8, U16, I16, U32, I32}
use Rattle.ven_base.specs.Elem.{size_of, IsElement}
use Rattle.ven_base.specs.Operation.{bits_of}
use Rattle.ven_base.specs.Cell.{Cell}
use Rattle.ven_base.specs.Store.{Store, in_cells}
use Rattle.ven_base.proofs.Operations.{IsElement-one_or_zero}
use Rattle.venice_isa.specs.Cell.{cell_at, byte_of, part}
use Rattle.venice_isa.specs.Element.{low_bytes, bytes_of}
use Rattle.venice_isa.specs.Laws.{SpellsNumber}
use Rattle.venice_isa.proofs.Wholes.{part_at, size_positive}
use Rattle.venice_isa.proofs.Spellings.{bytes_spell, one_spelling}
use Rattle.pass_plan.specs.Buffers.{byte_of_value}
use Rattle.dma_segments.specs.Effect.{HasByte}
use Rattle.dma_segments.proofs.Values.{low_byte}
use Rattle.vector_codegen.proofs.Held.{Spells}

-- ---- a byte in cells

module _ (store : Store) (p byte : ℕ) where
  pub byte_there : HasByte store (in_cells p) byte → byte_of (cell_at store.cells p) ≡ byte
  byte_there has = by (slice_get store.cells p) refl has
    where
      some_is : (x y : ℕ) → Some x ≡ Some y → x ≡ y
      some_is x y is = cc

      by : (o : Option Cell) → slice_get store.cells p ≡ o → option_map byte_of o ≡ Some byte → byte_of (cell_at store.cells p) ≡ byte
      by None is h = absurd (cc)
      by (Some x) is h = ap byte_of (get_or_from_slice_get store.cells p x (0, false) is) ∙ some_is (byte_of x) byte h

  pub byte_below : HasByte store (in_cells p) byte → p < length store.cells
  byte_below has = elim (cases_lt p (length store.cells)) [
    | inl below ↦ below
    | inr past ↦ let none = slice_get_past store.cells p (omega arith) in absurd (no_byte (sym (ap (option_map byte_of) none) ∙ has))
  ]
    where
      no_byte : None ≡ Some byte → ⊥
      no_byte e = cc

  pub byte_shown : p < length store.cells → byte_of (cell_at store.cells p) ≡ byte → HasByte store (in_cells p) byte
  byte_shown below is = ap (option_map byte_of) (slice_get-get_or store.cells p (0, false) below) ∙ ap (λ x. Some x) is

-- ---- numbers

-- its cells are there
pub spells_inside : (elem : Elem) (cells : List Cell) (place : ℕ) (n : ℤ) → Spells elem cells place n → place + size_of elem ≤ length cells
spells_inside elem cells place n there =
    let count = there.count in
    let some = size_positive elem in
    let mapped = length-map (part cells place (size_of elem)) byte_of in
    let taken = length-take (size_of elem) (drop place cells) in
    let dropped = length-drop place cells in
    omega (arith, count, mapped, taken, dropped, some)

part_length : (cells : List Cell) (place count : ℕ) → place + count ≤ length cells → length (part cells place count) ≡ count
part_length cells place count inside = let taken = length-take count (drop place cells) in let dropped = length-drop place cells in omega (arith, taken, dropped)

-- bytes that are a value's spell it
pub value_spelled : (elem : Elem) (n : ℤ) (cells : List Cell) (place : ℕ) → IsElement elem n → place + size_of elem ≤ length cells
    → ((b : ℕ) → b < size_of elem → byte_of (cell_at cells (place + b)) ≡ byte_of_value elem n b) → Spells elem cells place n
value_spelled elem n cells place range inside bytes =
    let spelling = bytes_spell elem n range in
    let long = part_length cells place (size_of elem) inside in
    let mapped = length-map (part cells place (size_of elem)) byte_of in
    let count = spelling.count in
    let same : map byte_of (part cells place (size_of elem)) ≡ bytes_of elem n = ext_get_or 0 (map byte_of (part cells place (size_of elem))) (bytes_of elem n) (omega (arith, long, mapped, count))
    (λ b below.
    let within : b < size_of elem = omega (arith, below, long, mapped) in
    get_or-map byte_of (part cells place (size_of elem)) b (0, false) 0 (omega (arith, within, long))
    ∙ ap byte_of (part_at (0, false) cells place (size_of elem) b within)
    ∙ bytes b within ∙ sym (low_byte (size_of elem) (bits_of elem n) b within)) in
    subst (λ bs. SpellsNumber elem n bs) (sym same) spelling

-- and those of a number that is spelled are its value's
pub value_byte : (elem : Elem) (n : ℤ) (cells : List Cell) (place b : ℕ) → Spells elem cells place n → b < size_of elem → byte_of (cell_at cells (place + b)) ≡ byte_of_value elem n b
value_byte elem n cells place b there within =
    let long = part_length cells place (size_of elem) (spells_inside elem cells place n there) in
    sym (ap byte_of (part_at (0, false) cells place (size_of elem) b within))
    ∙ sym (get_or-map byte_of (part cells place (size_of elem)) b (0, false) 0 (omega (arith, within, long)))
    ∙ ap (λ bs. get_or bs b 0) (one_spelling elem n (map byte_of (part cells place (size_of elem))) there)
    ∙ low_byte (size_of elem) (bits_of elem n) b within

-- ---- cells that are 0

no_bits : (elem : Elem) → bits_of elem (pos 0) ≡ 0
no_bits U8 = refl
no_bits I8 = refl
no_bits U16 = refl
no_bits I16 = refl
no_bits U32 = refl
no_bits I32 = refl

abbrev pub zeros : ℕ → List Cell
zeros count = replicate count (0, false)

pub zero_spelled : (elem : Elem) (count place : ℕ) → place + size_of elem ≤ count → Spells elem (zeros count) place (pos 0)
zero_spelled elem count place inside =
    value_spelled elem (pos 0) (zeros count) place (IsElement-one_or_zero elem false) (rw (length-replicate {A = Cell} count (0, false)) inside)
    (λ b within. no_byte count (place + b) ∙ sym (ap (λ n. (n / (256 ^ b)) % 256) (no_bits elem) ∙ ap (λ n. n % 256) (zero-div (256 ^ b))))
  where
    no_byte : (n i : ℕ) → byte_of (cell_at (zeros n) i) ≡ 0
    no_byte zero i = refl
    no_byte (suc n) zero = refl
    no_byte (suc n) (suc i) = no_byte n i
