-- Buffers as regions: where their elements stand, and that two buffers share no byte.
use Rattle.std.proofs.Common.{◌≡◌, ◌≢◌, ℕ, ◌+◌, ◌*◌, ◌/◌, ◌%◌, ◌<◌, ◌≤◌, inl, inr, ap, ◌∙◌, arith, false, List, length, ℤ}
use Rattle.std.proofs.Math.Nat.{mul_assoc}
use Rattle.std.proofs.lemmas.Nat.{div-add-mod', mod_below, div_below}
use Rattle.std.proofs.lemmas.Bool.{cases_lt}
use Rattle.ven_base.specs.declared.elem.Elem.{Elem}
use Rattle.ven_base.specs.Elem.{size_of}
use Rattle.ven_base.specs.Cell.{Cell}
use Rattle.venice_isa.specs.declared.region.Region.{Region}
use Rattle.venice_isa.specs.Region.{place_in, Covers, HasElementsApart}
use Rattle.venice_isa.specs.Cell.{cell_at, flag_of}
use Rattle.venice_isa.proofs.Regions.{item_fits, elements_apart}
use Rattle.venice_isa.proofs.Wholes.{same_part, size_positive}
use Rattle.vector_codegen.specs.Work.{Shape}
use Rattle.vector_codegen.proofs.Good.{IsIn}
use Rattle.vector_codegen.proofs.Held.{count_of, element_place, Holds, IsFlagged}
use Rattle.vector_codegen.proofs.Elements.{spells_part}

-- the elements of a buffer
abbrev pub block_of : Shape → Elem → ℕ → Region
block_of shape elem k = record { place = k * shape.room; step = shape.cols * size_of elem; size = size_of elem; rows = shape.rows; columns = shape.cols }

-- element i stands in row i / cols
pub block_place : (shape : Shape) (elem : Elem) (k r j : ℕ) → place_in (block_of shape elem k) r j ≡ element_place shape elem k (r * shape.cols + j)
block_place shape elem k r j = let assoc = mul_assoc r shape.cols (size_of elem) in omega (arith, assoc)

pub index_below : (shape : Shape) (r j : ℕ) → r < shape.rows → j < shape.cols → r * shape.cols + j < count_of shape
index_below shape r j row column = let fits = item_fits r shape.rows shape.cols row in omega arith

-- an element of a buffer by its row and column
pub record IsElementOf (shape : Shape) (i r j : ℕ) : Type 0 where
  pub row : r < shape.rows
  pub column : j < shape.cols
  pub index : r * shape.cols + j ≡ i

pub element_of : (shape : Shape) (i : ℕ) → 0 < shape.cols → i < count_of shape → IsElementOf shape i (i / shape.cols) (i % shape.cols)
element_of shape i some below = record { row = div_below i shape.cols shape.rows some below; column = mod_below i shape.cols some; index = div-add-mod' i shape.cols }

pub block_bounds : (shape : Shape) (elem : Elem) (k p : ℕ) → Covers (block_of shape elem k) p → IsIn (k * shape.room) (count_of shape * size_of elem) p
block_bounds shape elem k p covered =
    let r = covered.0 in
    let j = covered.1 in
    let at = covered.2 in
    let last : (r * shape.cols + j) * size_of elem + size_of elem ≤ count_of shape * size_of elem = item_fits (r * shape.cols + j) (count_of shape) (size_of elem) (index_below shape r j at.row at.column) in
    let here = block_place shape elem k r j in
    record { begins = omega (arith, at.from); ends = omega (arith, at.below) }

pub block_apart : (shape : Shape) (elem : Elem) (k : ℕ) → HasElementsApart (block_of shape elem k)
block_apart shape elem k = elements_apart (block_of shape elem k) (λ two. omega arith)

-- two buffers share no byte
pub rooms_apart : (room k k' p : ℕ) → k ≢ k' → IsIn (k * room) room p → ¬ IsIn (k' * room) room p
rooms_apart room k k' p apart here there =
    elim (cases_lt k k') [
      | inl less ↦ let next = item_fits k k' room less in omega (arith, here.ends, there.begins)
      | inr not_less ↦ elim (cases_lt k' k) [
        | inl more ↦ let next = item_fits k' k room more in omega (arith, here.begins, there.ends)
        | inr not_more ↦ apart (omega arith)
      ]
    ]

pub in_room : (room k count p : ℕ) → count ≤ room → IsIn (k * room) count p → IsIn (k * room) room p
in_room room k count p fits is = record { begins = is.begins; ends = omega (arith, is.ends) }

-- the bytes of an element lie in its buffer
pub element_in_room : (shape : Shape) (elem : Elem) (k i p : ℕ) → count_of shape * size_of elem ≤ shape.room → i < count_of shape → element_place shape elem k i ≤ p → p < element_place shape elem k i + size_of elem → IsIn (k * shape.room) shape.room p
element_in_room shape elem k i p fits below from ends =
    let last = item_fits i (count_of shape) (size_of elem) below in
    record { begins = omega arith; ends = omega arith }

-- a buffer whose cells are the same holds the same
module _ (shape : Shape) (before after : List Cell) (long : length after ≡ length before) (k : ℕ) (same : (p : ℕ) → IsIn (k * shape.room) shape.room p → cell_at after p ≡ cell_at before p) (elem : Elem) (fits : count_of shape * size_of elem ≤ shape.room) (value : ℕ → ℤ) where
  pub holds_still : Holds shape elem before k value → Holds shape elem after k value
  holds_still held = record {
    each = λ i below.
        spells_part elem before after (element_place shape elem k i) (element_place shape elem k i) (value i)
        (same_part (0, false) before after (element_place shape elem k i) (size_of elem) long (λ p from ends. same p (element_in_room shape elem k i p fits below from ends))) (held.each i below);
  }

  pub flagged_still : IsFlagged shape elem before k value → IsFlagged shape elem after k value
  flagged_still held = record {
    each = λ i below.
        let positive = size_positive elem in
        ap flag_of (same (element_place shape elem k i) (element_in_room shape elem k i (element_place shape elem k i) fits below (omega arith) (omega arith))) ∙ held.each i below;
  }
