-- Elements of a group: one more is put, and what they spell.
use Rattle.std.proofs.Common.{◌≡◌, ℕ, zero, suc, ◌+◌, ◌*◌, ◌/◌, ◌<◌, ◌≤◌, inl, inr, ap, sym, subst, ◌∙◌, refl, arith, max, List, length, take, map, ℤ, pos}
use Rattle.std.specs.Prelude.{◌+ℤ◌}
use Rattle.std.proofs.lemmas.Int.{ints}
use Rattle.std.proofs.lemmas.Bool.{cases_eq}
use Rattle.std.proofs.lemmas.Nat.{div-add-mod', le-div}
use Rattle.std.proofs.Math.Nat.{mul-le-mul_right, mul-le-mul_left}
use Rattle.ven_base.specs.declared.elem.Elem.{Elem}
use Rattle.ven_base.specs.Elem.{size_of, IsElement}
use Rattle.ven_base.specs.Cell.{Cell}
use Rattle.ven_base.proofs.Wrapped.{IsElement-wrapped}
use Rattle.ven_base.specs.Operation.{bits_of}
use Rattle.spad_store.specs.Cells.{bytes_from}
use Rattle.venice_isa.specs.declared.work.VecWork.{VecWork}
use Rattle.venice_isa.specs.Cell.{part, overwritten, byte_of}
use Rattle.venice_isa.specs.Element.{number_of, number_at, bytes_of, low_bytes, little_endian}
use Rattle.venice_isa.specs.Whole.{sum_of_results}
use Rattle.venice_isa.proofs.Overwrites.{overwritten_length}
use Rattle.venice_isa.proofs.Spellings.{low_bytes_length, bytes_spell}
use Rattle.venice_isa.proofs.Beats.{sum_on}
use Rattle.venice_isa.proofs.Wholes.{size_positive}
use Rattle.lane_machine.specs.Elements.{element_bytes, element_in, wider, sum_of_elements, HasNumbers, HasSpelled}
use Rattle.lane_machine.specs.Group.{results_from}
use Rattle.lane_machine.proofs.Parts.{part_of_take, part_of_part, part_of_map, part_overwritten, part_before}
use Rattle.lane_machine.proofs.Elements.{element_in_row}
use Rattle.lane_machine.proofs.Groups.{result_at_in_type}

-- ---- how many elements 16 bytes have

pub elements_fit : (size k : ℕ) → 0 < size → k < 16 / size → (k + 1) * size ≤ 16
elements_fit size k some below =
    let rows : (k + 1) * size ≤ (16 / size) * size = mul-le-mul_right size (omega arith) in
    omega (arith, div-add-mod' 16 size)

-- those of the wider type lie in as many of either
pub wider_fits : (elem from : Elem) (k : ℕ) → k < 16 / wider elem from → ((k + 1) * size_of elem ≤ 16) × ((k + 1) * size_of from ≤ 16)
wider_fits elem from k below =
    let most = wider elem from in
    let all : (k + 1) * most ≤ 16 = elements_fit most k (omega (arith, size_positive elem)) below in
    let one : (k + 1) * size_of elem ≤ (k + 1) * most = mul-le-mul_left (k + 1) (omega arith) in
    let other : (k + 1) * size_of from ≤ (k + 1) * most = mul-le-mul_left (k + 1) (omega arith) in
    (omega arith, omega arith)

-- so many of the wider type are no more than 16 bytes have
pub few_of : (size count : ℕ) → 0 < size → count * size ≤ 16 → count ≤ 16 / size
few_of size count some few = le-div count 16 size some few

pub few_bytes : (elem from : Elem) (count : ℕ) → count * wider elem from ≤ 16 → (count * size_of elem ≤ 16) × (count * size_of from ≤ 16)
few_bytes elem from count few =
    let one : count * size_of elem ≤ count * wider elem from = mul-le-mul_left count (omega arith) in
    let other : count * size_of from ≤ count * wider elem from = mul-le-mul_left count (omega arith) in
    (omega arith, omega arith)

pub few_in_group : (group count size : ℕ) → count ≤ group → group * size ≤ 16 → count * size ≤ 16
few_in_group group count size fewer few =
    let some : count * size ≤ group * size = mul-le-mul_right size fewer in
    omega arith

pub few_of_group : (elem from : Elem) (group : ℕ) → group * wider elem from ≤ 16 → group ≤ 16
few_of_group elem from group few =
    let some : group * 1 ≤ group * wider elem from = mul-le-mul_left group (omega (arith, size_positive elem)) in
    omega arith

-- ---- one element more

module _ (elem : Elem) (number : ℕ → ℤ) where
  pub spelled_none : (bytes : List ℕ) → length bytes ≡ 16 → HasSpelled elem 0 number bytes
  spelled_none bytes long = record { long = long; each = λ k below. absurd (omega arith) }

  pub spelled_more : (count : ℕ) (bytes : List ℕ) (n : ℤ) → HasSpelled elem count number bytes → (count + 1) * size_of elem ≤ 16 → n ≡ number count → HasSpelled elem (count + 1) number (overwritten bytes (count * size_of elem) (bytes_of elem n))
  spelled_more count bytes n so_far fits is =
      let size = size_of elem in
      let place = count * size in
      let new = bytes_of elem n in
      let new_long : length new ≡ size = low_bytes_length size (bits_of elem n) in
      let inside : place + length new ≤ length bytes = omega (arith, so_far.long, new_long) in
      record {
        long = overwritten_length bytes place new inside ∙ so_far.long;
        each = λ k below.
            elim (cases_eq k count) [
              | inl same ↦
                  subst (λ j. element_bytes elem (overwritten bytes place new) j ≡ bytes_of elem (number j)) (sym same)
                  (ap (part (overwritten bytes place new) place) (sym new_long) ∙ part_overwritten bytes place new (omega (arith, inside)) ∙ ap (bytes_of elem) is)
              | inr other ↦
                  let before : k * size + size ≤ place = element_in_row k count size (omega arith) in
                  part_before bytes place new (k * size) size (omega (arith, inside)) before ∙ so_far.each k (omega arith)
            ];
      }

  pub spelled_fewer : (count fewer : ℕ) (bytes : List ℕ) → fewer ≤ count → HasSpelled elem count number bytes → HasSpelled elem fewer number bytes
  spelled_fewer count fewer bytes few spelled = record { long = spelled.long; each = λ k below. spelled.each k (omega arith) }

  pub spelled_number : (count : ℕ) (bytes : List ℕ) (k : ℕ) → HasSpelled elem count number bytes → k < count → IsElement elem (number k) → element_in elem bytes k ≡ number k
  spelled_number count bytes k spelled below in_type = ap (number_of elem) (spelled.each k below) ∙ (bytes_spell elem (number k) in_type).number

pub spelled_same : (elem : Elem) (number other : ℕ → ℤ) (count : ℕ) (bytes : List ℕ) → HasSpelled elem count number bytes → ((k : ℕ) → k < count → number k ≡ other k) → HasSpelled elem count other bytes
spelled_same elem number other count bytes spelled same = record {
  long = spelled.long;
  each = λ k below. spelled.each k below ∙ ap (bytes_of elem) (same k below);
}

-- one number, again and again
pub repeated_numbers : (elem : Elem) (n : ℤ) (count : ℕ) (bytes : List ℕ) → IsElement elem n → count * size_of elem ≤ 16 → HasSpelled elem (16 / size_of elem) (λ _. n) bytes → HasNumbers elem count (λ _. n) bytes
repeated_numbers elem n count bytes in_type few spelled = record {
  long = spelled.long;
  each = λ k below. spelled_number elem (λ _. n) (16 / size_of elem) bytes k spelled (omega (arith, few_of (size_of elem) count (size_positive elem) few)) in_type;
}

-- ---- elements read from cells

pub numbers_read : (elem : Elem) (cells : List Cell) (place count : ℕ) (bytes : List ℕ) → length bytes ≡ 16 → take (count * size_of elem) bytes ≡ bytes_from cells place (count * size_of elem) → HasNumbers elem count (λ k. number_at elem cells (place + k * size_of elem)) bytes
numbers_read elem cells place count bytes long read =
    let size = size_of elem in
    let n = count * size in
    let byte : Cell → ℕ = λ cell. cell.0 in
    record {
      long = long;
      each = λ k below.
          let inside : k * size + size ≤ n = element_in_row k count size below in
          ap (number_of elem)
          (sym (part_of_take n bytes (k * size) size inside)
          ∙ ap (λ items. part items (k * size) size) read
          ∙ part_of_map byte (part cells place n) (k * size) size
          ∙ ap (map byte) (part_of_part cells place n (k * size) size inside));
    }

-- ---- sums

pub sum_is : (work : VecWork) (cells : List Cell) (r first count : ℕ) (bytes : List ℕ) → HasSpelled work.kind.elem count (results_from work cells r first) bytes → sum_of_elements work.kind.elem bytes count ≡ sum_of_results work cells r first count
sum_is work cells r first zero bytes spelled = refl
sum_is work cells r first (suc count) bytes spelled =
    let elem = work.kind.elem in
    let fewer = spelled_fewer elem (results_from work cells r first) (suc count) count bytes (omega arith) spelled in
    let last : element_in elem bytes count ≡ results_from work cells r first count =
    spelled_number elem (results_from work cells r first) (suc count) bytes count spelled (omega arith) (result_at_in_type work cells r (first + count)) in
    let counted : count + 1 ≡ suc count = omega arith in
    let more : sum_of_results work cells r first count +ℤ sum_of_results work cells r (first + count) 1 ≡ sum_of_results work cells r first (suc count) =
    sum_on work cells r first count 1 ∙ ap (sum_of_results work cells r first) counted in
    omega (arith, ints, sum_is work cells r first count bytes fewer, last, more)
