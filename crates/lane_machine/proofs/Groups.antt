-- The numbers of the next elements, and their sums.
use Rattle.std.proofs.Common.{◌≡◌, ℕ, zero, suc, ◌+◌, ◌^◌, ◌<◌, ◌≤◌, inl, inr, ap, sym, ◌∙◌, subst, arith, List, ◌++◌, length, true, false, ℤ, pos, negsuc, neg_ℤ, ◌+ℤ◌, w64, get_or, to_z, of_z}
use mir.Val.{SFits}
use Rattle.std.proofs.lemmas.Option.{get_or_from_slice_get}
use Rattle.std.specs.Prelude.{slice_get, Some, ◌≤ℤ◌}
use Rattle.std.specs.Int.{w128}
use Rattle.std.proofs.lemmas.Int.{ints, to_z-of_z}
use Rattle.std.proofs.lemmas.Bool.{cases_Bool, cond-true, cond-false}
use Rattle.std.proofs.lemmas.List.{length-append, append_assoc, append-nil}
use Rattle.ven_base.specs.declared.elem.Elem.{Elem}
use Rattle.ven_base.specs.declared.elem.Elem.TheVariants.{U8, I8, U16, I16, U32, I32}
use Rattle.ven_base.specs.Elem.{size_of, IsElement}
use Rattle.venice_isa.specs.declared.work.VecWork.{VecWork}
use Rattle.ven_base.specs.Cell.{Cell}
use Rattle.venice_isa.specs.Cell.{part, overwritten}
use Rattle.venice_isa.specs.Region.{place_in, LiesBelow}
use Rattle.venice_isa.specs.Element.{spelled}
use Rattle.venice_isa.specs.Footprint.{destination}
use Rattle.venice_isa.specs.Whole.{number_of_a, number_of_b, result_at, is_left_alone, new_element, flag_for, sum_of_results}
use Rattle.venice_isa.specs.Beat.{new_elements}
use Rattle.venice_isa.proofs.Overwrites.{overwritten_length}
use Rattle.venice_isa.proofs.OneBeat.{group_end}
use Rattle.venice_isa.proofs.Wholes.{size_positive, columns_without_sum}
use Rattle.venice_isa.proofs.Beats.{element_length, elements_length, sum_on}
use Rattle.venice_isa.proofs.Results.{result_in_type}
use Rattle.ven_base.proofs.Wrapped.{IsElement-wrapped}
use Rattle.lane_machine.specs.Current.{IsBounded}
use Rattle.lane_machine.proofs.Elements.{overwritten-append, overwritten_by_itself}

-- ---- results

number_of_a_in_type : (work : VecWork) (cells : List Cell) (r j : ℕ) → IsElement work.kind.from (number_of_a work cells r j)
number_of_a_in_type work cells r j =
    elim (cases_Bool work.kind.a_scalar) [
      | inl scalar ↦ subst (IsElement work.kind.from) (sym (cond-true work.kind.a_scalar _ _ scalar)) (IsElement-wrapped work.kind.from (pos work.a))
      | inr vector ↦ subst (IsElement work.kind.from) (sym (cond-false work.kind.a_scalar _ _ vector)) (IsElement-wrapped work.kind.from _)
    ]

pub result_at_in_type : (work : VecWork) (cells : List Cell) (r j : ℕ) → IsElement work.kind.elem (result_at work cells r j)
unfolding result_at
result_at_in_type work cells r j = result_in_type work.kind (number_of_a work cells r j) (number_of_b work cells r j) (number_of_a_in_type work cells r j)

-- ---- sums

element_bounded : (elem : Elem) (n : ℤ) → IsElement elem n → (neg_ℤ (pos (2 ^ 32)) ≤ℤ n) × (n ≤ℤ pos (2 ^ 32))
element_bounded U8 n in_type = (omega (arith, ints, in_type.from_least), omega (arith, ints, in_type.below_end))
element_bounded I8 n in_type = (omega (arith, ints, in_type.from_least), omega (arith, ints, in_type.below_end))
element_bounded U16 n in_type = (omega (arith, ints, in_type.from_least), omega (arith, ints, in_type.below_end))
element_bounded I16 n in_type = (omega (arith, ints, in_type.from_least), omega (arith, ints, in_type.below_end))
element_bounded U32 n in_type = (omega (arith, ints, in_type.from_least), omega (arith, ints, in_type.below_end))
element_bounded I32 n in_type = (omega (arith, ints, in_type.from_least), omega (arith, ints, in_type.below_end))

pub bounded_more : (elem : Elem) (count : ℕ) (sum n : ℤ) → IsBounded count sum → IsElement elem n → IsBounded (count + 1) (sum +ℤ n)
bounded_more elem count sum n bounded in_type =
    let one = element_bounded elem n in_type in
    record { from_least = omega (arith, ints, bounded.from_least, one.0); to_greatest = omega (arith, ints, bounded.to_greatest, one.1) }

pub bounded_sum : (first count : ℕ) (sum more : ℤ) → IsBounded first sum → IsBounded count more → IsBounded (first + count) (sum +ℤ more)
bounded_sum first count sum more bounded by =
    record { from_least = omega (arith, ints, bounded.from_least, by.from_least); to_greatest = omega (arith, ints, bounded.to_greatest, by.to_greatest) }

-- a row's sum with the sum of a group is computed exactly
pub exact_sum : (sum part passed : ℤ) (first count : ℕ) → IsBounded first sum → IsBounded count part → first < 2 ^ 32 → count ≤ 16 → passed ≡ to_z w64 (of_z w64 part) → to_z w128 (of_z w128 (to_z w128 (of_z w128 sum) +ℤ to_z w128 (of_z w128 passed))) ≡ sum +ℤ part
exact_sum sum part passed first count bounded by few_before few is =
    let same : to_z w64 (of_z w64 part) ≡ part = omega (arith, ints, by.from_least, by.to_greatest) in
    omega (arith, ints, is, same, bounded.from_least, bounded.to_greatest, by.from_least, by.to_greatest)

-- a number of a type fits 64 bits
pub element_fits : (elem : Elem) (n : ℤ) → IsElement elem n → SFits w64 n
element_fits elem (pos n) in_type = let bounds = element_bounded elem (pos n) in_type in record { sfits = omega (arith, ints, bounds.1) }
element_fits elem (negsuc n) in_type = let bounds = element_bounded elem (negsuc n) in_type in record { sfits = omega (arith, ints, bounds.0) }
