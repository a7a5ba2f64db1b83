-- What a list holds after a group of a row's elements is overwritten.
use Rattle.std.proofs.Common.{◌≡◌, ℕ, suc, ◌+◌, ◌-◌, ◌*◌, ◌/◌, ◌%◌, ◌<◌, ◌≤◌, inl, inr, ap, sym, ◌∙◌, arith, List, length, get_or}
use Rattle.std.proofs.lemmas.Bool.{cases_lt}
use Rattle.std.proofs.lemmas.Nat.{div_below, mod_below, div-add-mod'}
use Rattle.std.proofs.lemmas.List.{ext_get_or}
use Rattle.venice_isa.specs.declared.region.Region.{Region}
use Rattle.venice_isa.specs.Cell.{part, overwritten}
use Rattle.venice_isa.specs.Region.{place_in, IsAt, LiesBelow, HasElementsApart}
use Rattle.venice_isa.proofs.Wholes.{part_length, part_at, same_part}
use Rattle.venice_isa.proofs.Regions.{item_fits}
use Rattle.venice_isa.proofs.Overwrites.{overwritten_length, overwritten_below, overwritten_in, overwritten_above}

-- the end of an element of a region
pub element_end : (region : Region) (end r j : ℕ) → LiesBelow region end → r < region.rows → j < region.columns → 0 < region.size → place_in region r j + region.size ≤ end
element_end region end r j inside row column some =
    let p = place_in region r j + (region.size - 1) in
    let at : IsAt region r j p = record { row = row; column = column; from = omega arith; below = omega arith } in
    let last : p < end = inside p (r, j, at) in
    omega arith

-- a part of what is put into a list
part_of_new : {A : Type 0} (d : A) (items : List A) (place : ℕ) (new : List A) (from count : ℕ) → place + length new ≤ length items → from + count ≤ length new → part (overwritten items place new) (place + from) count ≡ part new from count
part_of_new d items place new from count fits in_new =
    let after = overwritten items place new in
    let long : length after ≡ length items = overwritten_length items place new fits in
    let same_length : length (part after (place + from) count) ≡ length (part new from count) = omega (arith, part_length after (place + from) count, part_length new from count) in
    ext_get_or d (part after (place + from) count) (part new from count) same_length
    (λ k below. let in_part : k < count = omega (arith, part_length after (place + from) count) in
    let turned : (place + from) + k ≡ place + (from + k) = omega arith in
    part_at d after (place + from) count k in_part ∙ ap (λ p. get_or after p d) turned ∙ overwritten_in items place new fits d (from + k) (omega arith) ∙ sym (part_at d new from count k in_part))

module _ {A : Type 0} (d : A) (region : Region) (apart : HasElementsApart region) (some_bytes : 0 < region.size) (cells : List A) (inside : LiesBelow region (length cells)) (r first count : ℕ) (row : r < region.rows) (some : 0 < count) (fits : first + count ≤ region.columns) (new : List A) (long : length new ≡ count * region.size) where
  -- the group's elements stand one directly after the other
  in_group : (i : ℕ) → place_in region r (first + i) ≡ place_in region r first + i * region.size
  in_group i = omega arith

  group_fits : place_in region r first + length new ≤ length cells
  group_fits =
      let last = count - 1 in
      let end : place_in region r (first + last) + region.size ≤ length cells = element_end region (length cells) r (first + last) inside row (omega arith) some_bytes in
      let one_more : count ≡ suc last = omega arith in
      let size : count * region.size ≡ last * region.size + region.size = ap (λ n. n * region.size) one_more ∙ (omega arith) in
      omega (arith, in_group last)

  pub group_length : length (overwritten cells (place_in region r first) new) ≡ length cells
  group_length = overwritten_length cells (place_in region r first) new group_fits

  -- a byte of the group is one of its elements'
  of_group : (p : ℕ) → place_in region r first ≤ p → p < place_in region r first + count * region.size → (i : ℕ) × (i < count) × IsAt region r (first + i) p
  of_group p from below =
      let off = p - place_in region r first in
      let i = off / region.size in
      let in_count : i < count = div_below off region.size count some_bytes (omega arith) in
      let split : i * region.size + off % region.size ≡ off = div-add-mod' off region.size in
      let rest : off % region.size < region.size = mod_below off region.size some_bytes in
      let place = in_group i in
      (i, in_count, record { row = row; column = omega arith; from = omega arith; below = omega arith })

  pub group_kept : (p : ℕ) → ((i : ℕ) → i < count → ¬ IsAt region r (first + i) p) → get_or (overwritten cells (place_in region r first) new) p d ≡ get_or cells p d
  group_kept p outside =
      elim (cases_lt p (place_in region r first)) [
        | inl below ↦ overwritten_below cells (place_in region r first) new group_fits d p below
        | inr from ↦ elim (cases_lt p (place_in region r first + count * region.size)) [
          | inr above ↦ overwritten_above cells (place_in region r first) new group_fits d p (omega arith)
          | inl below ↦ let one = of_group p from below in absurd (outside one.0 one.1 one.2)
        ]
      ]

  pub group_others : (r' j : ℕ) → r' < region.rows → j < region.columns → ((i : ℕ) → i < count → r' ≡ r → ¬ (j ≡ first + i)) → part (overwritten cells (place_in region r first) new) (place_in region r' j) region.size ≡ part cells (place_in region r' j) region.size
  group_others r' j row' column other =
      same_part d cells (overwritten cells (place_in region r first) new) (place_in region r' j) region.size group_length
      (λ p from below. group_kept p (λ i in_count at.
      let here : IsAt region r' j p = record { row = row'; column = column; from = from; below = below } in
      let same = apart p r' j r (first + i) here at in
      other i in_count same.0 same.1))

  pub group_element : (i : ℕ) → i < count → part (overwritten cells (place_in region r first) new) (place_in region r (first + i)) region.size ≡ part new (i * region.size) region.size
  group_element i in_count =
      let more : i * region.size + region.size ≤ count * region.size = item_fits i count region.size in_count in
      ap (λ p. part (overwritten cells (place_in region r first) new) p region.size) (in_group i)
      ∙ part_of_new d cells (place_in region r first) new (i * region.size) region.size group_fits (omega arith)
