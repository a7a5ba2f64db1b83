-- Elements of a region: which of them a byte belongs to.
use Rattle.std.proofs.Common.{◌≡◌, ℕ, zero, suc, ◌+◌, ◌-◌, ◌*◌, ◌<◌, ◌≤◌, ◌⊎◌, inl, inr, ap, subst, arith}
use Rattle.std.proofs.lemmas.Bool.{cases_lt, cases_eq}
use Rattle.std.proofs.Math.Nat.{mul-le-mul_right}
use Rattle.std.proofs.lemmas.Nat.{row_fits}
use Rattle.venice_isa.specs.declared.region.Region.{Region}
use Rattle.venice_isa.specs.Region.{place_in, IsAt, Covers, LiesBelow, HasRowsApart, HasElementsApart}

-- so many items on, one item more still ends at the next
pub item_fits : (i n size : ℕ) → i < n → i * size + size ≤ n * size
item_fits i n size below = row_fits i size n size below (omega arith)

-- a place that every byte of a region is below
pub end_of : Region → ℕ
end_of region = region.place + region.rows * region.step + region.columns * region.size

pub covered_below_end : (region : Region) (p : ℕ) → Covers region p → p < end_of region
unfolding end_of
covered_below_end region p covered =
    let at : IsAt region covered.0 covered.1 p = covered.2 in
    let step_on : covered.0 * region.step + region.step ≤ region.rows * region.step = item_fits covered.0 region.rows region.step at.row in
    let in_row : covered.1 * region.size + region.size ≤ region.columns * region.size = item_fits covered.1 region.columns region.size at.column in
    omega (arith, at.below)

module _ (region : Region) (rows_apart : HasRowsApart region) (p r j r' j' : ℕ) (at : IsAt region r j p) (at' : IsAt region r' j' p) where
  not_before : ¬ (r < r')
  not_before before =
      let step_on : r * region.step + region.step ≤ r' * region.step = item_fits r r' region.step before in
      let in_row : j * region.size + region.size ≤ region.columns * region.size = item_fits j region.columns region.size at.column in
      let two : 1 < region.rows = omega (arith, at'.row) in
      omega (arith, rows_apart two, at.below, at'.from)

  not_left : r ≡ r' → ¬ (j < j')
  not_left same left =
      let next : j * region.size + region.size ≤ j' * region.size = item_fits j j' region.size left in
      omega (arith, ap (λ n. n * region.step) same, at.below, at'.from)

pub elements_apart : (region : Region) → HasRowsApart region → HasElementsApart region
elements_apart region rows_apart p r j r' j' at at' =
    let not_up = not_before region rows_apart p r j r' j' at at' in
    let not_down = not_before region rows_apart p r' j' r j at' at in
    let same_row : r ≡ r' = omega arith in
    let back : r' ≡ r = omega arith in
    let not_left_of = not_left region rows_apart p r j r' j' at at' same_row in
    let not_right_of = not_left region rows_apart p r' j' r j at' at back in
    (same_row, omega arith)

-- a fact that is decided at each number is found below a bound, or stands at none
pub some_or_none : (P : ℕ → Type 0) → ((k : ℕ) → P k ⊎ (¬ P k)) → (n : ℕ) → ((k : ℕ) × P k × (k < n)) ⊎ ((k : ℕ) → k < n → ¬ P k)
some_or_none P decided zero = inr (λ k below at_k. absurd (omega arith))
some_or_none P decided (suc n) =
    elim (some_or_none P decided n) [
      | inl found ↦ inl (found.0, found.1, omega arith)
      | inr none ↦ elim (decided n) [
        | inl here ↦ inl (n, here, omega arith)
        | inr not_here ↦ inr (λ k below at_k. elim (cases_eq k n) [
          | inl same ↦ not_here (subst P same at_k)
          | inr apart ↦ none k (omega arith) at_k
        ])
      ]
    ]

-- whether a byte is one of an element's
at_or_not : (region : Region) (r p j : ℕ) → IsAt region r j p ⊎ (¬ IsAt region r j p)
at_or_not region r p j =
    elim (cases_lt r region.rows) [
      | inr past_rows ↦ inr (λ at. omega (arith, at.row))
      | inl row ↦ elim (cases_lt j region.columns) [
        | inr past_columns ↦ inr (λ at. omega (arith, at.column))
        | inl column ↦ elim (cases_lt p (place_in region r j)) [
          | inl before ↦ inr (λ at. omega (arith, at.from))
          | inr from ↦ elim (cases_lt p (place_in region r j + region.size)) [
            | inl below ↦ inl (record { row = row; column = column; from = from; below = below })
            | inr behind ↦ inr (λ at. omega (arith, at.below))
          ]
        ]
      ]
    ]

-- whether a byte is one of some element's of a row
in_row_or_not : (region : Region) (p r : ℕ) → ((j : ℕ) × IsAt region r j p) ⊎ (¬ ((j : ℕ) × IsAt region r j p))
in_row_or_not region p r =
    elim (some_or_none (λ j. IsAt region r j p) (at_or_not region r p) region.columns) [
      | inl found ↦ inl (found.0, found.1)
      | inr none ↦ inr (λ found. none found.0 found.1.column found.1)
    ]

-- whether a byte is one of the region's
pub covered_or_not : (region : Region) (p : ℕ) → Covers region p ⊎ (¬ Covers region p)
covered_or_not region p =
    elim (some_or_none (λ r. (j : ℕ) × IsAt region r j p) (in_row_or_not region p) region.rows) [
      | inl found ↦ inl (found.0, found.1.0, found.1.1)
      | inr none ↦ inr (λ found. none found.0 found.2.row (found.1, found.2))
    ]

-- ---- where a region ends

-- so many items are one fewer, and one
one_fewer : (n size : ℕ) → 0 < n → n * size ≡ (n - 1) * size + size
one_fewer zero size some = absurd (omega arith)
one_fewer (suc n) size some =
    let back : suc n - 1 ≡ n = omega arith in
    rw back (omega arith)

pub below_from_end : (region : Region) (end : ℕ) → 0 < region.rows → place_in region (region.rows - 1) region.columns ≤ end → LiesBelow region end
below_from_end region end some last p covered =
    let at = covered.2 in
    let rows : covered.0 * region.step ≤ (region.rows - 1) * region.step = mul-le-mul_right region.step (omega (arith, at.row)) in
    let columns : covered.1 * region.size + region.size ≤ region.columns * region.size = item_fits covered.1 region.columns region.size at.column in
    omega (arith, at.below)

pub end_from_below : (region : Region) (end : ℕ) → 0 < region.rows → 0 < region.columns → 0 < region.size → LiesBelow region end → place_in region (region.rows - 1) region.columns ≤ end
end_from_below region end some_rows some_columns some_bytes below =
    let r = region.rows - 1 in
    let j = region.columns - 1 in
    let p = place_in region r j + (region.size - 1) in
    let at : IsAt region r j p = record { row = omega arith; column = omega arith; from = omega arith; below = omega arith } in
    let last : p < end = below p (r, j, at) in
    omega (arith, one_fewer region.columns region.size some_columns)
