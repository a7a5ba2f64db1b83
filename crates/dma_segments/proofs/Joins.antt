-- A patch whose rows are joined has the same elements, with the same sources.
use Rattle.std.proofs.Common.{◌≡◌, ℕ, zero, suc, ◌+◌, ◌*◌, ◌/◌, ◌%◌, ◌<◌, Option, None, Some, List, Bool, true, false, ap, ◌∙◌, refl, arith}
use Rattle.std.specs.Prelude.{map, ◌&&◌, ◌==◌, if◌then◌else◌}
use Rattle.std.proofs.lemmas.Bool.{eqb-true}
use Rattle.std.proofs.lemmas.Nat.{div-add-mod', mod_below, div_below, mul-add-lt}
use Rattle.dma_segments.specs.declared.patches.Patch.{Patch}
use Rattle.dma_segments.specs.Run.{further}
use Rattle.dma_segments.specs.Patch.{has_adjacent_sources, with_rows_joined}
use Rattle.dma_segments.proofs.PiecePatches.{to_place, from_place, HasElement, IsPatchOf, ArePatchesApart, ArePatchesOf}
use Rattle.dma_segments.proofs.Lists.{each_map, one_map, pairs_map, each_weaker, one_weaker, pairs_weaker}

-- the rows as one
abbrev pub one_row : Patch → Patch
one_row patch = record patch { rows = 1; cols = patch.rows * patch.cols }

-- what a patch keeps, whichever becomes of it
pub record IsLike (n : ℕ) (wanted : ℕ → Option ℕ) (patch other : Patch) : Type 0 where
  pub is_patch : IsPatchOf n wanted patch → IsPatchOf n wanted other
  pub has : (p : ℕ) → HasElement patch p → HasElement other p
  pub had : (p : ℕ) → HasElement other p → HasElement patch p

same_like : (n : ℕ) (wanted : ℕ → Option ℕ) (patch : Patch) → IsLike n wanted patch patch
same_like n wanted patch = record { is_patch = λ at. at; has = λ p h. h; had = λ p h. h }

module _ (patch : Patch) (to_is : patch.to_step ≡ patch.cols) (from_is : has_adjacent_sources patch.from patch.cols patch.from_step ≡ true) where
  -- element k of the row is that in row k / cols and column k % cols
  place_is : (r k : ℕ) → to_place patch r k ≡ to_place (one_row patch) 0 (r * patch.cols + k)
  place_is r k = let e : r * patch.to_step ≡ r * patch.cols = ap (λ m. r * m) to_is in omega arith

  source_is : (r k : ℕ) → from_place patch r k ≡ from_place (one_row patch) 0 (r * patch.cols + k)
  source_is r k = by patch.from from_is
    where
      by : (o : Option ℕ) → has_adjacent_sources o patch.cols patch.from_step ≡ true → further o (r * patch.from_step + k) ≡ further o (0 * patch.from_step + (r * patch.cols + k))
      by None h = refl
      by (Some s) h =
          let same = eqb-true patch.from_step patch.cols h in
          let e : r * patch.from_step ≡ r * patch.cols = ap (λ m. r * m) same in
          let f : s + (r * patch.from_step + k) ≡ s + (0 * patch.from_step + (r * patch.cols + k)) = omega arith in
          ap (λ m. Some m) f

  pub joined_like : (n : ℕ) (wanted : ℕ → Option ℕ) → IsLike n wanted patch (one_row patch)
  joined_like n wanted = record {
    is_patch = λ at.
        record {
          some_rows = omega arith;
          some_cols = let l = mul-add-lt 0 patch.cols 0 patch.rows at.some_rows at.some_cols in omega arith;
          rows_apart = λ many. absurd (omega arith);
          inside = λ r k row col.
              let whole = div-add-mod' k patch.cols in
              let l = at.inside (k / patch.cols) (k % patch.cols) (div_below k patch.cols patch.rows at.some_cols col) (mod_below k patch.cols at.some_cols) in
              let e = place_is (k / patch.cols) (k % patch.cols) in
              let z : r * patch.to_step ≡ 0 * patch.to_step = let none : r ≡ 0 = omega arith in ap (λ m. m * patch.to_step) none in
              omega arith;
          sources = λ r k row col.
              let i = k / patch.cols in
              let j = k % patch.cols in
              let whole = div-add-mod' k patch.cols in
              let none : r ≡ 0 = omega arith in
              let z : r * patch.to_step ≡ 0 * patch.to_step = ap (λ m. m * patch.to_step) none in
              let y : r * patch.from_step ≡ 0 * patch.from_step = ap (λ m. m * patch.from_step) none in
              let e = place_is i j in
              let place : to_place (one_row patch) r k ≡ to_place patch i j = omega arith in
              let way : 0 * patch.from_step + (i * patch.cols + j) ≡ r * patch.from_step + k = omega arith in
              ap wanted place ∙ at.sources i j (div_below k patch.cols patch.rows at.some_cols col) (mod_below k patch.cols at.some_cols)
              ∙ source_is i j ∙ ap (further patch.from) way;
        };
    has = λ p (r, k, row, col, is).
        let e = place_is r k in
        let l = mul-add-lt r patch.cols k patch.rows row col in
        (0, r * patch.cols + k, omega arith, omega arith, omega arith);
    had = λ p (r, k, row, col, is).
        let some : 0 < patch.cols = some_columns k col in
        let whole = div-add-mod' k patch.cols in
        let e = place_is (k / patch.cols) (k % patch.cols) in
        let none : r ≡ 0 = omega arith in
        let z : r * patch.to_step ≡ 0 * patch.to_step = ap (λ m. m * patch.to_step) none in
        (k / patch.cols, k % patch.cols, div_below k patch.cols patch.rows some col, mod_below k patch.cols some, omega arith);
  }
    where
      some_columns : (k : ℕ) → k < patch.rows * patch.cols → 0 < patch.cols
      some_columns k below = by patch.cols below
        where
          by : (c : ℕ) → k < patch.rows * c → 0 < c
          by zero l = absurd (omega arith)
          by (suc c) l = omega arith

pub join_like : (n : ℕ) (wanted : ℕ → Option ℕ) (patch : Patch) → IsLike n wanted patch (with_rows_joined patch)
join_like n wanted patch = by (patch.to_step == patch.cols) (has_adjacent_sources patch.from patch.cols patch.from_step) refl refl
  where
    by : (a b : Bool) → (patch.to_step == patch.cols) ≡ a → has_adjacent_sources patch.from patch.cols patch.from_step ≡ b → IsLike n wanted patch (if a && b then one_row patch else patch)
    by true true to_is from_is = joined_like patch (eqb-true patch.to_step patch.cols to_is) from_is n wanted
    by true false to_is from_is = same_like n wanted patch
    by false b to_is from_is = same_like n wanted patch

-- so joining keeps what a piece's patches are
pub joins_are : (n : ℕ) (wanted : ℕ → Option ℕ) (patches : List Patch) → ArePatchesOf n wanted patches → ArePatchesOf n wanted (map with_rows_joined patches)
joins_are n wanted patches all = record {
  each = each_map with_rows_joined (IsPatchOf n wanted) patches (each_weaker (IsPatchOf n wanted) (λ patch. IsPatchOf n wanted (with_rows_joined patch)) (λ patch at. (join_like n wanted patch).is_patch at) patches all.each);
  covered = λ p below. one_map with_rows_joined (λ patch. HasElement patch p) patches
      (one_weaker (λ patch. HasElement patch p) (IsPatchOf n wanted) (λ patch. HasElement (with_rows_joined patch) p) (λ patch at has. (join_like n wanted patch).has p has) patches all.each (all.covered p below));
  once = pairs_map with_rows_joined ArePatchesApart patches
      (pairs_weaker ArePatchesApart (IsPatchOf n wanted) (λ x y. ArePatchesApart (with_rows_joined x) (with_rows_joined y)) (λ x y at bt apart p in_x in_y. apart p ((join_like n wanted x).had p in_x) ((join_like n wanted y).had p in_y)) patches all.each all.once);
}
