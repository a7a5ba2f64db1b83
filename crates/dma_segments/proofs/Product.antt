-- Runs of rows and runs of columns make patches of the piece.
use Rattle.std.proofs.Common.{◌≡◌, ℕ, ◌+◌, ◌-◌, ◌*◌, ◌/◌, ◌%◌, ◌<◌, ◌≤◌, Option, None, Some, List, [], ◌∷◌, inl, inr, ap, sym, ◌∙◌, refl, arith}
use Rattle.std.specs.Prelude.{map}
use Rattle.std.specs.List.{flat_map}
use Rattle.std.proofs.lemmas.Bool.{cases_lt}
use Rattle.std.proofs.lemmas.Nat.{div-add-mod', mod_below, div-mul-add, mod-mul-add, div_below, row_fits, mul-add-lt}
use Rattle.dma_segments.specs.declared.patches.Run.{Run}
use Rattle.dma_segments.specs.declared.patches.Patch.{Patch}
use Rattle.dma_segments.specs.declared.patches.Layout.{Layout}
use Rattle.dma_segments.specs.Run.{further, place_of, source_at}
use Rattle.dma_segments.specs.Patch.{source_of_both, line, cross, blank, row_lines_from, row_lines, lines, crosses}
use Rattle.dma_segments.proofs.AxisRuns.{HasPlace, IsRunOf, AreRunsApart, AreRunsOf}
use Rattle.dma_segments.proofs.PiecePatches.{to_place, HasElement, IsPatchOf, ArePatchesApart, ArePatchesOf}
use Rattle.dma_segments.proofs.Lists.{Each, AtLeastOne, EachPair, each_flat, one_flat, each_map, one_map, pairs_map, pairs_weaker, pairs_flat, each_weaker, one_weaker, each_both}

-- to go further on both axes is to go further by the sum of both ways
pub further_both : (layout : Layout) (Y X : Option ℕ) (r k sy sx : ℕ)
    → source_of_both layout (further Y (r * sy)) (further X (k * sx)) ≡ further (source_of_both layout Y X) (r * (sy * layout.row_pitch) + k * (sx * layout.column_pitch))
further_both layout None None r k sy sx = refl
further_both layout None (Some x) r k sy sx = refl
further_both layout (Some y) None r k sy sx = refl
further_both layout (Some y) (Some x) r k sy sx =
    let same : (y + r * sy) * layout.row_pitch + (x + k * sx) * layout.column_pitch ≡ y * layout.row_pitch + x * layout.column_pitch + (r * (sy * layout.row_pitch) + k * (sx * layout.column_pitch)) = omega arith in
    ap (λ n. Some n) same

-- the run's places follow one another, and so do their sources
pub record IsClose (pitch : ℕ) (run : Run) : Type 0 where
  pub step_is : run.step ≡ 1
  pub pitch_is : 1 < run.count → run.source_step * pitch ≡ 1

-- a piece of h rows of w columns; its elements' sources are those of both axes
module _ (layout : Layout) (h : ℕ) (f g : ℕ → Option ℕ) (wanted : ℕ → Option ℕ) (wanted_is : (i j : ℕ) → i < h → j < layout.width → wanted (i * layout.width + j) ≡ source_of_both layout (f i) (g j)) where
  -- the patches of one run of rows
  pub record IsRowOf (a : Run) (patches : List Patch) : Type 0 where
    pub each : Each (IsPatchOf (h * layout.width) wanted) patches
    pub covered : (p : ℕ) → HasPlace a (p / layout.width) → p % layout.width < layout.width → AtLeastOne (λ patch. HasElement patch p) patches
    pub once : EachPair ArePatchesApart patches
    pub rows : Each (λ patch. (p : ℕ) → HasElement patch p → HasPlace a (p / layout.width)) patches

  -- an element of the piece lies in it
  element_inside : (i j : ℕ) → i < h → j < layout.width → i * layout.width + j < h * layout.width
  element_inside i j row col = let l = mul-add-lt i layout.width j h row col in omega arith

  module _ (row : Run → List Patch) where
    rows_apart : (a b : Run) → IsRowOf a (row a) → IsRowOf b (row b) → AreRunsApart a b → Each (λ x. Each (ArePatchesApart x) (row b)) (row a)
    rows_apart a b at bt apart =
        each_weaker (λ x. (p : ℕ) → HasElement x p → HasPlace a (p / layout.width)) (λ x. Each (ArePatchesApart x) (row b))
        (λ x has. each_weaker (λ y. (p : ℕ) → HasElement y p → HasPlace b (p / layout.width)) (ArePatchesApart x) (λ y have p in_x in_y. apart (p / layout.width) (has p in_x) (have p in_y)) (row b) bt.rows)
        (row a) at.rows

    pub rows_make : 0 < layout.width → (rows : List Run) → AreRunsOf h f rows → Each (λ a. IsRowOf a (row a)) rows → ArePatchesOf (h * layout.width) wanted (flat_map row rows)
    rows_make some rows all each = record {
      each = each_flat row (IsPatchOf (h * layout.width) wanted) rows (each_weaker (λ a. IsRowOf a (row a)) (λ a. Each (IsPatchOf (h * layout.width) wanted) (row a)) (λ a at. at.each) rows each);
      covered = λ p below. one_flat row (λ patch. HasElement patch p) rows
          (one_weaker (λ a. HasPlace a (p / layout.width)) (λ a. IsRowOf a (row a)) (λ a. AtLeastOne (λ patch. HasElement patch p) (row a))
          (λ a at has. at.covered p has (mod_below p layout.width some)) rows each (all.covered (p / layout.width) (div_below p layout.width h some below)));
      once = pairs_flat row ArePatchesApart rows (each_weaker (λ a. IsRowOf a (row a)) (λ a. EachPair ArePatchesApart (row a)) (λ a at. at.once) rows each)
          (pairs_weaker AreRunsApart (λ a. IsRowOf a (row a)) (λ x y. Each (λ b. Each (ArePatchesApart b) (row y)) (row x)) (λ a b at bt apart. rows_apart a b at bt apart) rows each all.once);
    }

  -- one patch for each run of columns
  module _ (make : Run → Run → Patch) (A B : Run → Type 0) (right : (a b : Run) → A a → B b → IsPatchOf (h * layout.width) wanted (make a b)) (has : (a b : Run) → A a → B b → (p : ℕ) → HasElement (make a b) p → HasPlace a (p / layout.width) × HasPlace b (p % layout.width)) (have : (a b : Run) → A a → B b → (p : ℕ) → HasPlace a (p / layout.width) → HasPlace b (p % layout.width) → HasElement (make a b) p) where
    pub columns_make : (a : Run) (cols : List Run) → A a → Each B cols → AreRunsOf layout.width g cols → IsRowOf a (map (make a) cols)
    columns_make a cols at each all = record {
      each = each_map (make a) (IsPatchOf (h * layout.width) wanted) cols (each_weaker B (λ b. IsPatchOf (h * layout.width) wanted (make a b)) (λ b bt. right a b at bt) cols each);
      covered = λ p row below. one_map (make a) (λ patch. HasElement patch p) cols
          (one_weaker (λ b. HasPlace b (p % layout.width)) B (λ b. HasElement (make a b) p) (λ b bt col. have a b at bt p row col) cols each (all.covered (p % layout.width) below));
      once = pairs_map (make a) ArePatchesApart cols
          (pairs_weaker AreRunsApart B (λ x y. ArePatchesApart (make a x) (make a y)) (λ x y xt yt apart p in_x in_y. apart (p % layout.width) ((has a x at xt p in_x).1) ((has a y at yt p in_y).1)) cols each all.once);
      rows = each_map (make a) (λ patch. (p : ℕ) → HasElement patch p → HasPlace a (p / layout.width)) cols
          (each_weaker B (λ b. (p : ℕ) → HasElement (make a b) p → HasPlace a (p / layout.width)) (λ b bt p in_b. (has a b at bt p in_b).0) cols each);
    }

  -- ---- lines

  -- the run's places follow one another, and so do their sources
  pub record IsAdjacent (b : Run) : Type 0 where
    pub is_run : IsRunOf layout.width g b
    pub step_is : b.step ≡ 1
    pub pitch_is : 1 < b.count → b.source_step * layout.column_pitch ≡ 1

  line_to : (a b : Run) (r k : ℕ) → b.step ≡ 1 → to_place (line layout a b) r k ≡ place_of a r * layout.width + place_of b k
  line_to a b r k one = let step : k * b.step ≡ k * 1 = ap (λ n. k * n) one in omega arith

  line_pitch : (b : Run) → IsAdjacent b → (k : ℕ) → k < b.count → k * (b.source_step * layout.column_pitch) ≡ k
  line_pitch b adjacent k below =
      elim (cases_lt 1 b.count) [
        | inl many ↦ let step : k * (b.source_step * layout.column_pitch) ≡ k * 1 = ap (λ n. k * n) (adjacent.pitch_is many) in omega arith
        | inr few ↦ let none : k ≡ 0 = omega arith in let step : k * (b.source_step * layout.column_pitch) ≡ 0 * (b.source_step * layout.column_pitch) = ap (λ n. n * (b.source_step * layout.column_pitch)) none in omega arith
      ]

  line_right : (a b : Run) → IsRunOf h f a → IsAdjacent b → IsPatchOf (h * layout.width) wanted (line layout a b)
  line_right a b at adjacent =
      let bt = adjacent.is_run in
      let one = adjacent.step_is in
      let last : place_of b (b.count - 1) < layout.width = bt.inside (b.count - 1) (omega (arith, bt.some)) in
      let steps : (b.count - 1) * b.step ≡ (b.count - 1) * 1 = ap (λ n. (b.count - 1) * n) one in
      let wide : 1 * layout.width ≤ a.step * layout.width = row_step a at in
      record {
        some_rows = at.some;
        some_cols = bt.some;
        rows_apart = λ many. omega (arith, bt.some);
        inside = λ r k row col.
            let l = element_inside (place_of a r) (place_of b k) (at.inside r row) (bt.inside k col) in
            let e = line_to a b r k one in
            omega arith;
        sources = λ r k row col.
            let e = line_to a b r k one in
            let pitch : r * (a.source_step * layout.row_pitch) + k * (b.source_step * layout.column_pitch) ≡ r * (a.source_step * layout.row_pitch) + k = ap (λ n. r * (a.source_step * layout.row_pitch) + n) (line_pitch b adjacent k col) in
            ap wanted e ∙ wanted_is (place_of a r) (place_of b k) (at.inside r row) (bt.inside k col)
            ∙ ap (λ s. source_of_both layout s (g (place_of b k))) (at.sources r row) ∙ ap (λ s. source_of_both layout (source_at a r) s) (bt.sources k col)
            ∙ further_both layout a.source b.source r k a.source_step b.source_step
            ∙ ap (further (source_of_both layout a.source b.source)) pitch;
      }
    where
      row_step : (a : Run) → IsRunOf h f a → 1 * layout.width ≤ a.step * layout.width
      row_step a at = let l = row_fits 0 layout.width a.step layout.width at.moves (omega arith) in omega arith

  line_has : (a b : Run) → IsRunOf h f a → IsAdjacent b → (p : ℕ) → HasElement (line layout a b) p → HasPlace a (p / layout.width) × HasPlace b (p % layout.width)
  line_has a b at adjacent p (r, k, row, col, is) =
      let bt = adjacent.is_run in
      let e : place_of a r * layout.width + place_of b k ≡ p = sym (line_to a b r k adjacent.step_is) ∙ is in
      let below = bt.inside k col in
      let quotient : place_of a r ≡ p / layout.width = sym (div-mul-add (place_of a r) layout.width (place_of b k) below) ∙ ap (λ n. n / layout.width) e in
      let rest : place_of b k ≡ p % layout.width = sym (mod-mul-add (place_of a r) layout.width (place_of b k) below) ∙ ap (λ n. n % layout.width) e in
      ((r, row, quotient), (k, col, rest))

  line_have : (a b : Run) → IsRunOf h f a → IsAdjacent b → (p : ℕ) → HasPlace a (p / layout.width) → HasPlace b (p % layout.width) → HasElement (line layout a b) p
  line_have a b at adjacent p (r, row, is) (k, col, js) =
      let e = line_to a b r k adjacent.step_is in
      let whole = div-add-mod' p layout.width in
      let left : place_of a r * layout.width ≡ p / layout.width * layout.width = ap (λ n. n * layout.width) is in
      (r, k, row, col, omega arith)

  -- ---- whole rows without a source

  blank_row : (a : Run) → IsRunOf h f a → 0 < layout.width → a.source ≡ None → IsRowOf a (blank layout a ∷ [])
  blank_row a at some none = record {
    each = (
      record {
        some_rows = at.some;
        some_cols = some;
        rows_apart = λ many. let l = row_fits 0 layout.width a.step layout.width at.moves (omega arith) in omega arith;
        inside = λ r k row col. let l = element_inside (place_of a r) k (at.inside r row) col in omega arith;
        sources = λ r k row col.
            let e : to_place (blank layout a) r k ≡ place_of a r * layout.width + k = omega arith in
            ap wanted e ∙ wanted_is (place_of a r) k (at.inside r row) col ∙ ap (λ s. source_of_both layout s (g k)) (at.sources r row ∙ ap (λ s. further s (r * a.source_step)) none);
      },
      tt,
    );
    covered = λ p (r, row, is) below.
        let whole = div-add-mod' p layout.width in
        let left : place_of a r * layout.width ≡ p / layout.width * layout.width = ap (λ n. n * layout.width) is in
        inl (r, p % layout.width, row, below, omega arith);
    once = (tt, tt);
    rows = (
      (λ p (r, k, row, col, is).
          let e : place_of a r * layout.width + k ≡ p = omega arith in
          (r, row, sym (div-mul-add (place_of a r) layout.width k col) ∙ ap (λ n. n / layout.width) e)),
      tt,
    );
  }

  row_is : (cols : List Run) → 0 < layout.width → Each IsAdjacent cols → AreRunsOf layout.width g cols → (a : Run) → IsRunOf h f a → IsRowOf a (row_lines layout cols a)
  row_is cols some adjacent all a at = by a.source refl
    where
      by : (o : Option ℕ) → a.source ≡ o → IsRowOf a (row_lines_from o layout cols a)
      by None none = blank_row a at some none
      by (Some y) e = columns_make (line layout) (IsRunOf h f) IsAdjacent line_right line_has line_have a cols at adjacent all

  pub lines_make : (rows cols : List Run) → 0 < layout.width → AreRunsOf h f rows → AreRunsOf layout.width g cols → Each (IsClose layout.column_pitch) cols → ArePatchesOf (h * layout.width) wanted (lines layout rows cols)
  lines_make rows cols some all_rows all_cols close =
      let adjacent = each_both (IsRunOf layout.width g) (IsClose layout.column_pitch) IsAdjacent (λ b bt near. record { is_run = bt; step_is = near.step_is; pitch_is = near.pitch_is }) cols all_cols.each close in
      rows_make (row_lines layout cols) some rows all_rows (each_weaker (IsRunOf h f) (λ a. IsRowOf a (row_lines layout cols a)) (row_is cols some adjacent all_cols) rows all_rows.each)

  -- ---- crosses

  -- a run of one place
  pub record IsSingle (a : Run) : Type 0 where
    pub is_run : IsRunOf h f a
    pub count_is : a.count ≡ 1

  cross_to : (a b : Run) (k : ℕ) → to_place (cross layout a b) k 0 ≡ place_of a 0 * layout.width + place_of b k
  cross_to a b k = omega arith

  cross_right : (a b : Run) → IsSingle a → IsRunOf layout.width g b → IsPatchOf (h * layout.width) wanted (cross layout a b)
  cross_right a b single bt =
      let at = single.is_run in
      let row : 0 < a.count = omega (arith, at.some) in
      record {
        some_rows = bt.some;
        some_cols = omega arith;
        rows_apart = λ many. bt.moves;
        inside = λ r k col zeroth. let l = element_inside (place_of a 0) (place_of b r) (at.inside 0 row) (bt.inside r col) in omega arith;
        sources = λ r k col zeroth.
            let e : to_place (cross layout a b) r k ≡ place_of a 0 * layout.width + place_of b r = omega arith in
            let way : 0 * (a.source_step * layout.row_pitch) + r * (b.source_step * layout.column_pitch) ≡ r * (b.source_step * layout.column_pitch) + k = omega arith in
            ap wanted e ∙ wanted_is (place_of a 0) (place_of b r) (at.inside 0 row) (bt.inside r col)
            ∙ ap (λ s. source_of_both layout s (g (place_of b r))) (at.sources 0 row) ∙ ap (λ s. source_of_both layout (source_at a 0) s) (bt.sources r col)
            ∙ further_both layout a.source b.source 0 r a.source_step b.source_step
            ∙ ap (further (source_of_both layout a.source b.source)) way;
      }

  cross_has : (a b : Run) → IsSingle a → IsRunOf layout.width g b → (p : ℕ) → HasElement (cross layout a b) p → HasPlace a (p / layout.width) × HasPlace b (p % layout.width)
  cross_has a b single bt p (r, k, row, col, is) =
      let e : place_of a 0 * layout.width + place_of b r ≡ p = omega arith in
      let below = bt.inside r row in
      let quotient : place_of a 0 ≡ p / layout.width = sym (div-mul-add (place_of a 0) layout.width (place_of b r) below) ∙ ap (λ n. n / layout.width) e in
      let rest : place_of b r ≡ p % layout.width = sym (mod-mul-add (place_of a 0) layout.width (place_of b r) below) ∙ ap (λ n. n % layout.width) e in
      ((0, omega (arith, single.count_is), quotient), (r, row, rest))

  cross_have : (a b : Run) → IsSingle a → IsRunOf layout.width g b → (p : ℕ) → HasPlace a (p / layout.width) → HasPlace b (p % layout.width) → HasElement (cross layout a b) p
  cross_have a b single bt p (r, row, is) (k, col, js) =
      let only : r ≡ 0 = omega (arith, single.count_is) in
      let none : r * a.step ≡ 0 * a.step = ap (λ n. n * a.step) only in
      let whole = div-add-mod' p layout.width in
      let left : place_of a r * layout.width ≡ p / layout.width * layout.width = ap (λ n. n * layout.width) is in
      let first : place_of a r * layout.width ≡ a.first * layout.width = ap (λ n. n * layout.width) (omega arith) in
      (k, 0, col, omega arith, omega arith)

  pub crosses_make : (rows cols : List Run) → 0 < layout.width → AreRunsOf h f rows → AreRunsOf layout.width g cols → Each (λ a. a.count ≡ 1) rows → ArePatchesOf (h * layout.width) wanted (crosses layout rows cols)
  crosses_make rows cols some all_rows all_cols counts =
      let singles = each_both (IsRunOf h f) (λ a. a.count ≡ 1) IsSingle (λ a at one. record { is_run = at; count_is = one }) rows all_rows.each counts in
      let row = λ (a : Run). map (cross layout a) cols in
      rows_make row some rows all_rows
      (each_weaker IsSingle (λ a. IsRowOf a (row a)) (λ a at. columns_make (cross layout) IsSingle (IsRunOf layout.width g) cross_right cross_has cross_have a cols at all_cols.each all_cols) rows singles)
