-- All numbers of a piece's runs and patches stay below 2 to the 32.
use Rattle.std.proofs.Common.{◌≡◌, ℕ, zero, suc, ◌+◌, ◌-◌, ◌*◌, ◌/◌, ◌<◌, ◌≤◌, Option, None, Some, List, Bool, true, false, ap, sym, ◌∙◌, subst, refl, arith}
use Rattle.std.specs.Prelude.{All, IfSome, ℤ, pos, ◌+ℤ◌, ◌&&◌, ◌==◌, if◌then◌else◌}
use Rattle.std.proofs.lemmas.Nat.{mul-add-lt, mul-le}
use Rattle.ven_base.specs.declared.mapping.Mapping.{Mapping}
use Rattle.ven_base.specs.declared.mapping.Mapping.TheVariants.{Identity, Shift, Rotate, Section, Stretch, Transpose}
use Rattle.ven_base.specs.Elem.{size_of}
use Rattle.ven_base.specs.Extent.{Extent, IsExtent, IsIndex, elements_of}
use Rattle.ven_base.specs.Place.{place_within, place_round}
use Rattle.ven_base.specs.Mapping.{result_shape, FitsShape}
use Rattle.ven_base.proofs.Sources.{source_of-inside, result_shape-IsExtent, factor_within}
use Rattle.ven_base.proofs.Places.{place_within-is}
use Rattle.ven_base.proofs.Congruence.{rem_below}
use Rattle.venice_isa.proofs.Regions.{item_fits}
use Rattle.pass_plan.specs.declared.leaf.Leaf.{Leaf}
use Rattle.pass_plan.specs.declared.parts.Piece.{Piece}
use Rattle.pass_plan.specs.declared.split.ArrayPlace.{ArrayPlace}
use Rattle.pass_plan.specs.Tile.{IsPieceOf}
use Rattle.pass_plan.specs.Sound.{end_of}
use Rattle.dma_segments.specs.declared.patches.Run.{Run}
use Rattle.dma_segments.specs.declared.patches.Patch.{Patch}
use Rattle.dma_segments.specs.declared.patches.Layout.{Layout}
use Rattle.dma_segments.specs.declared.patches.Sides.{Sides}
use Rattle.dma_segments.specs.Run.{further, place_of, source_at, singles, row_runs, column_runs}
use Rattle.dma_segments.specs.Patch.{source_of_both, layout_of, has_adjacent_sources, with_rows_joined, keeps_neighbours, patches_of}
use Rattle.dma_segments.specs.ReadList.{sides_of}
use Rattle.dma_segments.specs.Put.{CanRead}
use Rattle.dma_segments.specs.Rooms.{HasSmallPlaces, HasSmallCorner, HaveSmallCorners, CanCombine, HasRoom}
use Rattle.dma_segments.proofs.AxisRuns.{IsRunOf, AreRunsOf, row_axis, column_axis}
use Rattle.dma_segments.proofs.PiecePatches.{to_place, IsPatchOf}
use Rattle.dma_segments.proofs.Lists.{each_weaker, all_each}
use Rattle.dma_segments.proofs.Bytes.{some_bytes}
use Rattle.dma_segments.proofs.Product.{further_both}
use Rattle.dma_segments.proofs.Axes.{singles_are}
use Rattle.dma_segments.proofs.Counts.{runs_few}
use Rattle.dma_segments.proofs.Pieces.{wanted_of, wanted_splits, wanted_inside, rows_are, columns_are, plain_patches, plain_patches_are}

-- ---- patches

-- rows that don't reach into one another have no more elements than the piece
area : (r k step to n : ℕ) → (0 < r → k + 1 ≤ step) → to + r * step + k < n → (r + 1) * (k + 1) ≤ n
area zero k step to n apart last = omega arith
area (suc r) k step to n apart last =
    let l = mul-le (suc r) (k + 1) (suc r) step (omega arith) (apart (omega arith)) in
    omega arith

-- a step is no greater than all of them
step_few : (r step to k n : ℕ) → 0 < r → to + r * step + k < n → step < n
step_few zero step to k n some last = absurd (omega arith)
step_few (suc r) step to k n some last = omega arith

at_least : (n size : ℕ) → 0 < size → n ≤ n * size
at_least n size some = let l = mul-le n 1 n size (omega arith) some in omega arith

-- so many bytes, where there are so many elements
pub bytes_few : (m n size : ℕ) → m ≤ n → m * size ≤ n * size
bytes_few m n size l = mul-le m size n size l (omega arith)

module _ (sides : Sides) (some : 0 < sides.size) (n elements : ℕ) (wanted : ℕ → Option ℕ) (inside : (p s : ℕ) → p < n → wanted p ≡ Some s → s < elements) (in_cells : sides.buffer + n * sides.size < 4294967296) (in_memory : sides.array + elements * sides.size < 4294967296) where
  pub patch_room : (patch : Patch) → IsPatchOf n wanted patch → HasRoom sides patch
  patch_room patch at =
      let size = sides.size in
      let r = patch.rows - 1 in
      let k = patch.cols - 1 in
      let last : patch.to + r * patch.to_step + k < n = at.inside r k (omega (arith, at.some_rows)) (omega (arith, at.some_cols)) in
      let rows_is : patch.rows ≡ r + 1 = omega (arith, at.some_rows) in
      let cols_is : patch.cols ≡ k + 1 = omega (arith, at.some_cols) in
      let area_is : patch.rows * patch.cols ≡ (r + 1) * (k + 1) = ap (λ x. x * patch.cols) rows_is ∙ ap (λ y. (r + 1) * y) cols_is in
      let few : patch.rows * patch.cols ≤ n = let l = area r k patch.to_step patch.to n (λ many. let a = at.rows_apart (omega arith) in omega arith) last in omega arith in
      let bytes = bytes_few (patch.rows * patch.cols) n size few in
      let row : 1 * patch.cols ≤ patch.rows * patch.cols = mul-le 1 patch.cols patch.rows patch.cols at.some_rows (omega arith) in
      let row_bytes = bytes_few patch.cols n size (omega arith) in
      let first = item_fits patch.to n size (omega arith) in
      let more = at_least n size some in
      record {
        to_fits = omega arith;
        from_fits = from_fits patch.from patch refl at;
        all_fit = omega arith;
        all_bytes_fit = omega arith;
        row_fits = omega arith;
        to_step_fits = λ many. let l = step_few r patch.to_step patch.to k n (omega arith) last in let b = bytes_few patch.to_step n size (omega arith) in omega arith;
        from_step_fits = from_step_fits patch.from patch refl at;
      }
    where
      from_fits : (o : Option ℕ) (patch : Patch) → patch.from ≡ o → IsPatchOf n wanted patch → IfSome o (λ s. sides.array + s * sides.size < 4294967296)
      from_fits None patch is at = tt
      from_fits (Some s) patch is at =
          let first = at.sources 0 0 at.some_rows at.some_cols ∙ ap (λ o. further o (0 * patch.from_step + 0)) is in
          let below = inside (to_place patch 0 0) (s + (0 * patch.from_step + 0)) (at.inside 0 0 at.some_rows at.some_cols) first in
          let fits = item_fits s elements sides.size (omega arith) in
          omega arith

      from_step_fits : (o : Option ℕ) (patch : Patch) → patch.from ≡ o → IsPatchOf n wanted patch → IfSome o (λ s. 1 < patch.rows → patch.from_step * sides.size < 4294967296)
      from_step_fits None patch is at = tt
      from_step_fits (Some s) patch is at = λ many.
          let r = patch.rows - 1 in
          let row : r < patch.rows = omega arith in
          let last = at.sources r 0 row at.some_cols ∙ ap (λ o. further o (r * patch.from_step + 0)) is in
          let below = inside (to_place patch r 0) (s + (r * patch.from_step + 0)) (at.inside r 0 row at.some_cols) last in
          let few : patch.from_step < elements = step_few r patch.from_step s 0 elements (omega arith) (omega arith) in
          let bytes = bytes_few patch.from_step elements sides.size (omega arith) in
          omega arith

-- with its rows joined it has the same room
pub joined_room : (sides : Sides) (patch : Patch) → HasRoom sides patch → HasRoom sides (with_rows_joined patch)
joined_room sides patch room = by ((patch.to_step == patch.cols) && has_adjacent_sources patch.from patch.cols patch.from_step)
  where
    steps : (o : Option ℕ) (step : ℕ) → IfSome o (λ s. 1 < 1 → step < 4294967296)
    steps None step = tt
    steps (Some s) step = λ many. absurd (omega arith)

    by : (b : Bool) → HasRoom sides (if b then record patch { rows = 1; cols = patch.rows * patch.cols } else patch)
    by true =
        let one : 1 * (patch.rows * patch.cols) ≡ patch.rows * patch.cols = omega arith in
        let bytes : 1 * (patch.rows * patch.cols) * sides.size ≡ patch.rows * patch.cols * sides.size = ap (λ m. m * sides.size) one in
        record {
          to_fits = room.to_fits;
          from_fits = room.from_fits;
          all_fit = omega (arith, room.all_fit);
          all_bytes_fit = omega (arith, room.all_bytes_fit);
          row_fits = room.all_bytes_fit;
          to_step_fits = λ many. absurd (omega arith);
          from_step_fits = steps patch.from (patch.from_step * sides.size);
        }
    by false = room

-- ---- corners

module _ (layout : Layout) (h : ℕ) (f g : ℕ → Option ℕ) (wanted : ℕ → Option ℕ) (wanted_is : (i j : ℕ) → i < h → j < layout.width → wanted (i * layout.width + j) ≡ source_of_both layout (f i) (g j)) (elements : ℕ) (inside : (p s : ℕ) → p < h * layout.width → wanted p ≡ Some s → s < elements) (small_piece : h * layout.width < 4294967296) (small_array : elements < 4294967296) where
  element_below : (i j : ℕ) → i < h → j < layout.width → i * layout.width + j < h * layout.width
  element_below i j row column = let l = mul-add-lt i layout.width j h row column in omega arith

  corner_small : (a b : Run) → IsRunOf h f a → IsRunOf layout.width g b → HasSmallCorner layout a b
  corner_small a b at bt =
      let row = at.inside 0 at.some in
      let column = bt.inside 0 bt.some in
      let below = element_below (place_of a 0) (place_of b 0) row column in
      let place : place_of a 0 * layout.width + place_of b 0 ≡ a.first * layout.width + b.first = omega arith in
      let first : wanted (place_of a 0 * layout.width + place_of b 0) ≡ further (source_of_both layout a.source b.source) (0 * (a.source_step * layout.row_pitch) + 0 * (b.source_step * layout.column_pitch)) =
      wanted_is (place_of a 0) (place_of b 0) row column ∙ ap (λ s. source_of_both layout s (g (place_of b 0))) (at.sources 0 at.some) ∙ ap (λ s. source_of_both layout (source_at a 0) s) (bt.sources 0 bt.some)
      ∙ further_both layout a.source b.source 0 0 a.source_step b.source_step in
      record { to_is_small = omega arith; from_is_small = by (source_of_both layout a.source b.source) (place_of a 0 * layout.width + place_of b 0) below first }
    where
      by : (o : Option ℕ) (p : ℕ) → p < h * layout.width → wanted p ≡ further o (0 * (a.source_step * layout.row_pitch) + 0 * (b.source_step * layout.column_pitch)) → IfSome o (λ s. s < 4294967296)
      by None p below is = tt
      by (Some s) p below is = let l = inside p (s + (0 * (a.source_step * layout.row_pitch) + 0 * (b.source_step * layout.column_pitch))) below is in omega arith

  corners_small : (rows columns : List Run) → AreRunsOf h f rows → AreRunsOf layout.width g columns → 1 ≤ layout.width → HaveSmallCorners layout rows columns
  corners_small rows columns all_rows all_columns some =
      all_each (λ a. (a.first * layout.width < 4294967296) × All (HasSmallCorner layout a) columns) rows
      (each_weaker (IsRunOf h f) (λ a. (a.first * layout.width < 4294967296) × All (HasSmallCorner layout a) columns)
      (λ a at. (let l = element_below (place_of a 0) 0 (at.inside 0 at.some) some in omega arith, all_each (HasSmallCorner layout a) columns (each_weaker (IsRunOf layout.width g) (HasSmallCorner layout a) (λ b bt. corner_small a b at bt) columns all_columns.each))) rows all_rows.each)

small_run : (n : ℕ) (axis : ℕ → Option ℕ) → n < 4294967296 → ((i s : ℕ) → i < n → axis i ≡ Some s → s < 4294967296) → (run : Run) → IsRunOf n axis run → HasSmallPlaces run
small_run n axis few below run is = record {
  places = λ r row. let l = is.inside r row in omega arith;
  sources = λ r s row at. below (place_of run r) (s + r * run.source_step) (is.inside r row) (is.sources r row ∙ ap (λ o. further o (r * run.source_step)) at);
}

small_runs : (n : ℕ) (axis : ℕ → Option ℕ) (runs : List Run) → n < 4294967296 → ((i s : ℕ) → i < n → axis i ≡ Some s → s < 4294967296) → AreRunsOf n axis runs → All HasSmallPlaces runs
small_runs n axis runs few below all = all_each HasSmallPlaces runs (each_weaker (IsRunOf n axis) HasSmallPlaces (small_run n axis few below) runs all.each)

-- ---- a mapping

-- a place that is said to be one of few is small
found_small : (n : ℕ) (k : ℤ) (s : ℕ) → place_within n k ≡ Some s → s < n
found_small n k s is = ((place_within-is n k s).0 is).1

module _ (shape : Extent) (piece : Piece) (e : IsExtent shape) where
  pub shape_small : (shape.rows ≤ 1048576) × (shape.cols ≤ 1048576)
  shape_small =
      let rows = factor_within shape.rows shape.cols 1048576 e.some_cols e.within in
      let turned : shape.cols * shape.rows ≤ 1048576 = omega (arith, e.within) in
      (rows, factor_within shape.cols shape.rows 1048576 e.some_rows turned)

  some_is : (x s : ℕ) → Some x ≡ Some s → x ≡ s
  some_is x s is = cc

  section_inside : (r0 nr sr c0 nc sc : ℕ) → FitsShape (Section r0 nr sr c0 nc sc) shape → (i j : ℕ) → i < nr → j < nc → IsIndex shape (r0 + i * sr) (c0 + j * sc)
  section_inside r0 nr sr c0 nc sc f i j row column = source_of-inside (Section r0 nr sr c0 nc sc) shape i j e f (record { row = row; col = column })

  stretch_inside : (kr kc : ℕ) → FitsShape (Stretch kr kc) shape → (i j : ℕ) → i < shape.rows * kr → j < shape.cols * kc → IsIndex shape (i / kr) (j / kc)
  stretch_inside kr kc f i j row column = source_of-inside (Stretch kr kc) shape i j e f (record { row = row; col = column })

  row_below : (mapping : Mapping) → FitsShape mapping shape → IsPieceOf (result_shape mapping shape) piece → (i s : ℕ) → i < piece.h → row_axis mapping shape piece i ≡ Some s → s < 4294967296
  row_below Identity f inside i s below is = let same = some_is (piece.r0 + i) s is in omega (arith, shape_small, inside.rows_inside)
  row_below (Shift dr dc fill) f inside i s below is = let l = found_small shape.rows (pos (piece.r0 + i) +ℤ dr) s is in omega (arith, shape_small)
  row_below (Rotate dr dc) f inside i s below is = let same = some_is (place_round shape.rows (pos (piece.r0 + i) +ℤ dr)) s is in let l = rem_below shape.rows (pos (piece.r0 + i) +ℤ dr) (omega (arith, e.some_rows)) in omega (arith, shape_small)
  row_below (Section r0 nr sr c0 nc sc) f inside i s below is = let same = some_is (r0 + (piece.r0 + i) * sr) s is in let l = (section_inside r0 nr sr c0 nc sc f (piece.r0 + i) 0 (omega (arith, inside.rows_inside)) (omega (arith, inside.cols_inside, inside.some_cols))).row in omega (arith, shape_small)
  row_below (Stretch kr kc) f inside i s below is = let same = some_is ((piece.r0 + i) / kr) s is in let l = (stretch_inside kr kc f (piece.r0 + i) piece.c0 (omega (arith, inside.rows_inside)) (omega (arith, inside.cols_inside, inside.some_cols))).row in omega (arith, shape_small)
  row_below Transpose f inside i s below is = let same = some_is (piece.r0 + i) s is in omega (arith, shape_small, inside.rows_inside)

  column_below : (mapping : Mapping) → FitsShape mapping shape → IsPieceOf (result_shape mapping shape) piece → (j s : ℕ) → j < piece.w → column_axis mapping shape piece j ≡ Some s → s < 4294967296
  column_below Identity f inside j s below is = let same = some_is (piece.c0 + j) s is in omega (arith, shape_small, inside.cols_inside)
  column_below (Shift dr dc fill) f inside j s below is = let l = found_small shape.cols (pos (piece.c0 + j) +ℤ dc) s is in omega (arith, shape_small)
  column_below (Rotate dr dc) f inside j s below is = let same = some_is (place_round shape.cols (pos (piece.c0 + j) +ℤ dc)) s is in let l = rem_below shape.cols (pos (piece.c0 + j) +ℤ dc) (omega (arith, e.some_cols)) in omega (arith, shape_small)
  column_below (Section r0 nr sr c0 nc sc) f inside j s below is = let same = some_is (c0 + (piece.c0 + j) * sc) s is in let l = (section_inside r0 nr sr c0 nc sc f piece.r0 (piece.c0 + j) (omega (arith, inside.rows_inside, inside.some_rows)) (omega (arith, inside.cols_inside))).col in omega (arith, shape_small)
  column_below (Stretch kr kc) f inside j s below is = let same = some_is ((piece.c0 + j) / kc) s is in let l = (stretch_inside kr kc f piece.r0 (piece.c0 + j) (omega (arith, inside.rows_inside, inside.some_rows)) (omega (arith, inside.cols_inside))).col in omega (arith, shape_small)
  column_below Transpose f inside j s below is = let same = some_is (piece.c0 + j) s is in omega (arith, shape_small, inside.cols_inside)

pub piece_small : (shape : Extent) (piece : Piece) → IsExtent shape → IsPieceOf shape piece → (piece.r0 + piece.h ≤ 1048576) × (piece.c0 + piece.w ≤ 1048576)
piece_small shape piece e inside =
    let small = shape_small shape piece e in
    (omega (arith, small.0, inside.rows_inside), omega (arith, small.1, inside.cols_inside))

-- what the parts of `reads` ask for
module _ (leaf : Leaf) (from : ArrayPlace) (piece : Piece) (buffer : ℕ) (can : CanRead leaf from piece buffer) (e : IsExtent leaf.shape) where
  pub sources_inside : (p s : ℕ) → p < piece.h * piece.w → wanted_of leaf piece p ≡ Some s → s < elements_of from.shape
  sources_inside p s below is = let l = wanted_inside leaf piece e can.fits can.inside p s below is in omega (arith, can.as_many)

  few_elements : elements_of from.shape < 4294967296
  few_elements = omega (arith, can.as_many, e.within)

  few_places : piece.h * piece.w < 4294967296
  few_places = let l = at_least (piece.h * piece.w) (size_of leaf.elem) (some_bytes leaf.elem) in omega (arith, can.in_cells)

  pub can_combine : CanCombine (layout_of leaf.map leaf.shape piece) (row_runs leaf.map leaf.shape piece) (column_runs leaf.map leaf.shape piece)
  can_combine =
      let rows = row_runs leaf.map leaf.shape piece in
      let columns = column_runs leaf.map leaf.shape piece in
      let f' = row_axis leaf.map leaf.shape piece in
      let g' = column_axis leaf.map leaf.shape piece in
      let all_rows = rows_are leaf.shape piece leaf.map e can.fits can.inside in
      let all_columns = columns_are leaf.shape piece leaf.map e can.fits can.inside in
      let small = piece_small (result_shape leaf.map leaf.shape) piece (result_shape-IsExtent leaf.map leaf.shape e can.fits) can.inside in
      let made = corners_small (layout_of leaf.map leaf.shape piece) piece.h f' g' (wanted_of leaf piece) (wanted_splits leaf piece) (elements_of from.shape) sources_inside few_places few_elements in
      record {
        few_rows = let l = runs_few piece.h f' rows all_rows in omega (arith, small);
        few_columns = let l = runs_few piece.w g' columns all_columns in omega (arith, small);
        small_rows = small_runs piece.h f' rows (omega (arith, small)) (row_below leaf.shape piece e leaf.map can.fits can.inside) all_rows;
        small_columns = small_runs piece.w g' columns (omega (arith, small)) (column_below leaf.shape piece e leaf.map can.fits can.inside) all_columns;
        whole = made rows columns all_rows all_columns can.inside.some_cols;
        row_by_row = made (singles rows) columns (singles_are piece.h f' rows all_rows) all_columns can.inside.some_cols;
        column_by_column = made rows (singles columns) all_rows (singles_are piece.w g' columns all_columns) can.inside.some_cols;
      }

  pub patches_room : All (HasRoom (sides_of leaf.elem from buffer)) (plain_patches leaf piece)
  patches_room =
      let memory : end_of from ≡ from.place + elements_of from.shape * size_of leaf.elem = ap (λ t. from.place + elements_of from.shape * size_of t) can.elem_is in
      all_each (HasRoom (sides_of leaf.elem from buffer)) (plain_patches leaf piece)
      (each_weaker (IsPatchOf (piece.h * piece.w) (wanted_of leaf piece)) (HasRoom (sides_of leaf.elem from buffer))
      (patch_room (sides_of leaf.elem from buffer) (some_bytes leaf.elem) (piece.h * piece.w) (elements_of from.shape) (wanted_of leaf piece) sources_inside can.in_cells (omega (arith, can.in_memory)))
      (plain_patches leaf piece) (plain_patches_are leaf piece e can.fits can.inside).each)

  -- the same of what stands in code
  pub combine_from : (layout : Layout) (rows columns : List Run) → layout ≡ layout_of leaf.map leaf.shape piece → rows ≡ row_runs leaf.map leaf.shape piece → columns ≡ column_runs leaf.map leaf.shape piece → CanCombine layout rows columns
  combine_from layout rows columns l r s =
      subst (λ (x : Layout). CanCombine x rows columns) (sym l)
      (subst (λ x. CanCombine (layout_of leaf.map leaf.shape piece) x columns) (sym r)
      (subst (λ x. CanCombine (layout_of leaf.map leaf.shape piece) (row_runs leaf.map leaf.shape piece) x) (sym s) can_combine))

  pub room_from : (size : ℕ) (patches : List Patch) → size ≡ size_of leaf.elem → patches ≡ plain_patches leaf piece → All (HasRoom (record { size = size; array = from.place; buffer = buffer })) patches
  room_from size patches size_is is =
      subst (λ m. All (HasRoom (record { size = m; array = from.place; buffer = buffer })) patches) (sym size_is)
      (subst (λ x. All (HasRoom (sides_of leaf.elem from buffer)) x) (sym is) patches_room)

-- the patches of what stands in code
pub same_patches : (leaf : Leaf) (piece : Piece) (keeps : Bool) (layout : Layout) (rows columns : List Run) → keeps ≡ keeps_neighbours leaf.map → layout ≡ layout_of leaf.map leaf.shape piece → rows ≡ row_runs leaf.map leaf.shape piece → columns ≡ column_runs leaf.map leaf.shape piece
    → patches_of keeps layout piece.h rows columns ≡ plain_patches leaf piece
same_patches leaf piece keeps layout rows columns k l r s =
    ap (λ x. patches_of x layout piece.h rows columns) k ∙ ap (λ (x : Layout). patches_of (keeps_neighbours leaf.map) x piece.h rows columns) l
    ∙ ap (λ x. patches_of (keeps_neighbours leaf.map) (layout_of leaf.map leaf.shape piece) piece.h x columns) r
    ∙ ap (λ x. patches_of (keeps_neighbours leaf.map) (layout_of leaf.map leaf.shape piece) piece.h (row_runs leaf.map leaf.shape piece) x) s
