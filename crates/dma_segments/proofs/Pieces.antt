-- The patches of a piece are its patches, map by map.
use Rattle.std.proofs.Common.{◌≡◌, ℕ, zero, suc, ◌+◌, ◌-◌, ◌*◌, ◌/◌, ◌%◌, ◌<◌, ◌≤◌, Option, None, Some, List, [], ◌∷◌, ◌++◌, length, ap, ◌∙◌, refl, arith, min}
use Rattle.std.specs.Prelude.{ℤ, pos, negsuc, ◌+ℤ◌, map, Bool, true, false, nat_le, if◌then◌else◌, IfSome}
use Rattle.std.specs.List.{range_with_len}
use Rattle.std.specs.Option.{option_map}
use Rattle.dma_segments.specs.declared.patches.Patch.{Patch}
use Rattle.std.proofs.lemmas.Bool.{eqb-true, leb-false, false≢true}
use Rattle.std.proofs.lemmas.Nat.{mod_below, div-mul-add, mod-mul-add, div_below, mul-add-lt}
use Rattle.ven_base.specs.declared.mapping.Mapping.{Mapping}
use Rattle.ven_base.specs.declared.mapping.Mapping.TheVariants.{Identity, Shift, Rotate, Section, Stretch, Transpose}
use Rattle.ven_base.specs.Extent.{Extent, IsExtent, IsIndex, elements_of}
use Rattle.ven_base.specs.Place.{place_round}
use Rattle.ven_base.specs.Mapping.{source_of, result_shape, FitsShape, index_of_both}
use Rattle.ven_base.proofs.Sources.{source_of-inside}
use Rattle.pass_plan.specs.declared.leaf.Leaf.{Leaf}
use Rattle.pass_plan.specs.declared.parts.Piece.{Piece}
use Rattle.pass_plan.specs.Tile.{IsPieceOf}
use Rattle.dma_segments.specs.declared.patches.Run.{Run}
use Rattle.dma_segments.specs.declared.patches.Layout.{Layout}
use Rattle.dma_segments.specs.Run.{neighbours, unless_empty, some_places, shifted_runs, phase, phases, blocks, block_count, repeated_runs, single, singles, row_runs, column_runs}
use Rattle.dma_segments.specs.Patch.{layout_of, source_of_both, lines, crosses, keeps_neighbours, patches_of, read_patches}
use Rattle.dma_segments.specs.Put.{source_in}
use Rattle.dma_segments.proofs.AxisRuns.{AreRunsOf, shifted_axis, round_axis, cut_axis, repeated_axis, row_axis, column_axis}
use Rattle.dma_segments.proofs.PiecePatches.{ArePatchesOf}
use Rattle.dma_segments.proofs.Lists.{Each, each_append, each_map}
use Rattle.dma_segments.proofs.Product.{IsClose, lines_make, crosses_make}
use Rattle.dma_segments.proofs.Joins.{joins_are}
use Rattle.dma_segments.proofs.Axes.{each_in_range, block_some, plain_is, shifted_is, round_runs_is, cut_is, repeated_is, singles_are}

-- ---- runs of neighbours

close_places : (first n : ℕ) (source : Option ℕ) → IsClose 1 (neighbours first n source)
close_places first n source = record { step_is = refl; pitch_is = λ many. omega arith }

close_some : (first n : ℕ) (source : Option ℕ) → Each (IsClose 1) (some_places first n source)
close_some first n source = by n
  where
    by : (m : ℕ) → Each (IsClose 1) (unless_empty m (neighbours first n source))
    by zero = tt
    by (suc m) = (close_places first n source, tt)

close_two : (m n : ℕ) (X Y : Option ℕ) → Each (IsClose 1) (some_places 0 m X ++ some_places m n Y)
close_two m n X Y = each_append (IsClose 1) (some_places 0 m X) (some_places m n Y) (close_some 0 m X) (close_some m n Y)

close_shifted : (size : ℕ) (d : ℤ) (start n : ℕ) → Each (IsClose 1) (shifted_runs size d start n)
close_shifted size (pos k) start n = let m = min n (size - (start + k)) in close_two m (n - m) (Some (start + k)) None
close_shifted size (negsuc k) start n = let m = min n (suc k - start) in close_two m (n - m) None (Some (start + m - suc k))

close_repeated : (times start n : ℕ) → times ≡ 1 → 1 ≤ n → Each (IsClose 1) (repeated_runs times start n)
close_repeated times start n one some = by (nat_le (min times n) (block_count times start n)) refl
  where
    by : (t : Bool) → nat_le (min times n) (block_count times start n) ≡ t → Each (IsClose 1) (if t then phases times start n else blocks times start n)
    by true e = each_map (phase times start n) (IsClose 1) (range_with_len 0 (min times n)) (each_in_range (λ p. IsClose 1 (phase times start n p)) 0 (min times n) (λ p low high. record { step_is = one; pitch_is = λ many. omega arith }))
    by false e = let many = leb-false (min times n) (block_count times start n) e in let few = block_some times start n (omega arith) some in absurd (omega arith)

close_singles : (pitch : ℕ) (runs : List Run) → Each (IsClose pitch) (singles runs)
close_singles pitch [] = tt
close_singles pitch (run ∷ runs) =
    each_append (IsClose pitch) (map (single run) (range_with_len 0 run.count)) (singles runs)
    (each_map (single run) (IsClose pitch) (range_with_len 0 run.count) (each_in_range (λ r. IsClose pitch (single run r)) 0 run.count (λ r low high. record { step_is = refl; pitch_is = λ many. absurd (omega arith) })))
    (close_singles pitch runs)

count_singles : (runs : List Run) → Each (λ a. a.count ≡ 1) (singles runs)
count_singles [] = tt
count_singles (run ∷ runs) =
    each_append (λ a. a.count ≡ 1) (map (single run) (range_with_len 0 run.count)) (singles runs)
    (each_map (single run) (λ a. a.count ≡ 1) (range_with_len 0 run.count) (each_in_range (λ r. (single run r).count ≡ 1) 0 run.count (λ r low high. refl)))
    (count_singles runs)

-- ---- the patches of two axes

pub patches_are : (keeps : Bool) (layout : Layout) (h : ℕ) (f g : ℕ → Option ℕ) (rows cols : List Run) (wanted : ℕ → Option ℕ)
    → ((i j : ℕ) → i < h → j < layout.width → wanted (i * layout.width + j) ≡ source_of_both layout (f i) (g j))
    → 1 ≤ layout.width → AreRunsOf h f rows → AreRunsOf layout.width g cols
    → (keeps ≡ true → Each (IsClose layout.column_pitch) cols) → ArePatchesOf (h * layout.width) wanted (patches_of keeps layout h rows cols)
patches_are true layout h f g rows cols wanted wanted_is some rows_are cols_are close =
    lines_make layout h f g wanted wanted_is rows cols some rows_are cols_are (close refl)
patches_are false layout h f g rows cols wanted wanted_is some rows_are cols_are close = by (nat_le (h * length cols) (length rows * layout.width))
  where
    by : (b : Bool) → ArePatchesOf (h * layout.width) wanted (if b then crosses layout (singles rows) cols else lines layout rows (singles cols))
    by true = crosses_make layout h f g wanted wanted_is (singles rows) cols some (singles_are h f rows rows_are) cols_are (count_singles rows)
    by false = lines_make layout h f g wanted wanted_is rows (singles cols) some rows_are (singles_are layout.width g cols cols_are) (close_singles layout.column_pitch cols)

-- ---- map by map

module _ (shape : Extent) (piece : Piece) where
  -- the patches before rows are joined
  abbrev pub patches_with : Mapping → List Patch
  patches_with mapping = patches_of (keeps_neighbours mapping) (layout_of mapping shape piece) piece.h (row_runs mapping shape piece) (column_runs mapping shape piece)

  pub rows_are : (mapping : Mapping) → IsExtent shape → FitsShape mapping shape → IsPieceOf (result_shape mapping shape) piece → AreRunsOf piece.h (row_axis mapping shape piece) (row_runs mapping shape piece)
  rows_are Identity e f inside = plain_is piece.r0 piece.h inside.some_rows
  rows_are (Shift dr dc fill) e f inside = shifted_is shape.rows dr piece.r0 piece.h inside.rows_inside
  rows_are (Rotate dr dc) e f inside = round_runs_is shape.rows dr piece.r0 piece.h e.some_rows (omega (arith, inside.rows_inside))
  rows_are (Section r0 nr sr c0 nc sc) e f inside = cut_is r0 sr piece.r0 piece.h inside.some_rows
  rows_are (Stretch kr kc) e f inside = repeated_is kr piece.r0 piece.h f.some_rows inside.some_rows
  rows_are Transpose e f inside = plain_is piece.r0 piece.h inside.some_rows

  pub columns_are : (mapping : Mapping) → IsExtent shape → FitsShape mapping shape → IsPieceOf (result_shape mapping shape) piece → AreRunsOf piece.w (column_axis mapping shape piece) (column_runs mapping shape piece)
  columns_are Identity e f inside = plain_is piece.c0 piece.w inside.some_cols
  columns_are (Shift dr dc fill) e f inside = shifted_is shape.cols dc piece.c0 piece.w inside.cols_inside
  columns_are (Rotate dr dc) e f inside = round_runs_is shape.cols dc piece.c0 piece.w e.some_cols (omega (arith, inside.cols_inside))
  columns_are (Section r0 nr sr c0 nc sc) e f inside = cut_is c0 sc piece.c0 piece.w inside.some_cols
  columns_are (Stretch kr kc) e f inside = repeated_is kc piece.c0 piece.w f.some_cols inside.some_cols
  columns_are Transpose e f inside = plain_is piece.c0 piece.w inside.some_cols

  columns_close : (mapping : Mapping) → IsPieceOf (result_shape mapping shape) piece → keeps_neighbours mapping ≡ true → Each (IsClose (layout_of mapping shape piece).column_pitch) (column_runs mapping shape piece)
  columns_close Identity inside keeps = (close_places 0 piece.w (Some piece.c0), tt)
  columns_close (Shift dr dc fill) inside keeps = close_shifted shape.cols dc piece.c0 piece.w
  columns_close (Rotate dr dc) inside keeps = let q = place_round shape.cols (pos piece.c0 +ℤ dc) in let m = min piece.w (shape.cols - q) in close_two m (piece.w - m) (Some q) (Some 0)
  columns_close (Section r0 nr sr c0 nc sc) inside keeps = let one = eqb-true sc 1 keeps in (record { step_is = refl; pitch_is = λ many. omega arith }, tt)
  columns_close (Stretch kr kc) inside keeps = close_repeated kc piece.c0 piece.w (eqb-true kc 1 keeps) inside.some_cols
  columns_close Transpose inside keeps = absurd (false≢true keeps)

-- ---- an element of the piece

-- the number of the element from which element p of the piece comes, row by row
abbrev pub wanted_of : Leaf → Piece → ℕ → Option ℕ
wanted_of leaf piece p = source_in leaf piece (p / piece.w) (p % piece.w)

module _ (leaf : Leaf) (piece : Piece) where
  both_numbers : (Y X : Option ℕ) → option_map (λ s. s.0 * leaf.shape.cols + s.1) (index_of_both Y X) ≡ source_of_both (record { width = piece.w; row_pitch = leaf.shape.cols; column_pitch = 1 }) Y X
  both_numbers None None = refl
  both_numbers None (Some x) = refl
  both_numbers (Some y) None = refl
  both_numbers (Some y) (Some x) = let e : y * leaf.shape.cols + x ≡ y * leaf.shape.cols + x * 1 = omega arith in ap (λ n. Some n) e

  -- an element's source is that of its row and its column
  pub source_splits : (mapping : Mapping) (i j : ℕ) → option_map (λ s. s.0 * leaf.shape.cols + s.1) (source_of mapping leaf.shape (piece.r0 + i) (piece.c0 + j))
      ≡ source_of_both (layout_of mapping leaf.shape piece) (row_axis mapping leaf.shape piece i) (column_axis mapping leaf.shape piece j)
  source_splits Identity i j = both_numbers (Some (piece.r0 + i)) (Some (piece.c0 + j))
  source_splits (Shift dr dc fill) i j = both_numbers (shifted_axis leaf.shape.rows dr piece.r0 i) (shifted_axis leaf.shape.cols dc piece.c0 j)
  source_splits (Rotate dr dc) i j = both_numbers (round_axis leaf.shape.rows dr piece.r0 i) (round_axis leaf.shape.cols dc piece.c0 j)
  source_splits (Section r0 nr sr c0 nc sc) i j = both_numbers (cut_axis r0 sr piece.r0 i) (cut_axis c0 sc piece.c0 j)
  source_splits (Stretch kr kc) i j = both_numbers (repeated_axis kr piece.r0 i) (repeated_axis kc piece.c0 j)
  source_splits Transpose i j =
      let e : (piece.c0 + j) * leaf.shape.cols + (piece.r0 + i) ≡ (piece.r0 + i) * 1 + (piece.c0 + j) * leaf.shape.cols = omega arith in
      ap (λ n. Some n) e

  -- the row and the column of an element
  pub element_at : (T : Type 0) (F : ℕ → ℕ → T) (i j : ℕ) → j < piece.w → F ((i * piece.w + j) / piece.w) ((i * piece.w + j) % piece.w) ≡ F i j
  element_at T F i j col = ap (λ m. F m ((i * piece.w + j) % piece.w)) (div-mul-add i piece.w j col) ∙ ap (F i) (mod-mul-add i piece.w j col)

  pub wanted_splits : (i j : ℕ) → i < piece.h → j < piece.w
      → wanted_of leaf piece (i * piece.w + j) ≡ source_of_both (layout_of leaf.map leaf.shape piece) (row_axis leaf.map leaf.shape piece i) (column_axis leaf.map leaf.shape piece j)
  wanted_splits i j row col = element_at (Option ℕ) (source_in leaf piece) i j col ∙ source_splits leaf.map i j

  -- its source is an element of the array
  number_inside : (o : Option (ℕ × ℕ)) (s : ℕ) → IfSome o (λ x. IsIndex leaf.shape x.0 x.1) → option_map (λ x. x.0 * leaf.shape.cols + x.1) o ≡ Some s → s < elements_of leaf.shape
  number_inside None s at is = absurd (cc)
  number_inside (Some x) s at is =
      let e : x.0 * leaf.shape.cols + x.1 ≡ s = cc in
      let l = mul-add-lt x.0 leaf.shape.cols x.1 leaf.shape.rows at.row at.col in
      omega arith

  abbrev pub plain_patches : List Patch
  plain_patches = patches_with leaf.shape piece leaf.map

  module _ (e : IsExtent leaf.shape) (f : FitsShape leaf.map leaf.shape) (inside : IsPieceOf (result_shape leaf.map leaf.shape) piece) where
    pub source_inside : (i j s : ℕ) → i < piece.h → j < piece.w → source_in leaf piece i j ≡ Some s → s < elements_of leaf.shape
    source_inside i j s row col is =
        let at : IsIndex (result_shape leaf.map leaf.shape) (piece.r0 + i) (piece.c0 + j) = record { row = omega (arith, inside.rows_inside); col = omega (arith, inside.cols_inside) } in
        number_inside (source_of leaf.map leaf.shape (piece.r0 + i) (piece.c0 + j)) s (source_of-inside leaf.map leaf.shape (piece.r0 + i) (piece.c0 + j) e f at) is

    pub wanted_inside : (p s : ℕ) → p < piece.h * piece.w → wanted_of leaf piece p ≡ Some s → s < elements_of leaf.shape
    wanted_inside p s below is = source_inside (p / piece.w) (p % piece.w) s (div_below p piece.w piece.h inside.some_cols below) (mod_below p piece.w inside.some_cols) is

    pub plain_patches_are : ArePatchesOf (piece.h * piece.w) (wanted_of leaf piece) plain_patches
    plain_patches_are =
        patches_are (keeps_neighbours leaf.map) (layout_of leaf.map leaf.shape piece) piece.h (row_axis leaf.map leaf.shape piece) (column_axis leaf.map leaf.shape piece) (row_runs leaf.map leaf.shape piece) (column_runs leaf.map leaf.shape piece) (wanted_of leaf piece)
        (wanted_splits) inside.some_cols (rows_are leaf.shape piece leaf.map e f inside) (columns_are leaf.shape piece leaf.map e f inside) (columns_close leaf.shape piece leaf.map inside)

    pub read_patches_are : ArePatchesOf (piece.h * piece.w) (wanted_of leaf piece) (read_patches leaf.map leaf.shape piece)
    read_patches_are = joins_are (piece.h * piece.w) (wanted_of leaf piece) plain_patches plain_patches_are
