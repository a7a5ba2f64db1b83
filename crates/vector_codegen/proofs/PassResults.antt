-- From the leaves' pieces in their buffers, a tile's instructions leave its results.
use Rattle.std.proofs.Common.{◌≡◌, ℕ, zero, suc, ◌+◌, ◌-◌, ◌*◌, ◌/◌, ◌%◌, ◌<◌, ap, sym, ◌∙◌, subst, refl, arith, List, [], ◌++◌, length, get_or, Bool, true, false, ℤ, pos, ◌+ℤ◌, All, None, Some}
use Rattle.std.specs.Prelude.{if◌then◌else◌, ◌==◌}
use Rattle.std.proofs.lemmas.Bool.{eqb-true}
use Rattle.std.proofs.lemmas.Nat.{mul-le}
use Rattle.ven_base.specs.declared.elem.Elem.{Elem}
use Rattle.ven_base.specs.declared.ops.Fold.{Fold}
use Rattle.ven_base.specs.declared.ops.Fold.TheVariants as fold
use Rattle.ven_base.specs.Elem.{size_of, IsElement}
use Rattle.ven_base.specs.Wrap.{wrapped}
use Rattle.ven_base.specs.Operation.{applied2}
use Rattle.ven_base.specs.Folding.{total_of, folded, IsFolded, joined}
use Rattle.ven_base.specs.Grid.{row_values}
use Rattle.ven_base.specs.Mapping.{fill_of}
use Rattle.ven_base.specs.Store.{Store, in_cells}
use Rattle.ven_base.proofs.Wrapped.{wrapped_in, IsElement-wrapped}
use Rattle.ven_base.proofs.Operations.{IsElement-min, IsElement-max}
use Rattle.ven_base.proofs.Reductions.{total_of-append, IsFolded-unique, IsFolded-append, IsElement-IsFolded}
use Rattle.ven_base.proofs.Made.{row_values-length, row_values-all}
use Rattle.pass_plan.specs.declared.parts.Tile.{Tile}
use Rattle.pass_plan.specs.declared.pass.PassKind.{PassKind}
use Rattle.pass_plan.specs.declared.pass.PassKind.TheVariants.{Map, Reduce}
use Rattle.pass_plan.specs.declared.split.ArrayPlace.{ArrayPlace}
use Rattle.pass_plan.specs.Tree.{elem_of}
use Rattle.pass_plan.specs.Pass.{Pass, Arrays, no_leaf, leaf_at, tree_at}
use Rattle.pass_plan.specs.Tile.{across, first_row, first_column}
use Rattle.pass_plan.specs.Buffers.{is_map, made_so_far, byte_of_value, begins_row, piece_results, result_at}
use Rattle.pass_plan.specs.Sound.{IsSoundPass, HasArrays}
use Rattle.pass_plan.proofs.Tilings.{size_some}
use Rattle.pass_plan.proofs.Values.{leaf_at-IsElement, tree_at-IsElement}
use Rattle.dma_segments.specs.Put.{source_in}
use Rattle.dma_segments.specs.Effect.{HasByte}
use Rattle.dma_segments.specs.Laws.{leaf_of}
use Rattle.vector_codegen.specs.Work.{Shape, column_of, Buffers, leaf_buffer, out_buffer}
use Rattle.vector_codegen.specs.Root.{better_of}
use Rattle.vector_codegen.specs.Effect.{IsTileNumber, tile_piece, HoldsTile, HoldsItsResults}
use Rattle.vector_codegen.proofs.Held.{element_place, Spells, Holds, values_of}
use Rattle.vector_codegen.proofs.Elements.{spells_as}
use Rattle.vector_codegen.proofs.Blocks.{index_below}
use Rattle.vector_codegen.proofs.Bytes.{byte_there, byte_below, byte_shown, value_spelled, value_byte, spells_inside}
use Rattle.vector_codegen.proofs.Halving.{IsBest}
use Rattle.vector_codegen.proofs.BestPasses.{HasBestSoFar, row_of}
use Rattle.vector_codegen.proofs.SumPasses.{with_row}
use Rattle.vector_codegen.proofs.Totals.{row_sum}
use Rattle.vector_codegen.proofs.Rows.{columns_from, row_both, total_is, fold_of, best_is_folded, folded_is}
use Rattle.vector_codegen.proofs.Tiles.{HasResults, HoldsResults}
use Rattle.vector_codegen.proofs.PassTiles.{shape, buffers, is_piece, some_tile, tree_elem, row_there, column_there, leaf_blank, leaf_sourced}

module _ (pass : Pass) (tile : Tile) (t : ℕ) (places : List ArrayPlace) (later : List ℕ) (sound : IsSoundPass places later pass) (number : IsTileNumber pass tile t) (arrays : Arrays) (are : HasArrays places arrays pass.leaves) where
  abbrev pub S : Shape
  S = shape pass tile t places later sound number

  abbrev pub B : Buffers
  B = buffers pass tile t places later sound number

  abbrev pub r0 : ℕ
  r0 = first_row pass.domain tile t

  abbrev pub c0 : ℕ
  c0 = first_column pass.domain tile t

  -- the leaves' values at all indices of the piece
  abbrev pub leaf_values : ℕ → ℕ → ℤ
  leaf_values i k = leaf_at arrays (leaf_of pass k) (r0 + i / S.cols) (c0 + i % S.cols)

  leaf_value : (k row column : ℕ) → column < S.cols → leaf_values (row * S.cols + column) k ≡ leaf_at arrays (leaf_of pass k) (r0 + row) (c0 + column)
  leaf_value k row column within =
      ap (λ x. leaf_at arrays (leaf_of pass k) (r0 + x) (c0 + (row * S.cols + column) % S.cols)) (row_there pass tile t places later sound number row column within)
      ∙ ap (λ x. leaf_at arrays (leaf_of pass k) (r0 + row) (c0 + x)) (column_there pass tile t places later sound number row column within)

  pub blank_value : (k row column : ℕ) → k < length pass.leaves → row < S.rows → column < S.cols → source_in (leaf_of pass k) (tile_piece pass tile t) row column ≡ None → leaf_values (row * S.cols + column) k ≡ fill_of (leaf_of pass k).map
  blank_value k row column below row_within within blank = leaf_value k row column within ∙ leaf_blank arrays (leaf_of pass k) (r0 + row) (c0 + column) blank

  -- the tree's values in the row of the domain
  abbrev pub row_at : ℕ → ℕ → ℤ
  row_at r = tree_at arrays pass (r0 + r)

  tree_value : (row column : ℕ) → column < S.cols → values_of leaf_values pass.tree (row * S.cols + column) ≡ row_at row (c0 + column)
  tree_value row column within =
      ap (λ x. tree_at arrays pass (r0 + x) (c0 + (row * S.cols + column) % S.cols)) (row_there pass tile t places later sound number row column within)
      ∙ ap (λ x. tree_at arrays pass (r0 + row) (c0 + x)) (column_there pass tile t places later sound number row column within)

  -- ---- what is given

  module _ (store : Store) (given : HoldsTile pass tile t arrays store) where
    pub sourced : (k row column index : ℕ) → k < length pass.leaves → row < S.rows → column < S.cols → source_in (leaf_of pass k) (tile_piece pass tile t) row column ≡ Some index
        → Spells (leaf_of pass k).elem store.cells (element_place S (leaf_of pass k).elem (leaf_buffer B k) (row * S.cols + column)) (leaf_values (row * S.cols + column) k)
    sourced k row column index below row_within column_within mapped =
        let leaf = leaf_of pass k in
        let n = get_or (arrays leaf.array).values index (pos 0) in
        let place = element_place S leaf.elem (leaf_buffer B k) (row * S.cols + column) in
        let value : leaf_values (row * S.cols + column) k ≡ n = leaf_value k row column column_within ∙ leaf_sourced arrays leaf (r0 + row) (c0 + column) index mapped in
        let range : IsElement leaf.elem n = subst (IsElement leaf.elem) (leaf_sourced arrays leaf (r0 + row) (c0 + column) index mapped) (leaf_at-IsElement places later pass arrays sound are leaf (r0 + row) (c0 + column) (sound.leaves k no_leaf below) (are k no_leaf below)) in
        let shown : (b : ℕ) → b < size_of leaf.elem → HasByte store (in_cells (place + b)) (byte_of_value leaf.elem n b) = λ b within. given.leaves k (place + b) (byte_of_value leaf.elem n b) (record {
          stands = record { row = row; column = column; b = b; index = index; number_within = below; row_within = row_within; column_within = column_within; b_within = within; mapped = mapped; is = omega arith };
          is = refl;
        }) in
        let last = size_of leaf.elem - 1 in
        let some = size_some leaf.elem in
        let inside = byte_below store (place + last) (byte_of_value leaf.elem n last) (shown last (omega arith)) in
        spells_as leaf.elem store.cells place place n (leaf_values (row * S.cols + column) k)
        (value_spelled leaf.elem n store.cells place range (omega arith) (λ b within. byte_there store (place + b) (byte_of_value leaf.elem n b) (shown b within)))
        refl (sym value)

    -- the results so far, by the kind of the pass
    carried : (kind : Fold) → pass.kind ≡ Reduce kind → begins_row pass tile t ≡ false → ((r : ℕ) → r < S.rows → IsElement pass.elem (folded kind pass.elem (row_values c0 (row_at r)))) → Holds (column_of S) pass.elem store.cells (out_buffer B) (λ r. folded kind pass.elem (row_values c0 (row_at r)))
    carried kind kind_is later_tile range = record {
      each = λ r below.
          let n = folded kind pass.elem (row_values c0 (row_at r)) in
          let row : r < S.rows = omega arith in
          let place = element_place (column_of S) pass.elem (out_buffer B) r in
          let same : made_so_far arrays pass pass.kind (r0 + r) 0 c0 ≡ n = ap (λ kind. made_so_far arrays pass kind (r0 + r) 0 c0) kind_is in
          let shown : (b : ℕ) → b < size_of pass.elem → HasByte store (in_cells (place + b)) (byte_of_value pass.elem n b) = λ b within. given.carried (place + b) (byte_of_value pass.elem n b) (record {
            later = later_tile;
            row = r;
            b = b;
            row_within = row;
            b_within = within;
            stands = omega arith;
            is = ap (λ v. byte_of_value pass.elem v b) (sym same);
          }) in
          let last = size_of pass.elem - 1 in
          let some = size_some pass.elem in
          let inside = byte_below store (place + last) (byte_of_value pass.elem n last) (shown last (omega arith)) in
          value_spelled pass.elem n store.cells place (range r row) (omega arith) (λ b within. byte_there store (place + b) (byte_of_value pass.elem n b) (shown b within));
    }

    -- ---- rows, so far and with the tile

    all_elements : (r columns : ℕ) → All (IsElement pass.elem) (row_values columns (row_at r))
    all_elements r columns = row_values-all (IsElement pass.elem) columns (row_at r) (λ j below. tree_at-IsElement places later pass arrays sound are (r0 + r) j)

    folded_element : (kind : Fold) (r columns : ℕ) → 0 < columns → IsElement pass.elem (folded kind pass.elem (row_values columns (row_at r)))
    folded_element kind r columns some =
        IsElement-IsFolded kind pass.elem (row_values columns (row_at r)) (folded kind pass.elem (row_values columns (row_at r))) (all_elements r columns)
        (folded_is kind pass.elem (row_values columns (row_at r)) (rw (row_values-length columns (row_at r)) some))

    -- a row's first tile begins at column 0, a later one doesn't
    in_across : (kind : Fold) → pass.kind ≡ Reduce kind → begins_row pass tile t ≡ ((t % across pass.domain tile) == 0)
    in_across kind kind_is = ap (λ kind. (t % (if is_map kind then 1 else across pass.domain tile)) == 0) kind_is

    at_first : (kind : Fold) → pass.kind ≡ Reduce kind → begins_row pass tile t ≡ true → c0 ≡ 0
    at_first kind kind_is first =
        let none : t % across pass.domain tile ≡ 0 = eqb-true (t % across pass.domain tile) 0 (sym (in_across kind kind_is) ∙ first) in
        ap (λ n. n * tile.w) none ∙ omega arith

    at_later : (kind : Fold) → pass.kind ≡ Reduce kind → begins_row pass tile t ≡ false → 0 < c0
    at_later kind kind_is later_tile = go (t % across pass.domain tile) (sym (in_across kind kind_is) ∙ later_tile)
      where
        go : (n : ℕ) → (n == 0) ≡ false → 0 < n * tile.w
        go zero is = absurd (cc)
        go (suc n) is = let wide = (some_tile pass tile t places later sound number).1 in let all = mul-le 1 1 (suc n) tile.w (omega arith) wide in omega arith

    -- what holds before the tile, by the kind of the pass
    abbrev pub so_far_of : PassKind → ℕ → ℤ
    so_far_of Map r = pos 0
    so_far_of (Reduce fold.Sum) r = total_of (row_values c0 (row_at r))
    so_far_of (Reduce fold.Min) r = folded fold.Min pass.elem (row_values c0 (row_at r))
    so_far_of (Reduce fold.Max) r = folded fold.Max pass.elem (row_values c0 (row_at r))

    column_holds : (elem : Elem) (value : ℕ → ℤ) → elem ≡ pass.elem → Holds (column_of S) pass.elem store.cells (out_buffer B) value → Holds (column_of S) elem store.cells (out_buffer B) value
    column_holds elem value same holds = subst (λ elem. Holds (column_of S) elem store.cells (out_buffer B) value) (sym same) holds

    best_so_far : (kind : Fold) → pass.kind ≡ Reduce kind → HasBestSoFar S B (elem_of pass.tree) (begins_row pass tile t) (λ r. folded kind pass.elem (row_values c0 (row_at r))) store.cells
    best_so_far kind kind_is = record {
      some = λ later_tile. column_holds (elem_of pass.tree) (λ r. folded kind pass.elem (row_values c0 (row_at r))) (tree_elem pass tile t places later sound number)
          (carried kind kind_is later_tile (λ r row. folded_element kind r c0 (at_later kind kind_is later_tile)));
    }

    pub results_before : (kind : PassKind) → pass.kind ≡ kind → HasResults kind S B pass.tree (begins_row pass tile t) (so_far_of kind) store.cells
    results_before Map kind_is = tt
    results_before (Reduce fold.Sum) kind_is = record {
      none = λ first r. let start = at_first fold.Sum kind_is first in ap (λ c. total_of (row_values c (row_at r))) start;
      some = λ later_tile. column_holds (elem_of pass.tree) (λ r. wrapped (elem_of pass.tree) (total_of (row_values c0 (row_at r)))) (tree_elem pass tile t places later sound number)
          (subst (λ elem. Holds (column_of S) pass.elem store.cells (out_buffer B) (λ r. wrapped elem (total_of (row_values c0 (row_at r))))) (sym (tree_elem pass tile t places later sound number))
          (carried fold.Sum kind_is later_tile (λ r row. IsElement-wrapped pass.elem _)));
    }
    results_before (Reduce fold.Min) kind_is = best_so_far fold.Min kind_is
    results_before (Reduce fold.Max) kind_is = best_so_far fold.Max kind_is

    -- ---- what is left

    -- the row with the tile's columns
    abbrev with_columns : Fold → ℕ → ℤ
    with_columns kind r = folded kind pass.elem (row_values (c0 + S.cols) (row_at r))

    sum_is : (r : ℕ) → wrapped (elem_of pass.tree) (with_row S leaf_values pass.tree (λ r. total_of (row_values c0 (row_at r))) r) ≡ with_columns fold.Sum r
    sum_is r =
        let before = row_values c0 (row_at r) in
        let here = columns_from (row_at r) c0 S.cols in
        ap (λ elem. wrapped elem (total_of before +ℤ row_sum (values_of leaf_values pass.tree) (r * S.cols) S.cols)) (tree_elem pass tile t places later sound number)
        ∙ ap (λ x. wrapped pass.elem (total_of before +ℤ x)) (total_is (values_of leaf_values pass.tree) (row_at r) S.cols (r * S.cols) c0 (λ j below. tree_value r j below))
        ∙ ap (wrapped pass.elem) (sym (total_of-append before here))
        ∙ ap (λ xs. wrapped pass.elem (total_of xs)) (sym (row_both (row_at r) c0 S.cols))

    joined_is : (least : Bool) (x y : ℤ) → IsElement pass.elem x → IsElement pass.elem y → applied2 (better_of least) pass.elem x y ≡ joined (fold_of least) pass.elem x y
    joined_is true x y x_in y_in = wrapped_in pass.elem _ (IsElement-min pass.elem x y x_in y_in)
    joined_is false x y x_in y_in = wrapped_in pass.elem _ (IsElement-max pass.elem x y x_in y_in)

    some_columns : 0 < S.cols
    some_columns = let some = (is_piece pass tile t places later sound number).some_cols in omega arith

    whole_folded : (kind : Fold) (r : ℕ) → IsFolded kind pass.elem (row_values (c0 + S.cols) (row_at r)) (with_columns kind r)
    whole_folded kind r = folded_is kind pass.elem (row_values (c0 + S.cols) (row_at r)) (rw (row_values-length (c0 + S.cols) (row_at r)) (let some = some_columns in omega arith))

    best_is : (least first : Bool) (r : ℕ) (x : ℤ) → pass.kind ≡ Reduce (fold_of least) → begins_row pass tile t ≡ first → IsBest least S.cols (row_of S leaf_values pass.tree r) x
        → (if first then x else applied2 (better_of least) (elem_of pass.tree) (folded (fold_of least) pass.elem (row_values c0 (row_at r))) x) ≡ with_columns (fold_of least) r
    best_is least true r x kind_is first best =
        let here = best_is_folded pass.elem (row_of S leaf_values pass.tree r) (row_at r) S.cols c0 x (λ j below. tree_value r j below) least best in
        let none : row_values c0 (row_at r) ≡ [] = ap (λ c. row_values c (row_at r)) (at_first (fold_of least) kind_is first) in
        let same : columns_from (row_at r) c0 S.cols ≡ row_values (c0 + S.cols) (row_at r) = sym (row_both (row_at r) c0 S.cols ∙ ap (λ xs. xs ++ columns_from (row_at r) c0 S.cols) none) in
        IsFolded-unique (fold_of least) pass.elem (row_values (c0 + S.cols) (row_at r)) x (with_columns (fold_of least) r) (subst (λ xs. IsFolded (fold_of least) pass.elem xs x) same here) (whole_folded (fold_of least) r)
    best_is least false r x kind_is later_tile best =
        let f = fold_of least in
        let before = folded f pass.elem (row_values c0 (row_at r)) in
        let here = best_is_folded pass.elem (row_of S leaf_values pass.tree r) (row_at r) S.cols c0 x (λ j below. tree_value r j below) least best in
        let some = at_later f kind_is later_tile in
        let first = folded_is f pass.elem (row_values c0 (row_at r)) (rw (row_values-length c0 (row_at r)) some) in
        let both = IsFolded-append f pass.elem (row_values c0 (row_at r)) (columns_from (row_at r) c0 S.cols) before x first here in
        let j = best.one.0 in
        let x_in : IsElement pass.elem x = subst (IsElement pass.elem) (sym (tree_value r j best.one.1) ∙ best.one.2) (tree_at-IsElement places later pass arrays sound are (r0 + r) (c0 + j)) in
        ap (λ elem. applied2 (better_of least) elem before x) (tree_elem pass tile t places later sound number)
        ∙ joined_is least before x (folded_element f r c0 some) x_in
        ∙ IsFolded-unique f pass.elem (row_values (c0 + S.cols) (row_at r)) (joined f pass.elem before x) (with_columns f r) (subst (λ xs. IsFolded f pass.elem xs (joined f pass.elem before x)) (sym (row_both (row_at r) c0 S.cols)) both) (whole_folded f r)

    module _ (after : Store) where
      -- a byte of an element that is spelled
      shown_at : (elem : Elem) (place b : ℕ) (n v : ℤ) (p byte : ℕ) → Spells elem after.cells place n → elem ≡ pass.elem → n ≡ v → b < size_of pass.elem → p ≡ place + b → byte ≡ byte_of_value pass.elem v b → HasByte after (in_cells p) byte
      shown_at elem place b n v p byte there same value within is byte_is =
          let spelled : Spells pass.elem after.cells place v = subst (λ e. Spells e after.cells place v) same (spells_as elem after.cells place place n v there refl value) in
          let inside = spells_inside pass.elem after.cells place v spelled in
          byte_shown after p byte (omega (arith, inside, is, within)) (rw is (value_byte pass.elem v after.cells place b spelled within ∙ sym byte_is))

      -- one result a row
      column_results : (kind : Fold) (value : ℕ → ℤ) → pass.kind ≡ Reduce kind → Holds (column_of S) (elem_of pass.tree) after.cells (out_buffer B) value → ((r : ℕ) → r < S.rows → value r ≡ with_columns kind r) → HoldsItsResults pass tile t arrays after
      column_results kind value kind_is holds values p byte shown =
          let at = shown.stands in
          let results : piece_results pass tile t ≡ 1 = ap (λ kind. if is_map kind then S.cols else 1) kind_is in
          let first : at.column ≡ 0 = let within = at.column_within in omega (arith, within, results) in
          let below : at.row < 1 * S.rows = let within = at.row_within in omega arith in
          let index : at.row * piece_results pass tile t + at.column ≡ at.row = ap (λ n. at.row * n + at.column) results ∙ omega (arith, first) in
          let same : result_at pass tile arrays t at.row at.column ≡ with_columns kind at.row = ap (λ kind. made_so_far arrays pass kind (r0 + at.row) (c0 + at.column) (c0 + S.cols)) kind_is in
          let there : element_place (column_of S) (elem_of pass.tree) (out_buffer B) at.row ≡ element_place (column_of S) pass.elem (out_buffer B) at.row = ap (λ e. element_place (column_of S) e (out_buffer B) at.row) (tree_elem pass tile t places later sound number) in
          let place : p ≡ element_place (column_of S) (elem_of pass.tree) (out_buffer B) at.row + at.b =
          at.is ∙ ap (λ n. out_buffer B * S.room + (n * size_of pass.elem + at.b)) index ∙ omega (arith, there) in
          shown_at (elem_of pass.tree) (element_place (column_of S) (elem_of pass.tree) (out_buffer B) at.row) at.b (value at.row) (with_columns kind at.row) p byte (holds.each at.row below) (tree_elem pass tile t places later sound number) (values at.row at.row_within) at.b_within place
          (shown.is ∙ ap (λ v. byte_of_value pass.elem v at.b) same)

      -- one result an element
      map_results : pass.kind ≡ Map → Holds S (elem_of pass.tree) after.cells (out_buffer B) (values_of leaf_values pass.tree) → HoldsItsResults pass tile t arrays after
      map_results kind_is holds p byte shown =
          let at = shown.stands in
          let results : piece_results pass tile t ≡ S.cols = ap (λ kind. if is_map kind then S.cols else 1) kind_is in
          let column : at.column < S.cols = let within = at.column_within in omega (arith, within, results) in
          let i = at.row * S.cols + at.column in
          let index : at.row * piece_results pass tile t + at.column ≡ i = ap (λ n. at.row * n + at.column) results in
          let same : result_at pass tile arrays t at.row at.column ≡ row_at at.row (c0 + at.column) = ap (λ kind. made_so_far arrays pass kind (r0 + at.row) (c0 + at.column) (c0 + S.cols)) kind_is in
          let there : element_place S (elem_of pass.tree) (out_buffer B) i ≡ element_place S pass.elem (out_buffer B) i = ap (λ e. element_place S e (out_buffer B) i) (tree_elem pass tile t places later sound number) in
          let place : p ≡ element_place S (elem_of pass.tree) (out_buffer B) i + at.b =
          at.is ∙ ap (λ n. out_buffer B * S.room + (n * size_of pass.elem + at.b)) index ∙ omega (arith, there) in
          shown_at (elem_of pass.tree) (element_place S (elem_of pass.tree) (out_buffer B) i) at.b (values_of leaf_values pass.tree i) (row_at at.row (c0 + at.column)) p byte (holds.each i (index_below S at.row at.column at.row_within column)) (tree_elem pass tile t places later sound number) (tree_value at.row at.column column) at.b_within place
          (shown.is ∙ ap (λ v. byte_of_value pass.elem v at.b) same)

      pub results_after : (kind : PassKind) → pass.kind ≡ kind → HoldsResults kind S B leaf_values pass.tree (begins_row pass tile t) (so_far_of kind) after.cells → HoldsItsResults pass tile t arrays after
      results_after Map kind_is holds = map_results kind_is holds
      results_after (Reduce fold.Sum) kind_is holds = column_results fold.Sum _ kind_is holds (λ r row. sum_is r)
      results_after (Reduce fold.Min) kind_is holds = column_results fold.Min _ kind_is holds.holds (λ r row. best_is true (begins_row pass tile t) r (holds.best r) kind_is refl (holds.is_best r row))
      results_after (Reduce fold.Max) kind_is holds = column_results fold.Max _ kind_is holds.holds (λ r row. best_is false (begins_row pass tile t) r (holds.best r) kind_is refl (holds.is_best r row))
