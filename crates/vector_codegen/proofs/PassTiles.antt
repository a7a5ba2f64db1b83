-- The tile of a pass in the words of its buffers: there is room, the types agree, and its fills are those of its leaves.
use Rattle.std.proofs.Common.{◌⊎◌, ◌≡◌, ℕ, ◌+◌, ◌*◌, ◌/◌, ◌%◌, ◌<◌, ◌≤◌, inl, inr, ap, sym, ◌∙◌, subst, refl, arith, lit<, List, [], ◌∷◌, length, get_or, true, not, ℤ, pos, Option, None, Some}
use Rattle.std.specs.Option.{option_map, option_map_or}
use Rattle.std.proofs.Math.Nat.{mul-le-mul_right}
use Rattle.std.proofs.lemmas.Nat.{div-mul-add, mod-mul-add, mod_below, mul-le}
use Rattle.std.proofs.lemmas.Bool.{false≢true}
use Rattle.ven_base.specs.declared.elem.Elem.{Elem}
use Rattle.ven_base.specs.Elem.{size_of, IsElement}
use Rattle.ven_base.specs.Cell.{Cell}
use Rattle.ven_base.specs.Mapping.{source_of, fill_of}
use Rattle.ven_base.specs.Grid.{value_at}
use Rattle.venice_isa.specs.Region.{Covers}
use Rattle.pass_plan.specs.declared.leaf.Leaf.{Leaf}
use Rattle.pass_plan.specs.declared.parts.Tile.{Tile}
use Rattle.pass_plan.specs.declared.pass.PassKind.{PassKind}
use Rattle.pass_plan.specs.declared.pass.PassKind.TheVariants.{Map, Reduce}
use Rattle.pass_plan.specs.declared.split.ArrayPlace.{ArrayPlace}
use Rattle.pass_plan.specs.Tree.{AtLeaf, Literal, One, Two, Cast, Move, Select, is_computed, elem_of}
use Rattle.pass_plan.specs.Pass.{Pass, Arrays, no_leaf, read_as, leaf_at}
use Rattle.pass_plan.specs.Need.{widest_in, buffers_of, result_buffers}
use Rattle.pass_plan.specs.Tile.{piece_of, IsPieceOf, IsTileOf}
use Rattle.pass_plan.specs.Buffers.{element_of, is_map, buffer_bytes, piece_rows, piece_columns}
use Rattle.pass_plan.specs.Sound.{IsTyped, IsSoundPass}
use Rattle.pass_plan.proofs.Tilings.{tile_some, piece_inside}
use Rattle.pass_plan.proofs.Sums.{each_below}
use Rattle.buffer_lifetimes.specs.Step.{Tree}
use Rattle.dma_segments.specs.declared.segments.Fill.{Fill}
use Rattle.dma_segments.specs.Put.{cells_of_fill, source_in, piece_cell}
use Rattle.dma_segments.specs.Laws.{leaf_of, leaf_cell}
use Rattle.dma_segments.proofs.Lists.{Each, AtLeastOne, one_any}
use Rattle.vector_codegen.specs.Work.{Shape, Buffers, leaf_buffer}
use Rattle.vector_codegen.specs.TileList.{tile_shape, tile_buffers}
use Rattle.vector_codegen.specs.Effect.{IsTileNumber, tile_piece, IsTileFill, AreTileFills}
use Rattle.vector_codegen.specs.Fit.{results_with, buffer_count}
use Rattle.vector_codegen.proofs.Held.{Typing, HasType, element_place, Spells, HasRoom}
use Rattle.vector_codegen.proofs.Blocks.{index_below, element_of as index_of}
use Rattle.vector_codegen.proofs.Types.{typing_of, has_type, own_type}
use Rattle.vector_codegen.proofs.Fills.{one_element, IsLeafFill, AreFills, IsWrittenBy, HoldsButFills}

results_same : (kind : PassKind) → results_with (not (is_map kind)) ≡ result_buffers kind
results_same Map = refl
results_same (Reduce fold) = refl

typed_elem : (leaves : List Leaf) (t : Tree) (asked : Elem) → is_computed t ≡ true → IsTyped leaves t asked → elem_of t ≡ asked
typed_elem leaves (AtLeaf k) asked inner typed = absurd (false≢true inner)
typed_elem leaves (Literal n) asked inner typed = absurd (false≢true inner)
typed_elem leaves (One op elem a) asked inner typed = typed.0
typed_elem leaves (Two op elem a c) asked inner typed = typed.0
typed_elem leaves (Cast elem from a) asked inner typed = typed.0
typed_elem leaves (Move elem a) asked inner typed = typed.0
typed_elem leaves (Select elem c x y) asked inner typed = typed.0

-- ---- a leaf's value, by whether it has a source

pub leaf_blank : (arrays : Arrays) (leaf : Leaf) (i j : ℕ) → element_of leaf i j ≡ None → leaf_at arrays leaf i j ≡ fill_of leaf.map
leaf_blank arrays leaf i j blank = by (source_of leaf.map leaf.shape i j) blank
  where
    by : (o : Option (ℕ × ℕ)) → option_map (λ s. s.0 * leaf.shape.cols + s.1) o ≡ None → option_map_or (λ s. value_at (read_as leaf (arrays leaf.array)) s.0 s.1) o (fill_of leaf.map) ≡ fill_of leaf.map
    by None is = refl
    by (Some s) is = absurd (cc)

pub leaf_sourced : (arrays : Arrays) (leaf : Leaf) (i j index : ℕ) → element_of leaf i j ≡ Some index → leaf_at arrays leaf i j ≡ get_or (arrays leaf.array).values index (pos 0)
leaf_sourced arrays leaf i j index mapped = by (source_of leaf.map leaf.shape i j) mapped
  where
    some_is : (x y : ℕ) → Some x ≡ Some y → x ≡ y
    some_is x y is = cc

    by : (o : Option (ℕ × ℕ)) → option_map (λ s. s.0 * leaf.shape.cols + s.1) o ≡ Some index → option_map_or (λ s. value_at (read_as leaf (arrays leaf.array)) s.0 s.1) o (fill_of leaf.map) ≡ get_or (arrays leaf.array).values index (pos 0)
    by None is = absurd (cc)
    by (Some s) is = ap (λ n. get_or (arrays leaf.array).values n (pos 0)) (some_is (s.0 * leaf.shape.cols + s.1) index is)

module _ (pass : Pass) (tile : Tile) (t : ℕ) (places : List ArrayPlace) (later : List ℕ) (sound : IsSoundPass places later pass) (number : IsTileNumber pass tile t) where
  is_tile : IsTileOf pass tile
  is_tile = record { spad = number.spad; holds = number.holds; is = number.is }

  pub some_tile : (1 ≤ tile.h) × (1 ≤ tile.w)
  some_tile = tile_some pass tile sound.shaped is_tile

  pub is_piece : IsPieceOf pass.domain (piece_of pass.domain tile t)
  is_piece = piece_inside pass.domain tile sound.shaped some_tile.0 some_tile.1 t number.within

  pub narrow : (k : ℕ) → k < length pass.leaves → size_of (get_or pass.leaves k no_leaf).elem ≤ widest_in pass
  narrow k below = let small = each_below (λ (leaf : Leaf). size_of leaf.elem) pass.leaves k no_leaf below in omega (arith, small)

  abbrev pub pass_typing : Typing
  pass_typing = typing_of pass.leaves (widest_in pass) narrow

  abbrev pub shape : Shape
  shape = tile_shape pass tile t

  abbrev pub buffers : Buffers
  buffers = tile_buffers pass tile t

  pub counted : buffer_count buffers ≡ buffers_of pass
  counted = omega (arith, results_same pass.kind)

  pub has_room : (cells : ℕ) → buffers_of pass * buffer_bytes pass tile ≤ cells → HasRoom shape buffers pass_typing cells
  has_room cells inside =
      let some_rows = is_piece.some_rows in
      let some_cols = is_piece.some_cols in
      let few : piece_rows pass tile t * piece_columns pass tile t ≤ tile.h * tile.w = mul-le (piece_rows pass tile t) (piece_columns pass tile t) tile.h tile.w (omega arith) (omega arith) in
      let all = ap (λ n. n * buffer_bytes pass tile) counted in
      record {
        some_rows = omega arith;
        some_cols = omega arith;
        fits = mul-le-mul_right (widest_in pass) few;
        leaf_sizes = narrow;
        one_count = refl;
        half = mod_below t 2 (lit< tt);
        out = mod_below (t / _) 2 (lit< tt);
        inside = omega (arith, all, inside);
      }

  pub tree_elem : elem_of pass.tree ≡ pass.elem
  tree_elem = typed_elem pass.leaves pass.tree pass.elem sound.normal.root sound.typed

  pub tree_type : HasType pass.tree pass_typing (elem_of pass.tree)
  tree_type = own_type pass_typing pass.tree pass.elem sound.normal.root (has_type pass.leaves (widest_in pass) narrow pass.tree pass.elem sound.typed sound.normal.selects (omega arith))

  -- ---- indices of the piece

  pub row_there : (row column : ℕ) → column < shape.cols → (row * shape.cols + column) / shape.cols ≡ row
  row_there row column within = div-mul-add row shape.cols column within

  pub column_there : (row column : ℕ) → column < shape.cols → (row * shape.cols + column) % shape.cols ≡ column
  column_there row column within = mod-mul-add row shape.cols column within

  -- ---- fills

  abbrev pub IsBlankAt : (k row column : ℕ) → Type 0
  IsBlankAt k row column = source_in (leaf_of pass k) (tile_piece pass tile t) row column ≡ None

  module _ (leaf : ℕ → ℕ → ℤ) (blank : (k row column : ℕ) → k < length pass.leaves → row < shape.rows → column < shape.cols → IsBlankAt k row column → leaf (row * shape.cols + column) k ≡ fill_of (leaf_of pass k).map) where
    pub fill_is : (fill : Fill) (k : ℕ) → IsTileFill pass tile t k fill → IsLeafFill shape buffers pass_typing leaf fill k
    fill_is fill k is =
        let sound_leaf = sound.leaves k no_leaf is.number_within in
        let some_rows = is.is_fill.some_rows in
        let some_cols = is.is_fill.some_cols in
        record {
          leaf_is = is.number_within;
          elem_is = is.is_fill.elem_is;
          some_rows = omega arith;
          some_cols = omega arith;
          rows_apart = is.rows_apart;
          range = subst (λ e. IsElement e fill.value) (sym is.is_fill.elem_is) (subst (λ n. IsElement (leaf_of pass k).elem n) (sym is.is_fill.value_is) sound_leaf.fill);
          index = λ r j row column.
              let there = is.is_fill.places r j row column in
              let i = there.row * shape.cols + there.column in (
                i,
                index_below shape there.row there.column there.row_within there.column_within,
                record { row = row; column = column; place = there.cell_is ∙ cell_is fill k is there.row there.column },
                blank k there.row there.column is.number_within there.row_within there.column_within there.blank ∙ sym is.is_fill.value_is,
              );
        }
      where
        cell_is : (fill : Fill) (k : ℕ) → IsTileFill pass tile t k fill → (row column : ℕ) → piece_cell (leaf_of pass k).elem (tile_piece pass tile t) (leaf_cell pass tile k t) row column 0 ≡ element_place shape fill.elem (leaf_buffer buffers k) (row * shape.cols + column)
        cell_is fill k is row column =
            let plain : piece_cell (leaf_of pass k).elem (tile_piece pass tile t) (leaf_cell pass tile k t) row column 0 ≡ element_place shape (leaf_of pass k).elem (leaf_buffer buffers k) (row * shape.cols + column) = omega arith in
            plain ∙ ap (λ e. element_place shape e (leaf_buffer buffers k) (row * shape.cols + column)) (sym is.is_fill.elem_is)

    pub are_fills : (fills : List Fill) → Each (λ fill. (k : ℕ) × IsTileFill pass tile t k fill) fills → AreFills fills shape buffers pass_typing leaf
    are_fills [] each = tt
    are_fills (fill ∷ fills) each = ((each.0.0, fill_is fill each.0.0 each.0.1), are_fills fills each.1)

    -- an element without a source is written by some fill
    written : (fills : List Fill) (k row column : ℕ) → AtLeastOne (λ fill. IsTileFill pass tile t k fill × Covers (cells_of_fill fill) (piece_cell (leaf_of pass k).elem (tile_piece pass tile t) (leaf_cell pass tile k t) row column 0)) fills
        → IsWrittenBy fills shape buffers pass_typing k (row * shape.cols + column)
    written [] k row column one = absurd one
    written (fill ∷ fills) k row column (inr one) = inr (written fills k row column one)
    written (fill ∷ fills) k row column (inl one) =
        let is = one.0 in
        let r = one.1.0 in
        let j = one.1.1 in
        let at = one.1.2 in
        let there = (fill_is fill k is).index r j at.row at.column in
        let i = row * shape.cols + column in
        let here : piece_cell (leaf_of pass k).elem (tile_piece pass tile t) (leaf_cell pass tile k t) row column 0 ≡ element_place shape fill.elem (leaf_buffer buffers k) i =
        ap (λ s. leaf_cell pass tile k t + ((row * shape.cols + column) * s + 0)) (ap size_of (sym is.is_fill.elem_is)) ∙ omega arith in
        let place = there.2.place in
        let some = at.below in
        let same : there.0 ≡ i = one_element (leaf_buffer buffers k * shape.room) (size_of fill.elem) there.0 i (element_place shape fill.elem (leaf_buffer buffers k) i) (omega (arith, place, at.from, here)) (omega (arith, place, at.below, here)) (omega arith) (omega (arith, place, at.from, at.below, here)) in
        inl (is.is_fill.elem_is, r, j, record { row = at.row; column = at.column; place = place ∙ ap (element_place shape fill.elem (leaf_buffer buffers k)) same })

    -- cells that have the elements with a source hold the leaves' pieces but for the fills
    pub but_fills : (fills : List Fill) (cells : List Cell) → AreTileFills pass tile t fills
        → ((k row column index : ℕ) → k < length pass.leaves → row < shape.rows → column < shape.cols → source_in (leaf_of pass k) (tile_piece pass tile t) row column ≡ Some index
        → Spells (leaf_of pass k).elem cells (element_place shape (leaf_of pass k).elem (leaf_buffer buffers k) (row * shape.cols + column)) (leaf (row * shape.cols + column) k))
        → HoldsButFills fills shape buffers pass_typing leaf cells
    but_fills fills cells are sourced k i below inside =
        let some_cols = is_piece.some_cols in
        let at = index_of shape i (omega arith) inside in
        subst (λ i. Spells (leaf_of pass k).elem cells (element_place shape (leaf_of pass k).elem (leaf_buffer buffers k) i) (leaf i k) ⊎ IsWrittenBy fills shape buffers pass_typing k i) at.index
        (by (source_in (leaf_of pass k) (tile_piece pass tile t) (i / shape.cols) (i % shape.cols)) at.row at.column refl)
      where
        by : (o : Option ℕ) → i / shape.cols < shape.rows → i % shape.cols < shape.cols → source_in (leaf_of pass k) (tile_piece pass tile t) (i / shape.cols) (i % shape.cols) ≡ o
            → Spells (leaf_of pass k).elem cells (element_place shape (leaf_of pass k).elem (leaf_buffer buffers k) (i / shape.cols * shape.cols + i % shape.cols)) (leaf (i / shape.cols * shape.cols + i % shape.cols) k) ⊎ IsWrittenBy fills shape buffers pass_typing k (i / shape.cols * shape.cols + i % shape.cols)
        by None row column is = inr (written fills k (i / shape.cols) (i % shape.cols) (one_any _ fills (are.all k (i / shape.cols) (i % shape.cols) below row column is)))
        by (Some index) row column is = inl (sourced k (i / shape.cols) (i % shape.cols) index below row column is)
