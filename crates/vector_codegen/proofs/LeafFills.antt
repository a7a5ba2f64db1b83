-- The fills that put the leaves' pieces, one leaf after another, are those of the tile.
use Rattle.std.proofs.Common.{◌≡◌, ℕ, zero, suc, ◌+◌, ◌<◌, ◌≤◌, inl, inr, arith, subst, List, [], ◌∷◌, ◌++◌, length, map, None}
use Rattle.std.proofs.lemmas.Bool.{cases_eq}
use Rattle.std.specs.List.{flat_map, range_with_len}
use Rattle.venice_isa.specs.declared.work.DmaWork.{DmaWork}
use Rattle.venice_isa.specs.Footprint.{cells_of}
use Rattle.venice_isa.specs.Region.{Covers, IsApartFrom, HasRowsApart}
use Rattle.pass_plan.specs.declared.parts.Tile.{Tile}
use Rattle.pass_plan.specs.declared.split.ArrayPlace.{ArrayPlace}
use Rattle.pass_plan.specs.Pass.{Pass}
use Rattle.dma_segments.specs.declared.segments.Fill.{Fill}
use Rattle.dma_segments.specs.Put.{IsByteOf, IsFill, cells_of_fill, source_in, piece_cell, regions_of, PutPiece}
use Rattle.dma_segments.specs.Laws.{leaf_of, leaf_cell}
use Rattle.dma_segments.proofs.Lists.{Each, AtLeastOne, EachPair, each_all, all_each, one_any, any_one, pairs_all, all_pairs, each_weaker, each_both, one_weaker, each_flat, one_flat, each_of_map, pairs_of_map, pairs_flat, pairs_weaker}
use Rattle.venice_isa.proofs.Wholes.{size_positive}
use Rattle.vector_codegen.specs.Work.{leaf_buffer}
use Rattle.vector_codegen.specs.Effect.{IsSoundSomewhere, IsTileNumber, tile_piece, IsTileFill, AreTileFills}
use Rattle.vector_codegen.specs.Laws.{LeavesFillTiles}
use Rattle.vector_codegen.proofs.Blocks.{rooms_apart}
use Rattle.vector_codegen.proofs.Fills.{in_leaf}
use Rattle.vector_codegen.proofs.PassTiles.{shape, buffers, pass_typing, fill_is}
use Rattle.vector_codegen.proofs.PassLaws.{cells, room, zero_values, zero_blank}

each_right : {A : Type 0} (P : A → Type 0) (xs ys : List A) → Each P (xs ++ ys) → Each P ys
each_right P [] ys h = h
each_right P (x ∷ xs) ys h = each_right P xs ys h.1

pairs_right : {A : Type 0} (R : A → A → Type 0) (xs ys : List A) → EachPair R (xs ++ ys) → EachPair R ys
pairs_right R [] ys h = h
pairs_right R (x ∷ xs) ys h = pairs_right R xs ys h.1

-- ---- numbers in order

range_each : (n a : ℕ) → Each (λ k. (a ≤ k) × (k < a + n)) (range_with_len a n)
range_each zero a = tt
range_each (suc n) a = ((omega arith, omega arith), each_weaker (λ k. (a + 1 ≤ k) × (k < a + 1 + n)) (λ k. (a ≤ k) × (k < a + suc n)) (λ k h. (omega (arith, h.0), omega (arith, h.1))) (range_with_len (a + 1) n) (range_each n (a + 1)))

range_pairs : (n a : ℕ) → EachPair (λ k k'. k < k') (range_with_len a n)
range_pairs zero a = tt
range_pairs (suc n) a = (each_weaker (λ k. (a + 1 ≤ k) × (k < a + 1 + n)) (λ k. a < k) (λ k h. omega (arith, h.0)) (range_with_len (a + 1) n) (range_each n (a + 1)), range_pairs n (a + 1))

range_one : (P : ℕ → Type 0) (n a k : ℕ) → a ≤ k → k < a + n → P k → AtLeastOne P (range_with_len a n)
range_one P zero a k from below h = absurd (omega arith)
range_one P (suc n) a k from below h = elim (cases_eq k a) [
  | inl same ↦ inl (subst P same h)
  | inr other ↦ inr (range_one P n (a + 1) k (omega arith) (omega arith) h)
]

module _ (pass : Pass) (tile : Tile) (t : ℕ) (fills : ℕ → List Fill) (somewhere : IsSoundSomewhere pass) (number : IsTileNumber pass tile t)
    (put : (k : ℕ) → k < length pass.leaves → (from : ArrayPlace) × (commands : List DmaWork) × PutPiece (leaf_of pass k) from (tile_piece pass tile t) (leaf_cell pass tile k t) commands (fills k)) where
  -- the fills of one leaf
  leaf_fills : (k : ℕ) → k < length pass.leaves → Each (IsTileFill pass tile t k) (fills k)
  leaf_fills k below =
      let from = (put k below).0 in
      let commands = (put k below).1 in
      let is = (put k below).2 in
      let rows = each_of_map cells_of_fill HasRowsApart (fills k) (each_right HasRowsApart (map cells_of commands) (map cells_of_fill (fills k)) (each_all HasRowsApart (regions_of commands (fills k)) is.rows_apart)) in
      each_both (IsFill (leaf_of pass k) from (tile_piece pass tile t) (leaf_cell pass tile k t)) (λ fill. HasRowsApart (cells_of_fill fill)) (IsTileFill pass tile t k)
      (λ fill is_fill rows_apart. record { from = from; number_within = below; is_fill = is_fill; rows_apart = rows_apart }) (fills k) (each_all _ (fills k) is.are_fills) rows

  abbrev AreApart : Fill → Fill → Type 0
  AreApart a c = IsApartFrom (cells_of_fill a) (cells_of_fill c)

  own_pairs : (k : ℕ) → k < length pass.leaves → EachPair AreApart (fills k)
  own_pairs k below =
      let commands = (put k below).1 in
      let is = (put k below).2 in
      pairs_of_map cells_of_fill IsApartFrom (fills k) (pairs_right IsApartFrom (map cells_of commands) (map cells_of_fill (fills k)) (pairs_all IsApartFrom (regions_of commands (fills k)) is.once))

  -- fills of two leaves stand in two buffers
  two_leaves : (k k' : ℕ) (fill fill' : Fill) → k < k' → IsTileFill pass tile t k fill → IsTileFill pass tile t k' fill' → AreApart fill fill'
  two_leaves k k' fill fill' less is is' p covered covered' =
      let places = somewhere.0 in
      let later = somewhere.1 in
      let sound = somewhere.2 in
      let S = shape pass tile t places later sound number in
      let B = buffers pass tile t places later sound number in
      let typing = pass_typing pass tile t places later sound number in
      let leaf = zero_values pass tile t places later sound number in
      let blank = zero_blank pass tile t places later sound number in
      let first = cells pass tile t places later sound number in
      let room = room pass tile t places later sound number in
      let here = in_leaf S B typing leaf first room fill k (fill_is pass tile t places later sound number leaf blank fill k is) p covered in
      let there = in_leaf S B typing leaf first room fill' k' (fill_is pass tile t places later sound number leaf blank fill' k' is') p covered' in
      rooms_apart S.room (leaf_buffer B k) (leaf_buffer B k') p (λ same. omega (arith, less, same)) here there

  across : (k k' : ℕ) → k < length pass.leaves → k' < length pass.leaves → k < k' → Each (λ fill. Each (AreApart fill) (fills k')) (fills k)
  across k k' below below' less =
      each_weaker (IsTileFill pass tile t k) (λ fill. Each (AreApart fill) (fills k'))
      (λ fill is. each_weaker (IsTileFill pass tile t k') (AreApart fill) (λ fill' is'. two_leaves k k' fill fill' less is is') (fills k') (leaf_fills k' below')) (fills k) (leaf_fills k below)

  numbers : List ℕ
  numbers = range_with_len 0 (length pass.leaves)

  within : Each (λ k. k < length pass.leaves) numbers
  unfolding numbers
  within = each_weaker (λ k. (0 ≤ k) × (k < 0 + length pass.leaves)) (λ k. k < length pass.leaves) (λ k h. omega (arith, h.1)) (range_with_len 0 (length pass.leaves)) (range_each (length pass.leaves) 0)

  all_filled : (k row column : ℕ) → k < length pass.leaves → row < (tile_piece pass tile t).h → column < (tile_piece pass tile t).w → source_in (leaf_of pass k) (tile_piece pass tile t) row column ≡ None
      → AtLeastOne (λ fill. IsTileFill pass tile t k fill × Covers (cells_of_fill fill) (piece_cell (leaf_of pass k).elem (tile_piece pass tile t) (leaf_cell pass tile k t) row column 0)) (flat_map fills numbers)
  unfolding numbers
  all_filled k row column below row_within column_within blank =
      let is = (put k below).2 in
      let some = size_positive (leaf_of pass k).elem in
      let byte : IsByteOf (leaf_of pass k).elem (tile_piece pass tile t) row column 0 = record { row_within = row_within; column_within = column_within; b_within = some } in
      let P : Fill → Type 0 = λ fill. IsTileFill pass tile t k fill × Covers (cells_of_fill fill) (piece_cell (leaf_of pass k).elem (tile_piece pass tile t) (leaf_cell pass tile k t) row column 0) in
      one_flat fills P (range_with_len 0 (length pass.leaves))
      (range_one (λ j. AtLeastOne P (fills j)) (length pass.leaves) 0 k (omega arith) (omega arith)
      (one_weaker (λ fill. Covers (cells_of_fill fill) (piece_cell (leaf_of pass k).elem (tile_piece pass tile t) (leaf_cell pass tile k t) row column 0)) (IsTileFill pass tile t k) P (λ fill is covers. (is, covers)) (fills k) (leaf_fills k below)
      (one_any _ (fills k) (is.each_filled row column 0 byte blank))))

  pub tile_fills : AreTileFills pass tile t (flat_map fills (range_with_len 0 (length pass.leaves)))
  unfolding numbers
  tile_fills = record {
    each = all_each (λ fill. (k : ℕ) × IsTileFill pass tile t k fill) (flat_map fills numbers)
        (each_flat fills (λ fill. (k : ℕ) × IsTileFill pass tile t k fill) numbers
        (each_weaker (λ k. k < length pass.leaves) (λ k. Each (λ fill. (k : ℕ) × IsTileFill pass tile t k fill) (fills k))
        (λ k below. each_weaker (IsTileFill pass tile t k) (λ fill. (k : ℕ) × IsTileFill pass tile t k fill) (λ fill is. (k, is)) (fills k) (leaf_fills k below)) numbers within));
    all = λ k row column below row_within column_within blank. any_one _ (flat_map fills numbers) (all_filled k row column below row_within column_within blank);
    apart = all_pairs AreApart (flat_map fills numbers)
        (pairs_flat fills AreApart numbers (each_weaker (λ k. k < length pass.leaves) (λ k. EachPair AreApart (fills k)) own_pairs numbers within)
        (pairs_weaker (λ k k'. k < k') (λ k. k < length pass.leaves) (λ k k'. Each (λ fill. Each (AreApart fill) (fills k')) (fills k)) (λ k k' below below' less. across k k' below below' less) numbers within (range_pairs (length pass.leaves) 0)));
  }

pub leaves_fill_tiles : LeavesFillTiles
leaves_fill_tiles pass tile t fills somewhere number put = tile_fills pass tile t fills somewhere number put
