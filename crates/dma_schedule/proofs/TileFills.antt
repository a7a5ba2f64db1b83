-- The reads of a tile bring all leaves' pieces, and its fills are those of its leaves.
use Rattle.std.proofs.Common.{◌≡◌, ◌⊎◌, inl, inr, ℕ, zero, suc, ◌+◌, ◌-◌, ◌*◌, ◌<◌, ◌≤◌, sym, subst, ap, ◌∙◌, arith, List, length, map, None, option_map}
use Rattle.std.specs.Prelude.{Contains}
use Rattle.std.proofs.lemmas.Nat.{mod_below}
use Rattle.ven_base.specs.Elem.{size_of}
use Rattle.ven_base.specs.Store.{Place, in_cells, in_memory, Store, Size}
use Rattle.venice_isa.specs.Region.{Covers, HasRowsApart, IsApartFrom}
use Rattle.venice_isa.specs.Footprint.{cells_of}
use Rattle.venice_isa.specs.Cell.{byte_of}
use Rattle.venice_isa.specs.Beat.{sequential}
use Rattle.pass_plan.specs.declared.parts.Tile.{Tile}
use Rattle.pass_plan.specs.declared.split.ArrayPlace.{ArrayPlace}
use Rattle.pass_plan.specs.Pass.{Pass, Arrays}
use Rattle.pass_plan.specs.Need.{widest_in}
use Rattle.pass_plan.specs.Tile.{tiles_of, piece_of}
use Rattle.pass_plan.specs.Buffers.{buffer_bytes, leaf_buffer, IsArrayPlace, IsArrayByte, IsLeafByte, piece_rows, piece_columns}
use Rattle.pass_plan.specs.Sound.{IsArrayOf}
use Rattle.pass_plan.proofs.Tilings.{size_some}
use Rattle.dma_segments.specs.declared.segments.Fill.{Fill}
use Rattle.dma_segments.specs.Put.{IsFill, cells_of_fill, source_in, piece_cell}
use Rattle.dma_segments.specs.Effect.{HasByte}
use Rattle.dma_segments.specs.Laws.{leaf_of, leaf_cell}
use Rattle.dma_segments.proofs.Lists.{Each, AtLeastOne, EachPair, each_all, all_each, each_append, each_weaker, each_both, each_of_map, one_any, any_one, one_weaker, one_left, one_right, pairs_all, all_pairs, pairs_of_map, pairs_append}
use Rattle.vector_codegen.specs.Effect.{tile_piece, IsTileFill, AreTileFills}
use Rattle.dma_schedule.specs.Blocks.{leaf_half}
use Rattle.dma_schedule.specs.PipeList.{leaf_segments, leaf_reads, tile_reads, tile_fills}
use Rattle.dma_schedule.specs.Zone.{Zone, leaf, source}
use Rattle.dma_schedule.proofs.Places.{zone_of_cell, leaf_zone, leaf_lies, item_below, leaf_within}
use Rattle.dma_schedule.proofs.Few.{each_right, pairs_right, each_across}
use Rattle.dma_schedule.proofs.Flow.{HasSize, BlockKept, sequential_append, block_kept}
use Rattle.dma_schedule.proofs.Leaves.{Shows}
use Rattle.dma_schedule.specs.Plan.{IsPlanned}
use Rattle.dma_schedule.proofs.Planned.{the_tile, array_of, made_place, zones, sizes, array_lies, not_own}
use Rattle.dma_schedule.proofs.LeafReads.{IsBefore, sound_leaf, put_plain, Keeps, LeafKeeps, leaf_keeps, leaf_brings, reads_keep}

module _ (arrays : List ArrayPlace) (memory : ℕ) (later : List ℕ) (spad : ℕ) (pass : Pass) (given : IsPlanned arrays memory later spad pass) where
  abbrev tile : Tile
  tile = the_tile arrays memory later spad pass given

  abbrev Z : Place → Zone
  Z = zones arrays memory later spad pass given

  abbrev A : (k : ℕ) → ArrayPlace
  A = array_of arrays memory later spad pass given

  abbrev S : Size
  S = sizes arrays memory later spad pass given

  -- ---- the arrays that are there

  -- each array that this pass and later ones don't make is one of its place
  abbrev pub AreThere : Arrays → Type 0
  AreThere values = (k : ℕ) → k < length arrays → ¬ Contains later k → IsArrayOf (A k) (values k)

  -- a byte of such an array
  abbrev pub Sources : Arrays → Place → ℕ → Type 0
  Sources values (in_cells p) byte = ⊥
  Sources values (in_memory p) byte = (k : ℕ) × (k < length arrays) × (¬ Contains later k) × IsArrayByte (A k) (values k).values p byte

  pub sources_lie : (values : Arrays) → AreThere values → (place : Place) (byte : ℕ) → Sources values place byte → Z place ≡ source
  sources_lie values are (in_cells p) byte of = absurd of
  sources_lie values are (in_memory p) byte of =
      array_lies arrays memory later spad pass given of.0 p of.1 (not_own arrays memory later spad pass given of.0 of.2)
      (subst (λ n. IsArrayPlace (A of.0) n p) (are of.0 of.1 of.2).as_many of.3.stands)

  -- a byte of a leaf's piece, fills apart, in the leaf's half
  abbrev pub Leaves : Arrays → (t : ℕ) → Place → ℕ → Type 0
  Leaves values t (in_cells p) byte = (number : ℕ) × IsLeafByte pass tile values number t p byte
  Leaves values t (in_memory p) byte = ⊥

  numbers_differ : (number other half : ℕ) → number < other → leaf number half ≡ leaf other half → ⊥
  numbers_differ number other half before same = let e : number ≡ other = cc in omega arith

  bring : (values : Arrays) (are : AreThere values) (lanes : ℕ) → 0 < lanes → (count t : ℕ) → count ≤ length pass.leaves → t < tiles_of pass.domain tile → (store : Store) → HasSize S store → Shows (Sources values) store
      → (number p byte : ℕ) → number < count → IsLeafByte pass tile values number t p byte → HasByte (sequential (tile_reads arrays pass tile count t) lanes store) (in_cells p) byte
  bring values are lanes some zero t few within store has there number p byte below shown = absurd (omega (arith, below))
  bring values are lanes some (suc last) t few within store has there number p byte below shown =
      let earlier = tile_reads arrays pass tile last t in
      let reads = leaf_reads arrays pass tile last t in
      let middle = sequential earlier lanes store in
      let kept : BlockKept Z S (IsBefore last (leaf_half t)) store middle =
      block_kept lanes some earlier store (all_each (Keeps arrays memory later spad pass given last t) earlier (reads_keep arrays memory later spad pass given last t (omega arith) within)) has in
      let middle_there : Shows (Sources values) middle = λ place byte of.
      ap (option_map byte_of) (kept.others place (λ before. subst (IsBefore last (leaf_half t)) (sources_lie values are place byte of) before)) ∙ there place byte of in
      let cases : (number < last) ⊎ (number ≡ last) = grind (arith, below) in
      subst (λ after. HasByte after (in_cells p) byte) (sym (sequential_append lanes earlier reads store))
      (elim cases [
        | inl old ↦
            let after : BlockKept Z S (λ z. z ≡ leaf last (leaf_half t)) middle (sequential reads lanes middle) =
            block_kept lanes some reads middle (all_each (LeafKeeps arrays memory later spad pass given last t (omega arith) within) reads (leaf_keeps arrays memory later spad pass given last t (omega arith) within)) kept.same_size in
            ap (option_map byte_of) (after.others (in_cells p) (λ is. numbers_differ number last (leaf_half t) old (sym (leaf_lies pass tile (made_place arrays memory later spad pass given) number t p shown.stands) ∙ is)))
            ∙ bring values are lanes some last t (omega arith) within store has there number p byte old shown
        | inr new ↦
            let sound = sound_leaf arrays memory later spad pass given last t (omega arith) within in
            leaf_brings arrays memory later spad pass given last t (omega arith) within values lanes middle kept.same_size (are (leaf_of pass last).array sound.known sound.ready)
            (λ q b of. middle_there (in_memory q) b ((leaf_of pass last).array, sound.known, sound.ready, of)) p byte (subst (λ n. IsLeafByte pass tile values n t p byte) new shown)
      ])

  pub reads_bring : (values : Arrays) (are : AreThere values) (lanes : ℕ) → 0 < lanes → (t : ℕ) → t < tiles_of pass.domain tile → (store : Store) → HasSize S store → Shows (Sources values) store
      → Shows (Leaves values t) (sequential (tile_reads arrays pass tile (length pass.leaves) t) lanes store)
  reads_bring values are lanes some t within store has there (in_cells p) byte of =
      bring values are lanes some (length pass.leaves) t (omega arith) within store has there of.0 p byte of.1.stands.number_within of.1
  reads_bring values are lanes some t within store has there (in_memory p) byte of = absurd of

  -- ---- fills

  abbrev IsFillOf : (t number : ℕ) → Fill → Type 0
  IsFillOf t number = IsTileFill pass tile t number

  abbrev SomeFill : (t : ℕ) → Fill → Type 0
  SomeFill t fill = (number : ℕ) × IsFillOf t number fill

  abbrev Apart : Fill → Fill → Type 0
  Apart a b = IsApartFrom (cells_of_fill a) (cells_of_fill b)

  -- the cells of a fill lie in its leaf's half
  fill_lies : (t number : ℕ) (fill : Fill) → IsFillOf t number fill → (p : ℕ) → Covers (cells_of_fill fill) p → Z (in_cells p) ≡ leaf number (leaf_half t)
  fill_lies t number fill is p (r, j, at) =
      let blank = is.is_fill.places r j at.row at.column in
      let size = size_of (leaf_of pass number).elem in
      let same : size_of fill.elem ≡ size = ap size_of is.is_fill.elem_is in
      let index = blank.row * piece_columns pass tile t + blank.column in
      let o = p - leaf_cell pass tile number t in
      let begins = blank.cell_is in
      let b = o - index * size in
      let from = at.from in
      let ends = at.below in
      let o_is : index * size + b ≡ o = omega (arith, same, begins, from) in
      let b_below : b < size = omega (arith, same, begins, from, ends) in
      let below : index * size + b < buffer_bytes pass tile =
      item_below blank.row blank.column b (piece_rows pass tile t) (piece_columns pass tile t) size tile.h tile.w (widest_in pass) blank.row_within blank.column_within b_below (omega arith) (omega arith) (leaf_within pass tile 0 number is.number_within) in
      let p_is : p ≡ leaf_cell pass tile number t + o = omega (arith, begins, from) in
      ap (λ q. Z (in_cells q)) p_is
      ∙ zone_of_cell pass tile (made_place arrays memory later spad pass given) (leaf_buffer pass tile number (leaf_half t)) o (subst (λ n. n < buffer_bytes pass tile) o_is below)
      ∙ leaf_zone pass tile (made_place arrays memory later spad pass given) number (leaf_half t) is.number_within (mod_below t 2 (omega arith))

  module _ (number t : ℕ) (below : number < length pass.leaves) (within : t < tiles_of pass.domain tile) where
    abbrev fills : List Fill
    fills = (leaf_segments arrays pass tile number t).fills

    abbrev from : ArrayPlace
    from = A (leaf_of pass number).array

    leaf_fills : Each (IsFillOf t number) fills
    leaf_fills =
        let put = put_plain arrays memory later spad pass given number t below within in
        let regions = each_right HasRowsApart (map cells_of (leaf_segments arrays pass tile number t).commands) (map cells_of_fill fills) (each_all HasRowsApart _ put.rows_apart) in
        each_both (IsFill (leaf_of pass number) from (piece_of pass.domain tile t) (leaf_cell pass tile number t)) (λ fill. HasRowsApart (cells_of_fill fill)) (IsFillOf t number)
        (λ fill is apart. record { from = from; number_within = below; is_fill = is; rows_apart = apart }) fills
        (each_all (IsFill (leaf_of pass number) from (piece_of pass.domain tile t) (leaf_cell pass tile number t)) fills put.are_fills) (each_of_map cells_of_fill HasRowsApart fills regions)

    leaf_apart : EachPair Apart fills
    leaf_apart =
        let put = put_plain arrays memory later spad pass given number t below within in
        pairs_of_map cells_of_fill IsApartFrom fills (pairs_right IsApartFrom (map cells_of (leaf_segments arrays pass tile number t).commands) (map cells_of_fill fills) (pairs_all IsApartFrom _ put.once))

    abbrev Fills : (row column : ℕ) → Fill → Type 0
    Fills row column fill = IsFillOf t number fill × Covers (cells_of_fill fill) (piece_cell (leaf_of pass number).elem (tile_piece pass tile t) (leaf_cell pass tile number t) row column 0)

    leaf_filled : (row column : ℕ) → row < piece_rows pass tile t → column < piece_columns pass tile t → source_in (leaf_of pass number) (tile_piece pass tile t) row column ≡ None → AtLeastOne (Fills row column) fills
    leaf_filled row column row_within column_within blank =
        let put = put_plain arrays memory later spad pass given number t below within in
        let There : Fill → Type 0 = λ fill. Covers (cells_of_fill fill) (piece_cell (leaf_of pass number).elem (tile_piece pass tile t) (leaf_cell pass tile number t) row column 0) in
        one_weaker There (IsFillOf t number) (Fills row column) (λ fill is covers. (is, covers)) fills leaf_fills
        (one_any There fills (put.each_filled row column 0 (record { row_within = row_within; column_within = column_within; b_within = size_some (leaf_of pass number).elem }) blank))

  -- those of the first leaves
  abbrev IsOfFirst : (t count : ℕ) → Fill → Type 0
  IsOfFirst t count fill = (number : ℕ) × (number < count) × IsFillOf t number fill

  first_fills : (count t : ℕ) → count ≤ length pass.leaves → t < tiles_of pass.domain tile → Each (IsOfFirst t count) (tile_fills arrays pass tile count t)
  first_fills zero t few within = tt
  first_fills (suc number) t few within =
      each_append (IsOfFirst t (suc number)) (tile_fills arrays pass tile number t) (leaf_segments arrays pass tile number t).fills
      (each_weaker (IsOfFirst t number) (IsOfFirst t (suc number)) (λ fill is. (is.0, omega (arith, is.1), is.2)) (tile_fills arrays pass tile number t) (first_fills number t (omega arith) within))
      (each_weaker (IsFillOf t number) (IsOfFirst t (suc number)) (λ fill is. (number, omega arith, is)) (leaf_segments arrays pass tile number t).fills (leaf_fills number t (omega arith) within))

  first_apart : (count t : ℕ) → count ≤ length pass.leaves → t < tiles_of pass.domain tile → EachPair Apart (tile_fills arrays pass tile count t)
  first_apart zero t few within = tt
  first_apart (suc number) t few within =
      pairs_append Apart (tile_fills arrays pass tile number t) (leaf_segments arrays pass tile number t).fills (first_apart number t (omega arith) within) (leaf_apart number t (omega arith) within)
      (each_across (IsOfFirst t number) (IsFillOf t number) Apart
      (λ a b mine theirs p here there. numbers_differ mine.0 number (leaf_half t) mine.1 (sym (fill_lies t mine.0 a mine.2 p here) ∙ fill_lies t number b theirs p there))
      (tile_fills arrays pass tile number t) (leaf_segments arrays pass tile number t).fills (first_fills number t (omega arith) within) (leaf_fills number t (omega arith) within))

  first_filled : (count number t row column : ℕ) → count ≤ length pass.leaves → (below : number < length pass.leaves) → number < count → (within : t < tiles_of pass.domain tile) → row < piece_rows pass tile t → column < piece_columns pass tile t
      → source_in (leaf_of pass number) (tile_piece pass tile t) row column ≡ None → AtLeastOne (Fills number t below within row column) (tile_fills arrays pass tile count t)
  first_filled zero number t row column few below first within row_within column_within blank = absurd (omega (arith, first))
  first_filled (suc last) number t row column few below first within row_within column_within blank =
      let cases : (number < last) ⊎ (last ≡ number) = grind (arith, first) in
      elim cases [
        | inl old ↦ one_left (Fills number t below within row column) (tile_fills arrays pass tile last t) (leaf_segments arrays pass tile last t).fills (first_filled last number t row column (omega arith) below old within row_within column_within blank)
        | inr new ↦ one_right (Fills number t below within row column) (tile_fills arrays pass tile last t) (leaf_segments arrays pass tile last t).fills
            (subst (λ n. AtLeastOne (Fills number t below within row column) (leaf_segments arrays pass tile n t).fills) (sym new) (leaf_filled number t below within row column row_within column_within blank))
      ]

  pub are_fills : (t : ℕ) → t < tiles_of pass.domain tile → AreTileFills pass tile t (tile_fills arrays pass tile (length pass.leaves) t)
  are_fills t within =
      let all = tile_fills arrays pass tile (length pass.leaves) t in
      record {
        each = all_each (SomeFill t) all (each_weaker (IsOfFirst t (length pass.leaves)) (SomeFill t) (λ fill is. (is.0, is.2)) all (first_fills (length pass.leaves) t (omega arith) within));
        all = λ number row column below row_within column_within blank.
            any_one (Fills number t below within row column) all (first_filled (length pass.leaves) number t row column (omega arith) below below within row_within column_within blank);
        apart = all_pairs Apart all (first_apart (length pass.leaves) t (omega arith) within);
      }
