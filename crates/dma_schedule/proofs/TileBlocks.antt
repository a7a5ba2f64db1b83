-- The blocks of a pass: its instructions and writes keep to their zones, and leave what they make.
use Rattle.std.proofs.Common.{◌≡◌, ℕ, zero, suc, ◌+◌, ◌*◌, ◌%◌, ◌<◌, ◌≤◌, sym, refl, subst, ap, ◌∙◌, arith, List, [], ◌∷◌, length, get_or, map, Bool, true, false, cond, All}
use Rattle.std.specs.Prelude.{◌↔◌}
use Rattle.std.proofs.lemmas.Nat.{mod_below, mul-le}
use Rattle.std.proofs.lemmas.Bool.{cond-true, cond-false}
use Rattle.std.proofs.lemmas.List.Elements.{All-nil, All-cons, All-weaker, All-map}
use Rattle.std.proofs.Math.Nat.{mul-le-mul_right}
use Rattle.ven_base.specs.Elem.{size_of}
use Rattle.ven_base.specs.Extent.{elements_of}
use Rattle.ven_base.specs.Store.{Place, in_cells, in_memory, Store, Size, HasPlace}
use Rattle.venice_isa.specs.declared.work.VecWork.{VecWork}
use Rattle.venice_isa.specs.declared.work.DmaWork.{DmaWork}
use Rattle.venice_isa.specs.declared.issue.Issue.{Issue}
use Rattle.venice_isa.specs.declared.issue.Issue.TheVariants.{Vector, Write}
use Rattle.venice_isa.specs.Region.{Covers}
use Rattle.venice_isa.specs.Footprint.{cells_of, memory_of, Reads, Writes}
use Rattle.venice_isa.specs.Beat.{sequential}
use Rattle.pass_plan.specs.declared.parts.Tile.{Tile}
use Rattle.pass_plan.specs.declared.split.ArrayPlace.{ArrayPlace}
use Rattle.pass_plan.specs.declared.pass.PassKind.{PassKind}
use Rattle.pass_plan.specs.declared.pass.PassKind.TheVariants.{Map, Reduce}
use Rattle.pass_plan.specs.Label.{label_of}
use Rattle.pass_plan.specs.Pass.{Pass, Arrays, result_of, pass_array}
use Rattle.pass_plan.specs.Need.{widest_in, buffers_of}
use Rattle.pass_plan.specs.Tile.{tiles_of, piece_of, first_row, first_column, IsPieceOf}
use Rattle.pass_plan.specs.Buffers.{is_map, buffer_bytes, output_buffer, cell_of, output_half, ends_row, piece_rows, piece_columns, piece_results, IsArrayByte, IsResultPlace, IsResultByte, IsCarriedByte, IsPiecePlace, IsPieceByte, IsTileBuffer, of_leaf, of_slot, of_output, of_partial, IsTileCell}
use Rattle.pass_plan.specs.Sound.{end_of, HasArrays}
use Rattle.buffer_lifetimes.specs.OrderOf.{order_of}
use Rattle.buffer_lifetimes.proofs.Lawful.{has_order}
use Rattle.dma_segments.specs.Taken.{TakePiece, IsWrite as IsTaking}
use Rattle.dma_segments.specs.WriteList.{write_list}
use Rattle.dma_segments.specs.Effect.{HasByte}
use Rattle.dma_segments.specs.Laws.{with_tag, result_array, result_piece, result_cell}
use Rattle.dma_segments.proofs.Takes.{takes}
use Rattle.dma_segments.proofs.WriteEffects.{write_cells, tagged_take, result_cells, piece_places, writes_show}
use Rattle.vector_codegen.specs.Effect.{AreFew, KeepsToTile, IsOrderOf}
use Rattle.vector_codegen.specs.Laws.{TilesLeaveResults, TilesKeepToBuffers, TilesAreFew}
use Rattle.dma_schedule.specs.Blocks.{Blocks, leaf_half, row_half, write_tag, pass_list}
use Rattle.dma_schedule.specs.PipeList.{tile_fills, tile_works, tile_writes, blocks_of}
use Rattle.dma_schedule.specs.Pipelined.{IsVector, AreInstructions, AreWrites, AreBlocks}
use Rattle.dma_schedule.specs.Zone.{Zone, output, piece, AreApart, IsLeafHalf, IsComputed, IsCompute, IsWrite, KeepToZones, zone_of_buffer}
use Rattle.dma_schedule.proofs.Places.{zone_of_cell, leaf_zone, slot_zone, output_zone, partial_zone, leaf_lies, result_lies, piece_lies, piece_below, half_below, item_within, results_below}
use Rattle.dma_schedule.proofs.Covers.{two_results, tile_cell_below, result_below, some_tiles, pieces_cover, carried_is_result, none_carried}
use Rattle.dma_schedule.proofs.Flow.{HasSize}
use Rattle.dma_schedule.proofs.Leaves.{Shows, Carried, Brings, Left, pass_leaves}
use Rattle.dma_schedule.proofs.Disciplined.{guard_pass}
use Rattle.dma_schedule.proofs.Flights.{Guards}
use Rattle.dma_schedule.specs.Plan.{IsPlanned}
use Rattle.dma_schedule.proofs.Planned.{the_tile, array_of, made_place, zones, sizes, some, room, piece_there, is_number, array_inside, made_end}
use Rattle.dma_schedule.proofs.LeafReads.{both_counts, are_reads, reads_in_zones}
use Rattle.dma_schedule.proofs.TileFills.{AreThere, Sources, sources_lie, Leaves, reads_bring, are_fills}

-- what holds of the instructions of tiles
pub record TileLaws : Type 0 where
  pub leave : TilesLeaveResults
  pub keep : TilesKeepToBuffers
  pub few : TilesAreFew

module _ (arrays : List ArrayPlace) (memory : ℕ) (later : List ℕ) (spad : ℕ) (pass : Pass) (given : IsPlanned arrays memory later spad pass) where
  abbrev pub tile : Tile
  tile = the_tile arrays memory later spad pass given

  abbrev Z : Place → Zone
  Z = zones arrays memory later spad pass given

  abbrev S : Size
  S = sizes arrays memory later spad pass given

  abbrev pub place : ℕ
  place = made_place arrays memory later spad pass given

  abbrev blocks : Blocks
  blocks = blocks_of arrays pass tile

  some_h : 1 ≤ tile.h
  some_h = (some arrays memory later spad pass given).0

  some_w : 1 ≤ tile.w
  some_w = (some arrays memory later spad pass given).1

  -- ---- instructions

  pub is_order : IsOrderOf pass.tree (label_of pass.tree) (order_of pass.tree).steps
  is_order = record { slots_are = refl; to = (order_of pass.tree).to; order = has_order pass.tree given.sound.normal.root given.sound.normal.selects }

  tile_zone : (t p : ℕ) → IsTileCell pass tile t p → IsComputed blocks t (Z (in_cells p))
  tile_zone t p cell =
      subst (IsComputed blocks t) (sym (ap (λ q. Z (in_cells q)) cell.is ∙ zone_of_cell pass tile place cell.buffer cell.o cell.o_within)) (go cell.buffer cell.is_tile)
    where
      go : (buffer : ℕ) → IsTileBuffer pass tile t buffer → IsComputed blocks t (zone_of_buffer pass tile place buffer)
      go buffer (of_leaf number within is) = subst (IsComputed blocks t) (sym (ap (zone_of_buffer pass tile place) is ∙ leaf_zone pass tile place number (t % 2) within (mod_below t 2 (omega arith)))) refl
      go buffer (of_slot slot within is) = subst (IsComputed blocks t) (sym (ap (zone_of_buffer pass tile place) is ∙ slot_zone pass tile place slot within)) tt
      go buffer (of_output is) = subst (IsComputed blocks t) (sym (ap (zone_of_buffer pass tile place) is ∙ output_zone pass tile place (output_half pass tile t) (half_below pass tile place given.sound.shaped some_h some_w t))) refl
      go buffer (of_partial reduces is) = subst (IsComputed blocks t) (sym (ap (zone_of_buffer pass tile place) is ∙ partial_zone pass tile place)) tt

  module _ (laws : TileLaws) where
    works_keep : (t : ℕ) → t < tiles_of pass.domain tile → All (KeepsToTile pass tile t) (tile_works arrays pass tile t)
    works_keep t within =
        laws.keep pass tile t (tile_fills arrays pass tile (length pass.leaves) t) (order_of pass.tree).steps (arrays, later, given.sound) (is_number arrays memory later spad pass given t within) is_order
        (are_fills arrays memory later spad pass given t within)

    pub works_few : (t : ℕ) → t < tiles_of pass.domain tile → AreFew pass tile t (tile_works arrays pass tile t)
    works_few t within =
        laws.few pass tile t (tile_fills arrays pass tile (length pass.leaves) t) (order_of pass.tree).steps (arrays, later, given.sound) (is_number arrays memory later spad pass given t within) is_order
        (are_fills arrays memory later spad pass given t within)

    work_computes : (t : ℕ) (work : VecWork) → KeepsToTile pass tile t work → IsCompute Z S blocks t (Vector work)
    work_computes t work keeps = record {
      of_unit = refl;
      tag_is = refl;
      counts = both_counts work.vl work.rows keeps.simple.counts.elements keeps.simple.counts.rows;
      in_range = record { has_reads = read_inside; has_writes = written_inside };
      reads = read_lies;
      writes = written_lies;
    }
      where
        read_inside : (at : Place) → Reads (Vector work) at → HasPlace S at
        read_inside (in_cells p) read = tile_cell_below pass tile spad (room arrays memory later spad pass given) t p (keeps.reads p read)
        read_inside (in_memory p) none = absurd none

        written_inside : (at : Place) → Writes (Vector work) at → HasPlace S at
        written_inside (in_cells p) written = tile_cell_below pass tile spad (room arrays memory later spad pass given) t p (keeps.writes p written)
        written_inside (in_memory p) none = absurd none

        read_lies : (at : Place) → Reads (Vector work) at → IsComputed blocks t (Z at)
        read_lies (in_cells p) read = tile_zone t p (keeps.reads p read)
        read_lies (in_memory p) none = absurd none

        written_lies : (at : Place) → Writes (Vector work) at → IsComputed blocks t (Z at)
        written_lies (in_cells p) written = tile_zone t p (keeps.writes p written)
        written_lies (in_memory p) none = absurd none

    computes : (t : ℕ) → t < tiles_of pass.domain tile → All (IsCompute Z S blocks t) (blocks.compute t)
    computes t within =
        All-map (IsCompute Z S blocks t) (λ work. Vector work) (tile_works arrays pass tile t)
        (All-weaker (KeepsToTile pass tile t) (λ work. IsCompute Z S blocks t (Vector work)) (work_computes t) (tile_works arrays pass tile t) (works_keep t within))

    abbrev OneHalf : (t : ℕ) → Issue → Type 0
    OneHalf t issue = (half o : ℕ) → half < 2 → o < buffer_bytes pass tile → Writes issue (in_cells (cell_of pass tile (output_buffer pass tile half) o)) → half ≡ output_half pass tile t

    are_instructions : (t : ℕ) → t < tiles_of pass.domain tile → AreInstructions pass tile place t (blocks.compute t)
    are_instructions t within = record {
      are_vectors = All-map IsVector (λ work. Vector work) (tile_works arrays pass tile t) (λ k d below. (get_or (tile_works arrays pass tile t) k d, refl));
      one_half = All-weaker (IsCompute Z S blocks t) (OneHalf t) (λ issue keeps half o half_small o_within written.
          let is : Z (in_cells (cell_of pass tile (output_buffer pass tile half) o)) ≡ output half = zone_of_cell pass tile place (output_buffer pass tile half) o o_within ∙ output_zone pass tile place half half_small in
          subst (IsComputed blocks t) is (keeps.writes (in_cells (cell_of pass tile (output_buffer pass tile half) o)) written)) (blocks.compute t) (computes t within);
    }

  -- ---- writes

  abbrev pub made : ArrayPlace
  made = result_array pass place

  pub made_inside : (t : ℕ) → t < tiles_of pass.domain tile → IsPieceOf made.shape (result_piece pass tile t)
  made_inside t within = go pass.kind
    where
      inside : IsPieceOf pass.domain (piece_of pass.domain tile t)
      inside = piece_there arrays memory later spad pass given t within

      go : (kind : PassKind) → IsPieceOf (result_of kind pass.domain)
          (record { r0 = first_row pass.domain tile t; c0 = cond (is_map kind) (first_column pass.domain tile t) 0; h = piece_rows pass tile t; w = cond (is_map kind) (piece_columns pass tile t) 1 })
      go Map = record { some_rows = inside.some_rows; some_cols = inside.some_cols; rows_inside = inside.rows_inside; cols_inside = inside.cols_inside }
      go (Reduce fold) = record { some_rows = inside.some_rows; some_cols = omega arith; rows_inside = inside.rows_inside; cols_inside = omega arith }

  module _ (t : ℕ) (within : t < tiles_of pass.domain tile) where
    abbrev tag : ℕ
    tag = write_tag (output_half pass tile t)

    abbrev works : List DmaWork
    works = map (with_tag tag) (write_list made (result_piece pass tile t) (result_cell pass tile t))

    abbrev work : DmaWork
    work = get_or works 0 (record { mem = 0; spad = 0; rows = 0; bytes = 0; mem_step = 0; spad_step = 0; tag = 0 })

    take : TakePiece made (result_piece pass tile t) (result_cell pass tile t) works
    take =
        let list = write_list made (result_piece pass tile t) (result_cell pass tile t) in
        tagged_take made (result_piece pass tile t) (result_cell pass tile t) list tag (takes made (result_piece pass tile t) (result_cell pass tile t) (made_inside t within) list refl)

    is_write : IsTaking made (result_piece pass tile t) (result_cell pass tile t) work
    is_write = take.takes 0 work (omega arith)

    takes_from : (p : ℕ) → Covers (cells_of work) p → IsResultPlace pass tile t p
    takes_from p covers = (result_cells pass tile t p).0 ((write_cells made (result_piece pass tile t) (result_cell pass tile t) works take).0 0 work (omega arith) p covers)

    puts_to : ends_row pass tile t ≡ true → (p : ℕ) → Covers (memory_of work) p ↔ IsPiecePlace pass tile place t p
    puts_to last p =
        let covered = (write_cells made (result_piece pass tile t) (result_cell pass tile t) works take).1 0 work (omega arith) p in
        let placed = piece_places pass tile t place p last in
        ((λ covers. placed.0 (covered.0 covers)), (λ stands. covered.1 (placed.1 stands)))

    writes_one : ends_row pass tile t ≡ true → tile_writes arrays pass tile t ≡ Write work ∷ []
    writes_one last = cond-true (ends_row pass tile t) (Write work ∷ []) [] last

    writes_none : ends_row pass tile t ≡ false → tile_writes arrays pass tile t ≡ []
    writes_none more = cond-false (ends_row pass tile t) (Write work ∷ []) [] more

    are_writes : AreWrites pass tile place t (tile_writes arrays pass tile t)
    are_writes = record { one = λ last. (work, writes_one last, refl, puts_to last); none = writes_none }

    write_keeps : ends_row pass tile t ≡ true → IsWrite Z S blocks t (Write work)
    write_keeps last = record {
      of_unit = refl;
      tag_is = refl;
      counts = both_counts work.rows work.bytes is_write.some_rows is_write.some_bytes;
      in_range = record { has_reads = read_inside; has_writes = written_inside };
      reads = read_lies;
      writes = written_lies;
    }
      where
        read_inside : (at : Place) → Reads (Write work) at → HasPlace S at
        read_inside (in_cells p) covers = result_below pass tile spad (room arrays memory later spad pass given) given.sound.shaped some_h some_w t p (takes_from p covers)
        read_inside (in_memory p) none = absurd none

        written_inside : (at : Place) → Writes (Write work) at → HasPlace S at
        written_inside (in_cells p) none = absurd none
        written_inside (in_memory p) covers =
            let below = piece_below pass tile place given.sound.shaped some_h some_w t p ((puts_to last p).0 covers) in
            let ends = made_end arrays memory later spad pass given in
            omega (arith, below, ends, array_inside arrays memory later spad pass given pass.dest given.sound.result.known)

        read_lies : (at : Place) → Reads (Write work) at → Z at ≡ output (row_half blocks t)
        read_lies (in_cells p) covers = result_lies pass tile place given.sound.shaped some_h some_w t p (takes_from p covers)
        read_lies (in_memory p) none = absurd none

        written_lies : (at : Place) → Writes (Write work) at → Z at ≡ piece t
        written_lies (in_cells p) none = absurd none
        written_lies (in_memory p) covers = piece_lies pass tile place given.sound.shaped some_h some_w t p ((puts_to last p).0 covers)

    writes_keep : All (IsWrite Z S blocks t) (tile_writes arrays pass tile t) × AreApart (tile_writes arrays pass tile t)
    writes_keep = go (ends_row pass tile t) refl
      where
        go : (last : Bool) → ends_row pass tile t ≡ last → All (IsWrite Z S blocks t) (tile_writes arrays pass tile t) × AreApart (tile_writes arrays pass tile t)
        go true last = subst (λ block. All (IsWrite Z S blocks t) block × AreApart block) (sym (writes_one last)) (All-cons (IsWrite Z S blocks t) (Write work) [] (write_keeps last) (All-nil _), (All-nil _, tt))
        go false more = subst (λ block. All (IsWrite Z S blocks t) block × AreApart block) (sym (writes_none more)) (All-nil _, tt)

  -- ---- the pass

  -- a byte of a tile's results in its output half, of the destination's piece, and of what the pass makes
  abbrev pub Results : Arrays → (t : ℕ) → Place → ℕ → Type 0
  Results values t (in_cells p) byte = IsResultByte pass tile values t p byte
  Results values t (in_memory p) byte = ⊥

  abbrev pub Pieces : Arrays → (t : ℕ) → Place → ℕ → Type 0
  Pieces values t (in_cells p) byte = ⊥
  Pieces values t (in_memory p) byte = IsPieceByte pass tile values place t p byte

  abbrev pub Made : Arrays → Place → ℕ → Type 0
  Made values (in_cells p) byte = ⊥
  Made values (in_memory p) byte = IsArrayByte (array_of arrays memory later spad pass given pass.dest) (pass_array values pass).values p byte

  -- what a tile finds in its output half, the one before it left there
  finds : (values : Arrays) (t p byte : ℕ) → IsCarriedByte pass tile values t p byte → Carried blocks (Results values) t (in_cells p) byte
  finds values zero p byte of = none_carried pass tile given.sound.shaped some_h some_w values p byte of
  finds values (suc t) p byte of = (of.later, carried_is_result pass tile given.sound.shaped some_h some_w values t p byte of)

  are_arrays : (values : Arrays) → AreThere arrays memory later spad pass given values → HasArrays arrays values pass.leaves
  are_arrays values are k d below = let leaf = given.sound.leaves k d below in are (get_or pass.leaves k d).array leaf.known leaf.ready

  pub made_ends : end_of made ≡ end_of (array_of arrays memory later spad pass given pass.dest)
  made_ends =
      let result = given.sound.result in
      ap (λ n. place + n * size_of pass.elem) (sym result.as_many)
      ∙ ap (λ e. place + elements_of (array_of arrays memory later spad pass given pass.dest).shape * size_of e) (sym result.elem_is)

  result_fits : (t : ℕ) → t < tiles_of pass.domain tile → result_cell pass tile t + piece_rows pass tile t * piece_results pass tile t * size_of pass.elem ≤ spad
  result_fits t within =
      let half = half_below pass tile place given.sound.shaped some_h some_w t in
      let rooms = room arrays memory later spad pass given in
      let wide = results_below pass tile place given.sound.shaped some_h some_w t in
      let area : piece_rows pass tile t * piece_results pass tile t ≤ tile.h * tile.w = mul-le (piece_rows pass tile t) (piece_results pass tile t) tile.h tile.w (omega arith) wide in
      let fits : piece_rows pass tile t * piece_results pass tile t * size_of pass.elem ≤ buffer_bytes pass tile = mul-le (piece_rows pass tile t * piece_results pass tile t) (size_of pass.elem) (tile.h * tile.w) (widest_in pass) area (item_within pass tile place) in
      let two = two_results pass tile spad rooms pass.kind in
      let buffer : (output_buffer pass tile (output_half pass tile t) + 1) * buffer_bytes pass tile ≤ buffers_of pass * buffer_bytes pass tile = mul-le-mul_right (buffer_bytes pass tile) (omega arith) in
      omega arith

  writes_put : (values : Arrays) (lanes t : ℕ) → t < tiles_of pass.domain tile → (store : Store) → HasSize S store → Shows (Results values t) store
      → (p byte : ℕ) → IsPieceByte pass tile values place t p byte → HasByte (sequential (tile_writes arrays pass tile t) lanes store) (in_memory p) byte
  writes_put values lanes t within store has shows p byte shown =
      subst (λ block. HasByte (sequential block lanes store) (in_memory p) byte) (sym (writes_one t within shown.stands.last))
      (writes_show pass tile t place values (works t within) lanes store (made_inside t within) (take t within)
      (record {
        in_memory = omega (arith, made_ends, array_inside arrays memory later spad pass given pass.dest given.sound.result.known, has.memory);
        in_cells = omega (arith, result_fits t within, has.cells);
      })
      (λ q b of. shows (in_cells q) b of) p byte shown)

  module _ (laws : TileLaws) where
    pub keep_to_zones : KeepToZones Z S blocks
    keep_to_zones = record { reads = reads_in_zones arrays memory later spad pass given; compute = computes laws; writes = writes_keep }

    pub are_blocks : AreBlocks pass tile place blocks
    are_blocks = record {
      tiles_are = refl;
      rows_are = refl;
      reads = λ t within. are_reads arrays memory later spad pass given t place within;
      compute = are_instructions laws;
      writes = are_writes;
    }

    pub some_tile : 0 < tiles_of pass.domain tile
    some_tile = some_tiles pass tile given.sound.shaped some_h some_w

    pub guarded : Guards (λ w. ⊥) (pass_list blocks) (λ w. ⊥)
    guarded = guard_pass Z S blocks keep_to_zones some_tile

    module _ (values : Arrays) (are : AreThere arrays memory later spad pass given values) (lanes : ℕ) (lanes_some : 0 < lanes) where
      computed : (t : ℕ) → t < tiles_of pass.domain tile → (store : Store) → HasSize S store → Shows (Leaves arrays memory later spad pass given values t) store → Shows (Carried blocks (Results values) t) store
          → Shows (Results values t) (sequential (blocks.compute t) lanes store)
      computed t within store has leaves carried (in_memory p) byte of = absurd of
      computed t within store has leaves carried (in_cells p) byte of =
          laws.leave pass tile t (tile_fills arrays pass tile (length pass.leaves) t) (order_of pass.tree).steps (arrays, later, given.sound) (is_number arrays memory later spad pass given t within) is_order
          (are_fills arrays memory later spad pass given t within) arrays later values lanes store given.sound (are_arrays values are) lanes_some
          (record {
            inside = omega (arith, room arrays memory later spad pass given, has.cells);
            leaves = λ number q b shown. leaves (in_cells q) b (number, shown);
            carried = λ q b shown. carried (in_cells q) b (finds values t q b shown);
          })
          p byte of

      leaves_lie : (t : ℕ) (at : Place) (byte : ℕ) → Leaves arrays memory later spad pass given values t at byte → IsLeafHalf (leaf_half t) (Z at)
      leaves_lie t (in_cells p) byte of = subst (IsLeafHalf (leaf_half t)) (sym (leaf_lies pass tile place of.0 t p of.1.stands)) refl
      leaves_lie t (in_memory p) byte of = absurd of

      results_lie : (t : ℕ) (at : Place) (byte : ℕ) → Results values t at byte → Z at ≡ output (row_half blocks t)
      results_lie t (in_cells p) byte of = result_lies pass tile place given.sound.shaped some_h some_w t p of.stands
      results_lie t (in_memory p) byte of = absurd of

      pieces_lie : (t : ℕ) (at : Place) (byte : ℕ) → Pieces values t at byte → Z at ≡ piece t
      pieces_lie t (in_cells p) byte of = absurd of
      pieces_lie t (in_memory p) byte of = piece_lies pass tile place given.sound.shaped some_h some_w t p of.stands

      all_covered : (at : Place) (byte : ℕ) → Made values at byte → (t : ℕ) × (t < blocks.tiles) × Pieces values t at byte
      all_covered (in_cells p) byte of = absurd of
      all_covered (in_memory p) byte of =
          pieces_cover pass tile given.sound.shaped some_h some_w (array_of arrays memory later spad pass given pass.dest) values p byte given.sound.result.elem_is of

      written : (t : ℕ) → t < tiles_of pass.domain tile → (store : Store) → HasSize S store → Shows (Results values t) store → Shows (Pieces values t) (sequential (blocks.writes t) lanes store)
      written t within store has shows (in_cells p) byte of = absurd of
      written t within store has shows (in_memory p) byte of = writes_put values lanes t within store has shows p byte of

      pub brings : Brings lanes S Z blocks (Sources arrays memory later spad pass given values) (Made values) (Leaves arrays memory later spad pass given values) (Results values) (Pieces values)
      brings = record {
        sources_in = sources_lie arrays memory later spad pass given values are;
        leaves_in = leaves_lie;
        results_in = λ t within. results_lie t;
        pieces_in = λ t within. pieces_lie t;
        some = some_tile;
        covers = all_covered;
        reads = reads_bring arrays memory later spad pass given values are lanes lanes_some;
        compute = computed;
        writes = written;
        keep = keep_to_zones;
      }

      -- the pass leaves what it makes, and what was there
      pub left : (store : Store) → HasSize S store → Shows (Sources arrays memory later spad pass given values) store
          → Left lanes lanes_some S Z blocks (Sources arrays memory later spad pass given values) (Made values) (Leaves arrays memory later spad pass given values) (Results values) (Pieces values) brings
          (sequential (pass_list blocks) lanes store)
      left = pass_leaves lanes lanes_some S Z blocks (Sources arrays memory later spad pass given values) (Made values) (Leaves arrays memory later spad pass given values) (Results values) (Pieces values) brings
