-- What a command that takes a piece leaves in memory.
use Rattle.std.proofs.Common.{◌≡◌, ℕ, ◌+◌, ◌<◌, Option, None, Some, List, [], ◌∷◌, length, get_or, false, ap, sym, ◌∙◌, refl, subst, arith}
use Rattle.std.specs.Prelude.{map, slice_get, All, ◌↔◌, true}
use Rattle.std.specs.Option.{option_map}
use Rattle.std.proofs.lemmas.Option.{get_or_from_slice_get, slice_get-get_or}
use Rattle.std.proofs.lemmas.Nat.{same_from_place, mul-add-lt}
use Rattle.ven_base.specs.Elem.{size_of}
use Rattle.ven_base.specs.Extent.{elements_of}
use Rattle.ven_base.specs.Cell.{Cell}
use Rattle.ven_base.specs.Store.{Store, Place, in_cells, in_memory, Size, HasPlace, store_size}
use Rattle.venice_isa.specs.declared.work.DmaWork.{DmaWork}
use Rattle.venice_isa.specs.declared.issue.Issue.TheVariants.{Write}
use Rattle.venice_isa.specs.Region.{place_in, IsAt, Covers, LiesBelow}
use Rattle.venice_isa.specs.Footprint.{cells_of, memory_of, Reads, Writes, HasFootprint}
use Rattle.venice_isa.specs.Cell.{cell_at, byte_of}
use Rattle.venice_isa.specs.Copy.{written_back}
use Rattle.venice_isa.specs.Beat.{after_all_beats}
use Rattle.venice_isa.proofs.Copies.{write_copies}
use Rattle.venice_isa.proofs.Regions.{item_fits}
use Rattle.venice_isa.proofs.Transfers.{write_beats}
use Rattle.pass_plan.specs.declared.parts.Piece.{Piece}
use Rattle.pass_plan.specs.declared.parts.Tile.{Tile}
use Rattle.pass_plan.specs.declared.split.ArrayPlace.{ArrayPlace}
use Rattle.pass_plan.specs.Pass.{Pass, Arrays, result_of}
use Rattle.pass_plan.specs.Tile.{IsPieceOf}
use Rattle.pass_plan.specs.Sound.{end_of}
use Rattle.pass_plan.specs.Buffers.{IsResultPlace, IsResultByte, IsPiecePlace, IsPieceByte, ends_row}
use Rattle.dma_segments.specs.Put.{IsByteOf, piece_cell, array_byte}
use Rattle.dma_segments.specs.Taken.{element_in, IsWrite, TakePiece}
use Rattle.dma_segments.specs.Effect.{IsPieceCell, IsTakenByte, HasSides, HasTaken, HasByte}
use Rattle.dma_segments.specs.Laws.{after_writes, with_tag, result_array, result_piece, result_cell}
use Rattle.dma_segments.proofs.Lists.{all_each}
use Rattle.dma_segments.proofs.Effects.{cell_below}

write_footprint : (size : Size) (work : DmaWork) → LiesBelow (memory_of work) size.memory → LiesBelow (cells_of work) size.cells → HasFootprint size (Write work)
write_footprint size work memory cells = record { has_reads = reads; has_writes = writes }
  where
    reads : (place : Place) → Reads (Write work) place → HasPlace size place
    reads (in_cells p) h = cells p h
    reads (in_memory p) h = absurd h

    writes : (place : Place) → Writes (Write work) place → HasPlace size place
    writes (in_memory p) h = memory p h
    writes (in_cells p) h = absurd h

module _ (to : ArrayPlace) (piece : Piece) (buffer : ℕ) (inside : IsPieceOf to.shape piece) where
  -- the bytes of the piece's place in the array, each by its place
  element_below : (row column b : ℕ) → IsByteOf to.elem piece row column b → element_in to.shape piece row column < elements_of to.shape
  element_below row column b is =
      let l = mul-add-lt (piece.r0 + row) to.shape.cols (piece.c0 + column) to.shape.rows (omega (arith, inside.rows_inside, is.row_within)) (omega (arith, inside.cols_inside, is.column_within)) in
      omega arith

  byte_below : (row column b : ℕ) → IsByteOf to.elem piece row column b → array_byte to (element_in to.shape piece row column) b < end_of to
  byte_below row column b is =
      let fits = item_fits (element_in to.shape piece row column) (elements_of to.shape) (size_of to.elem) (element_below row column b is) in
      omega (arith, is.b_within)

  same_place : (row column b row' column' b' : ℕ) → IsByteOf to.elem piece row column b → IsByteOf to.elem piece row' column' b'
      → array_byte to (element_in to.shape piece row column) b ≡ array_byte to (element_in to.shape piece row' column') b' → (row ≡ row') × (column ≡ column') × (b ≡ b')
  same_place row column b row' column' b' is is' same =
      let one = same_from_place (element_in to.shape piece row column) b (element_in to.shape piece row' column') b' (size_of to.elem) is.b_within is'.b_within (omega arith) in
      let two = same_from_place (piece.r0 + row) (piece.c0 + column) (piece.r0 + row') (piece.c0 + column') to.shape.cols (omega (arith, inside.cols_inside, is.column_within)) (omega (arith, inside.cols_inside, is'.column_within)) one.0 in
      (omega (arith, two.0), omega (arith, two.1), one.1)

  module _ (work : DmaWork) (written : IsWrite to piece buffer work) (store : Store) (sides : HasSides to piece buffer store) where
    cells_fit : LiesBelow (cells_of work) (length store.cells)
    cells_fit = λ p (r, j, at).
        let here : p ≡ place_in (cells_of work) r j = omega (arith, at.from, at.below) in
        let byte = written.bytes r j at.row at.column in
        let l = cell_below to.elem piece buffer byte.row byte.column byte.b byte.is_byte in
        omega (arith, byte.cell_is, sides.in_cells)

    memory_fits : LiesBelow (memory_of work) (length store.memory)
    memory_fits = λ p (r, j, at).
        let here : p ≡ place_in (memory_of work) r j = omega (arith, at.from, at.below) in
        let byte = written.bytes r j at.row at.column in
        let l = byte_below byte.row byte.column byte.b byte.is_byte in
        omega (arith, byte.byte_is, sides.in_memory)

    one_takes : (lanes : ℕ) → HasTaken to piece buffer store (after_all_beats (Write work) lanes store)
    one_takes lanes =
        let does = write_beats work lanes store (write_footprint (store_size store) work memory_fits cells_fit) in
        let copied = write_copies work store.cells store.memory cells_fit memory_fits in
        let after = after_all_beats (Write work) lanes store in
        record {
          same_cells = does.0;
          same_length = ap length does.1 ∙ copied.same_length;
          taken = λ row column b is.
              let covered = written.each row column b is in
              let r = covered.0 in
              let j = covered.1 in
              let at : IsAt (memory_of work) r j (array_byte to (element_in to.shape piece row column) b) = covered.2 in
              let here : array_byte to (element_in to.shape piece row column) b ≡ place_in (memory_of work) r j = omega (arith, at.from, at.below) in
              let byte = written.bytes r j at.row at.column in
              let same = same_place byte.row byte.column byte.b row column b byte.is_byte is (sym byte.byte_is ∙ sym here) in
              ap (λ m. get_or m (array_byte to (element_in to.shape piece row column) b) 0) does.1
              ∙ ap (λ p. get_or (written_back work store.cells store.memory) p 0) here
              ∙ copied.copied written.rows_apart r j at.row at.column
              ∙ ap (λ p. byte_of (cell_at store.cells p)) byte.cell_is
              ∙ ap (λ m. byte_of (cell_at store.cells (piece_cell to.elem piece buffer m byte.column byte.b))) same.0
              ∙ ap (λ m. byte_of (cell_at store.cells (piece_cell to.elem piece buffer row m byte.b))) same.1
              ∙ ap (λ m. byte_of (cell_at store.cells (piece_cell to.elem piece buffer row column m))) same.2;
          kept = λ p nowhere.
              ap (λ m. get_or m p 0) does.1
              ∙ copied.kept p (λ covered.
              let r = covered.0 in
              let j = covered.1 in
              let at : IsAt (memory_of work) r j p = covered.2 in
              let here : p ≡ place_in (memory_of work) r j = omega (arith, at.from, at.below) in
              let byte = written.bytes r j at.row at.column in
              nowhere (record { row = byte.row; column = byte.column; b = byte.b; is_byte = byte.is_byte; is = here ∙ byte.byte_is }));
        }

  pub writes_take : (commands : List DmaWork) (lanes : ℕ) (store : Store) → TakePiece to piece buffer commands → HasSides to piece buffer store → HasTaken to piece buffer store (after_writes commands lanes store)
  writes_take [] lanes store take sides = absurd (omega (arith, take.one))
  writes_take (work ∷ []) lanes store take sides = one_takes work (take.takes 0 work (omega arith)) store sides lanes
  writes_take (work ∷ other ∷ commands) lanes store take sides = absurd (omega (arith, take.one))

-- a command's cells and places
pub write_cells : (to : ArrayPlace) (piece : Piece) (buffer : ℕ) (commands : List DmaWork) → TakePiece to piece buffer commands
    → All (λ work. (p : ℕ) → Covers (cells_of work) p → IsPieceCell to.elem piece buffer p) commands × All (λ work. (p : ℕ) → Covers (memory_of work) p ↔ IsTakenByte to piece p) commands
write_cells to piece buffer commands take = ((λ k d below. cells (get_or commands k d) (take.takes k d below)), (λ k d below. places (get_or commands k d) (take.takes k d below)))
  where
    cells : (work : DmaWork) → IsWrite to piece buffer work → (p : ℕ) → Covers (cells_of work) p → IsPieceCell to.elem piece buffer p
    cells work is p (r, j, at) =
        let here : p ≡ place_in (cells_of work) r j = omega (arith, at.from, at.below) in
        let byte = is.bytes r j at.row at.column in
        record { row = byte.row; column = byte.column; b = byte.b; is_byte = byte.is_byte; is = here ∙ byte.cell_is }

    taken : (work : DmaWork) → IsWrite to piece buffer work → (p : ℕ) → Covers (memory_of work) p → IsTakenByte to piece p
    taken work is p (r, j, at) =
        let here : p ≡ place_in (memory_of work) r j = omega (arith, at.from, at.below) in
        let byte = is.bytes r j at.row at.column in
        record { row = byte.row; column = byte.column; b = byte.b; is_byte = byte.is_byte; is = here ∙ byte.byte_is }

    places : (work : DmaWork) → IsWrite to piece buffer work → (p : ℕ) → Covers (memory_of work) p ↔ IsTakenByte to piece p
    places work is p = (taken work is p, λ byte. subst (λ q. Covers (memory_of work) q) (sym byte.is) (is.each byte.row byte.column byte.b byte.is_byte))

pub tagged_take : (to : ArrayPlace) (piece : Piece) (buffer : ℕ) (commands : List DmaWork) (tag : ℕ) → TakePiece to piece buffer commands → TakePiece to piece buffer (map (with_tag tag) commands)
tagged_take to piece buffer [] tag take = absurd (omega (arith, take.one))
tagged_take to piece buffer (work ∷ []) tag take =
    let is = take.takes 0 work (omega arith) in
    record {
      one = refl;
      takes = all_each (IsWrite to piece buffer) (with_tag tag work ∷ []) (record { some_rows = is.some_rows; some_bytes = is.some_bytes; bytes = is.bytes; each = is.each; rows_apart = is.rows_apart }, tt);
    }
tagged_take to piece buffer (work ∷ other ∷ commands) tag take = absurd (omega (arith, take.one))

-- ---- a tile's results

cell_has : (store : Store) (p byte : ℕ) → HasByte store (in_cells p) byte → byte_of (cell_at store.cells p) ≡ byte
cell_has store p byte has = by (slice_get store.cells p) refl has
  where
    some_is : (x y : ℕ) → Some x ≡ Some y → x ≡ y
    some_is x y is = cc

    by : (o : Option Cell) → slice_get store.cells p ≡ o → option_map byte_of o ≡ Some byte → byte_of (cell_at store.cells p) ≡ byte
    by None is h = absurd (cc)
    by (Some x) is h = ap byte_of (get_or_from_slice_get store.cells p x (0, false) is) ∙ some_is (byte_of x) byte h

memory_gets : (store : Store) (p byte : ℕ) → p < length store.memory → get_or store.memory p 0 ≡ byte → HasByte store (in_memory p) byte
memory_gets store p byte below is =
    ap (λ o. option_map byte_of (option_map (λ x. (x, false)) o)) (slice_get-get_or store.memory p 0 below) ∙ ap (λ x. Some x) is

pub result_cells : (pass : Pass) (tile : Tile) (t p : ℕ) → IsPieceCell pass.elem (result_piece pass tile t) (result_cell pass tile t) p ↔ IsResultPlace pass tile t p
result_cells pass tile t p = (
  (λ c. record { row = c.row; column = c.column; b = c.b; row_within = c.is_byte.row_within; column_within = c.is_byte.column_within; b_within = c.is_byte.b_within; is = c.is }),
  (λ at. record { row = at.row; column = at.column; b = at.b; is_byte = record { row_within = at.row_within; column_within = at.column_within; b_within = at.b_within }; is = at.is }),
)

module _ (pass : Pass) (tile : Tile) (t place : ℕ) where
  pub piece_places : (p : ℕ) → ends_row pass tile t ≡ true → IsTakenByte (result_array pass place) (result_piece pass tile t) p ↔ IsPiecePlace pass tile place t p
  piece_places p last = (
    (λ c. record { last = last; row = c.row; column = c.column; b = c.b; row_within = c.is_byte.row_within; column_within = c.is_byte.column_within; b_within = c.is_byte.b_within; is = c.is }),
    (λ at. record { row = at.row; column = at.column; b = at.b; is_byte = record { row_within = at.row_within; column_within = at.column_within; b_within = at.b_within }; is = at.is }),
  )

  pub writes_show : (arrays : Arrays) (commands : List DmaWork) (lanes : ℕ) (store : Store) → IsPieceOf (result_of pass.kind pass.domain) (result_piece pass tile t)
      → TakePiece (result_array pass place) (result_piece pass tile t) (result_cell pass tile t) commands → HasSides (result_array pass place) (result_piece pass tile t) (result_cell pass tile t) store
      → ((p byte : ℕ) → IsResultByte pass tile arrays t p byte → HasByte store (in_cells p) byte)
      → (p byte : ℕ) → IsPieceByte pass tile arrays place t p byte → HasByte (after_writes commands lanes store) (in_memory p) byte
  writes_show arrays commands lanes store inside take sides shows p byte shown =
      let to = result_array pass place in
      let piece = result_piece pass tile t in
      let buffer = result_cell pass tile t in
      let at = shown.stands in
      let is : IsByteOf to.elem piece at.row at.column at.b = record { row_within = at.row_within; column_within = at.column_within; b_within = at.b_within } in
      let taken = writes_take to piece buffer inside commands lanes store take sides in
      let cell = piece_cell to.elem piece buffer at.row at.column at.b in
      let has = cell_has store cell byte (shows cell byte (record { stands = record { row = at.row; column = at.column; b = at.b; row_within = at.row_within; column_within = at.column_within; b_within = at.b_within; is = refl }; is = shown.is })) in
      let below = byte_below to piece buffer inside at.row at.column at.b is in
      let here : p ≡ array_byte to (element_in to.shape piece at.row at.column) at.b = at.is in
      memory_gets (after_writes commands lanes store) p byte (omega (arith, taken.same_length, sides.in_memory, here))
      (ap (λ m. get_or (after_writes commands lanes store).memory m 0) here ∙ taken.taken at.row at.column at.b is ∙ has)
