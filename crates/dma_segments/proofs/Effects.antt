-- What commands and fills that put a piece leave in cells.
use Rattle.std.proofs.Common.{◌≡◌, ℕ, ◌+◌, ◌-◌, ◌*◌, ◌<◌, ◌≤◌, ◌⊎◌, None, Some, List, [], ◌∷◌, ◌++◌, length, get_or, inl, inr, ap, sym, ◌∙◌, refl, subst, arith, All}
use Rattle.std.specs.Prelude.{map, Any, AllPairs, ◌↔◌}
use Rattle.std.proofs.lemmas.Nat.{same_from_place, mul-add-lt}
use Rattle.ven_base.specs.declared.elem.Elem.{Elem}
use Rattle.ven_base.specs.Elem.{size_of}
use Rattle.ven_base.specs.Extent.{elements_of}
use Rattle.ven_base.specs.Mapping.{fill_of}
use Rattle.ven_base.specs.Cell.{Cell}
use Rattle.ven_base.specs.Store.{Store, Place, in_cells, in_memory, Size, HasPlace, store_size}
use Rattle.venice_isa.specs.declared.work.DmaWork.{DmaWork}
use Rattle.venice_isa.specs.declared.issue.Issue.TheVariants.{Read}
use Rattle.venice_isa.specs.Region.{place_in, IsAt, Covers, LiesBelow, HasRowsApart, IsApartFrom}
use Rattle.venice_isa.specs.Footprint.{cells_of, memory_of, Reads, Writes, HasFootprint}
use Rattle.venice_isa.specs.Cell.{cell_at, clear}
use Rattle.venice_isa.specs.Copy.{read_into}
use Rattle.venice_isa.specs.Element.{bytes_of}
use Rattle.venice_isa.specs.Beat.{after_all_beats}
use Rattle.venice_isa.proofs.Copies.{read_copies}
use Rattle.venice_isa.proofs.Regions.{covered_or_not, item_fits}
use Rattle.venice_isa.proofs.Transfers.{read_beats}
use Rattle.pass_plan.specs.declared.leaf.Leaf.{Leaf}
use Rattle.pass_plan.specs.declared.parts.Piece.{Piece}
use Rattle.pass_plan.specs.declared.split.ArrayPlace.{ArrayPlace}
use Rattle.pass_plan.specs.Sound.{end_of}
use Rattle.pass_plan.specs.Buffers.{IsArrayPlace}
use Rattle.dma_segments.specs.declared.segments.Fill.{Fill}
use Rattle.dma_segments.specs.Put.{IsByteOf, piece_cell, array_byte, source_in, cells_of_fill, regions_of, IsRead, IsFill, PutPiece}
use Rattle.dma_segments.specs.Effect.{IsFilled, AreFilled, IsSourcedCell, IsBlankCell, KeepOthers, HoldFills, HasSides}
use Rattle.dma_segments.specs.Laws.{after_reads, with_tag, BringSources, HoldPiece}
use Rattle.dma_segments.proofs.Lists.{Each, AtLeastOne, each_all, all_each, one_any, any_one, one_map, each_left, each_of_map, each_weaker, each_map, all_pairs, pairs_all, pairs_left, pairs_of_map}

-- ---- the bytes of a piece, each by its cell

pub same_cell : (elem : Elem) (piece : Piece) (buffer row column b row' column' b' : ℕ) → IsByteOf elem piece row column b → IsByteOf elem piece row' column' b'
    → piece_cell elem piece buffer row column b ≡ piece_cell elem piece buffer row' column' b' → (row ≡ row') × (column ≡ column') × (b ≡ b')
same_cell elem piece buffer row column b row' column' b' is is' same =
    let one = same_from_place (row * piece.w + column) b (row' * piece.w + column') b' (size_of elem) is.b_within is'.b_within (omega arith) in
    let two = same_from_place row column row' column' piece.w is.column_within is'.column_within one.0 in
    (two.0, two.1, one.1)

pub cell_below : (elem : Elem) (piece : Piece) (buffer row column b : ℕ) → IsByteOf elem piece row column b → piece_cell elem piece buffer row column b < buffer + piece.h * piece.w * size_of elem
cell_below elem piece buffer row column b is =
    let l = mul-add-lt row piece.w column piece.h is.row_within is.column_within in
    let fits = item_fits (row * piece.w + column) (piece.h * piece.w) (size_of elem) (omega arith) in
    omega (arith, is.b_within)

-- ---- reads, one after another

-- a read whose bytes lie below these ends, and no row of whose cells reaches into the next
pub record Fits (memory cells : ℕ) (work : DmaWork) : Type 0 where
  pub below_memory : LiesBelow (memory_of work) memory
  pub below_cells : LiesBelow (cells_of work) cells
  pub apart : HasRowsApart (cells_of work)

read_footprint : (size : Size) (work : DmaWork) → LiesBelow (memory_of work) size.memory → LiesBelow (cells_of work) size.cells → HasFootprint size (Read work)
read_footprint size work memory cells = record { has_reads = reads; has_writes = writes }
  where
    reads : (place : Place) → Reads (Read work) place → HasPlace size place
    reads (in_memory p) h = memory p h
    reads (in_cells p) h = absurd h

    writes : (place : Place) → Writes (Read work) place → HasPlace size place
    writes (in_cells p) h = cells p h
    writes (in_memory p) h = absurd h

-- where the read writes this cell, it writes this
abbrev WritesThere : List ℕ → ℕ → Cell → DmaWork → Type 0
WritesThere memory c x work = (r j : ℕ) → r < work.rows → j < work.bytes → place_in (cells_of work) r j ≡ c → clear (get_or memory (place_in (memory_of work) r j) 0) ≡ x

module _ (lanes : ℕ) where
  -- the store after a read
  record IsAfter (work : DmaWork) (store : Store) (next : Store) : Type 0 where
    cells : next.cells ≡ read_into work store.memory store.cells
    memory : next.memory ≡ store.memory
    same_length : length next.cells ≡ length store.cells

  after_read : (work : DmaWork) (store : Store) → Fits (length store.memory) (length store.cells) work → IsAfter work store (after_all_beats (Read work) lanes store)
  after_read work store fits =
      let does = read_beats work lanes store (read_footprint (store_size store) work fits.below_memory fits.below_cells) in
      record {
        cells = does.0;
        memory = does.1;
        same_length = ap length does.0 ∙ (read_copies work store.memory store.cells fits.below_memory fits.below_cells).same_length;
      }

  fits_next : (works : List DmaWork) (store next : Store) → next.memory ≡ store.memory → length next.cells ≡ length store.cells → Each (Fits (length store.memory) (length store.cells)) works → Each (Fits (length next.memory) (length next.cells)) works
  fits_next works store next memory cells fits =
      subst (λ m. Each (Fits (length m) (length next.cells)) works) (sym memory) (subst (λ n. Each (Fits (length store.memory) n) works) (sym cells) fits)

  pub reads_keep : (works : List DmaWork) (store : Store) → Each (Fits (length store.memory) (length store.cells)) works
      → ((after_reads works lanes store).memory ≡ store.memory) × (length (after_reads works lanes store).cells ≡ length store.cells)
  reads_keep [] store fits = (refl, refl)
  reads_keep (work ∷ works) store fits =
      let next = after_all_beats (Read work) lanes store in
      let one = after_read work store fits.0 in
      let rest = reads_keep works next (fits_next works store next one.memory one.same_length fits.1) in
      (rest.0 ∙ one.memory, rest.1 ∙ one.same_length)

  read_settles : (c : ℕ) (x : Cell) (work : DmaWork) (memory : List ℕ) (cells : List Cell) → Fits (length memory) (length cells) work → WritesThere memory c x work → Covers (cells_of work) c ⊎ (cell_at cells c ≡ x) → cell_at (read_into work memory cells) c ≡ x
  read_settles c x work memory cells fits writes before =
      let copied = read_copies work memory cells fits.below_memory fits.below_cells in
      elim (covered_or_not (cells_of work) c) [
        | inl covered ↦
            let r = covered.0 in
            let j = covered.1 in
            let at : IsAt (cells_of work) r j c = covered.2 in
            let here : place_in (cells_of work) r j ≡ c = omega (arith, at.from, at.below) in
            ap (cell_at (read_into work memory cells)) (sym here) ∙ copied.copied fits.apart r j at.row at.column ∙ writes r j at.row at.column here
        | inr outside ↦ copied.kept c outside ∙ already outside before
      ]
    where
      already : ¬ Covers (cells_of work) c → Covers (cells_of work) c ⊎ (cell_at cells c ≡ x) → cell_at cells c ≡ x
      already outside (inl covered) = absurd (outside covered)
      already outside (inr same) = same

  pub reads_settle : (c : ℕ) (x : Cell) (works : List DmaWork) (store : Store) → Each (Fits (length store.memory) (length store.cells)) works → Each (WritesThere store.memory c x) works
      → AtLeastOne (λ work. Covers (cells_of work) c) works ⊎ (cell_at store.cells c ≡ x) → cell_at (after_reads works lanes store).cells c ≡ x
  reads_settle c x [] store fits writes (inl none) = absurd none
  reads_settle c x [] store fits writes (inr same) = same
  reads_settle c x (work ∷ works) store fits writes before =
      let next = after_all_beats (Read work) lanes store in
      let one = after_read work store fits.0 in
      reads_settle c x works next (fits_next works store next one.memory one.same_length fits.1)
      (subst (λ m. Each (WritesThere m c x) works) (sym one.memory) writes.1) (go one.cells before)
    where
      go : (after_all_beats (Read work) lanes store).cells ≡ read_into work store.memory store.cells → AtLeastOne (λ w. Covers (cells_of w) c) (work ∷ works) ⊎ (cell_at store.cells c ≡ x)
          → AtLeastOne (λ w. Covers (cells_of w) c) works ⊎ (cell_at (after_all_beats (Read work) lanes store).cells c ≡ x)
      go is (inl (inl here)) = inr (ap (λ cells. cell_at cells c) is ∙ read_settles c x work store.memory store.cells fits.0 writes.0 (inl here))
      go is (inl (inr later)) = inl later
      go is (inr same) = inr (ap (λ cells. cell_at cells c) is ∙ read_settles c x work store.memory store.cells fits.0 writes.0 (inr same))

-- ---- a piece

module _ (leaf : Leaf) (from : ArrayPlace) (piece : Piece) (buffer : ℕ) where
  -- a byte of a command
  command_byte : (work : DmaWork) → IsRead leaf from piece buffer work → (p : ℕ) → Covers (cells_of work) p → IsSourcedCell leaf piece buffer p
  command_byte work is p (r, j, at) =
      let here : p ≡ place_in (cells_of work) r j = omega (arith, at.from, at.below) in
      let byte = is.bytes r j at.row at.column in
      record { cell = record { row = byte.row; column = byte.column; b = byte.b; is_byte = byte.is_byte; is = here ∙ byte.cell_is }; index = byte.index; mapped = byte.mapped }

  command_place : from.elem ≡ leaf.elem → (work : DmaWork) → IsRead leaf from piece buffer work → (p : ℕ) → Covers (memory_of work) p → IsArrayPlace from (elements_of from.shape) p
  command_place elem_is work is p (r, j, at) =
      let here : p ≡ place_in (memory_of work) r j = omega (arith, at.from, at.below) in
      let byte = is.bytes r j at.row at.column in
      record { index = byte.index; b = byte.b; within = byte.within; b_within = subst (λ e. byte.b < size_of e) (sym elem_is) byte.is_byte.b_within; is = here ∙ byte.byte_is }

  module _ (commands : List DmaWork) (fills : List Fill) (put : PutPiece leaf from piece buffer commands fills) where
    pub command_cells : (p : ℕ) → Any (λ work. Covers (cells_of work) p) commands ↔ IsSourcedCell leaf piece buffer p
    command_cells p = (
      (λ found. sourced (one_any (λ work. Covers (cells_of work) p) commands found)),
      (λ cell. subst (λ c. Any (λ work. Covers (cells_of work) c) commands) (sym cell.cell.is) (put.each_read cell.cell.row cell.cell.column cell.cell.b cell.index cell.cell.is_byte cell.mapped)),
    )
      where
        of_list : (works : List DmaWork) → Each (IsRead leaf from piece buffer) works → AtLeastOne (λ work. Covers (cells_of work) p) works → IsSourcedCell leaf piece buffer p
        of_list [] each none = absurd none
        of_list (work ∷ works) each (inl here) = command_byte work each.0 p here
        of_list (work ∷ works) each (inr later) = of_list works each.1 later

        sourced : AtLeastOne (λ work. Covers (cells_of work) p) commands → IsSourcedCell leaf piece buffer p
        sourced = of_list commands (each_all (IsRead leaf from piece buffer) commands put.are_reads)

    -- a source is an element of the array
    pub source_within : (row column b index : ℕ) → IsByteOf leaf.elem piece row column b → source_in leaf piece row column ≡ Some index → index < elements_of from.shape
    source_within row column b index is mapped =
        of_list commands (each_all (IsRead leaf from piece buffer) commands put.are_reads)
        (one_any (λ work. Covers (cells_of work) (piece_cell leaf.elem piece buffer row column b)) commands (put.each_read row column b index is mapped))
      where
        of_list : (works : List DmaWork) → Each (IsRead leaf from piece buffer) works → AtLeastOne (λ work. Covers (cells_of work) (piece_cell leaf.elem piece buffer row column b)) works → index < elements_of from.shape
        of_list [] each none = absurd none
        of_list (work ∷ works) each (inr later) = of_list works each.1 later
        of_list (work ∷ works) each (inl (r, j, at)) =
            let byte = each.0.bytes r j at.row at.column in
            let here : place_in (cells_of work) r j ≡ piece_cell leaf.elem piece buffer row column b = omega (arith, at.from, at.below) in
            let same = same_cell leaf.elem piece buffer byte.row byte.column byte.b row column b byte.is_byte is (sym byte.cell_is ∙ here) in
            let sources : Some byte.index ≡ Some index = sym byte.mapped ∙ ap (λ m. source_in leaf piece m byte.column) same.0 ∙ ap (λ m. source_in leaf piece row m) same.1 ∙ mapped in
            let one : byte.index ≡ index = cc in
            omega (arith, byte.within)

    pub command_places : from.elem ≡ leaf.elem → All (λ work. (p : ℕ) → Covers (memory_of work) p → IsArrayPlace from (elements_of from.shape) p) commands
    command_places elem_is = λ k d below. command_place elem_is (get_or commands k d) (put.are_reads k d below)

    -- the commands fit where the array and the buffer do
    command_fits : from.elem ≡ leaf.elem → (memory cells : ℕ) → end_of from ≤ memory → buffer + piece.h * piece.w * size_of from.elem ≤ cells → (work : DmaWork) → IsRead leaf from piece buffer work → HasRowsApart (cells_of work) → Fits memory cells work
    command_fits elem_is memory cells memory_has cells_have work is apart = record {
      below_memory = λ p covered.
          let place = command_place elem_is work is p covered in
          let fits = item_fits place.index (elements_of from.shape) (size_of from.elem) place.within in
          omega (arith, place.is, place.b_within);
      below_cells = λ p covered.
          let cell = (command_byte work is p covered).cell in
          let l = cell_below leaf.elem piece buffer cell.row cell.column cell.b cell.is_byte in
          let same : piece.h * piece.w * size_of from.elem ≡ piece.h * piece.w * size_of leaf.elem = ap (λ e. piece.h * piece.w * size_of e) elem_is in
          omega (arith, cell.is);
      apart = apart;
    }

    both : (P Q : DmaWork → Type 0) (works : List DmaWork) → Each P works → Each Q works → Each (λ work. P work × Q work) works
    both P Q [] p q = tt
    both P Q (work ∷ works) p q = ((p.0, q.0), both P Q works p.1 q.1)

    apart_list : Each (λ work. HasRowsApart (cells_of work)) commands
    apart_list = each_of_map cells_of HasRowsApart commands (each_left HasRowsApart (map cells_of commands) (map cells_of_fill fills) (each_all HasRowsApart (regions_of commands fills) put.rows_apart))

    pub commands_once : All (λ work. HasRowsApart (cells_of work)) commands × AllPairs (λ a b. IsApartFrom (cells_of a) (cells_of b)) commands
    commands_once = (
      all_each (λ work. HasRowsApart (cells_of work)) commands apart_list,
      all_pairs (λ a b. IsApartFrom (cells_of a) (cells_of b)) commands
          (pairs_of_map cells_of IsApartFrom commands (pairs_left IsApartFrom (map cells_of commands) (map cells_of_fill fills) (pairs_all IsApartFrom (regions_of commands fills) put.once))),
    )

    all_fit : from.elem ≡ leaf.elem → (store : Store) → HasSides from piece buffer store → Each (Fits (length store.memory) (length store.cells)) commands
    all_fit elem_is store sides =
        let reads = each_all (IsRead leaf from piece buffer) commands put.are_reads in
        each_weaker (λ work. IsRead leaf from piece buffer work × HasRowsApart (cells_of work)) (Fits (length store.memory) (length store.cells))
        (λ work is. command_fits elem_is (length store.memory) (length store.cells) sides.in_memory sides.in_cells work is.0 is.1) commands
        (both (IsRead leaf from piece buffer) (λ work. HasRowsApart (cells_of work)) commands reads apart_list)

    pub reads_bring : (lanes : ℕ) (store : Store) → from.elem ≡ leaf.elem → HasSides from piece buffer store → BringSources leaf from piece buffer store (after_reads commands lanes store)
    reads_bring lanes store elem_is sides =
        let fits = all_fit elem_is store sides in
        let reads = each_all (IsRead leaf from piece buffer) commands put.are_reads in
        let keep = reads_keep lanes commands store fits in
        record {
          same_memory = keep.0;
          sources = λ row column b index is mapped.
              let c = piece_cell leaf.elem piece buffer row column b in
              let x = clear (get_or store.memory (array_byte from index b) 0) in
              reads_settle lanes c x commands store fits
              (each_weaker (IsRead leaf from piece buffer) (WritesThere store.memory c x) (λ work read. there row column b index is mapped work read) commands reads)
              (inl (one_any (λ work. Covers (cells_of work) c) commands (put.each_read row column b index is mapped)));
          others = record {
            same_length = keep.1;
            kept = λ p nowhere.
                reads_settle lanes p (cell_at store.cells p) commands store fits
                (each_weaker (IsRead leaf from piece buffer) (WritesThere store.memory p (cell_at store.cells p))
                (λ work read r j row col here. absurd (nowhere (command_byte work read p (r, j, record { row = row; column = col; from = omega arith; below = omega arith })))) commands reads)
                (inr refl);
          };
        }
      where
        there : (row column b index : ℕ) → IsByteOf leaf.elem piece row column b → source_in leaf piece row column ≡ Some index → (work : DmaWork) → IsRead leaf from piece buffer work
            → WritesThere store.memory (piece_cell leaf.elem piece buffer row column b) (clear (get_or store.memory (array_byte from index b) 0)) work
        there row column b index is mapped work read r j r_below j_below here =
            let byte = read.bytes r j r_below j_below in
            let same = same_cell leaf.elem piece buffer byte.row byte.column byte.b row column b byte.is_byte is (sym byte.cell_is ∙ here) in
            let sources : Some byte.index ≡ Some index = sym byte.mapped ∙ ap (λ m. source_in leaf piece m byte.column) same.0 ∙ ap (λ m. source_in leaf piece row m) same.1 ∙ mapped in
            let one : byte.index ≡ index = cc in
            ap (λ m. clear (get_or store.memory m 0)) (byte.byte_is ∙ ap (λ m. array_byte from m byte.b) one ∙ ap (λ m. array_byte from index m) same.2)

    -- ---- fills

    -- a byte of a fill
    fill_byte : (fill : Fill) → IsFill leaf from piece buffer fill → (r k t : ℕ) → r < fill.rows → k < fill.cols → t < size_of fill.elem
        → (cell : IsBlankCell leaf piece buffer (place_in (cells_of_fill fill) r k + t)) × (cell.cell.b ≡ t)
    fill_byte fill is r k t row col below =
        let at = is.places r k row col in (
          record {
            cell = record {
              row = at.row;
              column = at.column;
              b = t;
              is_byte = record { row_within = at.row_within; column_within = at.column_within; b_within = subst (λ e. t < size_of e) is.elem_is below };
              is = omega (arith, at.cell_is);
            };
            blank = at.blank;
          },
          refl,
        )

    -- where the fill writes this cell, it writes this
    FillWrites : ℕ → Cell → Fill → Type 0
    FillWrites c x fill = (r k t : ℕ) → r < fill.rows → k < fill.cols → t < size_of fill.elem → place_in (cells_of_fill fill) r k + t ≡ c → clear (get_or (bytes_of fill.elem fill.value) t 0) ≡ x

    fill_settles : (c : ℕ) (x : Cell) (fill : Fill) (before after : List Cell) → IsFilled fill before after → FillWrites c x fill → Covers (cells_of_fill fill) c ⊎ (cell_at before c ≡ x) → cell_at after c ≡ x
    unfolding FillWrites
    fill_settles c x fill before after is writes known =
        elim (covered_or_not (cells_of_fill fill) c) [
          | inl covered ↦
              let r = covered.0 in
              let k = covered.1 in
              let at : IsAt (cells_of_fill fill) r k c = covered.2 in
              let t = c - place_in (cells_of_fill fill) r k in
              let here : place_in (cells_of_fill fill) r k + t ≡ c = omega (arith, at.from) in
              let below : t < size_of fill.elem = omega (arith, at.from, at.below) in
              ap (cell_at after) (sym here) ∙ is.filled r k t at.row at.column below ∙ writes r k t at.row at.column below here
          | inr outside ↦ is.kept c outside ∙ already outside known
        ]
      where
        already : ¬ Covers (cells_of_fill fill) c → Covers (cells_of_fill fill) c ⊎ (cell_at before c ≡ x) → cell_at before c ≡ x
        already outside (inl covered) = absurd (outside covered)
        already outside (inr same) = same

    fills_settle : (c : ℕ) (x : Cell) (some : List Fill) (before after : List Cell) → AreFilled some before after → Each (FillWrites c x) some → AtLeastOne (λ fill. Covers (cells_of_fill fill) c) some ⊎ (cell_at before c ≡ x) → cell_at after c ≡ x
    fills_settle c x [] before after same writes (inl none) = absurd none
    fills_settle c x [] before after same writes (inr known) = ap (λ cells. cell_at cells c) same ∙ known
    fills_settle c x (fill ∷ some) before after (middle, one, rest) writes known = fills_settle c x some middle after rest writes.1 (next known)
      where
        next : AtLeastOne (λ f. Covers (cells_of_fill f) c) (fill ∷ some) ⊎ (cell_at before c ≡ x) → AtLeastOne (λ f. Covers (cells_of_fill f) c) some ⊎ (cell_at middle c ≡ x)
        next (inl (inl here)) = inr (fill_settles c x fill before middle one writes.0 (inl here))
        next (inl (inr later)) = inl later
        next (inr same) = inr (fill_settles c x fill before middle one writes.0 (inr same))

    fills_length : (some : List Fill) (before after : List Cell) → AreFilled some before after → length after ≡ length before
    fills_length [] before after same = ap length same
    fills_length (fill ∷ some) before after (middle, one, rest) = fills_length some middle after rest ∙ one.same_length

    fill_list : Each (IsFill leaf from piece buffer) fills
    fill_list = each_all (IsFill leaf from piece buffer) fills put.are_fills

    -- a cell that isn't a blank element's is left
    fill_elsewhere : (c : ℕ) (x : Cell) → ¬ IsBlankCell leaf piece buffer c → (fill : Fill) → IsFill leaf from piece buffer fill → FillWrites c x fill
    unfolding FillWrites
    fill_elsewhere c x nowhere fill is r k t row col below here =
        absurd (nowhere (subst (λ p. IsBlankCell leaf piece buffer p) here (fill_byte fill is r k t row col below).0))

    fill_there : (row column b : ℕ) → IsByteOf leaf.elem piece row column b → (fill : Fill) → IsFill leaf from piece buffer fill → FillWrites (piece_cell leaf.elem piece buffer row column b) (clear (get_or (bytes_of leaf.elem (fill_of leaf.map)) b 0)) fill
    unfolding FillWrites
    fill_there row column b is fill filled r k t r_below k_below below here =
        let byte = fill_byte fill filled r k t r_below k_below below in
        let same = same_cell leaf.elem piece buffer byte.0.cell.row byte.0.cell.column byte.0.cell.b row column b byte.0.cell.is_byte is (sym byte.0.cell.is ∙ here) in
        ap (λ e. clear (get_or (bytes_of e fill.value) t 0)) filled.elem_is ∙ ap (λ v. clear (get_or (bytes_of leaf.elem v) t 0)) filled.value_is
        ∙ ap (λ m. clear (get_or (bytes_of leaf.elem (fill_of leaf.map)) m 0)) (sym byte.1 ∙ same.2)

    pub fills_fill : (before after : List Cell) → AreFilled fills before after → HoldFills leaf piece buffer after × KeepOthers (IsBlankCell leaf piece buffer) before after
    fills_fill before after done = (
      (λ row column b is blank.
          let c = piece_cell leaf.elem piece buffer row column b in
          let x = clear (get_or (bytes_of leaf.elem (fill_of leaf.map)) b 0) in
          fills_settle c x fills before after done (each_weaker (IsFill leaf from piece buffer) (FillWrites c x) (fill_there row column b is) fills fill_list)
          (inl (one_any (λ fill. Covers (cells_of_fill fill) c) fills (put.each_filled row column b is blank)))),
      record {
        same_length = fills_length fills before after done;
        kept = λ p nowhere.
            fills_settle p (cell_at before p) fills before after done (each_weaker (IsFill leaf from piece buffer) (FillWrites p (cell_at before p)) (fill_elsewhere p (cell_at before p) nowhere) fills fill_list) (inr refl);
      },
    )

    -- ---- commands, and then fills

    pub puts_hold : (lanes : ℕ) (store : Store) (after : List Cell) → from.elem ≡ leaf.elem → HasSides from piece buffer store → AreFilled fills (after_reads commands lanes store).cells after → HoldPiece leaf from piece buffer store after
    puts_hold lanes store after elem_is sides done =
        let brought = reads_bring lanes store elem_is sides in
        let filled = fills_fill (after_reads commands lanes store).cells after done in
        record {
          sources = λ row column b index is mapped.
              filled.1.kept (piece_cell leaf.elem piece buffer row column b) (sourced row column b index is mapped) ∙ brought.sources row column b index is mapped;
          fills = filled.0;
          others = record {
            same_length = filled.1.same_length ∙ brought.others.same_length;
            kept = λ p nowhere. filled.1.kept p (λ cell. nowhere cell.cell) ∙ brought.others.kept p (λ cell. nowhere cell.cell);
          };
        }
      where
        sourced : (row column b index : ℕ) → IsByteOf leaf.elem piece row column b → source_in leaf piece row column ≡ Some index → ¬ IsBlankCell leaf piece buffer (piece_cell leaf.elem piece buffer row column b)
        sourced row column b index is mapped cell =
            let same = same_cell leaf.elem piece buffer row column b cell.cell.row cell.cell.column cell.cell.b is cell.cell.is_byte cell.cell.is in
            let both : Some index ≡ None = sym mapped ∙ ap (λ m. source_in leaf piece m column) same.0 ∙ ap (λ m. source_in leaf piece cell.cell.row m) same.1 ∙ cell.blank in
            absurd (cc)

    -- ---- tags

    tagged_cells : (tag : ℕ) (works : List DmaWork) → map cells_of (map (with_tag tag) works) ≡ map cells_of works
    tagged_cells tag [] = refl
    tagged_cells tag (work ∷ works) = ap (λ xs. cells_of work ∷ xs) (tagged_cells tag works)

    pub tagged_put : (tag : ℕ) → PutPiece leaf from piece buffer (map (with_tag tag) commands) fills
    tagged_put tag =
        let regions : regions_of (map (with_tag tag) commands) fills ≡ regions_of commands fills = ap (λ xs. xs ++ map cells_of_fill fills) (tagged_cells tag commands) in
        record {
          are_reads = all_each (IsRead leaf from piece buffer) (map (with_tag tag) commands)
              (each_map (with_tag tag) (IsRead leaf from piece buffer) commands
              (each_weaker (IsRead leaf from piece buffer) (λ work. IsRead leaf from piece buffer (with_tag tag work)) (λ work is. record { some_rows = is.some_rows; some_bytes = is.some_bytes; bytes = is.bytes }) commands (each_all (IsRead leaf from piece buffer) commands put.are_reads)));
          are_fills = put.are_fills;
          each_read = λ row column b index is mapped.
              let c = piece_cell leaf.elem piece buffer row column b in
              any_one (λ work. Covers (cells_of work) c) (map (with_tag tag) commands)
              (one_map (with_tag tag) (λ work. Covers (cells_of work) c) commands (one_any (λ work. Covers (cells_of work) c) commands (put.each_read row column b index is mapped)));
          each_filled = put.each_filled;
          rows_apart = subst (λ xs. All HasRowsApart xs) (sym regions) put.rows_apart;
          once = subst (λ xs. AllPairs IsApartFrom xs) (sym regions) put.once;
        }
