-- The command of a whole piece takes it.
use Rattle.std.proofs.Common.{◌≡◌, ℕ, ◌+◌, ◌*◌, ◌/◌, ◌%◌, ◌<◌, ◌≤◌, Option, Some, List, [], ◌∷◌, Bool, true, false, ap, sym, ◌∙◌, refl, subst, arith}
use Rattle.std.specs.Prelude.{◌&&◌, ◌==◌, if◌then◌else◌}
use Rattle.std.proofs.lemmas.Nat.{div-add-mod', mod_below, div_below, mul-add-lt, mul-le, div-mul-add, mod-mul-add}
use Rattle.ven_base.specs.Elem.{size_of}
use Rattle.ven_base.specs.Extent.{IsExtent, elements_of}
use Rattle.venice_isa.specs.declared.work.DmaWork.{DmaWork}
use Rattle.venice_isa.specs.Region.{place_in, Covers, HasRowsApart}
use Rattle.venice_isa.specs.Footprint.{cells_of, memory_of}
use Rattle.venice_isa.proofs.Regions.{item_fits}
use Rattle.pass_plan.specs.declared.parts.Piece.{Piece}
use Rattle.pass_plan.specs.declared.split.ArrayPlace.{ArrayPlace}
use Rattle.pass_plan.specs.Tile.{IsPieceOf}
use Rattle.pass_plan.specs.Sound.{end_of}
use Rattle.dma_segments.specs.declared.patches.Patch.{Patch}
use Rattle.dma_segments.specs.Run.{further}
use Rattle.dma_segments.specs.Patch.{has_adjacent_sources, with_rows_joined}
use Rattle.dma_segments.specs.ReadList.{command_at, sides_of}
use Rattle.dma_segments.specs.WriteList.{first_element, whole_patch, write_list}
use Rattle.dma_segments.specs.Put.{IsByteOf, array_byte}
use Rattle.dma_segments.specs.Taken.{element_in, IsTargetByte, IsWrite, TakePiece}
use Rattle.dma_segments.specs.Rooms.{HasRoom}
use Rattle.dma_segments.proofs.PiecePatches.{to_place, IsPatchOf}
use Rattle.dma_segments.proofs.Lists.{all_each}
use Rattle.dma_segments.proofs.Joins.{join_like}
use Rattle.dma_segments.proofs.Bytes.{some_bytes, step_same, step_many, byte_of_command}
use Rattle.dma_segments.proofs.Counts.{joined_from}
use Rattle.dma_segments.proofs.Rooms.{bytes_few}

module _ (to : ArrayPlace) (piece : Piece) (buffer : ℕ) (inside : IsPieceOf to.shape piece) where
  abbrev count : ℕ
  count = piece.h * piece.w

  -- the element of the array that element p of the piece is
  abbrev target_of : ℕ → Option ℕ
  target_of p = Some (element_in to.shape piece (p / piece.w) (p % piece.w))

  abbrev whole : Patch
  whole = whole_patch to.shape piece

  abbrev patch : Patch
  patch = with_rows_joined whole

  abbrev first : ℕ
  first = first_element to.shape piece

  abbrev work : DmaWork
  work = command_at (sides_of to.elem to buffer) patch first

  row_and_column : (i j : ℕ) → j < piece.w → target_of (i * piece.w + j) ≡ Some (element_in to.shape piece i j)
  row_and_column i j column =
      ap (λ m. Some (element_in to.shape piece m ((i * piece.w + j) % piece.w))) (div-mul-add i piece.w j column)
      ∙ ap (λ m. Some (element_in to.shape piece i m)) (mod-mul-add i piece.w j column)

  whole_is : IsPatchOf count target_of whole
  whole_is = record {
    some_rows = inside.some_rows;
    some_cols = inside.some_cols;
    rows_apart = λ many. omega arith;
    inside = λ r k row col. let l = mul-add-lt r piece.w k piece.h row col in omega arith;
    sources = λ r k row col.
        let place : to_place whole r k ≡ r * piece.w + k = omega arith in
        let number : element_in to.shape piece r k ≡ first + (r * to.shape.cols + k) = omega arith in
        ap target_of place ∙ row_and_column r k col ∙ ap (λ m. Some m) number;
  }

  patch_is : IsPatchOf count target_of patch
  patch_is = (join_like count target_of whole).is_patch whole_is

  -- the element of the array at an element of the patch
  number_is : (r k : ℕ) → r < patch.rows → k < patch.cols
      → element_in to.shape piece (to_place patch r k / piece.w) (to_place patch r k % piece.w) ≡ first + (r * patch.from_step + k)
  number_is r k row col =
      let is : target_of (to_place patch r k) ≡ further (Some first) (r * patch.from_step + k) = patch_is.sources r k row col ∙ ap (λ o. further o (r * patch.from_step + k)) (joined_from whole) in
      some_is (element_in to.shape piece (to_place patch r k / piece.w) (to_place patch r k % piece.w)) (first + (r * patch.from_step + k)) is
    where
      some_is : (x y : ℕ) → Some x ≡ Some y → x ≡ y
      some_is x y is = cc

  bytes_are : (r j : ℕ) → r < work.rows → j < work.bytes → IsTargetByte to piece buffer (place_in (cells_of work) r j) (place_in (memory_of work) r j)
  bytes_are r j row below =
      let size = size_of to.elem in
      let b = byte_of_command to.elem to.place buffer patch first r j row below in
      let p = to_place patch r b.col in
      let at = patch_is.inside r b.col row b.col_below in
      let split : (p / piece.w * piece.w + p % piece.w) * size ≡ p * size = ap (λ m. m * size) (div-add-mod' p piece.w) in
      let number : element_in to.shape piece (p / piece.w) (p % piece.w) * size ≡ (first + (r * patch.from_step + b.col)) * size = ap (λ m. m * size) (number_is r b.col row b.col_below) in
      record {
        row = p / piece.w;
        column = p % piece.w;
        b = b.byte;
        is_byte = record { row_within = div_below p piece.w piece.h inside.some_cols at; column_within = mod_below p piece.w inside.some_cols; b_within = b.byte_below };
        cell_is = omega (arith, b.cell_is);
        byte_is = omega (arith, b.memory_is);
      }

  each_byte : (row column b : ℕ) → IsByteOf to.elem piece row column b → Covers (memory_of work) (array_byte to (element_in to.shape piece row column) b)
  each_byte row column b is =
      let size = size_of to.elem in
      let p = row * piece.w + column in
      let found = (join_like count target_of whole).has p (row, column, is.row_within, is.column_within, omega arith) in
      at found.0 found.1 found.2 found.3 found.4
    where
      at : (r k : ℕ) → r < patch.rows → k < patch.cols → to_place patch r k ≡ row * piece.w + column → Covers (memory_of work) (array_byte to (element_in to.shape piece row column) b)
      at r k r_below k_below same =
          let size = size_of to.elem in
          let steps = step_same patch.rows (patch.from_step * size) r r_below in
          let fits : k * size + size ≤ patch.cols * size = item_fits k patch.cols size k_below in
          let by_row : to_place patch r k / piece.w ≡ row = ap (λ m. m / piece.w) same ∙ div-mul-add row piece.w column is.column_within in
          let by_column : to_place patch r k % piece.w ≡ column = ap (λ m. m % piece.w) same ∙ mod-mul-add row piece.w column is.column_within in
          let number : element_in to.shape piece row column ≡ first + (r * patch.from_step + k) =
          ap (λ m. element_in to.shape piece m column) (sym by_row) ∙ ap (λ m. element_in to.shape piece (to_place patch r k / piece.w) m) (sym by_column) ∙ number_is r k r_below k_below in
          let bytes : element_in to.shape piece row column * size ≡ (first + (r * patch.from_step + k)) * size = ap (λ m. m * size) number in
          let within = is.b_within in
          (r, k * size + b, record { row = r_below; column = omega arith; from = omega arith; below = omega arith })

  apart : HasRowsApart (memory_of work)
  apart = by ((whole.to_step == whole.cols) && has_adjacent_sources whole.from whole.cols whole.from_step)
    where
      by : (b : Bool) → HasRowsApart (memory_of (command_at (sides_of to.elem to buffer) (if b then record whole { rows = 1; cols = whole.rows * whole.cols } else whole) first))
      by true = λ many. absurd (omega arith)
      by false = λ many.
          let size = size_of to.elem in
          let wide = bytes_few piece.w to.shape.cols size (omega (arith, inside.cols_inside)) in
          let step = step_many piece.h (to.shape.cols * size) (piece.w * size) many wide in
          omega arith

  pub takes : (commands : List DmaWork) → commands ≡ write_list to piece buffer → TakePiece to piece buffer commands
  takes commands is = subst (λ x. TakePiece to piece buffer x) (sym is) (record {
    one = refl;
    takes = all_each (IsWrite to piece buffer) (work ∷ []) (written, tt);
  })
    where
      written : IsWrite to piece buffer work
      written = record {
        some_rows = patch_is.some_rows;
        some_bytes = let fits = item_fits 0 patch.cols (size_of to.elem) patch_is.some_cols in omega (arith, some_bytes to.elem);
        bytes = bytes_are;
        each = each_byte;
        rows_apart = apart;
      }

  -- ---- in code

  pub write_room : buffer < 4294967296 → IsExtent to.shape → end_of to < 4294967296 → HasRoom (sides_of to.elem to buffer) whole
  write_room small e in_memory =
      let size = size_of to.elem in
      let rows : piece.h * piece.w ≤ elements_of to.shape = mul-le piece.h piece.w to.shape.rows to.shape.cols (omega (arith, inside.rows_inside)) (omega (arith, inside.cols_inside)) in
      let all = bytes_few (piece.h * piece.w) (elements_of to.shape) size rows in
      let row : 1 * to.shape.cols ≤ elements_of to.shape = mul-le 1 to.shape.cols to.shape.rows to.shape.cols e.some_rows (omega arith) in
      let pitch = bytes_few to.shape.cols (elements_of to.shape) size (omega arith) in
      let width = bytes_few piece.w to.shape.cols size (omega (arith, inside.cols_inside)) in
      let below = mul-add-lt piece.r0 to.shape.cols piece.c0 to.shape.rows (omega (arith, inside.rows_inside, inside.some_rows)) (omega (arith, inside.cols_inside, inside.some_cols)) in
      let first_fits = item_fits first (elements_of to.shape) size (omega arith) in
      let within = e.within in
      record {
        to_fits = omega arith;
        from_fits = omega arith;
        all_fit = omega arith;
        all_bytes_fit = omega arith;
        row_fits = omega arith;
        to_step_fits = λ many. omega arith;
        from_step_fits = λ many. omega arith;
      }

  -- the same of what stands in code
  pub room_of : (size : ℕ) → size ≡ size_of to.elem → (p other : Patch) → HasRoom (sides_of to.elem to buffer) p → other ≡ p → HasRoom (record { size = size; array = to.place; buffer = buffer }) other
  room_of size size_is p other room is =
      subst (λ m. HasRoom (record { size = m; array = to.place; buffer = buffer }) other) (sym size_is)
      (subst (λ (p : Patch). HasRoom (sides_of to.elem to buffer) p) (sym is) room)

  pub command_is : (size : ℕ) → size ≡ size_of to.elem → (other : Patch) → other ≡ patch → (s : ℕ) → s ≡ first → command_at (record { size = size; array = to.place; buffer = buffer }) other s ≡ work
  command_is size size_is other is s s_is =
      ap (λ m. command_at (record { size = m; array = to.place; buffer = buffer }) other s) size_is
      ∙ ap (λ (p : Patch). command_at (sides_of to.elem to buffer) p s) is
      ∙ ap (λ m. command_at (sides_of to.elem to buffer) patch m) s_is
