-- The pieces of a pass cover what it makes, its buffers lie in the scratchpad, and a later tile of a cut row finds what
-- the one before it left.
use Rattle.std.proofs.Common.{◌≡◌, ◌⊎◌, inl, inr, ℕ, zero, suc, ◌+◌, ◌-◌, ◌*◌, ◌/◌, ◌%◌, ◌<◌, ◌≤◌, min, sym, refl, subst, ap, ◌∙◌, arith, length, get_or, true, false, cond, eq-eqb, ℤ, pos}
use Rattle.std.specs.Prelude.{◌==◌}
use Rattle.std.specs.Int.{div_ceil}
use Rattle.std.proofs.lemmas.Nat.{div-mul-add, mod-mul-add, mul-add-lt, mul-le, mod_below, div_below, div-add-mod'}
use Rattle.std.proofs.lemmas.Grind.{div_ceil_times}
use Rattle.std.proofs.Math.Nat.{zero-mod, mul_comm, mul-le-mul_right}
use Rattle.ven_base.specs.Elem.{size_of}
use Rattle.ven_base.specs.Extent.{Extent, IsExtent, elements_of}
use Rattle.ven_base.specs.Grid.{values_with}
use Rattle.ven_base.specs.declared.elem.Elem.{Elem}
use Rattle.ven_base.proofs.Made.{values_with-length, grid_with-at}
use Rattle.pass_plan.specs.declared.parts.Tile.{Tile}
use Rattle.pass_plan.specs.declared.split.ArrayPlace.{ArrayPlace}
use Rattle.pass_plan.specs.declared.pass.PassKind.{PassKind}
use Rattle.pass_plan.specs.declared.pass.PassKind.TheVariants.{Map, Reduce}
use Rattle.pass_plan.specs.Pass.{Pass, Arrays, result_of, made_at, pass_array}
use Rattle.pass_plan.specs.Need.{buffers_of, result_buffers}
use Rattle.pass_plan.specs.Tile.{across, tiles_of, first_row, first_column}
use Rattle.pass_plan.specs.Buffers.{byte_of_value, is_map, made_so_far, buffer_bytes, leaf_buffer, output_buffer, cell_of, tiles_per_row, output_half, piece_rows, piece_columns, piece_results, IsArrayByte, IsLeafPlace, IsResultPlace, IsResultByte, IsCarriedByte, IsPieceByte, IsTileBuffer, of_leaf, of_slot, of_output, of_partial, IsTileCell}
use Rattle.pass_plan.proofs.Tilings.{below_ceil, some_ceil}
use Rattle.dma_schedule.proofs.Places.{clash, leaf_cell_below, result_cell_below, some_across, wide, per_row, index_in, last_columns}

-- ---- ranges

module _ (pass : Pass) (tile : Tile) (cells : ℕ) (room : buffers_of pass * buffer_bytes pass tile ≤ cells) where
  -- a byte of one of the buffers is in the cells
  pub cell_below : (k o : ℕ) → k < buffers_of pass → o < buffer_bytes pass tile → cell_of pass tile k o < cells
  cell_below k o k_within o_within =
      let below : k * buffer_bytes pass tile + o < buffer_bytes pass tile * buffers_of pass = mul-add-lt k (buffer_bytes pass tile) o (buffers_of pass) k_within o_within in
      let turned : buffer_bytes pass tile * buffers_of pass ≡ buffers_of pass * buffer_bytes pass tile = mul_comm (buffer_bytes pass tile) (buffers_of pass) in
      omega arith

  pub two_results : (kind : PassKind) → 2 ≤ result_buffers kind
  two_results Map = omega arith
  two_results (Reduce fold) = omega arith

  three_results : (kind : PassKind) → is_map kind ≡ false → 3 ≤ result_buffers kind
  three_results Map reduces = absurd (clash refl reduces)
  three_results (Reduce fold) reduces = omega arith

  is_buffer : (t k : ℕ) → IsTileBuffer pass tile t k → k < buffers_of pass
  is_buffer t k (of_leaf number within is) = let half = mod_below t 2 (omega arith) in let results = two_results pass.kind in omega (arith, is, within)
  is_buffer t k (of_slot slot within is) = let results = two_results pass.kind in omega (arith, is, within)
  is_buffer t k (of_output is) = let half = mod_below (t / tiles_per_row pass tile) 2 (omega arith) in let results = two_results pass.kind in omega (arith, is)
  is_buffer t k (of_partial reduces is) = let results = three_results pass.kind reduces in omega (arith, is)

  pub tile_cell_below : (t p : ℕ) → IsTileCell pass tile t p → p < cells
  tile_cell_below t p cell = subst (λ q. q < cells) (sym cell.is) (cell_below cell.buffer cell.o (is_buffer t cell.buffer cell.is_tile) cell.o_within)

  pub leaf_below : (number t p : ℕ) → IsLeafPlace pass tile number t p → p < cells
  leaf_below number t p stands =
      subst (λ q. q < cells) (sym stands.is) (cell_below (leaf_buffer pass tile number (t % 2)) _ (is_buffer t _ (of_leaf number stands.number_within refl)) (leaf_cell_below pass tile 0 number t p stands))

  module _ (shaped : IsExtent pass.domain) (some_h : 1 ≤ tile.h) (some_w : 1 ≤ tile.w) where
    pub result_below : (t p : ℕ) → IsResultPlace pass tile t p → p < cells
    result_below t p stands =
        subst (λ q. q < cells) (sym stands.is) (cell_below (output_buffer pass tile (output_half pass tile t)) _ (is_buffer t _ (of_output refl)) (result_cell_below pass tile 0 shaped some_h some_w t p stands))

module _ (pass : Pass) (tile : Tile) (shaped : IsExtent pass.domain) (some_h : 1 ≤ tile.h) (some_w : 1 ≤ tile.w) where
  min_below : (x h all first : ℕ) → x < h → first + x < all → x < min h (all - first)
  min_below x h all first small within = omega arith

  abbrev width : PassKind → ℕ
  width kind = wide pass tile 0 shaped some_h some_w kind

  abbrev rows_of : PassKind → ℕ
  rows_of kind = per_row pass tile 0 shaped some_h some_w kind

  abbrev index_of : PassKind → (t row column : ℕ) → ℕ
  index_of kind = index_in pass tile 0 shaped some_h some_w kind

  -- an element of the result is in its tile's piece
  pub record Covered (kind : PassKind) (arrays : Arrays) (index : ℕ) : Type 0 where
    pub t : ℕ
    pub row : ℕ
    pub column : ℕ
    pub t_within : t < tiles_of pass.domain tile
    pub last : ((suc t % rows_of kind) == 0) ≡ true
    pub row_within : row < piece_rows pass tile t
    pub column_within : column < cond (is_map kind) (piece_columns pass tile t) 1
    pub index_is : index_of kind t row column ≡ index
    pub value_is : made_so_far arrays pass kind (first_row pass.domain tile t + row) (first_column pass.domain tile t + column) (first_column pass.domain tile t + piece_columns pass tile t)
        ≡ made_at arrays pass kind (index / width kind) (index % width kind)

  covered : (kind : PassKind) (arrays : Arrays) (index : ℕ) → index < pass.domain.rows * width kind → Covered kind arrays index
  covered Map arrays index within =
      let n = across pass.domain tile in
      let rows = pass.domain.rows in
      let cols = pass.domain.cols in
      let r = index / cols in
      let c = index % cols in
      let t = (r / tile.h) * n + c / tile.w in
      let r_below : r < rows = div_below index cols rows shaped.some_cols within in
      let c_below : c < cols = mod_below index cols shaped.some_cols in
      let in_row : c / tile.w < n = below_ceil c cols tile.w some_w c_below in
      let up : t / n ≡ r / tile.h = div-mul-add (r / tile.h) n (c / tile.w) in_row in
      let left : t % n ≡ c / tile.w = mod-mul-add (r / tile.h) n (c / tile.w) in_row in
      let row_is : first_row pass.domain tile t + r % tile.h ≡ r = ap (λ x. x * tile.h + r % tile.h) up ∙ div-add-mod' r tile.h in
      let column_is : first_column pass.domain tile t + c % tile.w ≡ c = ap (λ x. x * tile.w + c % tile.w) left ∙ div-add-mod' c tile.w in
      let r_low : r % tile.h < tile.h = mod_below r tile.h some_h in
      let c_low : c % tile.w < tile.w = mod_below c tile.w some_w in
      let down_below : r / tile.h < div_ceil rows tile.h = below_ceil r rows tile.h some_h r_below in
      record {
        t = t;
        row = r % tile.h;
        column = c % tile.w;
        t_within = mul-add-lt (r / tile.h) n (c / tile.w) (div_ceil rows tile.h) down_below in_row;
        last = eq-eqb (suc t % 1) 0 (omega arith);
        row_within = min_below (r % tile.h) tile.h rows (first_row pass.domain tile t) r_low (subst (λ x. x < rows) (sym row_is) r_below);
        column_within = min_below (c % tile.w) tile.w cols (first_column pass.domain tile t) c_low (subst (λ x. x < cols) (sym column_is) c_below);
        index_is = ap (λ x. x * cols + (first_column pass.domain tile t + c % tile.w)) row_is ∙ ap (λ x. r * cols + x) column_is ∙ div-add-mod' index cols;
        value_is = ap (λ x. made_at arrays pass Map x (first_column pass.domain tile t + c % tile.w)) row_is ∙ ap (made_at arrays pass Map r) column_is;
      }
  covered (Reduce fold) arrays index within =
      let n = across pass.domain tile in
      let rows = pass.domain.rows in
      let cols = pass.domain.cols in
      let r = index in
      let t = (r / tile.h) * n + (n - 1) in
      let some : 1 ≤ n = some_across pass tile 0 shaped some_h some_w in
      let r_below : r < rows = omega (arith, within) in
      let in_row : n - 1 < n = omega arith in
      let up : t / n ≡ r / tile.h = div-mul-add (r / tile.h) n (n - 1) in_row in
      let left : t % n ≡ n - 1 = mod-mul-add (r / tile.h) n (n - 1) in_row in
      let row_is : first_row pass.domain tile t + r % tile.h ≡ r = ap (λ x. x * tile.h + r % tile.h) up ∙ div-add-mod' r tile.h in
      let r_low : r % tile.h < tile.h = mod_below r tile.h some_h in
      let times = div_ceil_times cols tile.w some_w in
      let one_more : n - 1 + 1 ≡ n = omega arith in
      let reaches : cols ≤ (n - 1 + 1) * tile.w = subst (λ x. cols ≤ x * tile.w) (sym one_more) times.0 in
      let before : (n - 1 + 1) * tile.w < cols + tile.w = subst (λ x. x * tile.w < cols + tile.w) (sym one_more) times.1 in
      let columns_is : first_column pass.domain tile t + piece_columns pass tile t ≡ cols = ap (λ x. x * tile.w + min tile.w (cols - x * tile.w)) left ∙ last_columns pass tile 0 shaped some_h some_w (n - 1) tile.w cols reaches before in
      let down_below : r / tile.h < div_ceil rows tile.h = below_ceil r rows tile.h some_h r_below in
      let after : r / tile.h * n + n ≡ suc t = omega arith in
      let whole : (r / tile.h + 1) * n + 0 ≡ suc t = omega arith in
      let itself : r ≡ r / 1 = omega arith in
      record {
        t = t;
        row = r % tile.h;
        column = 0;
        t_within = mul-add-lt (r / tile.h) n (n - 1) (div_ceil rows tile.h) down_below in_row;
        last = eq-eqb (suc t % n) 0 (ap (λ x. x % n) (sym whole) ∙ mod-mul-add (r / tile.h + 1) n 0 some);
        row_within = min_below (r % tile.h) tile.h rows (first_row pass.domain tile t) r_low (subst (λ x. x < rows) (sym row_is) r_below);
        column_within = omega arith;
        index_is = ap (λ x. x * 1 + (0 + 0)) row_is ∙ one r;
        value_is = ap (λ x. made_so_far arrays pass (Reduce fold) x 0 (first_column pass.domain tile t + piece_columns pass tile t)) (row_is ∙ itself) ∙ ap (made_so_far arrays pass (Reduce fold) (r / 1) 0) columns_is;
      }
    where
      one : (r : ℕ) → r * 1 + (0 + 0) ≡ r
      one r = omega arith

  pub some_tiles : 0 < tiles_of pass.domain tile
  some_tiles =
      let down = some_ceil pass.domain.rows tile.h some_h shaped.some_rows in
      let over = some_ceil pass.domain.cols tile.w some_w shaped.some_cols in
      let all : 1 * 1 ≤ tiles_of pass.domain tile = mul-le 1 1 (across pass.domain tile) (div_ceil pass.domain.rows tile.h) over down in
      omega arith

  -- what stands at a number of the values with these
  value_there : (elem : Elem) (shape : Extent) (f : ℕ → ℕ → ℤ) (index : ℕ) → 1 ≤ shape.cols → index < elements_of shape → get_or (values_with shape f) index (pos 0) ≡ f (index / shape.cols) (index % shape.cols)
  value_there elem shape f index some within =
      ap (λ n. get_or (values_with shape f) n (pos 0)) (sym (div-add-mod' index shape.cols))
      ∙ grid_with-at elem shape f (index / shape.cols) (index % shape.cols) (record { row = div_below index shape.cols shape.rows some within; col = mod_below index shape.cols some })

  result_shaped : (kind : PassKind) → ((result_of kind pass.domain).rows ≡ pass.domain.rows) × (1 ≤ (result_of kind pass.domain).cols)
  result_shaped Map = (refl, shaped.some_cols)
  result_shaped (Reduce fold) = (refl, omega arith)

  pub pieces_cover : (to : ArrayPlace) (arrays : Arrays) (p byte : ℕ) → to.elem ≡ pass.elem → IsArrayByte to (pass_array arrays pass).values p byte
      → (t : ℕ) × (t < tiles_of pass.domain tile) × IsPieceByte pass tile arrays to.place t p byte
  pieces_cover to arrays p byte elem_is of =
      let index = of.stands.index in
      let shape = result_of pass.kind pass.domain in
      let form = result_shaped pass.kind in
      let count : length (pass_array arrays pass).values ≡ elements_of shape = values_with-length shape (made_at arrays pass pass.kind) in
      let within : index < shape.rows * shape.cols = subst (λ n. index < n) count of.stands.within in
      let c = covered pass.kind arrays index (subst (λ n. index < n * shape.cols) form.0 within) in
      let value : get_or (pass_array arrays pass).values index (pos 0) ≡ made_at arrays pass pass.kind (index / shape.cols) (index % shape.cols) =
      value_there pass.elem shape (made_at arrays pass pass.kind) index form.1 within in (
        c.t,
        c.t_within,
        record {
          stands = record {
            last = c.last;
            row = c.row;
            column = c.column;
            b = of.stands.b;
            row_within = c.row_within;
            column_within = c.column_within;
            b_within = subst (λ e. of.stands.b < size_of e) elem_is of.stands.b_within;
            is = of.stands.is ∙ ap (λ e. to.place + (index * size_of e + of.stands.b)) elem_is ∙ ap (λ n. to.place + (n * size_of pass.elem + of.stands.b)) (sym c.index_is);
          };
          is = of.is ∙ ap (λ e. byte_of_value e (get_or (pass_array arrays pass).values index (pos 0)) of.stands.b) elem_is
              ∙ ap (λ v. byte_of_value pass.elem v of.stands.b) (value ∙ sym c.value_is);
        },
      )

  -- ---- later tiles of a cut row

  -- the next place of a row is in that row
  same_row : (t n : ℕ) → 1 ≤ n → ((suc t % n) == 0) ≡ false → (suc t / n ≡ t / n) × (suc t % n ≡ t % n + 1) × (t % n + 1 < n)
  same_row t n some later =
      let whole : t / n * n + t % n ≡ t = div-add-mod' t n in
      let below : t % n < n = mod_below t n some in
      let cases : (t % n + 1 < n) ⊎ (t % n + 1 ≡ n) = grind arith in
      elim cases [
        | inl less ↦
            let is : t / n * n + (t % n + 1) ≡ suc t = omega arith in
            (ap (λ x. x / n) (sym is) ∙ div-mul-add (t / n) n (t % n + 1) less, ap (λ x. x % n) (sym is) ∙ mod-mul-add (t / n) n (t % n + 1) less, less)
        | inr end ↦
            let is : (t / n + 1) * n + 0 ≡ suc t = omega arith in
            let none : suc t % n ≡ 0 = ap (λ x. x % n) (sym is) ∙ mod-mul-add (t / n + 1) n 0 some in
            absurd (clash (eq-eqb (suc t % n) 0 none) later)
      ]

  -- a tile of a row that isn't its last has all its columns
  full_width : (m n w all : ℕ) → m + 1 < n → n * w < all + w → min w (all - m * w) ≡ w
  full_width m n w all before reach =
      let rows : (m + 2) * w ≤ n * w = mul-le-mul_right w (omega arith) in
      omega arith

  -- what a later tile finds is what the one before it left
  pub carried_is_result : (arrays : Arrays) (t p byte : ℕ) → IsCarriedByte pass tile arrays (suc t) p byte → IsResultByte pass tile arrays t p byte
  carried_is_result arrays t p byte carried = go pass.kind refl
    where
      later : ((suc t % tiles_per_row pass tile) == 0) ≡ false
      later = carried.later

      go : (kind : PassKind) → pass.kind ≡ kind → IsResultByte pass tile arrays t p byte
      go Map e = absurd (clash (eq-eqb (suc t % 1) 0 (omega arith)) (subst (λ k. ((suc t % cond (is_map k) 1 (across pass.domain tile)) == 0) ≡ false) e later))
      go (Reduce fold) e =
          let n = across pass.domain tile in
          let item = size_of pass.elem in
          let some : 1 ≤ n = some_across pass tile 0 shaped some_h some_w in
          let row = same_row t n some (subst (λ k. ((suc t % cond (is_map k) 1 n) == 0) ≡ false) e later) in
          let per_row : tiles_per_row pass tile ≡ n = ap (λ k. cond (is_map k) 1 n) e in
          let one : piece_results pass tile t ≡ 1 = ap (λ k. cond (is_map k) (piece_columns pass tile t) 1) e in
          let first : first_row pass.domain tile (suc t) ≡ first_row pass.domain tile t = ap (λ x. x * tile.h) row.0 in
          let half : output_half pass tile (suc t) ≡ output_half pass tile t =
          ap (λ x. (suc t / x) % 2) per_row ∙ ap (λ x. x % 2) row.0 ∙ ap (λ x. (t / x) % 2) (sym per_row) in
          let times = div_ceil_times pass.domain.cols tile.w some_w in
          let full : piece_columns pass tile t ≡ tile.w = full_width (t % n) n tile.w pass.domain.cols row.2 times.1 in
          let next : first_column pass.domain tile (suc t) ≡ first_column pass.domain tile t + piece_columns pass tile t = ap (λ x. x * tile.w) row.1 ∙ distribute (t % n) tile.w ∙ ap (λ x. first_column pass.domain tile t + x) (sym full) in
          let rows : piece_rows pass tile (suc t) ≡ piece_rows pass tile t = ap (λ x. min tile.h (pass.domain.rows - x)) first in
          let packed : carried.row * item + carried.b ≡ (carried.row * piece_results pass tile t + 0) * item + carried.b = ap (λ x. x * item + carried.b) (times_one carried.row) ∙ ap (λ x. (carried.row * x + 0) * item + carried.b) (sym one) in
          record {
            stands = record {
              row = carried.row;
              column = 0;
              b = carried.b;
              row_within = subst (λ x. carried.row < x) rows carried.row_within;
              column_within = subst (λ x. 0 < x) (sym one) (omega arith);
              b_within = carried.b_within;
              is = carried.stands ∙ ap (λ h. cell_of pass tile (output_buffer pass tile h) (carried.row * item + carried.b)) half
                  ∙ ap (cell_of pass tile (output_buffer pass tile (output_half pass tile t))) packed;
            };
            is = carried.is
                ∙ ap (λ k. byte_of_value pass.elem (made_so_far arrays pass k (first_row pass.domain tile (suc t) + carried.row) 0 (first_column pass.domain tile (suc t))) carried.b) e
                ∙ ap (λ x. byte_of_value pass.elem (made_so_far arrays pass (Reduce fold) (x + carried.row) 0 (first_column pass.domain tile (suc t))) carried.b) first
                ∙ ap (λ x. byte_of_value pass.elem (made_so_far arrays pass (Reduce fold) (first_row pass.domain tile t + carried.row) 0 x) carried.b) next
                ∙ ap (λ k. byte_of_value pass.elem (made_so_far arrays pass k (first_row pass.domain tile t + carried.row) (first_column pass.domain tile t + 0) (first_column pass.domain tile t + piece_columns pass tile t)) carried.b) (sym e);
          }
        where
          distribute : (m w : ℕ) → (m + 1) * w ≡ m * w + w
          distribute m w = omega arith

          times_one : (r : ℕ) → r ≡ r * 1 + 0
          times_one r = omega arith

  pub none_carried : (arrays : Arrays) (p byte : ℕ) → IsCarriedByte pass tile arrays zero p byte → ⊥
  none_carried arrays p byte carried = clash (eq-eqb (0 % tiles_per_row pass tile) 0 (zero-mod (tiles_per_row pass tile))) carried.later
