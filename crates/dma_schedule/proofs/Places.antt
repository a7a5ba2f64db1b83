-- Which zone each byte lies in, and that the pieces cover what a pass makes.
use Rattle.std.proofs.Common.{◌≡◌, ◌⊎◌, inl, inr, ◌&&◌, ℕ, suc, ◌+◌, ◌-◌, ◌*◌, ◌/◌, ◌%◌, ◌<◌, ◌≤◌, min, sym, refl, ap, ◌∙◌, arith, length, get_or, Bool, true, false, cond, nat_lt, nat_le, lt-ltb, le-ltb, le-leb, eq-eqb}
use Rattle.std.specs.Prelude.{◌==◌}
use Rattle.std.proofs.lemmas.Nat.{div-mul-add, mod-mul-add, mul-add-lt, mul-le, mod_below, div-add-mod'}
use Rattle.std.proofs.lemmas.Bool.{lt-leb, eqb-true}
use Rattle.std.proofs.Math.Nat.{mul_comm}
use Rattle.ven_base.specs.Elem.{size_of}
use Rattle.ven_base.specs.Extent.{IsExtent}
use Rattle.ven_base.specs.Store.{in_cells, in_memory}
use Rattle.pass_plan.specs.declared.parts.Tile.{Tile}
use Rattle.pass_plan.specs.declared.pass.PassKind.{PassKind}
use Rattle.pass_plan.specs.declared.pass.PassKind.TheVariants.{Map, Reduce}
use Rattle.pass_plan.specs.Label.{label_of}
use Rattle.pass_plan.specs.Pass.{Pass, no_leaf, result_of}
use Rattle.pass_plan.specs.Need.{widest_in}
use Rattle.pass_plan.specs.Tile.{across, first_row, first_column}
use Rattle.pass_plan.specs.Buffers.{is_map, buffer_bytes, leaf_buffer, first_slot, slot_buffer, output_buffer, partial_buffer, cell_of, tiles_per_row, output_half, piece_rows, piece_columns, result_columns, piece_results, IsLeafPlace, IsResultPlace, IsPiecePlace}
use Rattle.pass_plan.proofs.Tilings.{some_ceil}
use Rattle.pass_plan.proofs.Sums.{each_below}
use Rattle.dma_schedule.specs.Zone.{Zone, leaf, scratch, output, source, piece, elsewhere, tile_with, zone_of_buffer, bytes_made, zone_of}

-- ---- places of rows of items

-- byte b of an item of a piece is below the bytes of a buffer
pub item_below : (row column b rows columns item h w widest : ℕ) → row < rows → column < columns → b < item → rows ≤ h → columns ≤ w → item ≤ widest
    → (row * columns + column) * item + b < h * w * widest
item_below row column b rows columns item h w widest in_row in_column in_item by_h by_w by_widest =
    let index : row * columns + column < columns * rows = mul-add-lt row columns column rows in_row in_column in
    let byte : (row * columns + column) * item + b < item * (columns * rows) = mul-add-lt (row * columns + column) item b (columns * rows) index in_item in
    let area : columns * rows ≤ w * h = mul-le columns rows w h by_w by_h in
    let all : item * (columns * rows) ≤ widest * (w * h) = mul-le item (columns * rows) widest (w * h) by_widest area in
    let turned : widest * (w * h) ≡ h * w * widest = mul_comm widest (w * h) ∙ ap (λ n. n * widest) (mul_comm w h) in
    omega arith

pub clash : {b : Bool} → b ≡ true → b ≡ false → ⊥
clash e f = cc

module _ (pass : Pass) (tile : Tile) (place : ℕ) where
  -- ---- cells

  pub zone_of_cell : (k o : ℕ) → o < buffer_bytes pass tile → zone_of pass tile place (in_cells (cell_of pass tile k o)) ≡ zone_of_buffer pass tile place k
  zone_of_cell k o within = ap (zone_of_buffer pass tile place) (div-mul-add k (buffer_bytes pass tile) o within)

  abbrev pick : (a b c d : Bool) → ℕ → Zone
  pick a b c d k = cond a (leaf (k / 2) (k % 2)) (cond b scratch (cond c (output (k - (first_slot pass tile + label_of pass.tree))) (cond d scratch elsewhere)))

  picks_leaf : (a b c d : Bool) (k : ℕ) → a ≡ true → pick a b c d k ≡ leaf (k / 2) (k % 2)
  picks_leaf true b c d k e = refl
  picks_leaf false b c d k e = cc

  picks_slot : (a b c d : Bool) (k : ℕ) → a ≡ false → b ≡ true → pick a b c d k ≡ scratch
  picks_slot false true c d k e f = refl
  picks_slot a b c d k e f = cc

  picks_output : (a b c d : Bool) (k : ℕ) → a ≡ false → b ≡ false → c ≡ true → pick a b c d k ≡ output (k - (first_slot pass tile + label_of pass.tree))
  picks_output false false true d k e f g = refl
  picks_output a b c d k e f g = cc

  picks_partial : (a b c d : Bool) (k : ℕ) → a ≡ false → b ≡ false → c ≡ false → d ≡ true → pick a b c d k ≡ scratch
  picks_partial false false false true k e f g h = refl
  picks_partial a b c d k e f g h = cc

  pub leaf_zone : (number half : ℕ) → number < length pass.leaves → half < 2 → zone_of_buffer pass tile place (leaf_buffer pass tile number half) ≡ leaf number half
  leaf_zone number half within small =
      picks_leaf _ _ _ _ (number * 2 + half) (lt-ltb (number * 2 + half) (first_slot pass tile) (omega arith))
      ∙ ap (λ n. leaf n ((number * 2 + half) % 2)) (div-mul-add number 2 half small) ∙ ap (leaf number) (mod-mul-add number 2 half small)

  pub slot_zone : (slot : ℕ) → slot < label_of pass.tree → zone_of_buffer pass tile place (slot_buffer pass tile slot) ≡ scratch
  slot_zone slot within =
      let k = slot_buffer pass tile slot in
      picks_slot _ _ _ _ k (le-ltb k (first_slot pass tile) (omega arith)) (lt-ltb k (first_slot pass tile + label_of pass.tree) (omega arith))

  pub output_zone : (half : ℕ) → half < 2 → zone_of_buffer pass tile place (output_buffer pass tile half) ≡ output half
  output_zone half small =
      let k = output_buffer pass tile half in
      let rest : first_slot pass tile + label_of pass.tree + half - (first_slot pass tile + label_of pass.tree) ≡ half = omega arith in
      picks_output _ _ _ _ k (le-ltb k (first_slot pass tile) (omega arith)) (le-ltb k (first_slot pass tile + label_of pass.tree) (omega arith)) (lt-ltb k (partial_buffer pass tile) (omega arith))
      ∙ ap output rest

  pub partial_zone : zone_of_buffer pass tile place (partial_buffer pass tile) ≡ scratch
  partial_zone =
      let k = partial_buffer pass tile in
      picks_partial _ _ _ _ k (le-ltb k (first_slot pass tile) (omega arith)) (le-ltb k (first_slot pass tile + label_of pass.tree) (omega arith)) (le-ltb k k (omega arith)) (eq-eqb k k refl)

  pub item_within : size_of pass.elem ≤ widest_in pass
  item_within = omega arith

  pub leaf_within : (k : ℕ) → k < length pass.leaves → size_of (get_or pass.leaves k no_leaf).elem ≤ widest_in pass
  leaf_within k below = let small = each_below (λ (l : _). size_of l.elem) pass.leaves k no_leaf below in omega (arith, small)

  pub leaf_cell_below : (number t p : ℕ) (stands : IsLeafPlace pass tile number t p)
      → (stands.row * piece_columns pass tile t + stands.column) * size_of (get_or pass.leaves number no_leaf).elem + stands.b < buffer_bytes pass tile
  leaf_cell_below number t p stands =
      item_below stands.row stands.column stands.b (piece_rows pass tile t) (piece_columns pass tile t) (size_of (get_or pass.leaves number no_leaf).elem) tile.h tile.w (widest_in pass)
      stands.row_within stands.column_within stands.b_within (omega arith) (omega arith) (leaf_within number stands.number_within)

  pub leaf_lies : (number t p : ℕ) → IsLeafPlace pass tile number t p → zone_of pass tile place (in_cells p) ≡ leaf number (t % 2)
  leaf_lies number t p stands =
      ap (λ q. zone_of pass tile place (in_cells q)) stands.is
      ∙ zone_of_cell (leaf_buffer pass tile number (t % 2)) ((stands.row * piece_columns pass tile t + stands.column) * size_of (get_or pass.leaves number no_leaf).elem + stands.b)
      (leaf_cell_below number t p stands)
      ∙ leaf_zone number (t % 2) stands.number_within (mod_below t 2 (omega arith))

  module _ (shaped : IsExtent pass.domain) (some_h : 1 ≤ tile.h) (some_w : 1 ≤ tile.w) where
    pub results_below : (t : ℕ) → piece_results pass tile t ≤ tile.w
    results_below t = go pass.kind
      where
        go : (kind : PassKind) → cond (is_map kind) (piece_columns pass tile t) 1 ≤ tile.w
        go Map = omega arith
        go (Reduce fold) = omega arith

    pub result_cell_below : (t p : ℕ) (stands : IsResultPlace pass tile t p) → (stands.row * piece_results pass tile t + stands.column) * size_of pass.elem + stands.b < buffer_bytes pass tile
    result_cell_below t p stands =
        item_below stands.row stands.column stands.b (piece_rows pass tile t) (piece_results pass tile t) (size_of pass.elem) tile.h tile.w (widest_in pass)
        stands.row_within stands.column_within stands.b_within (omega arith) (results_below t) item_within

    pub half_below : (t : ℕ) → output_half pass tile t < 2
    half_below t = mod_below (t / tiles_per_row pass tile) 2 (omega arith)

    pub result_lies : (t p : ℕ) → IsResultPlace pass tile t p → zone_of pass tile place (in_cells p) ≡ output (output_half pass tile t)
    result_lies t p stands =
        ap (λ q. zone_of pass tile place (in_cells q)) stands.is
        ∙ zone_of_cell (output_buffer pass tile (output_half pass tile t)) ((stands.row * piece_results pass tile t + stands.column) * size_of pass.elem + stands.b) (result_cell_below t p stands)
        ∙ output_zone (output_half pass tile t) (half_below t)

    -- ---- memory

    -- a byte of the destination is in the piece of its element's tile
    made_lies : (index b : ℕ) → index < pass.domain.rows * result_columns pass tile → b < size_of pass.elem
        → zone_of pass tile place (in_memory (place + (index * size_of pass.elem + b))) ≡ piece (tile_with pass.kind pass tile index)
    made_lies index b within b_within =
        let item = size_of pass.elem in
        let p = place + (index * item + b) in
        let count = pass.domain.rows * result_columns pass tile in
        let here : index * item + b < item * count = mul-add-lt index item b count within b_within in
        let turned : item * count ≡ count * item = mul_comm item count in
        let inside : (nat_le place p && nat_lt p (place + count * item)) ≡ true =
        ap (λ x. x && nat_lt p (place + count * item)) (le-leb place p (omega arith)) ∙ lt-ltb p (place + count * item) (omega arith) in
        let back : p - place ≡ index * item + b = omega arith in
        ap (λ x. cond x (piece (tile_with pass.kind pass tile ((p - place) / item))) source) inside
        ∙ ap (λ n. piece (tile_with pass.kind pass tile (n / item))) back ∙ ap (λ n. piece (tile_with pass.kind pass tile n)) (div-mul-add index item b b_within)

    -- what lies outside the destination is a source
    pub outside_lies : (p : ℕ) → (p < place) ⊎ (place + bytes_made pass tile place ≤ p) → zone_of pass tile place (in_memory p) ≡ source
    outside_lies p either =
        let end = place + bytes_made pass tile place in
        let out : (nat_le place p && nat_lt p end) ≡ false = elim either [
          | inl before ↦ ap (λ b. b && nat_lt p end) (lt-leb place p before)
          | inr after ↦ and_false (nat_le place p) (nat_lt p end) (le-ltb p end after)
        ] in
        ap (λ b. cond b (piece (tile_with pass.kind pass tile ((p - place) / size_of pass.elem))) source) out
      where
        and_false : (a b : Bool) → b ≡ false → (a && b) ≡ false
        and_false true b e = e
        and_false false b e = refl

    -- ---- tiles

    last_of_row : (t n : ℕ) → 1 ≤ n → suc t % n ≡ 0 → t % n ≡ n - 1
    last_of_row t n some end =
        let whole : t / n * n + t % n ≡ t = div-add-mod' t n in
        let below : t % n < n = mod_below t n some in
        let cases : (t % n + 1 < n) ⊎ (t % n ≡ n - 1) = grind arith in
        elim cases [
          | inl less ↦
              let is : t / n * n + (t % n + 1) ≡ suc t = omega arith in
              let more : suc t % n ≡ t % n + 1 = ap (λ x. x % n) (sym is) ∙ mod-mul-add (t / n) n (t % n + 1) less in
              absurd (omega arith)
          | inr last ↦ last
        ]

    pub last_columns : (n w all : ℕ) → all ≤ (n + 1) * w → (n + 1) * w < all + w → n * w + min w (all - n * w) ≡ all
    last_columns n w all reaches before = omega arith

    pub some_across : 1 ≤ across pass.domain tile
    some_across = some_ceil pass.domain.cols tile.w some_w shaped.some_cols

    abbrev pub wide : PassKind → ℕ
    wide kind = (result_of kind pass.domain).cols

    abbrev pub per_row : PassKind → ℕ
    per_row kind = cond (is_map kind) 1 (across pass.domain tile)

    abbrev pub index_in : PassKind → (t row column : ℕ) → ℕ
    index_in kind t row column = (first_row pass.domain tile t + row) * wide kind + (cond (is_map kind) (first_column pass.domain tile t) 0 + column)

    -- the tile of an element of a tile's piece
    piece_tile : (kind : PassKind) (t row column : ℕ) → row < piece_rows pass tile t → column < cond (is_map kind) (piece_columns pass tile t) 1 → ((suc t % per_row kind) == 0) ≡ true
        → tile_with kind pass tile (index_in kind t row column) ≡ t
    piece_tile Map t row column in_row in_column last =
        let n = across pass.domain tile in
        let cols = pass.domain.cols in
        let r = first_row pass.domain tile t + row in
        let c = first_column pass.domain tile t + column in
        let c_below : c < cols = omega arith in
        let row_is : (r * cols + c) / cols ≡ r = div-mul-add r cols c c_below in
        let column_is : (r * cols + c) % cols ≡ c = mod-mul-add r cols c c_below in
        let up : r / tile.h ≡ t / n = div-mul-add (t / n) tile.h row (omega arith) in
        let left : c / tile.w ≡ t % n = div-mul-add (t % n) tile.w column (omega arith) in
        ap (λ x. (x / tile.h) * n + ((r * cols + c) % cols) / tile.w) row_is
        ∙ ap (λ x. (r / tile.h) * n + x / tile.w) column_is
        ∙ ap (λ x. x * n + c / tile.w) up ∙ ap (λ x. (t / n) * n + x) left ∙ div-add-mod' t n
    piece_tile (Reduce fold) t row column in_row in_column last =
        let n = across pass.domain tile in
        let r = first_row pass.domain tile t + row in
        let index : r * 1 + (0 + column) ≡ r = omega arith in
        let up : r / tile.h ≡ t / n = div-mul-add (t / n) tile.h row (omega arith) in
        let at_end : t % n ≡ n - 1 = last_of_row t n some_across (eqb-true (suc t % n) 0 last) in
        ap (λ x. (x / tile.h) * n + (n - 1)) index ∙ ap (λ x. x * n + (n - 1)) up ∙ ap (λ x. (t / n) * n + x) (sym at_end) ∙ div-add-mod' t n

    piece_index : (kind : PassKind) (t row column : ℕ) → row < piece_rows pass tile t → column < cond (is_map kind) (piece_columns pass tile t) 1
        → index_in kind t row column < pass.domain.rows * wide kind
    piece_index Map t row column in_row in_column =
        let below = mul-add-lt (first_row pass.domain tile t + row) pass.domain.cols (first_column pass.domain tile t + column) pass.domain.rows (omega arith) (omega arith) in
        let turned : pass.domain.cols * pass.domain.rows ≡ pass.domain.rows * pass.domain.cols = mul_comm pass.domain.cols pass.domain.rows in
        omega arith
    piece_index (Reduce fold) t row column in_row in_column = omega arith

    pub piece_lies : (t p : ℕ) → IsPiecePlace pass tile place t p → zone_of pass tile place (in_memory p) ≡ piece t
    piece_lies t p stands =
        ap (λ q. zone_of pass tile place (in_memory q)) stands.is
        ∙ made_lies (index_in pass.kind t stands.row stands.column) stands.b (piece_index pass.kind t stands.row stands.column stands.row_within stands.column_within) stands.b_within
        ∙ ap piece (piece_tile pass.kind t stands.row stands.column stands.row_within stands.column_within stands.last)

    pub piece_below : (t p : ℕ) → IsPiecePlace pass tile place t p → p < place + bytes_made pass tile place
    piece_below t p stands =
        let item = size_of pass.elem in
        let index = index_in pass.kind t stands.row stands.column in
        let count = pass.domain.rows * result_columns pass tile in
        let within : index < count = piece_index pass.kind t stands.row stands.column stands.row_within stands.column_within in
        let here : index * item + stands.b < item * count = mul-add-lt index item stands.b count within stands.b_within in
        let turned : item * count ≡ count * item = mul_comm item count in
        let is : p ≡ place + (index * item + stands.b) = stands.is in
        omega arith
