-- Tiles cover a domain, each index once, and their buffers lie in the scratchpad.
use Rattle.std.proofs.Common.{◌≡◌, ℕ, zero, suc, ◌+◌, ◌-◌, ◌*◌, ◌/◌, ◌%◌, ◌<◌, ◌≤◌, min, sym, refl, subst, ap, ◌∙◌, arith, Bool, true, false}
use Rattle.std.specs.Prelude.{nat_le, if◌then◌else◌}
use Rattle.std.specs.Int.{div_ceil}
use Rattle.std.proofs.lemmas.Nat.{div-mul-add, mod-mul-add, mul-add-lt, mul-le, mod_below, div_below, div-add-mod'}
use Rattle.std.proofs.lemmas.Bool.Decides.{nat_tests}
use Rattle.std.proofs.lemmas.Grind.{div_ceil_times}
use Rattle.std.proofs.Math.Nat.{mul_comm, div-mul-le_self, mul-le-mul_right}
use Rattle.ven_base.specs.Elem.{size_of}
use Rattle.ven_base.specs.declared.elem.Elem.{Elem}
use Rattle.ven_base.specs.declared.elem.Elem.TheVariants.{U8, I8, U16, I16, U32, I32}
use Rattle.ven_base.specs.Extent.{Extent, IsExtent, IsIndex, elements_of}
use Rattle.pass_plan.specs.declared.parts.Tile.{Tile}
use Rattle.pass_plan.specs.declared.pass.PassKind.{PassKind}
use Rattle.pass_plan.specs.declared.pass.PassKind.TheVariants.{Map, Reduce}
use Rattle.pass_plan.specs.Pass.{Pass}
use Rattle.pass_plan.specs.Need.{buffers_of, result_buffers, widest_in, pass_need}
use Rattle.pass_plan.specs.Tile.{tile_within, tile_of, across, tiles_of, first_row, first_column, piece_of, IsInPiece, IsPieceOf, IsTileOf}
use Rattle.pass_plan.specs.Buffers.{buffer_bytes}

-- ---- quotients rounded up

pub below_ceil : (n all by : ℕ) → 1 ≤ by → n < all → n / by < div_ceil all by
below_ceil n all by some within =
    let times = div_ceil_times all by some in
    div_below n by (div_ceil all by) some (omega (arith, times.0))

pub some_ceil : (all by : ℕ) → 1 ≤ by → 1 ≤ all → 1 ≤ div_ceil all by
some_ceil all by some within = let low = below_ceil 0 all by some within in omega arith

pub ceil_below : (q all by : ℕ) → 1 ≤ by → q < div_ceil all by → q * by < all
ceil_below q all by some within =
    let times = div_ceil_times all by some in
    let more : suc q * by ≤ div_ceil all by * by = mul-le-mul_right by within in
    omega arith

pub ceil_few : (all by : ℕ) → 1 ≤ by → div_ceil all by ≤ all
ceil_few all by some = elim (div_ceil all by) as (λ n. n ≡ div_ceil all by → n ≤ all) [ zero ↦ λ e. omega arith | suc q ↦ λ e. let low = ceil_below q all by some (omega arith) in let big = mul-le q 1 q by (omega arith) some in omega arith ] refl

-- ---- the size of tiles

pub size_some : (elem : Elem) → 1 ≤ size_of elem
size_some U8 = omega arith
size_some I8 = omega arith
size_some U16 = omega arith
size_some I16 = omega arith
size_some U32 = omega arith
size_some I32 = omega arith

buffers_some : (kind : PassKind) → 1 ≤ result_buffers kind
buffers_some Map = omega arith
buffers_some (Reduce fold) = omega arith

pub need_some : (pass : Pass) → 1 ≤ pass_need pass
need_some pass =
    let wide : 1 ≤ widest_in pass = omega (arith, size_some pass.elem) in
    let buffers : 1 ≤ buffers_of pass = omega (arith, buffers_some pass.kind) in
    mul-le 1 1 (buffers_of pass) (widest_in pass) buffers wide

-- at least one element fits
pub items_some : (need spad : ℕ) → 1 ≤ need → need ≤ spad → 1 ≤ spad / need
items_some need spad some holds =
    elim (spad / need) as (λ n. n ≡ spad / need → 1 ≤ n) [
      | zero ↦ λ e.
          let rest : spad % need < need = mod_below spad need some in
          let whole : spad / need * need + spad % need ≡ spad = div-add-mod' spad need in
          let none : spad / need * need ≡ 0 * need = ap (λ n. n * need) (sym e) in
          absurd (omega arith)
      | suc n ↦ λ e. omega arith
    ] refl

pub within_some : (domain : Extent) (items : ℕ) → IsExtent domain → 1 ≤ items → (1 ≤ (tile_within domain items).h) × (1 ≤ (tile_within domain items).w)
within_some domain items shaped some = (go (nat_le domain.cols items) refl, omega (arith, shaped.some_cols))
  where
    go : (b : Bool) → nat_le domain.cols items ≡ b → 1 ≤ (if b then min domain.rows (items / domain.cols) else 1)
    go true e =
        let fits : domain.cols ≤ items = grind (arith, nat_tests) in
        let rows = items_some domain.cols items shaped.some_cols fits in
        omega (arith, shaped.some_rows)
    go false e = omega arith

pub within_few : (domain : Extent) (items : ℕ) → (tile_within domain items).h * (tile_within domain items).w ≤ items
within_few domain items = go (nat_le domain.cols items)
  where
    go : (b : Bool) → (if b then min domain.rows (items / domain.cols) else 1) * min domain.cols items ≤ items
    go true =
        let rows : min domain.rows (items / domain.cols) * min domain.cols items ≤ (items / domain.cols) * domain.cols = mul-le (min domain.rows (items / domain.cols)) (min domain.cols items) (items / domain.cols) domain.cols (omega arith) (omega arith) in
        let all = div-mul-le_self items domain.cols in
        omega arith
    go false = omega arith

pub tile_some : (pass : Pass) (tile : Tile) → IsExtent pass.domain → IsTileOf pass tile → (1 ≤ tile.h) × (1 ≤ tile.w)
tile_some pass tile shaped is =
    subst (λ (t : Tile). (1 ≤ t.h) × (1 ≤ t.w)) (sym is.is) (within_some pass.domain (is.spad / pass_need pass) shaped (items_some (pass_need pass) is.spad (need_some pass) is.holds))

-- all buffers together are at most the scratchpad
pub buffers_inside : (pass : Pass) (spad : ℕ) → pass_need pass ≤ spad → buffers_of pass * buffer_bytes pass (tile_of pass spad) ≤ spad
buffers_inside pass spad holds =
    let tile = tile_of pass spad in
    let few : tile.h * tile.w ≤ spad / pass_need pass = within_few pass.domain (spad / pass_need pass) in
    let bytes : tile.h * tile.w * pass_need pass ≤ spad / pass_need pass * pass_need pass = mul-le-mul_right (pass_need pass) few in
    let all : spad / pass_need pass * pass_need pass ≤ spad = div-mul-le_self spad (pass_need pass) in
    let turned : buffers_of pass * (tile.h * tile.w * widest_in pass) ≡ tile.h * tile.w * (buffers_of pass * widest_in pass) = exchange (buffers_of pass) (tile.h * tile.w) (widest_in pass) in
    omega arith
  where
    exchange : (a b c : ℕ) → a * (b * c) ≡ b * (a * c)
    exchange a b c = omega arith

-- a shape has at most so many rows and columns
pub rows_few : (shape : Extent) → IsExtent shape → shape.rows ≤ 1048576
rows_few shape is = let all = mul-le shape.rows 1 shape.rows shape.cols (omega arith) is.some_cols in omega (arith, is.within)

pub columns_few : (shape : Extent) → IsExtent shape → shape.cols ≤ 1048576
columns_few shape is = let all = mul-le 1 shape.cols shape.rows shape.cols is.some_rows (omega arith) in omega (arith, is.within)

-- ---- tiles of a domain

module _ (domain : Extent) (tile : Tile) (shaped : IsExtent domain) (some_h : 1 ≤ tile.h) (some_w : 1 ≤ tile.w) where
  some_across : 1 ≤ across domain tile
  some_across = some_ceil domain.cols tile.w some_w shaped.some_cols

  -- the row and the column of a tile among tiles
  row_within : (t : ℕ) → t < tiles_of domain tile → t / across domain tile < div_ceil domain.rows tile.h
  row_within t within =
      let turned : across domain tile * div_ceil domain.rows tile.h ≡ div_ceil domain.rows tile.h * across domain tile = mul_comm (across domain tile) (div_ceil domain.rows tile.h) in
      div_below t (across domain tile) (div_ceil domain.rows tile.h) some_across (subst (λ n. t < n) turned within)

  pub first_row_within : (t : ℕ) → t < tiles_of domain tile → first_row domain tile t < domain.rows
  first_row_within t within = ceil_below (t / across domain tile) domain.rows tile.h some_h (row_within t within)

  pub first_column_within : (t : ℕ) → first_column domain tile t < domain.cols
  first_column_within t = ceil_below (t % across domain tile) domain.cols tile.w some_w (mod_below t (across domain tile) some_across)

  pub tiles_few : tiles_of domain tile ≤ elements_of domain
  tiles_few =
      let all = mul-le (across domain tile) (div_ceil domain.rows tile.h) domain.cols domain.rows (ceil_few domain.cols tile.w some_w) (ceil_few domain.rows tile.h some_h) in
      let turned : domain.cols * domain.rows ≡ domain.rows * domain.cols = mul_comm domain.cols domain.rows in
      omega arith

  pub piece_inside : (t : ℕ) → t < tiles_of domain tile → IsPieceOf domain (piece_of domain tile t)
  piece_inside t within =
      let row = first_row_within t within in
      let column = first_column_within t in
      record { some_rows = omega arith; some_cols = omega arith; rows_inside = omega arith; cols_inside = omega arith }

  pub tiles_cover : (i j : ℕ) → IsIndex domain i j → (t : ℕ) × (t < tiles_of domain tile) × IsInPiece (piece_of domain tile t) i j
  tiles_cover i j index =
      let n = across domain tile in
      let t = (i / tile.h) * n + j / tile.w in
      let in_row : j / tile.w < n = below_ceil j domain.cols tile.w some_w index.col in
      let up : t / n ≡ i / tile.h = div-mul-add (i / tile.h) n (j / tile.w) in_row in
      let left : t % n ≡ j / tile.w = mod-mul-add (i / tile.h) n (j / tile.w) in_row in
      let row_is : t / n * tile.h + i % tile.h ≡ i = ap (λ x. x * tile.h + i % tile.h) up ∙ div-add-mod' i tile.h in
      let column_is : t % n * tile.w + j % tile.w ≡ j = ap (λ x. x * tile.w + j % tile.w) left ∙ div-add-mod' j tile.w in
      let i_low : i % tile.h < tile.h = mod_below i tile.h some_h in
      let j_low : j % tile.w < tile.w = mod_below j tile.w some_w in
      let down_below : i / tile.h < div_ceil domain.rows tile.h = below_ceil i domain.rows tile.h some_h index.row in
      let t_below : t < n * div_ceil domain.rows tile.h = mul-add-lt (i / tile.h) n (j / tile.w) (div_ceil domain.rows tile.h) down_below in_row in
      let row_in = index.row in
      let col_in = index.col in
      (t, t_below, record { from_row = omega arith; below_row = omega arith; from_column = omega arith; below_column = omega arith })

  -- the tile of an index
  in_piece : (i j t : ℕ) → IsInPiece (piece_of domain tile t) i j → (i / tile.h) * across domain tile + j / tile.w ≡ t
  in_piece i j t is =
      let n = across domain tile in
      let row = is.from_row in
      let row' = is.below_row in
      let column = is.from_column in
      let column' = is.below_column in
      let i_is : i ≡ t / n * tile.h + (i - t / n * tile.h) = omega arith in
      let j_is : j ≡ t % n * tile.w + (j - t % n * tile.w) = omega arith in
      let up : i / tile.h ≡ t / n = ap (λ x. x / tile.h) i_is ∙ div-mul-add (t / n) tile.h (i - t / n * tile.h) (omega arith) in
      let left : j / tile.w ≡ t % n = ap (λ x. x / tile.w) j_is ∙ div-mul-add (t % n) tile.w (j - t % n * tile.w) (omega arith) in
      ap (λ x. x * n + j / tile.w) up ∙ ap (λ x. (t / n) * n + x) left ∙ div-add-mod' t n

  pub tiles_apart : (i j t u : ℕ) → IsInPiece (piece_of domain tile t) i j → IsInPiece (piece_of domain tile u) i j → t ≡ u
  tiles_apart i j t u first second = sym (in_piece i j t first) ∙ in_piece i j u second
