-- The buffers of a pass by number and place, and which bytes stand where while its tiles are worked on.
use Rattle.std.specs.Prelude.{◌≡◌, ℕ, suc, ◌+◌, ◌*◌, ◌/◌, ◌%◌, ◌^◌, ◌<◌, ℤ, pos, Bool, true, false, ◌==◌, length, get_or, Option, Some, if◌then◌else◌}
use Rattle.std.specs.Option.{option_map}
use Rattle.std.specs.Prelude.{List}
use Rattle.ven_base.specs.declared.elem.Elem.{Elem}
use Rattle.ven_base.specs.Elem.{size_of}
use Rattle.ven_base.specs.Operation.{bits_of}
use Rattle.ven_base.specs.Folding.{folded}
use Rattle.ven_base.specs.Mapping.{source_of}
use Rattle.pass_plan.specs.declared.leaf.Leaf.{Leaf}
use Rattle.pass_plan.specs.declared.pass.PassKind.{PassKind}
use Rattle.pass_plan.specs.declared.pass.PassKind.TheVariants.{Map, Reduce}
use Rattle.pass_plan.specs.declared.split.ArrayPlace.{ArrayPlace}
use Rattle.pass_plan.specs.declared.parts.Tile.{Tile}
use Rattle.pass_plan.specs.Label.{label_of}
use Rattle.pass_plan.specs.Pass.{Pass, Arrays, no_leaf, tree_at, row_values, result_of}
use Rattle.pass_plan.specs.Need.{widest_in}
use Rattle.pass_plan.specs.Tile.{across, first_row, first_column, piece_of}

-- byte b of a value of the type, the lowest first
abbrev pub byte_of_value : Elem → ℤ → ℕ → ℕ
byte_of_value elem value b = (bits_of elem value / (256 ^ b)) % 256

-- ---- arrays in memory

-- byte b of element `index` of an array
pub record IsArrayPlace (array : ArrayPlace) (count : ℕ) (at : ℕ) : Type 0 where
  pub index : ℕ
  pub b : ℕ
  pub within : index < count
  pub b_within : b < size_of array.elem
  pub is : at ≡ array.place + (index * size_of array.elem + b)

pub record IsArrayByte (array : ArrayPlace) (values : List ℤ) (at byte : ℕ) : Type 0 where
  pub stands : IsArrayPlace array (length values) at
  pub is : byte ≡ byte_of_value array.elem (get_or values stands.index (pos 0)) stands.b

-- ---- leaves

-- the number of the element of its array that a leaf has at an index of the domain, row by row: none where a fill
-- stands
abbrev pub element_of : Leaf → (i j : ℕ) → Option ℕ
element_of leaf i j = option_map (λ s. s.0 * leaf.shape.cols + s.1) (source_of leaf.map leaf.shape i j)

abbrev pub is_map : PassKind → Bool
is_map Map = true
is_map (Reduce fold) = false

-- what a pass makes up to a column: the tree's value, or the reduction of the row's first columns
abbrev pub made_so_far : Arrays → Pass → PassKind → (i j columns : ℕ) → ℤ
made_so_far arrays pass Map i j columns = tree_at arrays pass i j
made_so_far arrays pass (Reduce fold) i j columns = folded fold pass.elem (row_values columns (tree_at arrays pass i))

module _ (pass : Pass) (tile : Tile) where
  -- ---- buffers, by number

  -- the bytes of a buffer
  abbrev pub buffer_bytes : ℕ
  buffer_bytes = tile.h * tile.w * widest_in pass

  -- a leaf's buffers: tile t is read into half t mod 2
  abbrev pub leaf_buffer : (number half : ℕ) → ℕ
  leaf_buffer number half = number * 2 + half

  abbrev pub first_slot : ℕ
  first_slot = length pass.leaves * 2

  abbrev pub slot_buffer : (slot : ℕ) → ℕ
  slot_buffer slot = first_slot + slot

  abbrev pub output_buffer : (half : ℕ) → ℕ
  output_buffer half = first_slot + label_of pass.tree + half

  abbrev pub partial_buffer : ℕ
  partial_buffer = first_slot + label_of pass.tree + 2

  -- the cell of byte o of a buffer
  abbrev pub cell_of : (buffer o : ℕ) → ℕ
  cell_of buffer o = buffer * buffer_bytes + o

  -- ---- a tile's results

  -- how many tiles a row of results takes: those side by side in a reduction
  abbrev pub tiles_per_row : ℕ
  tiles_per_row = if is_map pass.kind then 1 else across pass.domain tile

  -- the output half of tile t
  abbrev pub output_half : ℕ → ℕ
  output_half t = (t / tiles_per_row) % 2

  -- tile t is the last of its row of results
  abbrev pub ends_row : ℕ → Bool
  ends_row t = (suc t % tiles_per_row) == 0

  -- and the first one
  abbrev pub begins_row : ℕ → Bool
  begins_row t = (t % tiles_per_row) == 0

  abbrev pub piece_rows : ℕ → ℕ
  piece_rows t = (piece_of pass.domain tile t).h

  abbrev pub piece_columns : ℕ → ℕ
  piece_columns t = (piece_of pass.domain tile t).w

  -- the columns of what the pass makes, those that a tile has of them, and the first of these
  abbrev pub result_columns : ℕ
  result_columns = (result_of pass.kind pass.domain).cols

  abbrev pub piece_results : ℕ → ℕ
  piece_results t = if is_map pass.kind then piece_columns t else 1

  abbrev pub first_result : ℕ → ℕ
  first_result t = if is_map pass.kind then first_column pass.domain tile t else 0

  -- a tile's value, or a row's result so far, in a row and a column of the tile
  abbrev pub result_at : Arrays → (t row column : ℕ) → ℤ
  result_at arrays t row column =
      made_so_far arrays pass pass.kind (first_row pass.domain tile t + row) (first_column pass.domain tile t + column)
      (first_column pass.domain tile t + piece_columns t)

  -- ---- which bytes stand where

  -- a byte of a leaf's piece, fills apart, in the leaf's half
  pub record IsLeafPlace (number t : ℕ) (at : ℕ) : Type 0 where
    pub row : ℕ
    pub column : ℕ
    pub b : ℕ
    pub index : ℕ
    pub number_within : number < length pass.leaves
    pub row_within : row < piece_rows t
    pub column_within : column < piece_columns t
    pub b_within : b < size_of (get_or pass.leaves number no_leaf).elem
    pub mapped : element_of (get_or pass.leaves number no_leaf) (first_row pass.domain tile t + row)
        (first_column pass.domain tile t + column) ≡ Some index
    pub is : at ≡ cell_of (leaf_buffer number (t % 2))
        ((row * piece_columns t + column) * size_of (get_or pass.leaves number no_leaf).elem + b)

  pub record IsLeafByte (arrays : Arrays) (number t : ℕ) (at byte : ℕ) : Type 0 where
    pub stands : IsLeafPlace number t at
    pub is : byte ≡ byte_of_value (get_or pass.leaves number no_leaf).elem
        (get_or (arrays (get_or pass.leaves number no_leaf).array).values stands.index (pos 0)) stands.b

  -- a byte of a tile's results, in its output half
  pub record IsResultPlace (t : ℕ) (at : ℕ) : Type 0 where
    pub row : ℕ
    pub column : ℕ
    pub b : ℕ
    pub row_within : row < piece_rows t
    pub column_within : column < piece_results t
    pub b_within : b < size_of pass.elem
    pub is : at ≡ cell_of (output_buffer (output_half t)) ((row * piece_results t + column) * size_of pass.elem + b)

  pub record IsResultByte (arrays : Arrays) (t : ℕ) (at byte : ℕ) : Type 0 where
    pub stands : IsResultPlace t at
    pub is : byte ≡ byte_of_value pass.elem (result_at arrays t stands.row stands.column) stands.b

  -- a byte of the rows' results over the columns before a tile, which a later tile of a cut row finds in its output
  -- half
  pub record IsCarriedByte (arrays : Arrays) (t : ℕ) (at byte : ℕ) : Type 0 where
    pub later : begins_row t ≡ false
    pub row : ℕ
    pub b : ℕ
    pub row_within : row < piece_rows t
    pub b_within : b < size_of pass.elem
    pub stands : at ≡ cell_of (output_buffer (output_half t)) (row * size_of pass.elem + b)
    pub is : byte ≡ byte_of_value pass.elem
        (made_so_far arrays pass pass.kind (first_row pass.domain tile t + row) 0 (first_column pass.domain tile t)) b

  -- a byte of the destination's piece, in memory: of a row's last tile alone
  pub record IsPiecePlace (place : ℕ) (t : ℕ) (at : ℕ) : Type 0 where
    pub last : ends_row t ≡ true
    pub row : ℕ
    pub column : ℕ
    pub b : ℕ
    pub row_within : row < piece_rows t
    pub column_within : column < piece_results t
    pub b_within : b < size_of pass.elem
    pub is : at ≡ place
        + (((first_row pass.domain tile t + row) * result_columns + (first_result t + column)) * size_of pass.elem + b)

  pub record IsPieceByte (arrays : Arrays) (place : ℕ) (t : ℕ) (at byte : ℕ) : Type 0 where
    pub stands : IsPiecePlace place t at
    pub is : byte ≡ byte_of_value pass.elem (result_at arrays t stands.row stands.column) stands.b

  -- ---- what Compute may touch

  -- the buffers of tile t: the leaves' halves, the slots, its output half, and in a reduction the partial result
  pub data IsTileBuffer (t : ℕ) (buffer : ℕ) : Type 0 where
    of_leaf : (number : ℕ) → number < length pass.leaves → buffer ≡ leaf_buffer number (t % 2) → IsTileBuffer t buffer
    of_slot : (slot : ℕ) → slot < label_of pass.tree → buffer ≡ slot_buffer slot → IsTileBuffer t buffer
    of_output : buffer ≡ output_buffer (output_half t) → IsTileBuffer t buffer
    of_partial : is_map pass.kind ≡ false → buffer ≡ partial_buffer → IsTileBuffer t buffer

  pub record IsTileCell (t : ℕ) (at : ℕ) : Type 0 where
    pub buffer : ℕ
    pub o : ℕ
    pub is : at ≡ cell_of buffer o
    pub o_within : o < buffer_bytes
    pub is_tile : IsTileBuffer t buffer
