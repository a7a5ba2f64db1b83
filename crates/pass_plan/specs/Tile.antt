-- Tiles: the parts of a pass's domain that its buffers hold, row by row.
use Rattle.std.specs.Prelude.{◌≡◌, ℕ, ◌+◌, ◌-◌, ◌*◌, ◌/◌, ◌%◌, ◌≤◌, ◌<◌, min, nat_le, if◌then◌else◌}
use Rattle.std.specs.Int.{div_ceil}
use Rattle.ven_base.specs.Extent.{Extent}
use Rattle.pass_plan.specs.declared.parts.Tile.{Tile}
use Rattle.pass_plan.specs.declared.parts.Piece.{Piece}
use Rattle.pass_plan.specs.Pass.{Pass}
use Rattle.pass_plan.specs.Need.{pass_need}

-- the tile of at most so many elements: whole rows where one fits, else a part of one
abbrev pub tile_within : Extent → ℕ → Tile
tile_within domain items = record {
  h = if nat_le domain.cols items then min domain.rows (items / domain.cols) else 1;
  w = min domain.cols items;
}

-- the tile of a pass in so many bytes of scratchpad
abbrev pub tile_of : Pass → ℕ → Tile
tile_of pass spad = tile_within pass.domain (spad / pass_need pass)

-- how many tiles stand side by side, and in all
abbrev pub across : Extent → Tile → ℕ
across domain tile = div_ceil domain.cols tile.w

abbrev pub tiles_of : Extent → Tile → ℕ
tiles_of domain tile = across domain tile * div_ceil domain.rows tile.h

-- the first row and the first column of tile t
abbrev pub first_row : Extent → Tile → ℕ → ℕ
first_row domain tile t = (t / across domain tile) * tile.h

abbrev pub first_column : Extent → Tile → ℕ → ℕ
first_column domain tile t = (t % across domain tile) * tile.w

-- the t-th tile, narrower or lower at an edge
abbrev pub piece_of : Extent → Tile → ℕ → Piece
piece_of domain tile t = record {
  r0 = first_row domain tile t;
  c0 = first_column domain tile t;
  h = min tile.h (domain.rows - first_row domain tile t);
  w = min tile.w (domain.cols - first_column domain tile t);
}

-- row i and column j are in the piece
pub record IsInPiece (piece : Piece) (i j : ℕ) : Type 0 where
  pub from_row : piece.r0 ≤ i
  pub below_row : i < piece.r0 + piece.h
  pub from_column : piece.c0 ≤ j
  pub below_column : j < piece.c0 + piece.w

-- the piece has rows and columns, and lies in the shape
pub record IsPieceOf (shape : Extent) (piece : Piece) : Type 0 where
  pub some_rows : 1 ≤ piece.h
  pub some_cols : 1 ≤ piece.w
  pub rows_inside : piece.r0 + piece.h ≤ shape.rows
  pub cols_inside : piece.c0 + piece.w ≤ shape.cols

-- the tile is that of the pass in some scratchpad that holds its need
pub record IsTileOf (pass : Pass) (tile : Tile) : Type 0 where
  pub spad : ℕ
  pub holds : pass_need pass ≤ spad
  pub is : tile ≡ tile_of pass spad
