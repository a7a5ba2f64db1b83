-- Where a tile's numbers stand: its piece, its half, and its buffers' first cells.
use Rattle.std.specs.Prelude.{ℕ, ◌+◌, ◌*◌, ◌==◌, if◌then◌else◌, length}
use Rattle.ven_base.specs.Extent.{Extent}
use Rattle.pass_plan.specs.declared.parts.Tile.{Tile}
use Rattle.pass_plan.specs.Label.{label_of}
use Rattle.pass_plan.specs.Pass.{Pass}
use Rattle.pass_plan.specs.Tile.{across}
use Rattle.pass_plan.specs.Buffers.{buffer_bytes, tiles_per_row}
use Rattle.host_programs.specs.Expr.{Expr, Number, Variable, Offset, Difference, Product, Quotient, Remainder}
use Rattle.host_programs.specs.Program.{Program, UnlessLess, Let, Both}
use Rattle.transfer_programs.specs.Axis.{scaled, plus, lesser}
use Rattle.transfer_programs.specs.ReadProgram.{PieceExpr}

-- ---- the literals of a pass's code

-- the domain and its tiles: how many stand side by side, and how many a row of results takes; how many bytes a buffer
-- has, and how many leaves and slots have buffers
pub record Layout : Type 0 where
  pub domain : Extent
  pub tile : Tile
  pub across : ℕ
  pub per_row : ℕ
  pub bytes : ℕ
  pub leaves : ℕ
  pub slots : ℕ

abbrev pub layout_of : Pass → Tile → Layout
layout_of pass tile = record {
  domain = pass.domain;
  tile = tile;
  across = across pass.domain tile;
  per_row = tiles_per_row pass tile;
  bytes = buffer_bytes pass tile;
  leaves = length pass.leaves;
  slots = label_of pass.tree;
}

-- the first cell of a slot, of the first output half, and of the partial result
abbrev pub slot_cell : Layout → (slot : ℕ) → ℕ
slot_cell layout slot = (layout.leaves * 2 + slot) * layout.bytes

abbrev pub first_output_cell : Layout → ℕ
first_output_cell layout = (layout.leaves * 2 + layout.slots) * layout.bytes

abbrev pub partial_cell : Layout → ℕ
partial_cell layout = (layout.leaves * 2 + layout.slots + 2) * layout.bytes

-- ---- a tile's piece

-- the first row and the first column of the tile whose number is in a register. A tile that is alone in its row begins
-- it
abbrev pub first_row_expr : Layout → (number : ℕ) → Expr
first_row_expr layout number =
    scaled (if layout.across == 1 then Variable number else Quotient (Variable number) (Number layout.across))
    layout.tile.h

abbrev pub first_column_expr : Layout → (number : ℕ) → Expr
first_column_expr layout number =
    if layout.across == 1 then Number 0
    else scaled (Remainder (Variable number) (Number layout.across)) layout.tile.w

-- how many rows and columns there are from the first on, which is in a register
abbrev pub rows_expr : Layout → (first : ℕ) → Expr
rows_expr layout first = lesser (Number layout.tile.h) (Difference (Number layout.domain.rows) (Variable first))

abbrev pub columns_expr : Layout → (first : ℕ) → Expr
columns_expr layout first =
    if layout.across == 1 then Number layout.domain.cols
    else lesser (Number layout.tile.w) (Difference (Number layout.domain.cols) (Variable first))

-- ---- its names

-- the tile whose number is in a register: register d and the next three have its piece, then its half, and how far the
-- half's cells lie behind those of half 0
abbrev pub with_tile : Layout → (number d : ℕ) → Program → Program
with_tile layout number d p =
    Let (first_row_expr layout number)
    (Let (first_column_expr layout number)
    (Let (rows_expr layout d)
    (Let (columns_expr layout (d + 1))
    (Let (Remainder (Variable number) (Number 2))
    (Let (Product (Variable (d + 4)) (Number layout.bytes)) p)))))

abbrev pub piece_at : (d : ℕ) → PieceExpr
piece_at d = record { r0 = Variable d; c0 = Variable (d + 1); h = Variable (d + 2); w = Variable (d + 3) }

-- the first cell of a leaf's half, where a register has how far the half is from half 0
abbrev pub leaf_expr : Layout → (half number : ℕ) → Expr
leaf_expr layout half number = plus (Number (number * 2 * layout.bytes)) (Variable half)

-- ---- the tiles of a row of results

-- one program in a row's first tile, another in a later one; a register has the tile's first column
abbrev pub first_or_later : Layout → (column : ℕ) → (first later : Program) → Program
first_or_later layout column first later =
    if layout.per_row == 1 then first
    else Both (UnlessLess (Number 0) (Variable column) first) (UnlessLess (Variable column) (Number 1) later)

-- the program in a row's last tile alone; a register has the next tile's number
abbrev pub if_last : Layout → (next : ℕ) → Program → Program
if_last layout next p =
    if layout.per_row == 1 then p
    else UnlessLess (Number 0) (Remainder (Variable next) (Number layout.per_row)) p

-- the output half of the tile whose number is in a register, where another has its half
abbrev pub output_half_expr : Layout → (number half : ℕ) → Expr
output_half_expr layout number half =
    if layout.per_row == 1 then Variable half
    else Remainder (Quotient (Variable number) (Number layout.per_row)) (Number 2)

-- and that half's first cell, where a register has it
abbrev pub output_expr : Layout → (half : ℕ) → Expr
output_expr layout half = Offset (Product (Variable half) (Number layout.bytes)) (first_output_cell layout)
