-- The program that fills what has no source in a piece of a leaf. Only a shift leaves such places: whole rows at one
-- end of the piece, and the columns at one end of its other rows.
use Rattle.std.specs.Prelude.{ℕ, suc, ℤ, pos, negsuc, ◌+◌, min, true, false}
use Rattle.ven_base.specs.declared.elem.Elem.{Elem}
use Rattle.ven_base.specs.declared.mapping.Mapping.{Mapping}
use Rattle.ven_base.specs.declared.mapping.Mapping.TheVariants.{Shift}
use Rattle.ven_base.specs.Elem.{size_of}
use Rattle.ven_base.specs.Extent.{Extent}
use Rattle.pass_plan.specs.declared.leaf.Leaf.{Leaf}
use Rattle.dma_segments.specs.FillWork.{move_kind, word_of}
use Rattle.host_programs.specs.Expr.{Expr, Number, Variable, Offset, Sum, Difference, Product, IfLess}
use Rattle.host_programs.specs.Program.{Order, IssueVector, Program, Idle, Emit, Both, UnlessLess, Let}
use Rattle.transfer_programs.specs.Axis.{scaled, times, plus, lesser}
use Rattle.transfer_programs.specs.ReadProgram.{PieceExpr}

-- the type of a piece's elements and the number that fills it; its first cell, and how wide it is
pub record FillSides : Type 0 where
  pub elem : Elem
  pub value : ℤ
  pub buffer : Expr
  pub width : Expr

abbrev pub row_bytes : FillSides → Expr
row_bytes s = scaled s.width (size_of s.elem)

-- ---- one fill

-- so many rows of so many elements from this cell on, each row so many bytes after the one before
pub record FillExpr : Type 0 where
  pub at : Expr
  pub rows : Expr
  pub cols : Expr
  pub step : Expr

-- a move of the number
abbrev pub fill_order : FillSides → FillExpr → Order
fill_order s fill = IssueVector (record {
  kind = move_kind s.elem true false;
  vl = fill.cols;
  rows = fill.rows;
  dst = fill.at;
  a = Number (word_of s.value);
  b = Number 0;
  dst_step = fill.step;
  a_step = Number 0;
  b_step = Number 0;
})

-- whole rows, which are one row, where there are any
abbrev pub rows_fill : FillSides → (first count : Expr) → Program
rows_fill s first count = UnlessLess count (Number 1) (Emit (fill_order s (record {
  at = plus (times first (row_bytes s)) s.buffer;
  rows = Number 1;
  cols = Product count s.width;
  step = Number 0;
})))

-- so many columns of rows, `before` bytes behind each row's first cell. Register d has how many rows, and the next
-- one how many are left where rows as wide as the piece are one
abbrev pub columns_fill : FillSides → (first count before columns : Expr) → (d : ℕ) → Program
columns_fill s first count before columns d =
    UnlessLess columns (Number 1)
    (Let count
    (UnlessLess (Variable d) (Number 1)
    (Let (IfLess columns s.width (Variable d) (Number 1))
    (Emit (fill_order s (record {
      at = plus (times first (row_bytes s)) (plus before s.buffer);
      rows = Variable (d + 1);
      cols = IfLess columns s.width columns (Product (Variable d) columns);
      step = IfLess (Variable (d + 1)) (Number 2) (Number 0) (row_bytes s);
    }))))))

-- ---- the fills of a shift

-- how many of n places from `start` on have no source: the last ones, or the first
abbrev pub outside_expr : (size : ℕ) → ℤ → (start n : Expr) → Expr
outside_expr size (pos k) start n =
    let past = Offset (Sum start n) (min k size) in
    IfLess past (Number (suc size)) (Number 0) (lesser n (Difference past (Number size)))
outside_expr size (negsuc k) start n =
    IfLess (Number k) start (Number 0) (lesser n (Difference (Number (suc k)) start))

-- how many bytes of a row stand before its columns without a source
abbrev pub bytes_before : FillSides → ℤ → (columns : Expr) → Expr
bytes_before s (pos k) columns = scaled (Difference s.width columns) (size_of s.elem)
bytes_before s (negsuc k) columns = Number 0

-- rows of the piece and `outside` rows without a source, in their order
abbrev pub fills_in_order : FillSides → ℤ → (height outside before columns : Expr) → (d : ℕ) → Program
fills_in_order s (pos k) height outside before columns d =
    Both (columns_fill s (Number 0) (Difference height outside) before columns d)
    (rows_fill s (Difference height outside) outside)
fills_in_order s (negsuc k) height outside before columns d =
    Both (rows_fill s (Number 0) outside)
    (columns_fill s outside (Difference height outside) before columns d)

-- register d has how many rows have no source, and the next one how many columns
abbrev pub shift_fills : FillSides → Extent → (dr dc : ℤ) → PieceExpr → (d : ℕ) → Program
shift_fills s shape dr dc piece d =
    Let (outside_expr shape.rows dr piece.r0 piece.h)
    (Let (outside_expr shape.cols dc piece.c0 piece.w)
    (fills_in_order s dr piece.h (Variable d) (bytes_before s dc (Variable (d + 1))) (Variable (d + 1)) (d + 1 + 1)))

-- ---- the fills of a leaf's piece

abbrev pub map_fills : Mapping → Leaf → PieceExpr → (buffer : Expr) → (d : ℕ) → Program
map_fills (Shift dr dc value) leaf piece buffer d =
    shift_fills (record { elem = leaf.elem; value = value; buffer = buffer; width = piece.w }) leaf.shape dr dc piece d
map_fills _ leaf piece buffer d = Idle

abbrev pub fill_program : Leaf → PieceExpr → (buffer : Expr) → (d : ℕ) → Program
fill_program leaf piece buffer d = map_fills leaf.map leaf piece buffer d
