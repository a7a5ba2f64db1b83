-- Pieces, runs, axes and patches of the code as plain values.
use Rattle.std.specs.Prelude.{ℕ, ◌+◌, ◌<◌, false}
use Rattle.ven_base.specs.Place.{IsMove}
use Rattle.host_programs.specs.Expr as plain
use Rattle.host_programs.specs.Program as list
use Rattle.host_programs.specs.Shown.{expr_of}
use Rattle.transfer_builder.specs.declared.small_expr.SmallExpr.{SmallExpr}
use Rattle.transfer_builder.specs.declared.small_expr.SmallExpr.TheVariants.{Number, Variable, Offset}
use Rattle.transfer_builder.specs.declared.small_expr.PieceExpr.{PieceExpr}
use Rattle.transfer_builder.specs.declared.small_expr.Target.{Target}
use Rattle.transfer_builder.specs.declared.run_expr.RunExpr.{RunExpr}
use Rattle.transfer_builder.specs.declared.axis.AxisKind.{AxisKind}
use Rattle.transfer_builder.specs.declared.axis.AxisKind.TheVariants.{Plain, Shifted, Round, Cut, Repeated}
use Rattle.transfer_builder.specs.declared.axis.Axis.{Axis}
use Rattle.transfer_builder.specs.declared.axis.Grain.{Grain}
use Rattle.transfer_builder.specs.declared.axis.Grain.TheVariants.{Runs, Places}
use Rattle.transfer_builder.specs.declared.grid.Way.{Way}
use Rattle.transfer_builder.specs.declared.grid.Way.TheVariants.{Lines, Crosses}
use Rattle.transfer_builder.specs.declared.patch_expr.Sides.{Sides}
use Rattle.transfer_builder.specs.declared.patch_expr.PatchExpr.{PatchExpr}
use Rattle.transfer_builder.specs.declared.filling.FillSides.{FillSides}
use Rattle.transfer_builder.specs.declared.filling.FillExpr.{FillExpr}
use Rattle.transfer_programs.specs.Axis as axes
use Rattle.transfer_programs.specs.FillProgram as fills
use Rattle.transfer_programs.specs.ReadProgram as reads

-- ---- pieces

abbrev pub small_of : SmallExpr → plain.Expr
small_of (Number n) = plain.Number n
small_of (Variable r) = plain.Variable r
small_of (Offset r n) = plain.Offset (plain.Variable r) n

abbrev pub piece_of : PieceExpr → reads.PieceExpr
piece_of piece =
    record { r0 = small_of piece.r0; c0 = small_of piece.c0; h = small_of piece.h; w = small_of piece.w }

abbrev pub target_of : Target → reads.Target
target_of target = record { buffer = small_of target.buffer; tag = small_of target.tag }

-- ---- runs and axes

abbrev pub run_of : RunExpr → axes.RunExpr
run_of run = record {
  first = expr_of run.first;
  step = expr_of run.step;
  count = expr_of run.count;
  source = expr_of run.source;
  source_step = expr_of run.source_step;
}

abbrev pub axis_by : AxisKind → (start n : plain.Expr) → axes.Axis
axis_by Plain start n = reads.plain_axis start n
axis_by (Shifted size by) start n = reads.shifted_axis size by start n
axis_by (Round size by) start n = reads.round_axis size by start n
axis_by (Cut first step) start n = reads.cut_axis first step start n
axis_by (Repeated times) start n = reads.repeated_axis times start n

abbrev pub runs_of : Axis → axes.Axis
runs_of axis = axis_by axis.kind (small_of axis.span.start) (small_of axis.span.n)

abbrev pub by_grain : Grain → axes.Axis → axes.Axis
by_grain Runs axis = axis
by_grain Places axis = axes.singles_of axis

abbrev pub axis_of : Axis → axes.Axis
axis_of axis = by_grain axis.grain (runs_of axis)

-- the axis has places, and goes no further than a map may
abbrev pub IsKind : AxisKind → Type 0
IsKind (Shifted size by) = IsMove by
IsKind (Round size by) = (0 < size) × IsMove by
IsKind _ = Unit {0}

-- ---- patches

abbrev pub sides_of : Sides → reads.SidesExpr
sides_of sides = record {
  size = sides.size;
  array = sides.array;
  row_pitch = sides.row_pitch;
  column_pitch = sides.column_pitch;
  buffer = small_of sides.buffer;
  width = small_of sides.width;
  tag = small_of sides.tag;
}

abbrev pub patch_of : PatchExpr → reads.PatchExpr
patch_of patch = record {
  rows = expr_of patch.rows;
  cols = expr_of patch.cols;
  to = expr_of patch.to;
  to_step = expr_of patch.to_step;
  from = expr_of patch.from;
  from_step = expr_of patch.from_step;
}

-- what the command of `patch_program` moves: register d + 1 has its rows, and the next one its columns
abbrev pub patch_order : reads.SidesExpr → reads.PatchExpr → (d : ℕ) → list.TransferOrder
patch_order s p d = record {
  mem = plain.Offset (axes.scaled p.from s.size) s.array;
  spad = plain.Sum s.buffer (axes.scaled p.to s.size);
  rows = plain.Variable (d + 1);
  bytes = axes.scaled (plain.Variable (d + 1 + 1)) s.size;
  mem_step = plain.IfLess (plain.Variable (d + 1)) (plain.Number 2) (plain.Number 0) (axes.scaled p.from_step s.size);
  spad_step = plain.IfLess (plain.Variable (d + 1)) (plain.Number 2) (plain.Number 0) (axes.scaled p.to_step s.size);
  tag = s.tag;
}

-- the patch of two runs, those of a run of rows and columns, and those of rows and columns
abbrev pub patch_by : Way → reads.SidesExpr → (a b : axes.RunExpr) → reads.PatchExpr
patch_by Lines s a b = reads.line_expr s a b
patch_by Crosses s a b = reads.cross_expr s a b

abbrev pub columns_by : Way → reads.SidesExpr → (columns : axes.Axis) → (d : ℕ) → (a : axes.RunExpr) → list.Program
columns_by way s columns d a = columns d (λ l b. reads.patch_program false s (patch_by way s a b) l)

abbrev pub patches_by : Way → reads.SidesExpr → (rows columns : axes.Axis) → (d : ℕ) → list.Program
patches_by way s rows columns d = rows d (columns_by way s columns)

-- ---- fills

abbrev pub fill_sides_of : FillSides → fills.FillSides
fill_sides_of sides = record {
  elem = sides.elem;
  value = sides.value;
  buffer = small_of sides.buffer;
  width = small_of sides.width;
}

abbrev pub fill_of : FillExpr → fills.FillExpr
fill_of fill = record {
  at = expr_of fill.at;
  rows = expr_of fill.rows;
  cols = expr_of fill.cols;
  step = expr_of fill.step;
}

-- the fill of `columns_fill`: register d has how many rows, and the next one how many are left
abbrev pub columns_fill_of : fills.FillSides → (first before columns : plain.Expr) → (d : ℕ) → fills.FillExpr
columns_fill_of s first before columns d = record {
  at = axes.plus (axes.times first (fills.row_bytes s)) (axes.plus before s.buffer);
  rows = plain.Variable (d + 1);
  cols = plain.IfLess columns s.width columns (plain.Product (plain.Variable d) columns);
  step = plain.IfLess (plain.Variable (d + 1)) (plain.Number 2) (plain.Number 0) (fills.row_bytes s);
}
