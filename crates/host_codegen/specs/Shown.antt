-- Layouts, rows and sources of the code as plain values.
use Rattle.host_programs.specs.Program as list
use Rattle.transfer_builder.specs.Shown.{small_of}
use Rattle.host_codegen.specs.declared.geometry.Layout.{Layout}
use Rattle.host_codegen.specs.declared.steps.RowsExpr.{RowsExpr}
use Rattle.host_codegen.specs.declared.steps.SmallOrder.{SmallOrder}
use Rattle.host_codegen.specs.declared.steps.SourceExpr.{SourceExpr}
use Rattle.host_codegen.specs.declared.steps.SourceExpr.TheVariants.{Buffer, Scalar}
use Rattle.host_codegen.specs.Geometry as geometry
use Rattle.host_codegen.specs.StepProgram as steps

abbrev pub layout_at : Layout → geometry.Layout
layout_at layout = record {
  domain = record { rows = layout.rows; cols = layout.cols };
  tile = layout.tile;
  across = layout.across;
  per_row = layout.per_row;
  bytes = layout.bytes;
  leaves = layout.leaves;
  slots = layout.slots;
}

abbrev pub rows_at : RowsExpr → steps.RowsExpr
rows_at shape = record { rows = small_of shape.rows; cols = shape.cols }

abbrev pub source_at : SourceExpr → steps.SourceExpr
source_at (Buffer cell) = steps.Buffer (small_of cell)
source_at (Scalar n) = steps.Scalar n

abbrev pub order_at : SmallOrder → list.VectorOrder
order_at small = record {
  kind = small.kind;
  vl = small_of small.vl;
  rows = small_of small.rows;
  dst = small_of small.dst;
  a = small_of small.a;
  b = small_of small.b;
  dst_step = small_of small.dst_step;
  a_step = small_of small.a_step;
  b_step = small_of small.b_step;
}
