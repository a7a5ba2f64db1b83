-- The program that brings a piece of a leaf into its buffer.
use Rattle.std.specs.Prelude.{ℕ, suc, ℤ, pos, negsuc, ◌+◌, min, if◌then◌else◌, Bool, true, false}
use Rattle.ven_base.specs.declared.mapping.Mapping.{Mapping}
use Rattle.ven_base.specs.declared.mapping.Mapping.TheVariants.{Identity, Shift, Rotate, Section, Stretch, Transpose}
use Rattle.ven_base.specs.Elem.{size_of}
use Rattle.ven_base.specs.Extent.{Extent}
use Rattle.ven_base.specs.Place.{place_round}
use Rattle.pass_plan.specs.declared.leaf.Leaf.{Leaf}
use Rattle.pass_plan.specs.declared.split.ArrayPlace.{ArrayPlace}
use Rattle.dma_segments.specs.Patch.{keeps_neighbours, row_pitch_of, column_pitch_of}
use Rattle.host_programs.specs.Expr.{Expr, Number, Variable, Offset, Sum, Difference, Product, Quotient, Remainder, IfLess}
use Rattle.host_programs.specs.Program.{IssueTransfer, Program, Emit, Both, UnlessLess, Let}
use Rattle.transfer_programs.specs.Axis.{RunExpr, scaled, times, plus, lesser, Axis, one_run, some_run, named, both_axes, either_runs, singles_of}

-- ---- a patch

-- elements of so many bytes, of an array that begins at this place, whose rows' and columns' neighbours are so far
-- apart; the piece's first cell, how wide the piece is, and the tag of its commands
pub record SidesExpr : Type 0 where
  pub size : ℕ
  pub array : ℕ
  pub row_pitch : ℕ
  pub column_pitch : ℕ
  pub buffer : Expr
  pub width : Expr
  pub tag : Expr

pub record PatchExpr : Type 0 where
  pub rows : Expr
  pub cols : Expr
  pub to : Expr
  pub to_step : Expr
  pub from : Expr
  pub from_step : Expr

abbrev pub source_expr : SidesExpr → RunExpr → RunExpr → Expr
source_expr s a b = Sum (scaled a.source s.row_pitch) (scaled b.source s.column_pitch)

abbrev pub line_expr : SidesExpr → RunExpr → RunExpr → PatchExpr
line_expr s a b = record {
  rows = a.count;
  cols = b.count;
  to = plus (times a.first s.width) b.first;
  to_step = times a.step s.width;
  from = source_expr s a b;
  from_step = scaled a.source_step s.row_pitch;
}

abbrev pub cross_expr : SidesExpr → RunExpr → RunExpr → PatchExpr
cross_expr s a b = record {
  rows = b.count;
  cols = Number 1;
  to = plus (times a.first s.width) b.first;
  to_step = b.step;
  from = source_expr s a b;
  from_step = scaled b.source_step s.column_pitch;
}

-- 1 where there are rows that are adjacent on both sides, else 0. One row is as it is: its step may have more than 32
-- bits, and is not looked at
abbrev pub is_joined : PatchExpr → Expr
is_joined p =
    IfLess p.rows (Number 2) (Number 0)
    (IfLess p.to_step p.cols (Number 0) (IfLess p.cols p.to_step (Number 0)
    (IfLess p.from_step p.cols (Number 0) (IfLess p.cols p.from_step (Number 0) (Number 1)))))

-- the patch's command: register d says whether its rows are one, and the next two have its rows and columns then
abbrev pub patch_program : (write : Bool) → SidesExpr → PatchExpr → (d : ℕ) → Program
patch_program write s p d =
    Let (is_joined p)
    (Let (IfLess (Variable d) (Number 1) p.rows (Number 1))
    (Let (IfLess (Variable d) (Number 1) p.cols (Product p.rows p.cols))
    (Emit (IssueTransfer write (record {
      mem = Offset (scaled p.from s.size) s.array;
      spad = Sum s.buffer (scaled p.to s.size);
      rows = Variable (d + 1);
      bytes = scaled (Variable (d + 1 + 1)) s.size;
      mem_step = IfLess (Variable (d + 1)) (Number 2) (Number 0) (scaled p.from_step s.size);
      spad_step = IfLess (Variable (d + 1)) (Number 2) (Number 0) (scaled p.to_step s.size);
      tag = s.tag;
    })))))

-- ---- runs of rows times runs of columns

abbrev pub lines_program : SidesExpr → (rows columns : Axis) → (d : ℕ) → Program
lines_program s rows columns d = rows d (λ k a. columns k (λ l b. patch_program false s (line_expr s a b) l))

abbrev pub crosses_program : SidesExpr → (rows columns : Axis) → (d : ℕ) → Program
crosses_program s rows columns d = rows d (λ k a. columns k (λ l b. patch_program false s (cross_expr s a b) l))

-- ---- the runs of an axis that begins at place `start` of the result and has n places

abbrev pub plain_axis : (start n : Expr) → Axis
plain_axis start n =
    one_run (record { first = Number 0; step = Number 1; count = n; source = start; source_step = Number 1 })

-- places from the first on, whose sources follow one another
abbrev pub neighbours_axis : (first count source : Expr) → Axis
neighbours_axis first count source = some_run count (λ c.
    record { first = first; step = Number 1; count = c; source = source; source_step = Number 1 })

abbrev pub later_axis : (size k : ℕ) → (start n : Expr) → Axis
later_axis size k start n =
    neighbours_axis (Number 0)
    (IfLess (Offset start k) (Number size) (lesser n (Difference (Number size) (Offset start k))) (Number 0))
    (Offset start k)

abbrev pub earlier_axis : (k : ℕ) → (start n : Expr) → Axis
earlier_axis k start n =
    named (lesser n (IfLess start (Number k) (Difference (Number k) start) (Number 0))) (λ outside.
    neighbours_axis outside (Difference n outside) (Difference (Sum start outside) (Number k)))

-- a shift past the size has no sources, however far
abbrev pub shifted_axis : (size : ℕ) → ℤ → (start n : Expr) → Axis
shifted_axis size (pos k) start n = later_axis size (min k size) start n
shifted_axis size (negsuc k) start n = earlier_axis (suc k) start n

abbrev pub round_axis : (size : ℕ) → ℤ → (start n : Expr) → Axis
round_axis size by start n =
    named (Remainder (Offset start (place_round size by)) (Number size)) (λ first.
    named (lesser n (Difference (Number size) first)) (λ before.
    both_axes (neighbours_axis (Number 0) before first) (neighbours_axis before (Difference n before) (Number 0))))

abbrev pub cut_axis : (first step : ℕ) → (start n : Expr) → Axis
cut_axis first step start n = one_run (record {
  first = Number 0;
  step = Number 1;
  count = n;
  source = Offset (scaled start step) first;
  source_step = Number step;
})

abbrev pub phase_expr : (factor : ℕ) → (start n p : Expr) → RunExpr
phase_expr k start n p = record {
  first = p;
  step = Number k;
  count = Quotient (Difference (Offset (Difference n p) k) (Number 1)) (Number k);
  source = Quotient (Sum start p) (Number k);
  source_step = Number 1;
}

-- the first place of the axis, and that behind the last, of those that come from place q
abbrev pub block_first : (factor : ℕ) → (start q : Expr) → Expr
block_first k start q =
    IfLess (Product q (Number k)) start (Number 0) (Difference (Product q (Number k)) start)

abbrev pub block_expr : (factor : ℕ) → (start n q : Expr) → RunExpr
block_expr k start n q = record {
  first = block_first k start q;
  step = Number 1;
  count = Difference (lesser n (Difference (Offset (Product q (Number k)) k) start)) (block_first k start q);
  source = q;
  source_step = Number 0;
}

abbrev pub repeated_axis : (factor : ℕ) → (start n : Expr) → Axis
repeated_axis k start n =
    named (Quotient start (Number k)) (λ first.
    named (Difference (Offset (Quotient (Difference (Sum start n) (Number 1)) (Number k)) 1) first) (λ blocks.
    named (IfLess blocks (lesser (Number k) n) (Number 1) (Number 0)) (λ flag.
    either_runs flag (lesser (Number k) n) blocks (phase_expr k start n) (λ t. block_expr k start n (Sum first t)))))

abbrev pub rows_axis : Mapping → Extent → (start n : Expr) → Axis
rows_axis Identity shape start n = plain_axis start n
rows_axis (Shift dr dc fill) shape start n = shifted_axis shape.rows dr start n
rows_axis (Rotate dr dc) shape start n = round_axis shape.rows dr start n
rows_axis (Section r0 nr sr c0 nc sc) shape start n = cut_axis r0 sr start n
rows_axis (Stretch kr kc) shape start n = repeated_axis kr start n
rows_axis Transpose shape start n = plain_axis start n

abbrev pub columns_axis : Mapping → Extent → (start n : Expr) → Axis
columns_axis Identity shape start n = plain_axis start n
columns_axis (Shift dr dc fill) shape start n = shifted_axis shape.cols dc start n
columns_axis (Rotate dr dc) shape start n = round_axis shape.cols dc start n
columns_axis (Section r0 nr sr c0 nc sc) shape start n = cut_axis c0 sc start n
columns_axis (Stretch kr kc) shape start n = repeated_axis kc start n
columns_axis Transpose shape start n = plain_axis start n

-- ---- how many runs an axis has

abbrev pub repeated_count : (factor : ℕ) → (start n : Expr) → Expr
repeated_count k start n =
    lesser (lesser (Number k) n)
    (Difference (Offset (Quotient (Difference (Sum start n) (Number 1)) (Number k)) 1) (Quotient start (Number k)))

-- of the maps that don't keep neighbours, only a stretch has more than one
abbrev pub run_count : Mapping → (start n : Expr) → (of_rows : Bool) → Expr
run_count (Stretch kr kc) start n of_rows = repeated_count (if of_rows then kr else kc) start n
run_count _ start n of_rows = Number 1

-- ---- a piece's commands

-- a piece by expressions
pub record PieceExpr : Type 0 where
  pub r0 : Expr
  pub c0 : Expr
  pub h : Expr
  pub w : Expr

abbrev pub read_program : Mapping → Extent → SidesExpr → PieceExpr → (d : ℕ) → Program
read_program mapping shape s piece d =
    let rows = rows_axis mapping shape piece.r0 piece.h in
    let columns = columns_axis mapping shape piece.c0 piece.w in
    if keeps_neighbours mapping then lines_program s rows columns d
    else (let by_rows = Product piece.h (run_count mapping piece.c0 piece.w false) in
    let by_columns = Product (run_count mapping piece.r0 piece.h true) piece.w in
    Both (UnlessLess by_columns by_rows (crosses_program s (singles_of rows) columns d))
    (UnlessLess by_rows (Offset by_columns 1) (lines_program s rows (singles_of columns) d)))

-- ---- a leaf's piece

abbrev pub sides_of_leaf : Leaf → ArrayPlace → (buffer width tag : Expr) → SidesExpr
sides_of_leaf leaf from buffer width tag = record {
  size = size_of leaf.elem;
  array = from.place;
  row_pitch = row_pitch_of leaf.map leaf.shape;
  column_pitch = column_pitch_of leaf.map leaf.shape;
  buffer = buffer;
  width = width;
  tag = tag;
}

-- where a piece goes, and the tag of its commands
pub record Target : Type 0 where
  pub buffer : Expr
  pub tag : Expr

abbrev pub leaf_program : Leaf → ArrayPlace → PieceExpr → Target → (d : ℕ) → Program
leaf_program leaf from piece target d =
    read_program leaf.map leaf.shape (sides_of_leaf leaf from target.buffer piece.w target.tag) piece d

-- ---- a piece of what a pass makes

abbrev pub whole_expr : Extent → PieceExpr → PatchExpr
whole_expr shape piece = record {
  rows = piece.h;
  cols = piece.w;
  to = Number 0;
  to_step = piece.w;
  from = Sum (scaled piece.r0 shape.cols) piece.c0;
  from_step = Number shape.cols;
}

-- it is a patch of its array, whose pitches have no say
abbrev pub sides_of_array : ArrayPlace → (buffer width tag : Expr) → SidesExpr
sides_of_array to buffer width tag = record {
  size = size_of to.elem;
  array = to.place;
  row_pitch = 0;
  column_pitch = 0;
  buffer = buffer;
  width = width;
  tag = tag;
}

abbrev pub write_program : ArrayPlace → PieceExpr → Target → (d : ℕ) → Program
write_program to piece target d =
    patch_program true (sides_of_array to target.buffer piece.w target.tag) (whole_expr to.shape piece) d
