-- The instructions of a tile's root, by the kind of its pass, and those of all steps.
use Rattle.std.specs.Prelude.{ℕ, ◌+◌, ◌-◌, Bool, true, false, List, [], ◌∷◌, if◌then◌else◌}
use Rattle.std.specs.Int.{leading_zeros, w32}
use Rattle.ven_base.specs.declared.elem.Elem.{Elem}
use Rattle.ven_base.specs.declared.ops.Op2.TheVariants as op2
use Rattle.ven_base.specs.declared.ops.Fold.TheVariants as fold
use Rattle.ven_base.specs.Elem.{size_of}
use Rattle.pass_plan.specs.declared.pass.PassKind.{PassKind}
use Rattle.pass_plan.specs.declared.pass.PassKind.TheVariants.{Map, Reduce}
use Rattle.buffer_lifetimes.specs.Step.{Step}
use Rattle.vector_codegen.specs.Kind.{two_kind}
use Rattle.vector_codegen.specs.Root.{better_of}
use Rattle.host_programs.specs.Expr.{Expr, Number, Variable, Offset, Difference, Product, Quotient}
use Rattle.host_programs.specs.Program.{VectorOrder, IssueVector, Program, Emit, Both, UnlessLess, Let, Carry}
use Rattle.transfer_programs.specs.Axis.{scaled}
use Rattle.host_codegen.specs.Sequence.{all_of}
use Rattle.host_codegen.specs.Geometry.{Layout, slot_cell, partial_cell, first_or_later}
use Rattle.host_codegen.specs.StepProgram.{RowsExpr, with_row, row_bytes, Buffer, order_with, step_order}

-- ---- the registers of a tile's instructions

-- its first column, and how many rows and columns it has
abbrev pub column_register : ℕ
column_register = 4

abbrev pub rows_register : ℕ
rows_register = 5

abbrev pub columns_register : ℕ
columns_register = 6

-- how far the half of the leaves' buffers is from half 0, and the first cell of the output half
abbrev pub half_cells_register : ℕ
half_cells_register = 8

abbrev pub output_register : ℕ
output_register = 10

-- all elements as one row, the rows as they are, and one element of each row as a row
abbrev pub all_elements : RowsExpr
all_elements = record { rows = Number 1; cols = 11 }

abbrev pub all_rows : RowsExpr
all_rows = record { rows = Variable rows_register; cols = 14 }

abbrev pub one_column : RowsExpr
one_column = record { rows = Number 1; cols = 17 }

abbrev pub emit : VectorOrder → Program
emit order = Emit (IssueVector order)

-- a step's instruction over all elements, and over rows with their sums
abbrev pub flat_program : Layout → Step → (to : Expr) → Program
flat_program layout step to = emit (step_order layout half_cells_register all_elements false step to)

abbrev pub row_sums_program : Layout → Step → (to : Expr) → Program
row_sums_program layout step to = emit (step_order layout half_cells_register all_rows true step to)

-- ---- sums

-- the partial sums of a later tile join the results so far
abbrev pub joining_order : Layout → Elem → VectorOrder
joining_order layout elem =
    order_with one_column (two_kind op2.Add elem false false false) (Variable output_register)
    (Buffer (Variable output_register)) (Buffer (Number (partial_cell layout)))

abbrev pub joined_sums_program : Layout → Step → Program
joined_sums_program layout step =
    Both (row_sums_program layout step (Number (partial_cell layout)))
    (with_row (Variable rows_register) 17 (emit (joining_order layout step.elem)))

-- a row's first tile sets its results, a later one adds its own to them
abbrev pub sum_program : Layout → Step → Program
sum_program layout step =
    first_or_later layout column_register (row_sums_program layout step (Variable output_register))
    (joined_sums_program layout step)

-- ---- least and greatest values

-- the first elements of each row, as many as register 19 says, meet those from `high` on
abbrev pub halving_order : Layout → (least : Bool) → Elem → (slot : ℕ) → (high : Expr) → VectorOrder
halving_order layout least elem slot high = record {
  kind = two_kind (better_of least) elem false false false;
  vl = Variable 19;
  rows = all_rows.rows;
  dst = Number (slot_cell layout slot);
  a = Number (slot_cell layout slot);
  b = Offset (scaled high (size_of elem)) (slot_cell layout slot);
  dst_step = row_bytes all_rows elem;
  a_step = row_bytes all_rows elem;
  b_step = row_bytes all_rows elem;
}

-- how many halvings leave one of so many, or of fewer: as many as the number before it has binary digits
abbrev pub halving_turns : ℕ → ℕ
halving_turns n = 32 - leading_zeros w32 (n - 1)

-- rows are halved until at most `left` elements are left: register 18 has how many there are
abbrev pub halvings_program : Layout → (least : Bool) → Elem → (slot left : ℕ) → Program
halvings_program layout least elem slot left =
    Carry (Number (halving_turns layout.tile.w)) (Variable columns_register)
    (Difference (Variable 18) (Quotient (Variable 18) (Number 2)))
    (UnlessLess (Variable 18) (Number (left + 1))
    (Let (Quotient (Variable 18) (Number 2))
    (emit (halving_order layout least elem slot (Difference (Variable 18) (Variable 19))))))

-- of each row the first element meets the second, and the result is set; or it meets the result so far
abbrev pub last_order : Layout → (least : Bool) → Elem → (first : Bool) → (slot : ℕ) → VectorOrder
last_order layout least elem first slot = record {
  kind = two_kind (better_of least) elem false false false;
  vl = Number 1;
  rows = all_rows.rows;
  dst = Variable output_register;
  a = if first then Number (slot_cell layout slot + size_of elem) else Variable output_register;
  b = Number (slot_cell layout slot);
  dst_step = Number (size_of elem);
  a_step = if first then row_bytes all_rows elem else Number (size_of elem);
  b_step = row_bytes all_rows elem;
}

-- the rows' values in a slot are halved: to two in a row's first tile, else to one
abbrev pub halved_program : Layout → (least first : Bool) → Step → Program
halved_program layout least first step =
    Both (flat_program layout step (Number (slot_cell layout step.to)))
    (Both (halvings_program layout least step.elem step.to (if first then 2 else 1))
    (emit (last_order layout least step.elem first step.to)))

-- rows of one element in a row's first tile are their own results
abbrev pub first_best_program : Layout → (least : Bool) → Step → Program
first_best_program layout least step =
    Both (UnlessLess (Number 1) (Variable columns_register) (flat_program layout step (Variable output_register)))
    (UnlessLess (Variable columns_register) (Number 2) (halved_program layout least true step))

abbrev pub best_program : Layout → (least : Bool) → Step → Program
best_program layout least step =
    first_or_later layout column_register (first_best_program layout least step)
    (halved_program layout least false step)

-- ---- any root

abbrev pub root_program : PassKind → Layout → Step → Program
root_program Map layout step = flat_program layout step (Variable output_register)
root_program (Reduce fold.Sum) layout step = with_row (Variable columns_register) 14 (sum_program layout step)
root_program (Reduce fold.Min) layout step = with_row (Variable columns_register) 14 (best_program layout true step)
root_program (Reduce fold.Max) layout step = with_row (Variable columns_register) 14 (best_program layout false step)

-- one instruction for each step before the last, and those of the root for the last
abbrev pub steps_programs : PassKind → Layout → List Step → List Program
steps_programs kind layout [] = []
steps_programs kind layout (step ∷ []) = root_program kind layout step ∷ []
steps_programs kind layout (step ∷ next ∷ steps) =
    flat_program layout step (Number (slot_cell layout step.to)) ∷ steps_programs kind layout (next ∷ steps)

abbrev pub works_program : PassKind → Layout → List Step → Program
works_program kind layout steps =
    with_row (Product (Variable rows_register) (Variable columns_register)) 11
    (all_of (steps_programs kind layout steps))
