-- What the programs issue for small pieces of an array of two-byte elements at place 100, in the buffer at cell 64 with
-- the tag 1, as the definitions compute it. Each program is made once, for a piece that registers 0 to 3 name.
use Rattle.std.specs.Prelude.{◌≡◌, ℕ, pos, negsuc, List, [], ◌∷◌, true, false}
use Rattle.ven_base.specs.declared.elem.Elem.TheVariants.{U16}
use Rattle.ven_base.specs.declared.mapping.Mapping.{Mapping}
use Rattle.ven_base.specs.declared.mapping.Mapping.TheVariants.{Identity, Shift, Rotate, Section, Stretch, Transpose}
use Rattle.ven_base.specs.Extent.{Extent}
use Rattle.venice_isa.specs.declared.issue.Issue.{Issue}
use Rattle.venice_isa.specs.declared.issue.Issue.TheVariants.{Vector, Read, Write}
use Rattle.venice_isa.specs.declared.work.DmaWork.{DmaWork}
use Rattle.venice_isa.specs.Host.{with_number}
use Rattle.pass_plan.specs.declared.leaf.Leaf.{Leaf}
use Rattle.pass_plan.specs.declared.split.ArrayPlace.{ArrayPlace}
use Rattle.dma_segments.specs.FillWork.{move_kind}
use Rattle.host_programs.specs.Expr.{Number, Variable, value}
use Rattle.host_programs.specs.Program.{list_by}
use Rattle.transfer_programs.specs.ReadProgram.{PieceExpr, Target, leaf_program, write_program}
use Rattle.transfer_programs.specs.FillProgram.{fill_program}

abbrev pub extent : (rows cols : ℕ) → Extent
extent rows cols = record { rows = rows; cols = cols }

abbrev pub array_of : Extent → ArrayPlace
array_of shape = record { elem = U16; shape = shape; place = 100 }

abbrev pub leaf_of : Mapping → Extent → Leaf
leaf_of mapping shape = record { array = 0; elem = U16; shape = shape; map = mapping }

-- the piece by the registers' names, and registers with these numbers
abbrev pub named_piece : PieceExpr
named_piece = record { r0 = Variable 0; c0 = Variable 1; h = Variable 2; w = Variable 3 }

abbrev pub registers : (r0 c0 h w : ℕ) → (ℕ → ℕ)
registers r0 c0 h w = with_number 0 r0 (with_number 1 c0 (with_number 2 h (with_number 3 w (λ r. 0))))

abbrev pub target : Target
target = record { buffer = Number 64; tag = Number 1 }

-- ---- what is issued for a piece with these numbers

abbrev pub reads_of : Mapping → Extent → (r0 c0 h w : ℕ) → List Issue
reads_of mapping shape r0 c0 h w =
    list_by value (leaf_program (leaf_of mapping shape) (array_of shape) named_piece target 4) 4 (registers r0 c0 h w)

abbrev pub fills_of : Mapping → Extent → (r0 c0 h w : ℕ) → List Issue
fills_of mapping shape r0 c0 h w =
    list_by value (fill_program (leaf_of mapping shape) named_piece target.buffer 4) 4 (registers r0 c0 h w)

abbrev pub writes_of : Extent → (r0 c0 h w : ℕ) → List Issue
writes_of shape r0 c0 h w =
    list_by value (write_program (array_of shape) named_piece target 4) 4 (registers r0 c0 h w)

-- ---- issues

abbrev pub of_rows : (mem spad rows bytes mem_step spad_step : ℕ) → DmaWork
of_rows mem spad rows bytes mem_step spad_step =
    record { mem = mem; spad = spad; rows = rows; bytes = bytes; mem_step = mem_step; spad_step = spad_step; tag = 1 }

abbrev pub of_one_row : (mem spad bytes : ℕ) → DmaWork
of_one_row mem spad bytes = of_rows mem spad 1 bytes 0 0

abbrev pub move_to : (dst rows cols step number : ℕ) → Issue
move_to dst rows cols step number = Vector (record {
  kind = move_kind U16 true false;
  vl = cols;
  rows = rows;
  dst = dst;
  a = number;
  b = 0;
  dst_step = step;
  a_step = 0;
  b_step = 0;
})

-- ---- the rows

pub record WorkedRows : Type 0 where
  -- a part of two rows of four: one command of two rows; whole rows are one row; and so is what has one row
  pub part : reads_of Identity (extent 2 4) 0 1 2 2 ≡ Read (of_rows 102 64 2 4 8 4) ∷ []
  pub whole_rows : reads_of Identity (extent 100 5) 0 0 100 5 ≡ Read (of_one_row 100 64 1000) ∷ []
  pub one_row : reads_of Identity (extent 2 4) 1 1 1 3 ≡ Read (of_one_row 110 64 6) ∷ []
  -- two rows of three, shifted by a column: two elements of each from the array, and the last filled with 7
  pub shifted : reads_of (Shift (pos 0) (pos 1) (pos 7)) (extent 2 3) 0 0 2 3 ≡ Read (of_rows 102 64 2 4 6 6) ∷ []
  pub shifted_fills : fills_of (Shift (pos 0) (pos 1) (pos 7)) (extent 2 3) 0 0 2 3 ≡ move_to 68 2 1 6 7 ∷ []
  -- its first two columns have no fill
  pub inside_fills : fills_of (Shift (pos 0) (pos 1) (pos 7)) (extent 2 3) 0 0 2 2 ≡ []
  -- shifted by a row and a column the other way: the first row is filled, and the first column of the other
  pub back : reads_of (Shift (negsuc 0) (negsuc 0) (negsuc 0)) (extent 2 3) 0 0 2 3 ≡ Read (of_one_row 100 72 4) ∷ []
  pub back_fills : fills_of (Shift (negsuc 0) (negsuc 0) (negsuc 0)) (extent 2 3) 0 0 2 3
      ≡ move_to 64 1 3 0 4294967295 ∷ move_to 70 1 1 0 4294967295 ∷ []
  -- shifted out of the shape: all is filled, as one row
  pub far : reads_of (Shift (pos 0) (pos 4294967295) (pos 7)) (extent 2 3) 0 0 2 3 ≡ []
  pub far_fills : fills_of (Shift (pos 0) (pos 4294967295) (pos 7)) (extent 2 3) 0 0 2 3 ≡ move_to 64 1 6 0 7 ∷ []
  -- rotated back by one: the last element, then the first two
  pub rotated : reads_of (Rotate (pos 0) (negsuc 0)) (extent 1 3) 0 0 1 3
      ≡ Read (of_one_row 104 64 2) ∷ Read (of_one_row 100 66 4) ∷ []
  -- columns 1 and 3 of two rows of five: a command for each row of two
  pub cut : reads_of (Section 0 2 1 1 2 2) (extent 2 5) 0 0 2 2
      ≡ Read (of_rows 102 64 2 2 4 2) ∷ Read (of_rows 112 68 2 2 4 2) ∷ []
  -- each column twice, columns 1 to 4: the places 1 and 3 by one command, 2 and 4 by the other
  pub stretched : reads_of (Stretch 1 2) (extent 1 3) 0 1 1 4
      ≡ Read (of_rows 100 64 2 2 2 4) ∷ Read (of_rows 102 66 2 2 2 4) ∷ []
  -- a command for each row of two, whose elements are the array's columns
  pub transposed : reads_of Transpose (extent 3 2) 0 0 2 3
      ≡ Read (of_rows 100 64 3 2 4 2) ∷ Read (of_rows 102 70 3 2 4 2) ∷ []
  -- a part of two rows of four is written by one command of two rows, and a column by one row
  pub part_written : writes_of (extent 2 4) 0 1 2 2 ≡ Write (of_rows 102 64 2 4 8 4) ∷ []
  pub column_written : writes_of (extent 9 1) 3 0 4 1 ≡ Write (of_one_row 106 64 8) ∷ []
