-- What the programs of pieces cost: how many instructions they have, and how many steps they take.
use Rattle.std.specs.Prelude.{◌≡◌, ◌≤◌, ℕ, ◌*◌, ◌==◌, if◌then◌else◌}
use Rattle.ven_base.specs.declared.mapping.Mapping.{Mapping}
use Rattle.ven_base.specs.declared.mapping.Mapping.TheVariants.{Identity, Shift, Rotate, Section, Stretch, Transpose}
use Rattle.ven_base.specs.Extent.{IsExtent}
use Rattle.ven_base.specs.Mapping.{FitsShape, result_shape}
use Rattle.pass_plan.specs.declared.leaf.Leaf.{Leaf}
use Rattle.pass_plan.specs.Tile.{IsPieceOf}
use Rattle.pass_plan.specs.declared.split.ArrayPlace.{ArrayPlace}
use Rattle.host_programs.specs.Block.{size}
use Rattle.host_programs.specs.Expr.{Expr}
use Rattle.host_programs.specs.Program.{Program}
use Rattle.host_programs.specs.ProgramCode.{block_of, steps_of}
use Rattle.host_programs.specs.ProgramFits.{ProgramFits}
use Rattle.transfer_programs.specs.ReadProgram.{PieceExpr, Target, leaf_program, write_program}
use Rattle.transfer_programs.specs.FillProgram.{fill_program}
use Rattle.transfer_programs.specs.ReadLaws.{piece_value, ReadsBelow}
use Rattle.transfer_programs.specs.Cost.{bring_size, program_size, most_steps}

-- ---- any program

-- its code has as many instructions, whichever registers are in use
abbrev pub CodeHasSize : Type 0
CodeHasSize = (p : Program) (d : ℕ) → size (block_of p d) ≡ program_size p

-- where it fits it takes no more steps
abbrev pub CodeTakesSteps : Type 0
CodeTakesSteps = (p : Program) (d : ℕ) (f : ℕ → ℕ) → ProgramFits p d f → steps_of p d f ≤ most_steps p d f

-- ---- instructions

-- the piece's numbers stand in registers, and its buffer and its tag take one instruction each at most
pub record AreAtHand (piece : PieceExpr) (target : Target) : Type 0 where
  pub r0 : bring_size piece.r0 ≤ 0
  pub c0 : bring_size piece.c0 ≤ 0
  pub h : bring_size piece.h ≤ 0
  pub w : bring_size piece.w ≤ 0
  pub buffer : bring_size target.buffer ≤ 1
  pub tag : bring_size target.tag ≤ 1

-- the piece's numbers, its buffer and its tag take one instruction each at most
pub record AreShort (piece : PieceExpr) (target : Target) : Type 0 where
  pub r0 : bring_size piece.r0 ≤ 1
  pub c0 : bring_size piece.c0 ≤ 1
  pub h : bring_size piece.h ≤ 1
  pub w : bring_size piece.w ≤ 1
  pub buffer : bring_size target.buffer ≤ 1
  pub tag : bring_size target.tag ≤ 1

-- the most instructions that bring a leaf's piece, by its map
abbrev pub leaf_room : Mapping → ℕ
leaf_room Identity = 72
leaf_room (Shift dr dc fill) = 108
leaf_room (Rotate dr dc) = 347
leaf_room (Section r0 nr sr c0 nc sc) = if sc == 1 then 78 else 200
leaf_room (Stretch kr kc) = if kc == 1 then 450 else 760
leaf_room Transpose = 188

-- and those that take a piece to its array
abbrev pub write_room : ℕ
write_room = 69

-- and those that fill what has no source in a leaf's piece
abbrev pub fill_room : Mapping → ℕ
fill_room (Shift dr dc fill) = 95
fill_room _ = 0

-- the piece's numbers stand in registers, and its buffer takes one instruction at most
pub record FillAtHand (piece : PieceExpr) (buffer : Expr) : Type 0 where
  pub r0 : bring_size piece.r0 ≤ 0
  pub c0 : bring_size piece.c0 ≤ 0
  pub h : bring_size piece.h ≤ 0
  pub w : bring_size piece.w ≤ 0
  pub buffer_size : bring_size buffer ≤ 1

abbrev pub LeavesTakeTheirRoom : Type 0
LeavesTakeTheirRoom = (leaf : Leaf) (from : ArrayPlace) (piece : PieceExpr) (target : Target) (d : ℕ)
    → AreAtHand piece target → size (block_of (leaf_program leaf from piece target d) d) ≤ leaf_room leaf.map

abbrev pub WritesTakeTheirRoom : Type 0
WritesTakeTheirRoom = (to : ArrayPlace) (piece : PieceExpr) (target : Target) (d : ℕ)
    → AreShort piece target → size (block_of (write_program to piece target d) d) ≤ write_room

abbrev pub FillsTakeTheirRoom : Type 0
FillsTakeTheirRoom = (leaf : Leaf) (piece : PieceExpr) (buffer : Expr) (d : ℕ)
    → FillAtHand piece buffer → size (block_of (fill_program leaf piece buffer d) d) ≤ fill_room leaf.map

-- ---- steps

-- the most steps for each element of a leaf's piece, by its map
abbrev pub leaf_steps : Mapping → ℕ
leaf_steps Identity = 72
leaf_steps (Shift dr dc fill) = 108
leaf_steps (Rotate dr dc) = 347
leaf_steps (Section r0 nr sr c0 nc sc) = 80
leaf_steps (Stretch kr kc) = 363
leaf_steps Transpose = 80

-- the program of a piece of what a leaf gives
abbrev pub LeavesTakeFewSteps : Type 0
LeavesTakeFewSteps = (leaf : Leaf) (from : ArrayPlace) (piece : PieceExpr) (target : Target) (d : ℕ) (f : ℕ → ℕ)
    → IsExtent leaf.shape → FitsShape leaf.map leaf.shape
    → IsPieceOf (result_shape leaf.map leaf.shape) (piece_value piece f)
    → ReadsBelow piece target d → AreAtHand piece target
    → most_steps (leaf_program leaf from piece target d) d f
    ≤ leaf_steps leaf.map * ((piece_value piece f).h * (piece_value piece f).w)

-- those of a write and of fills have no loops, so no more steps than instructions
abbrev pub WritesTakeFewSteps : Type 0
WritesTakeFewSteps = (to : ArrayPlace) (piece : PieceExpr) (target : Target) (d : ℕ) (f : ℕ → ℕ)
    → AreShort piece target → most_steps (write_program to piece target d) d f ≤ write_room

abbrev pub FillsTakeFewSteps : Type 0
FillsTakeFewSteps = (leaf : Leaf) (piece : PieceExpr) (buffer : Expr) (d : ℕ) (f : ℕ → ℕ)
    → FillAtHand piece buffer → most_steps (fill_program leaf piece buffer d) d f ≤ fill_room leaf.map
