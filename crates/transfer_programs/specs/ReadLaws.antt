-- What holds of the programs that bring pieces.
use Rattle.std.specs.Prelude.{◌≡◌, ◌≤◌, ℕ, true, map}
use Rattle.ven_base.specs.Extent.{IsExtent}
use Rattle.venice_isa.specs.declared.issue.Issue.TheVariants.{Read, Write}
use Rattle.pass_plan.specs.declared.leaf.Leaf.{Leaf}
use Rattle.pass_plan.specs.declared.parts.Piece.{Piece}
use Rattle.pass_plan.specs.declared.split.ArrayPlace.{ArrayPlace}
use Rattle.dma_segments.specs.Laws.{with_tag}
use Rattle.dma_segments.specs.ReadList.{read_list}
use Rattle.dma_segments.specs.WriteList.{write_list}
use Rattle.host_programs.specs.Expr.{value, is_below}
use Rattle.host_programs.specs.Program.{list_by}
use Rattle.host_programs.specs.ProgramCode.{is_closed}
use Rattle.host_programs.specs.Room.{room, program_room}
use Rattle.transfer_programs.specs.ReadProgram.{PieceExpr, Target, leaf_program, write_program}

abbrev pub piece_value : PieceExpr → (f : ℕ → ℕ) → Piece
piece_value piece f = record { r0 = value piece.r0 f; c0 = value piece.c0 f; h = value piece.h f; w = value piece.w f }

-- the piece has a row and a column
pub record HasElements (piece : Piece) : Type 0 where
  pub some_rows : 1 ≤ piece.h
  pub some_cols : 1 ≤ piece.w

-- the piece, its buffer and its tag are read from registers below d
pub record ReadsBelow (piece : PieceExpr) (target : Target) (d : ℕ) : Type 0 where
  pub r0 : is_below piece.r0 d ≡ true
  pub c0 : is_below piece.c0 d ≡ true
  pub h : is_below piece.h d ≡ true
  pub w : is_below piece.w d ≡ true
  pub buffer : is_below target.buffer d ≡ true
  pub tag : is_below target.tag d ≡ true

-- whatever the map, the piece and the tag, the program's list by exact values is that of the piece's commands
abbrev pub LeavesIssueTheirReads : Type 0
LeavesIssueTheirReads = (leaf : Leaf) (from : ArrayPlace) (piece : PieceExpr) (target : Target) (d : ℕ) (f : ℕ → ℕ)
    → IsExtent leaf.shape → HasElements (piece_value piece f) → ReadsBelow piece target d
    → list_by value (leaf_program leaf from piece target d) d f
    ≡ map (λ work. Read (with_tag (value target.tag f) work))
    (read_list leaf from (piece_value piece f) (value target.buffer f)).commands

-- and so is that of the command that takes a piece to its array
abbrev pub PiecesIssueTheirWrite : Type 0
PiecesIssueTheirWrite = (to : ArrayPlace) (piece : PieceExpr) (target : Target) (d : ℕ) (f : ℕ → ℕ)
    → HasElements (piece_value piece f) → ReadsBelow piece target d
    → list_by value (write_program to piece target d) d f
    ≡ map (λ work. Write (with_tag (value target.tag f) work))
    (write_list to (piece_value piece f) (value target.buffer f))

-- both read registers in use alone
abbrev pub ReadsAreClosed : Type 0
ReadsAreClosed = (leaf : Leaf) (from : ArrayPlace) (piece : PieceExpr) (target : Target) (d : ℕ)
    → ReadsBelow piece target d → is_closed (leaf_program leaf from piece target d) d ≡ true

abbrev pub WritesAreClosed : Type 0
WritesAreClosed = (to : ArrayPlace) (piece : PieceExpr) (target : Target) (d : ℕ)
    → ReadsBelow piece target d → is_closed (write_program to piece target d) d ≡ true

-- the piece, its buffer and its tag are names or literals
pub record AreNames (piece : PieceExpr) (target : Target) : Type 0 where
  pub r0 : room piece.r0 ≤ 1
  pub c0 : room piece.c0 ≤ 1
  pub h : room piece.h ≤ 1
  pub w : room piece.w ≤ 1
  pub buffer : room target.buffer ≤ 1
  pub tag : room target.tag ≤ 1

-- then these programs take few registers
abbrev pub ReadsTakeFew : Type 0
ReadsTakeFew = (leaf : Leaf) (from : ArrayPlace) (piece : PieceExpr) (target : Target) (d : ℕ)
    → AreNames piece target → program_room (leaf_program leaf from piece target d) ≤ 22

abbrev pub WritesTakeFew : Type 0
WritesTakeFew = (to : ArrayPlace) (piece : PieceExpr) (target : Target) (d : ℕ)
    → AreNames piece target → program_room (write_program to piece target d) ≤ 10
