-- What holds of the programs that fill.
use Rattle.std.specs.Prelude.{◌≡◌, ◌≤◌, ℕ, true, map}
use Rattle.venice_isa.specs.declared.issue.Issue.TheVariants.{Vector}
use Rattle.pass_plan.specs.declared.leaf.Leaf.{Leaf}
use Rattle.pass_plan.specs.declared.split.ArrayPlace.{ArrayPlace}
use Rattle.dma_segments.specs.ReadList.{read_list}
use Rattle.dma_segments.specs.FillWork.{fill_work}
use Rattle.host_programs.specs.Expr.{Expr, value, is_below}
use Rattle.host_programs.specs.Program.{list_by}
use Rattle.host_programs.specs.ProgramCode.{is_closed}
use Rattle.host_programs.specs.Room.{room, program_room}
use Rattle.transfer_programs.specs.ReadProgram.{PieceExpr}
use Rattle.transfer_programs.specs.ReadLaws.{piece_value}
use Rattle.transfer_programs.specs.FillProgram.{fill_program}

-- the piece and its buffer are read from registers below d
pub record FillsBelow (piece : PieceExpr) (buffer : Expr) (d : ℕ) : Type 0 where
  pub r0 : is_below piece.r0 d ≡ true
  pub c0 : is_below piece.c0 d ≡ true
  pub h : is_below piece.h d ≡ true
  pub w : is_below piece.w d ≡ true
  pub buffer_below : is_below buffer d ≡ true

-- whatever the map and the piece, the program's list by exact values is that of the moves of the piece's fills
abbrev pub FillsAreIssued : Type 0
FillsAreIssued = (leaf : Leaf) (from : ArrayPlace) (piece : PieceExpr) (buffer : Expr) (d : ℕ) (f : ℕ → ℕ)
    → FillsBelow piece buffer d
    → list_by value (fill_program leaf piece buffer d) d f
    ≡ map (λ fill. Vector (fill_work fill)) (read_list leaf from (piece_value piece f) (value buffer f)).fills

-- it reads registers in use alone
abbrev pub FillsAreClosed : Type 0
FillsAreClosed = (leaf : Leaf) (piece : PieceExpr) (buffer : Expr) (d : ℕ)
    → FillsBelow piece buffer d → is_closed (fill_program leaf piece buffer d) d ≡ true

-- the piece and its buffer are names or literals
pub record FillNames (piece : PieceExpr) (buffer : Expr) : Type 0 where
  pub r0 : room piece.r0 ≤ 1
  pub c0 : room piece.c0 ≤ 1
  pub h : room piece.h ≤ 1
  pub w : room piece.w ≤ 1
  pub buffer_room : room buffer ≤ 1

-- then it takes few registers
abbrev pub FillsTakeFew : Type 0
FillsTakeFew = (leaf : Leaf) (piece : PieceExpr) (buffer : Expr) (d : ℕ)
    → FillNames piece buffer → program_room (fill_program leaf piece buffer d) ≤ 10
