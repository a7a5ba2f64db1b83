-- Where the programs of transfers fit in the host's 32 bits.
use Rattle.std.specs.Prelude.{ℕ, ◌+◌, ◌*◌, ◌<◌, ◌^◌}
use Rattle.ven_base.specs.Elem.{size_of}
use Rattle.ven_base.specs.Extent.{IsExtent}
use Rattle.ven_base.specs.Mapping.{FitsShape, result_shape}
use Rattle.pass_plan.specs.declared.leaf.Leaf.{Leaf}
use Rattle.pass_plan.specs.declared.parts.Piece.{Piece}
use Rattle.pass_plan.specs.declared.split.ArrayPlace.{ArrayPlace}
use Rattle.pass_plan.specs.Sound.{end_of}
use Rattle.pass_plan.specs.Tile.{IsPieceOf}
use Rattle.dma_segments.specs.Put.{CanRead}
use Rattle.host_programs.specs.Expr.{Expr, value}
use Rattle.host_programs.specs.ProgramFits.{FitsWord, ProgramFits}
use Rattle.transfer_programs.specs.ReadProgram.{PieceExpr, Target, leaf_program, write_program}
use Rattle.transfer_programs.specs.ReadLaws.{piece_value, ReadsBelow}
use Rattle.transfer_programs.specs.FillProgram.{fill_program}
use Rattle.transfer_programs.specs.FillLaws.{FillsBelow}

-- the piece, its buffer and its tag fit
pub record ReadWords (piece : PieceExpr) (target : Target) (f : ℕ → ℕ) : Type 0 where
  pub r0 : FitsWord piece.r0 f
  pub c0 : FitsWord piece.c0 f
  pub h : FitsWord piece.h f
  pub w : FitsWord piece.w f
  pub buffer : FitsWord target.buffer f
  pub tag : FitsWord target.tag f

-- whatever the map: where the piece can be read, its program fits
abbrev pub ReadsFit : Type 0
ReadsFit = (leaf : Leaf) (from : ArrayPlace) (piece : PieceExpr) (target : Target) (d : ℕ) (f : ℕ → ℕ)
    → IsExtent leaf.shape → CanRead leaf from (piece_value piece f) (value target.buffer f)
    → ReadsBelow piece target d → ReadWords piece target f
    → ProgramFits (leaf_program leaf from piece target d) d f

-- a piece can be taken from the buffer that begins at this cell to its array
pub record CanWrite (to : ArrayPlace) (piece : Piece) (buffer : ℕ) : Type 0 where
  pub inside : IsPieceOf to.shape piece
  pub in_memory : end_of to < 2 ^ 32
  pub in_cells : buffer + piece.h * piece.w * size_of to.elem < 2 ^ 32

-- then its program fits
abbrev pub WritesFit : Type 0
WritesFit = (to : ArrayPlace) (piece : PieceExpr) (target : Target) (d : ℕ) (f : ℕ → ℕ)
    → CanWrite to (piece_value piece f) (value target.buffer f)
    → ReadsBelow piece target d → ReadWords piece target f
    → ProgramFits (write_program to piece target d) d f

-- a piece of a leaf can be filled in the buffer that begins at this cell
pub record CanFill (leaf : Leaf) (piece : Piece) (buffer : ℕ) : Type 0 where
  pub fits : FitsShape leaf.map leaf.shape
  pub inside : IsPieceOf (result_shape leaf.map leaf.shape) piece
  pub in_cells : buffer + piece.h * piece.w * size_of leaf.elem < 2 ^ 32

-- the piece and its buffer fit
pub record FillWords (piece : PieceExpr) (buffer : Expr) (f : ℕ → ℕ) : Type 0 where
  pub r0 : FitsWord piece.r0 f
  pub c0 : FitsWord piece.c0 f
  pub h : FitsWord piece.h f
  pub w : FitsWord piece.w f
  pub buffer_word : FitsWord buffer f

-- then the program that fills it fits
abbrev pub FillsFit : Type 0
FillsFit = (leaf : Leaf) (piece : PieceExpr) (buffer : Expr) (d : ℕ) (f : ℕ → ℕ)
    → IsExtent leaf.shape → CanFill leaf (piece_value piece f) (value buffer f)
    → FillsBelow piece buffer d → FillWords piece buffer f
    → ProgramFits (fill_program leaf piece buffer d) d f
