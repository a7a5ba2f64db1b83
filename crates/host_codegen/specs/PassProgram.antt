-- The program of a pass: one turn for each tile and one more, so that each tile is read while the one before it is
-- worked on.
use Rattle.std.specs.Prelude.{◌+◌, List}
use Rattle.pass_plan.specs.declared.parts.Tile.{Tile}
use Rattle.pass_plan.specs.declared.split.ArrayPlace.{ArrayPlace}
use Rattle.pass_plan.specs.Pass.{Pass}
use Rattle.pass_plan.specs.Tile.{tiles_of}
use Rattle.host_programs.specs.Expr.{Number, Variable}
use Rattle.host_programs.specs.Program.{AwaitReads, AwaitWrites, Program, Emit, Both, UnlessLess, For}
use Rattle.host_codegen.specs.TileProgram.{reads_program, rest_program}

-- the last turn reads nothing, and in the first one no tile was read before
abbrev pub turn_program : List ArrayPlace → Pass → Tile → Program
turn_program arrays pass tile =
    Both (UnlessLess (Variable 0) (Number 2) (reads_program arrays pass tile))
    (UnlessLess (Variable 1) (Number 1) (rest_program arrays pass tile))

-- at its end nothing is in flight
abbrev pub pass_program : List ArrayPlace → Pass → Tile → Program
pass_program arrays pass tile =
    Both (For (Number (tiles_of pass.domain tile + 1)) (turn_program arrays pass tile))
    (Both (Emit (AwaitReads (Number 0))) (Emit (AwaitWrites (Number 0))))
