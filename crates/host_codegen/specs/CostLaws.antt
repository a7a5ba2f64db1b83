-- What the program of a split costs.
use Rattle.std.specs.Prelude.{ℕ, ◌+◌, ◌*◌, ◌^◌, ◌≤◌, ◌<◌, length}
use Rattle.venice_isa.specs.Beat.{beats_of_all}
use Rattle.venice_isa.specs.Limits.{instruction_limit}
use Rattle.pass_plan.specs.Need.{bound_of}
use Rattle.pass_plan.specs.Sizes.{nodes_in, mapped_in}
use Rattle.pass_plan.specs.Sound.{Split, IsSound}
use Rattle.dma_schedule.specs.Laws.{OfSplits}
use Rattle.dma_schedule.specs.PipeList.{pipe_list}
use Rattle.host_programs.specs.Block.{size}
use Rattle.host_programs.specs.ProgramCode.{block_of, steps_of}
use Rattle.host_programs.specs.ProgramFits.{ProgramFits}
use Rattle.host_programs.specs.ProgramLaws.{no_registers}
use Rattle.host_codegen.specs.SplitProgram.{split_program}
use Rattle.host_codegen.specs.CodeRoom.{code_room, leaves_in, maps_in, split_nodes_limit}

-- its code with a halt behind it has at most the room's instructions
abbrev pub CodeFitsItsRoom : Type 0
CodeFitsItsRoom = OfSplits (λ split spad. size (block_of (split_program split spad) 0) + 1 ≤ code_room split)

-- the room by numbers of passes, nodes and leaves, where the leaves' maps count apart
abbrev pub RoomIsBounded : Type 0
RoomIsBounded = (split : Split)
    → code_room split ≤ 1 + (310 * length split.passes + (14 * nodes_in split + (73 * leaves_in split + maps_in split)))

-- the leaves of a sound split are no more than its nodes
abbrev pub LeavesAreFew : Type 0
LeavesAreFew = (split : Split) → IsSound split → leaves_in split ≤ nodes_in split

-- the room of a sound split with at most so many nodes, and so many leaves under maps, is within an image's
abbrev pub RoomIsEnough : Type 0
RoomIsEnough = (split : Split) → IsSound split → nodes_in split ≤ 16384 → mapped_in split ≤ 4096
    → code_room split ≤ instruction_limit

-- the code of a sound split that isn't too large has places of 32 bits
abbrev pub RoomsAreSmall : Type 0
RoomsAreSmall = (split : Split) → IsSound split → nodes_in split ≤ split_nodes_limit → code_room split < 2 ^ 32

-- ---- steps

-- where the program fits the host's numbers, its steps, the halt's and all beats of its list are within the bound of the
-- passes, whatever the number of lanes
abbrev pub StepsAreBounded : Type 0
StepsAreBounded = OfSplits (λ split spad. ProgramFits (split_program split spad) 0 no_registers
    → (lanes : ℕ) → 0 < lanes
    → steps_of (split_program split spad) 0 no_registers + 1 + beats_of_all (pipe_list split spad) lanes
    ≤ bound_of split.passes)
