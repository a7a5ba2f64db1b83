-- How many commands and fills a piece of a leaf takes at the most.
use Rattle.std.specs.Prelude.{ℕ, ◌*◌, ◌==◌, min, if◌then◌else◌}
use Rattle.ven_base.specs.declared.mapping.Mapping.{Mapping}
use Rattle.ven_base.specs.declared.mapping.Mapping.TheVariants.{Identity, Shift, Rotate, Section, Stretch, Transpose}
use Rattle.pass_plan.specs.declared.parts.Piece.{Piece}
use Rattle.dma_segments.specs.Run.{phase_count, block_count}

-- the number that a map gives
abbrev pub moves_of_map : Mapping → Piece → ℕ
moves_of_map Identity piece = 1
moves_of_map (Shift dr dc fill) piece = 3 * piece.h
moves_of_map (Rotate dr dc) piece = 2 * piece.h
moves_of_map (Section r0 nr sr c0 nc sc) piece = if sc == 1 then piece.h else piece.h * piece.w
moves_of_map (Stretch kr kc) piece = if kc == 1 then piece.h else piece.h * piece.w
moves_of_map Transpose piece = piece.h * piece.w

-- commands and fills together: never more than elements
abbrev pub moves : Mapping → Piece → ℕ
moves mapping piece = min (piece.h * piece.w) (moves_of_map mapping piece)

-- the runs of a stretched axis: by phases or by blocks, whichever are fewer
abbrev pub repeated_count : (times start n : ℕ) → ℕ
repeated_count times start n = min (phase_count times n) (block_count times start n)

-- commands alone: few and large ones
abbrev pub command_limit : Mapping → Piece → ℕ
command_limit Identity piece = 1
command_limit (Shift dr dc fill) piece = 1
command_limit (Rotate dr dc) piece = 4
command_limit (Section r0 nr sr c0 nc sc) piece = if sc == 1 then 1 else min piece.h piece.w
command_limit (Stretch kr kc) piece =
    if kc == 1 then repeated_count kr piece.r0 piece.h
    else min (piece.h * repeated_count kc piece.c0 piece.w) (piece.w * repeated_count kr piece.r0 piece.h)
command_limit Transpose piece = min piece.h piece.w

-- fills alone: only a shift has any
abbrev pub fill_limit : Mapping → ℕ
fill_limit (Shift dr dc fill) = 2
fill_limit _ = 0
