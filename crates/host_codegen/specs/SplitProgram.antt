-- The program of a split.
use Rattle.std.specs.Prelude.{ℕ, List, map}
use Rattle.pass_plan.specs.declared.split.ArrayPlace.{ArrayPlace}
use Rattle.pass_plan.specs.Pass.{Pass}
use Rattle.pass_plan.specs.Tile.{tile_of}
use Rattle.pass_plan.specs.Sound.{Split}
use Rattle.host_programs.specs.Program.{Program}
use Rattle.host_codegen.specs.Sequence.{all_of}
use Rattle.host_codegen.specs.PassProgram.{pass_program}

-- pass after pass
abbrev pub passes_programs : List ArrayPlace → (spad : ℕ) → List Pass → List Program
passes_programs arrays spad passes = map (λ pass. pass_program arrays pass (tile_of pass spad)) passes

abbrev pub split_program : Split → (spad : ℕ) → Program
split_program split spad = all_of (passes_programs split.arrays spad split.passes)
