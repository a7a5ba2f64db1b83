use Rattle.vector_codegen.proofs.PassLaws.{tiles_leave_results, tiles_keep_to_buffers, tiles_are_few}
use Rattle.vector_codegen.proofs.OneEach.{tiles_have_one_each}
use Rattle.vector_codegen.proofs.laws.tile_laws.Goals as goal

pub returns : goal.returns
returns c = record { leaves = tiles_leave_results; keep = tiles_keep_to_buffers; few = tiles_are_few; one_each = tiles_have_one_each }
