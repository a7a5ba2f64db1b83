use Rattle.vector_codegen.proofs.LeafFills.{leaves_fill_tiles}
use Rattle.vector_codegen.proofs.laws.fill_laws.Goals as goal

pub returns : goal.returns
returns c = leaves_fill_tiles
