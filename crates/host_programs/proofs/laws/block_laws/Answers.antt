use Rattle.host_programs.proofs.Blocks.{blocks_run}
use Rattle.host_programs.proofs.laws.block_laws.Goals as goal

pub returns : goal.returns
returns c = blocks_run
