use Rattle.venice_isa.proofs.Regions.{elements_apart}
use Rattle.venice_isa.proofs.laws.rows_apart_keep_elements_apart.Goals as goal

pub returns : goal.returns
returns c = elements_apart
