use Rattle.ven_base.proofs.Grids.{same_grids, IsPointwise1-unique, IsPointwise2-unique, IsMapped-unique}
use Rattle.ven_base.proofs.laws.array_laws.Goals as goal

pub returns : goal.returns
returns c = record {
  one_array = same_grids;
  one_pointwise1 = IsPointwise1-unique;
  one_pointwise2 = IsPointwise2-unique;
  one_mapped = IsMapped-unique;
}
