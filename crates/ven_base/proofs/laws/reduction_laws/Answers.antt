use Rattle.ven_base.proofs.Reductions.{wrapped_total-append, wrapped_total-parts, wrapped_steps, IsFolded-folded, IsFolded-unique, IsFolded-append, IsElement-IsFolded}
use Rattle.ven_base.proofs.laws.reduction_laws.Goals as goal

pub returns : goal.returns
returns c = record {
  cuts_sums = wrapped_total-append;
  cuts_into_parts = wrapped_total-parts;
  wraps_each_step = wrapped_steps;
  reaches_bounds = IsFolded-folded;
  has_one = IsFolded-unique;
  joins = IsFolded-append;
  in_type = IsElement-IsFolded;
}
