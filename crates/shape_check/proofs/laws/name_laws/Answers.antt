use Rattle.shape_check.proofs.Occurrences.{uses_of-append, names_are_earlier}
use Rattle.shape_check.proofs.laws.name_laws.Goals as goal

pub returns : goal.returns
returns c = record {
  counts = uses_of-append;
  earlier = names_are_earlier;
}
