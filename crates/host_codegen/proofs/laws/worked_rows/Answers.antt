use Rattle.std.proofs.Common.{refl}
use Rattle.std.specs.Int.Count.{count_leading_zeros}
use Rattle.host_codegen.specs.Sequence.{between}
use Rattle.host_codegen.proofs.laws.worked_rows.Goals as goal

pub returns : goal.returns
unfolding between count_leading_zeros
returns c = record { added = refl; cut_rows = refl; least_of_five = refl }
