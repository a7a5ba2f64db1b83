use Rattle.std.proofs.Common.{refl}
use Rattle.vector_codegen.proofs.laws.worked_rows.Goals as goal

pub returns : goal.returns
returns c = record { added = refl; turned = refl; one_element = refl; negated = refl; complement = refl; filled = refl; chosen = refl; first_tile = refl; second_tile = refl; second_row = refl; halved = refl }
