use Rattle.good_images.proofs.Tables.{tables_fit, inputs_fit}
use Rattle.good_images.proofs.laws.table_fits.Goals as goal

pub returns : goal.returns
returns c = record { tables = tables_fit; inputs = inputs_fit }
