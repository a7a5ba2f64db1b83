use Rattle.image_loader.proofs.Entries.{is_taken}
use Rattle.image_loader.proofs.table.is_taken.Goals as goal

pub returns : goal.returns
returns c = is_taken c.has_name.result c.args.bytes.now c.args.earlier.now c.has_name.ensures
