use Rattle.ven_io.proofs.Standing.{name_stands}
use Rattle.ven_io.proofs.lexing.name_end.Goals as goal

pub returns : goal.returns
returns c = name_stands c.args.text.now c.args.start c.run_end.result c.requires.in_text c.requires.first c.run_end.ensures
