use Rattle.ven_base.specs.Name.{reserved_words}
use Rattle.ven_base.proofs.Words.{any_is-Contains}
use Rattle.ven_base.proofs.name.is_reserved.Goals as goal

pub returns : goal.returns
returns c = any_is-Contains c.is_among.result c.args.bytes.now reserved_words c.is_among.ensures
