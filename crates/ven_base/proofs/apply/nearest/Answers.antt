use Rattle.std.proofs.Common.{rules}
use Rattle.ven_base.specs.Saturation.{nearest}
use Rattle.ven_base.proofs.apply.nearest.Goals as goal

pub returns : goal.returns
unfolding nearest
returns c = search rules
