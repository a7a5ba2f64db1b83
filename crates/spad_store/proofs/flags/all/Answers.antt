use Rattle.spad_store.proofs.Bits.{all_ones, no_ones}
use Rattle.std.proofs.Common.{◌∙◌, sym}
use Rattle.spad_store.proofs.flags.all.Goals as goal

pub returns-then-flag : goal.returns-then-flag
returns-then-flag c = λ k below. all_ones k below ∙ sym c.if-flag.true

pub returns-else-flag : goal.returns-else-flag
returns-else-flag c = λ k below. no_ones k ∙ sym c.if-flag.false
