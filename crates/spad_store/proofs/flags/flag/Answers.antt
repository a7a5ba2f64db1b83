use Rattle.std.proofs.Common.{ap, ◌/◌, ◌%◌, get_or}
use Rattle.std.specs.Prelude.{◌==◌}
use Rattle.std.proofs.lemmas.Nat.Bits.{shr_and_one}
use Rattle.spad_store.specs.Packed.{has_bit, flag_in}
use Rattle.spad_store.proofs.flags.flag.Goals as goal

pub returns : goal.returns
unfolding has_bit flag_in
returns c = ap (λ n. n == 1) (shr_and_one (get_or c.args.words.now (c.args.place / 64) 0) (c.args.place % 64))
