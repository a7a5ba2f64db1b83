use Rattle.std.proofs.Common.{arith}
use Rattle.spad_store.specs.Packed.{has_bit}
use Rattle.spad_store.proofs.Words.{put_both}
use Rattle.spad_store.proofs.flags.fill.Goals as goal

pub loop-done-preserved : goal.loop-done-preserved
loop-done-preserved c =
    let loop = c.loop-done in
    record {
      within = omega arith;
      put = put_both c.args.words.now loop.words c.put_bits_in_word.new.words c.args.place loop.done c.min-some.result (λ _. c.args.flag) (has_bit c.all-bits.result) loop.invariant.put c.put_bits_in_word.ensures
          (λ k below. c.all-bits.ensures k (omega arith));
    }
