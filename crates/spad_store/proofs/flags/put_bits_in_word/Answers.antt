use Rattle.std.proofs.Common.{◌∙◌, ap, sym, subst, ◌-◌, ◌+◌, ◌*◌, ◌/◌, ◌%◌, ◌^◌, ◌<◌, ◌≡◌, arith, get_or, set, w64}
use Rattle.std.specs.Prelude.{bit_and, bit_or}
use Rattle.std.specs.Int.{bit_at, bit_not}
use Rattle.spad_store.specs.Packed.{has_bit, HasPut}
use Rattle.spad_store.proofs.Bits.{bit_of_rest, bit_shifted_high, mask_is, mask_small, mask_below, mask_inside, mask_behind, put_under, put_apart, same_bit}
use Rattle.spad_store.proofs.Words.{one_word_put}
use Rattle.spad_store.proofs.flags.put_bits_in_word.Goals as goal

pub returns : goal.returns
returns c =
    let words = c.args.words.now in
    let place = c.args.place in
    let count = c.args.count in
    let s = place % 64 in
    let word = get_or words (place / 64) 0 in
    let mask = (2 ^ count - 1) * 2 ^ s in
    let bits = c.args.bits * 2 ^ s % 2 ^ 64 in
    let new = bit_or (bit_and word (bit_not w64 mask)) (bit_and bits mask) in
    let is : c.ones.result * 2 ^ s % 2 ^ 64 ≡ mask = ap (λ n. n * 2 ^ s % 2 ^ 64) c.ones.ensures ∙ mask_is count s (omega arith) in
    let small : mask < 2 ^ 64 = mask_small count s (omega arith) in
    let put : HasPut words (set words (place / 64) new) place count (has_bit c.args.bits) =
    one_word_put words place count new (has_bit c.args.bits) c.requires.inside c.requires.in_word
    (record {
      put = λ k below.
          let back : (s + k) - s ≡ k = omega arith in
          same_bit new c.args.bits (s + k) k
          (put_under word bits mask (s + k) small (omega arith) (mask_inside count s (s + k) (omega arith) (omega arith))
          ∙ bit_of_rest (c.args.bits * 2 ^ s) 64 (s + k) (omega arith)
          ∙ bit_shifted_high c.args.bits s (s + k) (omega arith)
          ∙ ap (bit_at c.args.bits) back);
      below = λ i before. same_bit new word i i (put_apart word bits mask i small (omega arith) (mask_below count s i before));
      behind = λ i after inside. same_bit new word i i (put_apart word bits mask i small inside (mask_behind count s i after));
    }) in
    subst (λ m. HasPut words (set words (place / 64) (bit_or (bit_and word (bit_not w64 m)) (bit_and bits m))) place count (has_bit c.args.bits)) (sym is) put
