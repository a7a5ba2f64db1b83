use Rattle.std.proofs.Common.{◌∙◌, ap, sym, ◌+◌, ◌/◌, ◌%◌, ◌^◌, ◌≡◌, arith, get_or}
use Rattle.std.specs.Prelude.{bit_and}
use Rattle.std.proofs.lemmas.Nat.{and_mask}
use Rattle.spad_store.proofs.Bits.{bit_of_rest, bit_behind, same_bit}
use Rattle.spad_store.proofs.Words.{flag_is_bit}
use Rattle.spad_store.specs.Packed.{has_bit}
use Rattle.spad_store.proofs.flags.bits_of_word.Goals as goal

pub returns-clause-each : goal.returns-clause-each
returns-clause-each c = λ k below.
    let place = c.args.place in
    let s = place % 64 in
    let word = get_or c.args.words.now (place / 64) 0 in
    let there : (place + k) / 64 ≡ place / 64 = omega arith in
    let bit : (place + k) % 64 ≡ s + k = omega arith in
    ap (λ ones. has_bit (bit_and (word / 2 ^ s) ones) k) c.ones.ensures
    ∙ ap (λ n. has_bit n k) (and_mask (word / 2 ^ s) c.args.count)
    ∙ same_bit ((word / 2 ^ s) % 2 ^ c.args.count) word k (s + k) (bit_of_rest (word / 2 ^ s) c.args.count k below ∙ bit_behind word s k)
    ∙ sym (flag_is_bit c.args.words.now (place + k) (place / 64) (s + k) there bit)
