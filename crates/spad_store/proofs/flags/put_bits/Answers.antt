use Rattle.std.proofs.Common.{◌-◌, ◌+◌, ◌/◌, ◌^◌, ◌≡◌, arith, subst}
use Rattle.spad_store.specs.Packed.{has_bit, HasPut}
use Rattle.spad_store.proofs.Bits.{bit_behind, same_bit}
use Rattle.spad_store.proofs.Words.{put_both}
use Rattle.spad_store.proofs.flags.put_bits.Goals as goal

pub returns-then-first-count : goal.returns-then-first-count
returns-then-first-count c =
    let first = c.min-first.result in
    let bits = c.args.bits in
    let all : first + (c.args.count - first) ≡ c.args.count = omega arith in
    let last = c.put_bits_in_word-then-first-count.new.words in
    subst (λ n. HasPut c.args.words.now last c.args.place n (has_bit bits)) all
    (put_both c.args.words.now c.put_bits_in_word.new.words last c.args.place first (c.args.count - first) (has_bit bits) (has_bit (bits / 2 ^ first)) c.put_bits_in_word.ensures c.put_bits_in_word-then-first-count.ensures
    (λ k below. same_bit (bits / 2 ^ first) bits k (first + k) (bit_behind bits first k)))
