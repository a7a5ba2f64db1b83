use Rattle.std.proofs.Common.{◌∙◌, ap, sym, subst, inl, inr, ◌-◌, ◌+◌, ◌*◌, ◌^◌, ◌<◌, ◌≡◌, arith}
use Rattle.std.specs.Prelude.{bit_or}
use Rattle.std.proofs.lemmas.Bool.{cases_lt}
use Rattle.spad_store.specs.Packed.{has_bit, flag_in}
use Rattle.spad_store.proofs.Bits.{high_is, joined_below, joined_low, joined_high, same_bit}
use Rattle.spad_store.proofs.flags.bits.Goals as goal

pub returns-clause-below : goal.returns-clause-below
returns-clause-below c =
    let low = c.bits_of_word-low in
    let high = c.bits_of_word in
    let first = c.min-first.result in
    let is = high_is low.result high.result first c.args.count low.ensures.below high.ensures.below (omega arith) c.requires.few in
    subst (λ n. bit_or low.result n < 2 ^ c.args.count) (sym is) (joined_below low.result high.result first c.args.count low.ensures.below high.ensures.below (omega arith) c.requires.few)

pub returns-clause-each : goal.returns-clause-each
returns-clause-each c = λ k below.
    let low = c.bits_of_word-low in
    let high = c.bits_of_word in
    let first = c.min-first.result in
    let all = bit_or low.result (high.result * 2 ^ first) in
    let is = high_is low.result high.result first c.args.count low.ensures.below high.ensures.below (omega arith) c.requires.few in
    ap (λ n. has_bit (bit_or low.result n) k) is
    ∙ elim (cases_lt k first) [
      | inl before ↦
          same_bit all low.result k k (joined_low low.result high.result first c.args.count low.ensures.below high.ensures.below (omega arith) c.requires.few k before)
          ∙ low.ensures.each k before
      | inr behind ↦
          let there : (c.args.place + first) + (k - first) ≡ c.args.place + k = omega arith in
          same_bit all high.result k (k - first) (joined_high low.result high.result first c.args.count low.ensures.below high.ensures.below (omega arith) c.requires.few k behind)
          ∙ high.ensures.each (k - first) (omega arith)
          ∙ ap (flag_in c.args.words.now) there
    ]
