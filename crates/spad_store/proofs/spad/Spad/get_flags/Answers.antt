use Rattle.std.proofs.Common.{arith, ap, ◌∙◌, ◌+◌, false}
use Rattle.spad_store.specs.Cells.{flags_of, flags_from}
use Rattle.spad_store.specs.Packed.{flag_in}
use Rattle.spad_store.proofs.Bits.{length_flags_of, flag_of_bit}
use Rattle.spad_store.proofs.Packing.{size_is, flags_are}
use Rattle.spad_store.proofs.spad.Spad.get_flags.Goals as goal

pub bits-requires-clause-inside : goal.bits-requires-clause-inside
bits-requires-clause-inside c =
    omega (arith, size_is c.self.inside.bytes.items c.self.inside.flags.items c.args.self.now c.self.view_is, c.deref.ensures.len, c.self.invariant.words, c.self.inside.flags.ok.0)

pub bits-requires-clause-small : goal.bits-requires-clause-small
bits-requires-clause-small c =
    omega (arith, size_is c.self.inside.bytes.items c.self.inside.flags.items c.args.self.now c.self.view_is, c.self.invariant.size.1)

pub returns-clause-flags : goal.returns-clause-flags
returns-clause-flags c =
    let bytes = c.self.inside.bytes.items in
    let words = c.self.inside.flags.items in
    let place = c.args.at in
    let count = c.args.count in
    flags_are bytes words place count (flags_of count c.bits.result) (omega (arith, size_is bytes words c.args.self.now c.self.view_is)) (length_flags_of count c.bits.result)
    (λ k below. flag_of_bit count c.bits.result k false below ∙ c.bits.ensures.each k below ∙ ap (λ words. flag_in words (place + k)) c.deref.ensures.value)
    ∙ ap (λ cells. flags_from cells place count) c.self.view_is
