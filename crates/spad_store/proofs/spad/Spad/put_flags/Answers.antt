use Rattle.std.proofs.Common.{arith, ap, ◌∙◌, length, false}
use Rattle.std.specs.Vec.{with_items}
use Rattle.spad_store.specs.Cells.{flags_of, with_flags}
use Rattle.spad_store.specs.Packed.{has_bit}
use Rattle.spad_store.proofs.Bits.{length_flags_of, flag_of_bit}
use Rattle.spad_store.proofs.Words.{put_in_vector}
use Rattle.spad_store.proofs.Packing.{size_is, length_with_flags, put_flags_is}
use Rattle.spad_store.proofs.spad.Spad.put_flags.Goals as goal

pub put_bits-requires-clause-inside : goal.put_bits-requires-clause-inside
put_bits-requires-clause-inside c =
    omega (arith, size_is c.self.inside.bytes.items c.self.inside.flags.items c.args.self.now c.self.view_is, c.deref_mut.ensures.len, c.self.invariant.words, c.self.inside.flags.ok.0)

pub put_bits-requires-clause-small : goal.put_bits-requires-clause-small
put_bits-requires-clause-small c =
    omega (arith, size_is c.self.inside.bytes.items c.self.inside.flags.items c.args.self.now c.self.view_is, c.self.invariant.size.1)

pub returns : goal.returns
returns c =
    let bytes = c.self.inside.bytes.items in
    let flags = c.self.inside.flags in
    let words = c.put_bits.new.words in
    let count = c.args.count in
    let bits = c.args.bits in
    let put = put_in_vector flags c.deref_mut.result.now words c.args.at count (has_bit bits) c.deref_mut.ensures.value c.put_bits.ensures in
    let is =
    put_flags_is bytes flags.items (with_items flags words).items c.args.at count (flags_of count bits) (has_bit bits) (omega (arith, size_is bytes flags.items c.args.self.now c.self.view_is)) (length_flags_of count bits)
    (λ k below. flag_of_bit count bits k false below) put
    ∙ ap (λ cells. with_flags cells c.args.at (flags_of count bits)) c.self.view_is in
    record { cells = is; same_length = ap length is ∙ length_with_flags c.args.self.now c.args.at (flags_of c.args.count c.args.bits) (omega (arith, length_flags_of c.args.count c.args.bits)) }
