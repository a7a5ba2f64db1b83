use Rattle.std.proofs.Common.{arith, ap, ◌∙◌}
use Rattle.std.specs.Prelude.{slice_set}
use Rattle.std.specs.Vec.{with_items}
use Rattle.spad_store.proofs.Words.{put_one, put_in_vector}
use Rattle.spad_store.proofs.Packing.{size_is, put_is}
use Rattle.spad_store.proofs.spad.Spad.put.Goals as goal

pub index_mut-requires : goal.index_mut-requires
index_mut-requires c = omega (arith, size_is c.self.inside.bytes.items c.self.inside.flags.items c.args.self.now c.self.view_is, c.self.inside.bytes.ok.0)

pub put_bits-requires-clause-inside : goal.put_bits-requires-clause-inside
put_bits-requires-clause-inside c =
    omega (arith, size_is c.self.inside.bytes.items c.self.inside.flags.items c.args.self.now c.self.view_is, c.deref_mut.ensures.len, c.self.invariant.words, c.self.inside.flags.ok.0)

pub put_bits-requires-clause-small : goal.put_bits-requires-clause-small
put_bits-requires-clause-small c =
    omega (arith, size_is c.self.inside.bytes.items c.self.inside.flags.items c.args.self.now c.self.view_is, c.self.invariant.size.1)

pub returns : goal.returns
returns c =
    let bytes = c.self.inside.bytes.items in
    let flags = c.self.inside.flags in
    let words = c.put_bits.new.words in
    let one = put_one c.deref_mut.result.now words c.args.at c.from.result c.args.flag c.from.ensures c.put_bits.ensures in
    let put = put_in_vector flags c.deref_mut.result.now words c.args.at 1 (λ _. c.args.flag) c.deref_mut.ensures.value one in
    put_is bytes flags.items (with_items flags words).items c.args.at c.args.byte c.args.flag (omega (arith, size_is bytes flags.items c.args.self.now c.self.view_is)) put
    ∙ ap (λ cells. slice_set cells c.args.at (c.args.byte, c.args.flag)) c.self.view_is
