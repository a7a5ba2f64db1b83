use Rattle.std.proofs.Common.{arith, ap, ◌∙◌, length, replicate, false}
use Rattle.std.proofs.lemmas.List.{length-replicate, get_or-replicate}
use Rattle.std.specs.Vec.{with_items}
use Rattle.spad_store.specs.Cells.{with_flags}
use Rattle.spad_store.proofs.Words.{put_in_vector}
use Rattle.spad_store.proofs.Packing.{size_is, length_with_flags, put_flags_is}
use Rattle.spad_store.proofs.spad.Spad.set_flags.Goals as goal

pub fill-requires-clause-inside : goal.fill-requires-clause-inside
fill-requires-clause-inside c =
    omega (arith, size_is c.self.inside.bytes.items c.self.inside.flags.items c.args.self.now c.self.view_is, c.deref_mut.ensures.len, c.self.invariant.words, c.self.inside.flags.ok.0)

pub fill-requires-clause-small : goal.fill-requires-clause-small
fill-requires-clause-small c =
    omega (arith, size_is c.self.inside.bytes.items c.self.inside.flags.items c.args.self.now c.self.view_is, c.self.invariant.size.1)

pub returns : goal.returns
returns c =
    let bytes = c.self.inside.bytes.items in
    let flags = c.self.inside.flags in
    let words = c.fill.new.words in
    let count = c.args.count in
    let flag = c.args.flag in
    let put = put_in_vector flags c.deref_mut.result.now words c.args.at count (λ _. flag) c.deref_mut.ensures.value c.fill.ensures in
    let is =
    put_flags_is bytes flags.items (with_items flags words).items c.args.at count (replicate count flag) (λ _. flag) (omega (arith, size_is bytes flags.items c.args.self.now c.self.view_is)) (length-replicate count flag)
    (λ k below. get_or-replicate count k flag false below) put
    ∙ ap (λ cells. with_flags cells c.args.at (replicate count flag)) c.self.view_is in
    record { cells = is; same_length = ap length is ∙ length_with_flags c.args.self.now c.args.at (replicate c.args.count c.args.flag) (omega (arith, length-replicate c.args.count c.args.flag)) }
