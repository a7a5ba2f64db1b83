use Rattle.std.proofs.Common.{arith, ap, sym, ◌∙◌, ◌≡◌, ◌+◌, ◌-◌, ◌≤◌, ◌++◌, length, take, drop, false}
use borrow.Rule.Slice.PartMut.{put_mid}
use Rattle.std.proofs.lemmas.List.{drop-drop, with_items_is}
use Rattle.std.specs.Vec.{with_items}
use Rattle.spad_store.specs.Cells.{with_bytes}
use Rattle.spad_store.specs.Packed.{cells_from}
use Rattle.spad_store.proofs.Words.{put_in_vector}
use Rattle.spad_store.proofs.Packing.{size_is, length_with_bytes, put_bytes_is, length_changed}
use Rattle.spad_store.proofs.spad.Spad.put_bytes.Goals as goal

pub slice_bounds-copy_from_slice-end : goal.slice_bounds-copy_from_slice-end
slice_bounds-copy_from_slice-end c =
    omega (arith, size_is c.self.inside.bytes.items c.self.inside.flags.items c.args.self.now c.self.view_is, c.deref_mut.ensures.len, c.self.inside.bytes.ok.0)

pub fill-requires-clause-inside : goal.fill-requires-clause-inside
fill-requires-clause-inside c =
    omega (arith, size_is c.self.inside.bytes.items c.self.inside.flags.items c.args.self.now c.self.view_is, c.deref_mut-2.ensures.len, c.self.invariant.words, c.self.inside.flags.ok.0)

pub returns : goal.returns
returns c =
    let vector = c.self.inside.bytes in
    let bytes = vector.items in
    let flags = c.self.inside.flags in
    let words = c.fill.new.words in
    let place = c.args.at in
    let new = c.args.bytes.now in
    let inside : place + length new ≤ length bytes = omega (arith, size_is bytes flags.items c.args.self.now c.self.view_is) in
    let some : place + length new - place ≡ length new = omega arith in
    let written = c.copy_from_slice.new.self in
    let copied = put_mid place (place + length new - place) c.deref_mut.result.now written in
    let is : copied ≡ take place bytes ++ (new ++ drop (place + length new) bytes) =
    ap (λ items. put_mid place (place + length new - place) items written) c.deref_mut.ensures.value
    ∙ ap (put_mid place (place + length new - place) bytes) c.copy_from_slice.ensures.after
    ∙ ap (λ k. put_mid place k bytes new) some
    ∙ ap (λ rest. take place bytes ++ (new ++ rest)) (drop-drop (length new) place bytes) in
    let long = ap length is ∙ length_changed bytes new place 0 inside ∙ sym vector.ok.0 in
    let put = put_in_vector flags c.deref_mut-2.result.now words place (length new) (λ _. false) c.deref_mut-2.ensures.value c.fill.ensures in
    let is =
    ap (λ items. cells_from 0 items (with_items flags words).items) (with_items_is vector copied long ∙ is)
    ∙ put_bytes_is bytes flags.items (with_items flags words).items new place inside put
    ∙ ap (λ cells. with_bytes cells place new) c.self.view_is in
    record { cells = is; same_length = ap length is ∙ length_with_bytes c.args.self.now c.args.at c.args.bytes.now (c.requires) }
