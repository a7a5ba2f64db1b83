use Rattle.std.proofs.Common.{arith, ap, ◌∙◌, ◌≡◌, ◌+◌, ◌-◌, take, drop}
use Rattle.spad_store.specs.Cells.{bytes_from}
use Rattle.spad_store.proofs.Packing.{size_is, bytes_are}
use Rattle.spad_store.proofs.spad.Spad.part.Goals as goal

pub slice_bounds-result-end : goal.slice_bounds-result-end
slice_bounds-result-end c =
    omega (arith, size_is c.self.inside.bytes.items c.self.inside.flags.items c.args.self.now c.self.view_is, c.deref.ensures.len, c.self.inside.bytes.ok.0)

pub returns : goal.returns
returns c =
    let bytes = c.self.inside.bytes.items in
    let words = c.self.inside.flags.items in
    let place = c.args.at in
    let count = c.args.count in
    let some : place + count - place ≡ count = omega arith in
    ap (λ items. take (place + count - place) (drop place items)) c.deref.ensures.value
    ∙ ap (λ n. take n (drop place bytes)) some
    ∙ bytes_are bytes words place count (omega (arith, size_is bytes words c.args.self.now c.self.view_is))
    ∙ ap (λ cells. bytes_from cells place count) c.self.view_is
