use Rattle.std.proofs.Common.{ap, ◌∙◌, ◌≡◌, ◌+◌, ◌/◌, replicate, rules}
use Rattle.spad_store.specs.Packed.{cells_from}
use Rattle.spad_store.proofs.Packing.{empty_is}
use Rattle.spad_store.proofs.spad.Spad.new.Goals as goal

pub returns : goal.returns
returns c =
    let bytes = c.args.bytes in
    let bytes_are : c.in_ok-bytes.bytes.items ≡ replicate bytes 0 = search rules in
    let words_are : c.in_ok-flags.flags.items ≡ replicate (bytes / 64 + 1) 0 = search rules in
    ap (λ items. cells_from 0 items c.in_ok-flags.flags.items) bytes_are
    ∙ ap (cells_from 0 (replicate bytes 0)) words_are
    ∙ empty_is bytes (bytes / 64 + 1)
