use Rattle.std.proofs.Common.{arith, ap, ◌∙◌}
use Rattle.spad_store.specs.Packed.{flag_in}
use Rattle.spad_store.proofs.Packing.{size_is, flag_is}
use Rattle.spad_store.proofs.spad.Spad.flag.Goals as goal

pub flag-requires : goal.flag-requires
flag-requires c =
    omega (arith, size_is c.self.inside.bytes.items c.self.inside.flags.items c.args.self.now c.self.view_is, c.deref.ensures.len, c.self.invariant.words, c.self.inside.flags.ok.0)

pub returns : goal.returns
returns c =
    let bytes = c.self.inside.bytes.items in
    let words = c.self.inside.flags.items in
    c.flag.ensures
    ∙ ap (λ words. flag_in words c.args.at) c.deref.ensures.value
    ∙ flag_is bytes words c.args.self.now c.self.view_is c.args.at (omega (arith, size_is bytes words c.args.self.now c.self.view_is))
