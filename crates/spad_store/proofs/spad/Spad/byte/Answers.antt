use Rattle.std.proofs.Common.{arith}
use Rattle.spad_store.proofs.Packing.{size_is, byte_is}
use Rattle.spad_store.proofs.spad.Spad.byte.Goals as goal

pub index-requires : goal.index-requires
index-requires c = omega (arith, size_is c.self.inside.bytes.items c.self.inside.flags.items c.args.self.now c.self.view_is)

pub returns : goal.returns
returns c =
    let bytes = c.self.inside.bytes.items in
    let words = c.self.inside.flags.items in
    byte_is bytes words c.args.self.now c.self.view_is c.args.at (omega (arith, size_is bytes words c.args.self.now c.self.view_is)) c.index.result.now c.index.ensures
