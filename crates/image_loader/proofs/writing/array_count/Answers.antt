use Rattle.std.proofs.Common.{List, length, ap, arith}
use Rattle.ven_base.specs.declared.entry.Entry.{Entry}
use Rattle.image_loader.specs.Table.HeaderPart.{Arrays}
use Rattle.image_loader.specs.Image.{ImageContents}
use Rattle.image_loader.proofs.WholeImages.{image_lies}
use Rattle.image_loader.proofs.writing.array_count.Goals as goal

pub count_of-requires : goal.count_of-requires
count_of-requires c =
    let image : ImageContents = record { spad = c.image.inside.spad; memory = c.image.inside.memory; arrays = c.image.inside.arrays.items; code = c.image.inside.code } in
    omega (arith, (image_lies image c.image.invariant Arrays).to, ap (λ (es : List Entry). length es) c.deref.ensures.value)
