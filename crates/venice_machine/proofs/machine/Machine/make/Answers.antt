use Rattle.std.proofs.Common.{◌∙◌, ap, sym, subst, length, List}
use Rattle.std.proofs.lemmas.List.{length-replicate}
use Rattle.ven_base.specs.declared.entry.Entry.{Entry}
use Rattle.image_loader.specs.Image.{ImageContents}
use Rattle.venice_machine.specs.Inside.{AllStandIn}
use Rattle.venice_machine.proofs.Inputs.{memory_few, stand_in}
use Rattle.venice_machine.proofs.machine.Machine.make.Goals as goal

pub new-requires-3 : goal.new-requires-3
new-requires-3 c = memory_few (record { spad = c.image.inside.spad; memory = c.image.inside.memory; arrays = c.image.inside.arrays.items; code = c.image.inside.code }) c.image.invariant

pub put_inputs-requires-clause-inside : goal.put_inputs-requires-clause-inside
put_inputs-requires-clause-inside c =
    let image : ImageContents = record { spad = c.image.inside.spad; memory = c.image.inside.memory; arrays = c.image.inside.arrays.items; code = c.image.inside.code } in
    let size = ap length c.in_ok-memory.ensures ∙ length-replicate c.image.inside.memory 0 in
    subst (λ n. AllStandIn n c.deref.result.now) (sym size)
    (subst (λ (table : List Entry). AllStandIn c.image.inside.memory table) (sym c.deref.ensures.value) (stand_in image c.image.invariant))
