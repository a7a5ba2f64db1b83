use Rattle.std.proofs.Common.{◌≢◌, ◌∙◌, sym, subst, length, map, List, ◌≤◌, All}
use Rattle.std.specs.Prelude.{AllPairs}
use Rattle.ven_base.specs.declared.entry.Entry.{Entry}
use Rattle.ven_base.specs.Extent.{IsExtent}
use Rattle.image_loader.specs.Table.{array_limit}
use Rattle.venice_machine.specs.Inside.{AllStandIn}
use Rattle.venice_machine.proofs.Inputs.{stand_in, arrays_few, arrays_shaped, entry_names_differ}
use Rattle.venice_machine.proofs.machine.Machine.outputs.Goals as goal

pub outputs-requires-clause-inside : goal.outputs-requires-clause-inside
outputs-requires-clause-inside c =
    let image = c.self.invariant.of_image in
    let table = sym image.table_is ∙ sym c.deref.ensures.value in
    subst (λ n. AllStandIn n c.deref.result.now) (sym image.memory_is) (subst (λ (table : List Entry). AllStandIn image.image.memory table) table (stand_in image.image image.is_image))

pub outputs-requires-clause-distinct : goal.outputs-requires-clause-distinct
outputs-requires-clause-distinct c =
    let image = c.self.invariant.of_image in
    let table = sym image.table_is ∙ sym c.deref.ensures.value in
    subst (λ (table : List Entry). AllPairs (λ x y. x ≢ y) (map (λ entry. entry.name) table)) table (entry_names_differ image.image image.is_image)

pub outputs-requires-clause-shapes : goal.outputs-requires-clause-shapes
outputs-requires-clause-shapes c =
    let image = c.self.invariant.of_image in
    let table = sym image.table_is ∙ sym c.deref.ensures.value in
    subst (All (λ entry. IsExtent entry.shape)) table (arrays_shaped image.image image.is_image)

pub outputs-requires-clause-few : goal.outputs-requires-clause-few
outputs-requires-clause-few c =
    let image = c.self.invariant.of_image in
    let table = sym image.table_is ∙ sym c.deref.ensures.value in
    subst (λ (table : List Entry). length table ≤ array_limit) table (arrays_few image.image image.is_image)
