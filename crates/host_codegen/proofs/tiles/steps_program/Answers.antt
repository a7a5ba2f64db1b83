use Rattle.std.proofs.Common.{◌<◌, ◌^◌, sym, subst, length, arith}
use Rattle.pass_plan.specs.Label.{label_of}
use Rattle.pass_plan.specs.Shown.{pass_of}
use Rattle.buffer_lifetimes.specs.Step.{steps_of}
use Rattle.vector_codegen.specs.Effect.{IsOrderOf}
use Rattle.vector_codegen.proofs.PassLaws.{nodes_at_least}
use Rattle.dma_schedule.proofs.Ready.{small, order_is}
use Rattle.host_codegen.proofs.Layouts.{steps_at}
use Rattle.host_codegen.proofs.tiles.steps_program.Goals as goal

pub works_program-requires-clause-steps : goal.works_program-requires-clause-steps
works_program-requires-clause-steps c =
    let tiled = c.args.tiled.now in
    let pass = pass_of tiled.pass.now in
    let steps = c.in_ok-assigned.assigned.steps.items in
    let order : IsOrderOf pass.tree (label_of pass.tree) (steps_of steps) = subst (λ ss. IsOrderOf pass.tree (label_of pass.tree) ss) (sym c.in_ok-assigned.ensures.steps) (order_is tiled.arrays.now pass tiled.layout.tile c.requires.ready) in
    rw c.as_slice.ensures.value (steps_at tiled.arrays.now pass tiled.layout.tile c.requires.ready tiled.layout c.requires.layout steps (label_of pass.tree) order)

pub works_program-requires-clause-few : goal.works_program-requires-clause-few
works_program-requires-clause-few c =
    let tiled = c.args.tiled.now in
    let pass = pass_of tiled.pass.now in
    let few = small tiled.arrays.now pass tiled.layout.tile c.requires.ready in
    let all : length c.in_ok-assigned.assigned.steps.items < 2 ^ 32 = omega (arith, c.in_ok-assigned.ensures.count, nodes_at_least pass.tree, few.few_nodes) in
    rw c.as_slice.ensures.value all
