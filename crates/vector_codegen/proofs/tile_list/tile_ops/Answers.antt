use Rattle.std.proofs.Common.{rules, ◌≡◌, sym, subst, refl, List, All}
use Rattle.std.proofs.lemmas.Result.{IfOk-weaker}
use Rattle.venice_isa.specs.declared.work.VecWork.{VecWork}
use Rattle.pass_plan.specs.Shown.{pass_of}
use Rattle.pass_plan.specs.Label.{label_of}
use Rattle.buffer_lifetimes.specs.Step.{steps_of}
use Rattle.vector_codegen.specs.TileList.{tile_list}
use Rattle.vector_codegen.specs.Effect.{IsOrderOf, LeaveResults, KeepsToTile, AreFew}
use Rattle.vector_codegen.proofs.PassLaws.{tiles_leave_results, tiles_keep_to_buffers, tiles_are_few}
use Rattle.vector_codegen.proofs.TileCode.{tile_is_some, fitting, steps_fit, steps_wide, some_per_row}
use Rattle.vector_codegen.proofs.tile_list.tile_ops.Goals as goal

pub tiles_per_row-requires : goal.tiles_per_row-requires
tiles_per_row-requires c = (tile_is_some (pass_of c.args.pass.now) c.args.tile c.args.t c.requires.sound c.requires.number).1

pub nonzero_rem-first : goal.nonzero_rem-first
nonzero_rem-first c = rw c.tiles_per_row.ensures (some_per_row (pass_of c.args.pass.now) c.args.tile c.args.t c.requires.sound c.requires.number)

pub works_in-requires-clause-fits : goal.works_in-requires-clause-fits
works_in-requires-clause-fits c = rw c.tile_shape-shape.ensures (rw c.tile_buffers-b.ensures (fitting (pass_of c.args.pass.now) c.args.tile c.args.t c.requires.sound c.requires.number))

pub works_in-requires-clause-steps : goal.works_in-requires-clause-steps
works_in-requires-clause-steps c =
    let steps = c.args.assigned.now.steps.items in
    rw c.as_slice.ensures.value (rw c.tile_buffers-b.ensures (steps_fit (pass_of c.args.pass.now) c.args.tile c.args.t c.requires.sound c.requires.number steps c.args.assigned.now.slots c.requires.order))

pub works_in-requires-clause-wide : goal.works_in-requires-clause-wide
works_in-requires-clause-wide c =
    let steps = c.args.assigned.now.steps.items in
    rw c.as_slice.ensures.value (rw c.tile_shape-shape.ensures (steps_wide (pass_of c.args.pass.now) c.args.tile c.args.t c.requires.sound c.requires.number steps c.args.assigned.now.slots c.requires.order))

pub returns-clause-list : goal.returns-clause-list
returns-clause-list c = search rules

pub returns-clause-leaves : goal.returns-clause-leaves
returns-clause-leaves c =
    let pass = pass_of c.args.pass.now in
    let steps = steps_of c.args.assigned.now.steps.items in
    let order : IsOrderOf pass.tree (label_of pass.tree) steps = record { slots_are = refl; to = c.requires.order.to; order = c.requires.order.order } in
    IfOk-weaker c.works_in.result (λ works. works.items ≡ tile_list pass c.args.tile c.args.t c.args.fills.now steps) _
    (λ works is. subst (λ (works : List VecWork). LeaveResults pass c.args.tile c.args.t works) (sym is) (tiles_leave_results pass c.args.tile c.args.t c.args.fills.now steps c.requires.sound c.requires.number order c.requires.fills))
    (returns-clause-list c)

pub returns-clause-keep : goal.returns-clause-keep
returns-clause-keep c =
    let pass = pass_of c.args.pass.now in
    let steps = steps_of c.args.assigned.now.steps.items in
    let order : IsOrderOf pass.tree (label_of pass.tree) steps = record { slots_are = refl; to = c.requires.order.to; order = c.requires.order.order } in
    IfOk-weaker c.works_in.result (λ works. works.items ≡ tile_list pass c.args.tile c.args.t c.args.fills.now steps) _
    (λ works is. subst (λ (works : List VecWork). All (KeepsToTile pass c.args.tile c.args.t) works) (sym is) (tiles_keep_to_buffers pass c.args.tile c.args.t c.args.fills.now steps c.requires.sound c.requires.number order c.requires.fills))
    (returns-clause-list c)

pub returns-clause-few : goal.returns-clause-few
returns-clause-few c =
    let pass = pass_of c.args.pass.now in
    let steps = steps_of c.args.assigned.now.steps.items in
    let order : IsOrderOf pass.tree (label_of pass.tree) steps = record { slots_are = refl; to = c.requires.order.to; order = c.requires.order.order } in
    IfOk-weaker c.works_in.result (λ works. works.items ≡ tile_list pass c.args.tile c.args.t c.args.fills.now steps) _
    (λ works is. subst (λ (works : List VecWork). AreFew pass c.args.tile c.args.t works) (sym is) (tiles_are_few pass c.args.tile c.args.t c.args.fills.now steps c.requires.sound c.requires.number order c.requires.fills))
    (returns-clause-list c)
