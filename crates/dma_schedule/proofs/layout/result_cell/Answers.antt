use Rattle.std.proofs.Common.{◌+◌, ◌*◌, arith, ap}
use Rattle.pass_plan.specs.Shown.{pass_of, tree_of}
use Rattle.pass_plan.proofs.Labels.{label_few}
use Rattle.dma_schedule.proofs.Ready.{small, cell_few, two_results}
use Rattle.dma_schedule.proofs.layout.result_cell.Goals as goal

pub overflow_add-result : goal.overflow_add-result
overflow_add-result c =
    let is = small c.args.arrays.now (pass_of c.args.pass.now) c.args.tile c.requires.ready in
    omega (arith, c.leaf_count-slots.ensures, is.few_leaves, c.label.ensures, label_few (tree_of c.args.pass.now.tree), is.few_nodes)

pub overflow_add-result-2 : goal.overflow_add-result-2
overflow_add-result-2 c =
    let is = small c.args.arrays.now (pass_of c.args.pass.now) c.args.tile c.requires.ready in
    let half = c.output_half-half.ensures.small in
    omega (arith, c.leaf_count-slots.ensures, is.few_leaves, c.label.ensures, label_few (tree_of c.args.pass.now.tree), is.few_nodes, half)

pub overflow_mul-result : goal.overflow_mul-result
overflow_mul-result c =
    let pass = pass_of c.args.pass.now in
    let half = c.output_half-half.ensures.small in
    let two = two_results c.args.arrays.now pass c.args.tile c.requires.ready in
    let k = c.leaf_count-slots.result * 2 + c.label.result + c.output_half-half.result in
    let few = cell_few c.args.arrays.now pass c.args.tile c.requires.ready k (omega (arith, c.leaf_count-slots.ensures, c.label.ensures, half, two)) in
    let same = ap (λ bytes. k * bytes) c.buffer_bytes.ensures in
    omega (arith, few, same)
