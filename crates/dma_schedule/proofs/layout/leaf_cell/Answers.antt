use Rattle.std.proofs.Common.{◌+◌, ◌*◌, ◌%◌, arith, ap}
use Rattle.std.proofs.lemmas.Nat.{mod_below}
use Rattle.pass_plan.specs.Shown.{pass_of}
use Rattle.dma_schedule.proofs.Ready.{cell_few, two_results}
use Rattle.dma_schedule.proofs.layout.leaf_cell.Goals as goal

pub overflow_mul-result-2 : goal.overflow_mul-result-2
overflow_mul-result-2 c =
    let half = mod_below c.args.t 2 (omega arith) in
    let two = two_results c.args.arrays.now (pass_of c.args.pass.now) c.args.tile c.requires.ready in
    let below = c.requires.number in
    let few = cell_few c.args.arrays.now (pass_of c.args.pass.now) c.args.tile c.requires.ready (c.args.number * 2 + c.args.t % 2) (omega arith) in
    let same = ap (λ bytes. (c.args.number * 2 + c.args.t % 2) * bytes) c.buffer_bytes.ensures in
    omega (arith, few, same)
