use Rattle.std.proofs.Common.{◌∙◌, ap, arith, length-set, ◌+◌, ◌-◌, ◌<◌, ◌/◌, length}
use Rattle.venice_isa.specs.Cell.{overwritten}
use Rattle.venice_isa.specs.Element.{low_bytes}
use Rattle.venice_machine.proofs.Stretches.{nothing_put, put_on}
use Rattle.venice_machine.proofs.arrays.put_low.Goals as goal

pub overflow_add-place : goal.overflow_add-place
overflow_add-place c = omega (arith, c.requires, c.loop-k-test.true, c.len.ensures.count, c.len.ensures.few)

pub loop-k-preserved : goal.loop-k-preserved
loop-k-preserved c =
    let inside : c.args.place + c.loop-k.k < length c.loop-k.memory = omega (arith, c.requires, c.loop-k-test.true, c.loop-k.invariant.same) in
    record {
      same = ap length c.put.ensures ∙ length-set c.loop-k.memory (c.args.place + c.loop-k.k) _ ∙ c.loop-k.invariant.same;
      left = ap (λ m. overwritten m (c.args.place + (c.loop-k.k + 1)) (low_bytes (c.args.count - (c.loop-k.k + 1)) (c.loop-k.rest / 256))) c.put.ensures
          ∙ put_on c.loop-k.memory c.args.place c.args.count c.loop-k.k c.loop-k.rest c.loop-k-test.true inside ∙ c.loop-k.invariant.left;
    }

pub returns : goal.returns
returns c = nothing_put c.loop-k.memory (c.args.place + c.loop-k.k) (c.args.count - c.loop-k.k) c.loop-k.rest (omega arith) ∙ c.loop-k.invariant.left
