use Rattle.std.proofs.Common.{arith}
use Rattle.pass_plan.proofs.Sums.{small_at, few_passes, work_more}
use Rattle.pass_plan.proofs.needs.bound.Goals as goal

pub work-sum-requires : goal.work-sum-requires
work-sum-requires c = small_at c.args.passes.now c.loop-pass.pass-index c.pass-item.result c.requires c.loop-pass-test.true c.pass-item.is

pub loop-pass-preserved : goal.loop-pass-preserved
loop-pass-preserved c = record {
  sum_is = work_more c.args.passes.now c.loop-pass.pass-index c.pass-item.result c.loop-pass.sum c.work-sum.result c.loop-pass-test.true c.pass-item.is c.loop-pass.invariant.sum_is c.work-sum.ensures.value;
  few = omega arith;
}

pub overflow_mul-result : goal.overflow_mul-result
overflow_mul-result c = let few = few_passes c.args.passes.now c.requires in omega arith

pub overflow_add-sum : goal.overflow_add-sum
overflow_add-sum c = let few = few_passes c.args.passes.now c.requires in omega arith

pub overflow_add-result : goal.overflow_add-result
overflow_add-result c = let few = few_passes c.args.passes.now c.requires in omega arith
