use Rattle.std.proofs.Common.{◌≡◌, max, ◌∙◌, rules}
use Rattle.pass_plan.specs.Shown.{pass_of}
use Rattle.pass_plan.proofs.Sums.{small_at, need_few, need_more}
use Rattle.pass_plan.proofs.needs.need.Goals as goal

pub need_of_pass-requires-clause-nodes : goal.need_of_pass-requires-clause-nodes
need_of_pass-requires-clause-nodes c = (small_at c.args.passes.now c.loop-pass.pass-index c.pass-item.result c.requires c.loop-pass-test.true c.pass-item.is).few_nodes

pub need_of_pass-requires-clause-bytes : goal.need_of_pass-requires-clause-bytes
need_of_pass-requires-clause-bytes c =
    need_few (pass_of c.pass-item.result) (small_at c.args.passes.now c.loop-pass.pass-index c.pass-item.result c.requires c.loop-pass-test.true c.pass-item.is)

pub loop-pass-preserved : goal.loop-pass-preserved
loop-pass-preserved c =
    let is : c.max-need.result ≡ max c.loop-pass.need c.need_of_pass.result = search rules in
    is ∙ need_more c.args.passes.now c.loop-pass.pass-index c.pass-item.result c.loop-pass.need c.need_of_pass.result c.loop-pass-test.true c.pass-item.is c.loop-pass.invariant c.need_of_pass.ensures
