use Rattle.std.proofs.Common.{◌+◌, arith}
use Rattle.pass_plan.specs.Shown.{pass_of}
use Rattle.venice_run.specs.Explain.{pass_lines}
use Rattle.venice_run.proofs.Listing.{next_lines, last_lines}
use Rattle.venice_run.proofs.Plans.{ordered_pass}
use Rattle.venice_run.proofs.explain.orders_text.Goals as goal

pub push_pass-requires : goal.push_pass-requires
push_pass-requires c = ordered_pass c.args.passes.now c.loop-pass.pass-index c.pass-item.result c.pass-item.is c.loop-pass-test.true c.requires

pub loop-pass-preserved : goal.loop-pass-preserved
loop-pass-preserved c = record {
  counted = omega (arith, c.loop-pass.invariant.counted);
  made = next_lines pass_of pass_lines c.pass-item.result c.loop-pass.text.items c.push_pass.new.text.items _ c.args.passes.now (c.loop-pass.k + 1) c.loop-pass.pass-index
      c.pass-item.is c.loop-pass-test.true c.loop-pass.invariant.made c.in_ok-push_pass.ensures;
}

pub returns : goal.returns
returns c =
    last_lines pass_of pass_lines c.loop-pass.text.items _ c.args.passes.now (c.loop-pass.k + 1) c.loop-pass.pass-index c.loop-pass-test.false c.loop-pass.invariant.made
