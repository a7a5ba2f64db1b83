use Rattle.std.proofs.Common.{◌+◌, arith, refl}
use Rattle.pass_plan.specs.Shown.{pass_of}
use Rattle.venice_run.specs.Check.{pass_line}
use Rattle.venice_run.proofs.Listing.{next_lines, last_lines}
use Rattle.venice_run.proofs.Plans.{small_pass, pass_room}
use Rattle.venice_run.proofs.check.push_passes.Goals as goal

pub loop-pass-init : goal.loop-pass-init
loop-pass-init c = record { counted = refl; made = refl }

pub push_pass-requires-clause-small : goal.push_pass-requires-clause-small
push_pass-requires-clause-small c = small_pass c.args.passes.now c.loop-pass.pass-index c.pass-item.result c.pass-item.is c.loop-pass-test.true c.requires.small

pub push_pass-requires-clause-room : goal.push_pass-requires-clause-room
push_pass-requires-clause-room c =
    pass_room c.args.passes.now c.args.spad c.loop-pass.pass-index c.pass-item.result c.pass-item.is c.loop-pass-test.true c.need_laws.ensures.each c.requires.room

pub loop-pass-preserved : goal.loop-pass-preserved
loop-pass-preserved c = record {
  counted = omega (arith, c.loop-pass.invariant.counted);
  made = next_lines pass_of (pass_line c.args.spad) c.pass-item.result c.loop-pass.text.items c.push_pass.new.text.items _ c.args.passes.now (c.loop-pass.k + 1) c.loop-pass.pass-index
      c.pass-item.is c.loop-pass-test.true c.loop-pass.invariant.made c.in_ok-push_pass.ensures;
}

pub returns : goal.returns
returns c =
    last_lines pass_of (pass_line c.args.spad) c.loop-pass.text.items _ c.args.passes.now (c.loop-pass.k + 1) c.loop-pass.pass-index c.loop-pass-test.false c.loop-pass.invariant.made
