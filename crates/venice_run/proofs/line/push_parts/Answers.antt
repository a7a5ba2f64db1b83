use Rattle.venice_run.proofs.Parts.{next_part}
use Rattle.venice_run.proofs.line.push_parts.Goals as goal

pub loop-part-preserved : goal.loop-part-preserved
loop-part-preserved c =
    next_part c.args.line.now.items c.loop-part.line.items c.push_part.new.line.items c.args.parts.now c.loop-part.part-index _ c.loop-part-test.true
    c.loop-part.invariant c.in_ok-push_part.ensures
