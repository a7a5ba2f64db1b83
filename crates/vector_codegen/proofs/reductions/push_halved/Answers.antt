use Rattle.vector_codegen.proofs.StepCode.{rows_fit, slot_below}
use Rattle.vector_codegen.proofs.reductions.push_halved.Goals as goal

pub push_halvings-requires-clause-fits : goal.push_halvings-requires-clause-fits
push_halvings-requires-clause-fits c =
    rw c.slot-slot.ensures (rows_fit c.args.shape c.args.b c.args.step.now.elem _ c.requires.fits (slot_below c.args.b c.args.step.now.to c.requires.step.to) c.requires.wide)

pub last_work-requires-clause-fits : goal.last_work-requires-clause-fits
last_work-requires-clause-fits c =
    rw c.slot-slot.ensures (rows_fit c.args.shape c.args.b c.args.step.now.elem _ c.requires.fits (slot_below c.args.b c.args.step.now.to c.requires.step.to) c.requires.wide)
