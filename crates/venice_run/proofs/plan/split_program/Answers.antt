use Rattle.pass_plan.specs.Shown.{split_of}
use Rattle.venice_run.proofs.Plans.{sound_ordered}
use Rattle.venice_run.proofs.plan.split_program.Goals as goal

pub returns-clause-small : goal.returns-clause-small
returns-clause-small c =
    c.passes_are_small.ensures (split_of c.in_ok-split.field-0) (rw (c.deref.ensures.value, c.program.view_is) c.in_ok-split.ensures.is_split)

pub returns-clause-normal : goal.returns-clause-normal
returns-clause-normal c = sound_ordered _ _ c.in_ok-split.ensures.sound.passes
