use Rattle.std.proofs.Common.{◌≡◌, sym, subst, ap, ◌∙◌, arith}
use Rattle.pass_plan.specs.Need.{need_of}
use Rattle.pass_plan.specs.Sound.{Split, IsSound}
use Rattle.pass_plan.specs.Shown.{split_of}
use Rattle.dma_schedule.proofs.ExampleSplit.{sound, need_is}
use Rattle.plan_tests.proofs.lists.list_of.Goals as goal

pub pipeline-requires-clause-sound : goal.pipeline-requires-clause-sound
pipeline-requires-clause-sound c = subst IsSound (sym c.in_ok-split.ensures) sound

pub pipeline-requires-clause-holds : goal.pipeline-requires-clause-holds
pipeline-requires-clause-holds c =
    let need : need_of (split_of c.in_ok-split.split).passes ≡ 12 = ap (λ (split : Split). need_of split.passes) c.in_ok-split.ensures ∙ need_is in
    omega (arith, need, c.requires)
