use Rattle.std.proofs.Common.{◌∙◌, sym, subst}
use Rattle.venice_isa.specs.declared.issue.Issue.TheVariants.{Vector, Read}
use Rattle.venice_machine.specs.Working.{UnitsInside}
use Rattle.venice_machine.specs.AtOnce.{FirstsAgree}
use Rattle.venice_machine.proofs.Together.{firsts_agree}
use Rattle.venice_machine.proofs.works.Works.lanes_meet_reads.Goals as goal

pub returns : goal.returns
returns c = λ apart.
    subst (λ (units : UnitsInside). FirstsAgree (λ x. Vector x) (λ x. Read x) units.queues.lanes.jobs units.queues.reads.jobs) c.self.view_is
    (firsts_agree (λ x. Vector x) (λ x. Read x) c.self.inside.lanes.jobs c.self.inside.reads c.work.result.now c.work-2.result.now c.work.ensures c.work-2.ensures (sym c.are_in_conflict.ensures ∙ apart))
