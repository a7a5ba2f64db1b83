use Rattle.std.proofs.Common.{◌≡◌, ◌∙◌, sym, subst, true}
use Rattle.venice_isa.specs.declared.issue.Issue.TheVariants.{Write}
use Rattle.venice_machine.specs.Working.{UnitsInside}
use Rattle.venice_machine.specs.Kept.{conflicts_with}
use Rattle.venice_machine.proofs.Hazards.{any_here}
use Rattle.venice_machine.proofs.works.Works.has_write_against.Goals as goal

pub returns-then-are_in_conflict : goal.returns-then-are_in_conflict
returns-then-are_in_conflict c =
    let found = any_here (λ work. Write work) c.args.issue.now c.self.inside.writes c.loop-k.k c.work.result.now c.work.ensures (sym c.are_in_conflict.ensures ∙ c.if-are_in_conflict.true) in
    sym (subst (λ (units : UnitsInside). conflicts_with (λ work. Write work) c.args.issue.now units.queues.writes ≡ true) c.self.view_is found)
