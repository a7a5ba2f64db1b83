use Rattle.std.proofs.Common.{ap, ◌∙◌}
use Rattle.std.specs.Prelude.{insert}
use Rattle.pass_plan.specs.NumberSize.{turns_above}
use Rattle.pass_plan.proofs.Turns.{insert_is}
use Rattle.pass_plan.proofs.turn.add.Goals as goal

pub returns-clause-turns : goal.returns-clause-turns
returns-clause-turns c =
    c.in_ok-insert.ensures.ok ∙ ap (λ k. insert c.args.turns.now.items k c.args.turn) (c.place_of-at.ensures.place ∙ ap (turns_above c.args.turn.label) c.as_slice.ensures)
    ∙ insert_is c.args.turn c.args.turns.now.items
