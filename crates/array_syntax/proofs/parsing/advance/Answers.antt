use Rattle.array_syntax.specs.Reading.{state_of}
use Rattle.array_syntax.proofs.Parsed.{counted_on, advanced}
use Rattle.array_syntax.proofs.parsing.advance.Goals as goal

pub admit-requires : goal.admit-requires
admit-requires c =
    let h = rw c.in-Ok-Some.field-0-is at c.in-Ok-Some.ensures in
    counted_on (state_of c.args.phase c.args.stack.now) (state_of c.in-Ok-Some.next c.step.new.stack) c.args.token c.args.nodes h.1 c.requires.counted

pub returns-in-Ok-Some : goal.returns-in-Ok-Some
returns-in-Ok-Some c =
    let h = rw c.in-Ok-Some.field-0-is at c.in-Ok-Some.ensures in
    advanced (state_of c.args.phase c.args.stack.now) (state_of c.in-Ok-Some.next c.step.new.stack) c.args.token (λ after. state_of after c.step.new.stack) c.admit.result h.0 h.1 c.admit.ensures
