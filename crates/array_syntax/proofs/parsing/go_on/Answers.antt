use Rattle.array_syntax.specs.Reading.{state_of}
use Rattle.array_syntax.proofs.Parsed.{sign_answered}
use Rattle.array_syntax.proofs.parsing.go_on.Goals as goal

pub returns-in-Some : goal.returns-in-Some
returns-in-Some c =
    let p = c.args.parsing in
    sign_answered c.args.text.now p.from p.nodes (state_of p.phase p.stack) c.next_kept-next.result c.in-Some.fault c.requires.parsing c.next_kept-next.ensures.next c.in-Some.ensures
