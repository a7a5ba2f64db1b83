use Rattle.std.proofs.Common.{sym, subst}
use Rattle.array_syntax.specs.Faults.{IsAnswered}
use Rattle.array_syntax.specs.Reading.{state_of}
use Rattle.array_syntax.proofs.Parsed.{has_bytes, word_taken}
use Rattle.array_syntax.proofs.Turns.{unread}
use Rattle.array_syntax.proofs.parsing.take.Goals as goal

pub returns-in-Some : goal.returns-in-Some
returns-in-Some c = word_taken c.args.text.now c.args.parsing c.args.raw c.in-Some.word c.take_word.result c.requires.ready c.requires.some c.in-Some.ensures c.take_word.ensures

pub returns-in-None : goal.returns-in-None
returns-in-None c =
    let p = c.args.parsing in
    let b = has_bytes c.args.text.now p.from p.nodes (state_of p.phase p.stack) c.args.raw c.requires.ready c.requires.some in
    subst (IsAnswered c.args.text.now) (sym c.unread.ensures)
    (unread c.args.text.now p.from p.nodes (state_of p.phase p.stack) c.args.raw c.requires.ready c.requires.some b.spelled c.in-None.ensures)
