use Rattle.std.proofs.Common.{◌≡◌, sym, subst, rules}
use Rattle.ven_io.specs.declared.token.TokenKind.TheVariants.{End}
use Rattle.array_file.specs.Faults.{IsAnswered}
use Rattle.array_file.proofs.Answering.{no_token, ended, not_ended}
use Rattle.array_file.proofs.reading.Reading.turn.Goals as goal

pub returns-in-Err : goal.returns-in-Err
returns-in-Err c =
    subst (λ a. IsAnswered c.args.text.now a) (sym c.unread.ensures)
    (no_token c.args.text.now c.args.self.now.from _ _ c.in-Err.fault c.requires.reading.has c.in-Err.ensures.next)

pub returns-in-Ok-finish : goal.returns-in-Ok-finish
returns-in-Ok-finish c =
    let e = c.in-Ok-finish.ensures in
    let end : c.in-Ok.token.kind ≡ End = search rules in
    ended c.args.text.now c.args.self.now.from _ _ c.in-Ok.token _ c.requires.reading.has c.in-Ok.ensures.next end e.is e.whole

pub returns-in-Err-finish : goal.returns-in-Err-finish
returns-in-Err-finish c =
    let end : c.in-Ok.token.kind ≡ End = search rules in
    not_ended c.args.text.now c.args.self.now.from _ _ c.in-Ok.token c.in-Err-finish.fault c.requires.reading.has c.in-Ok.ensures.next end c.in-Err-finish.ensures
