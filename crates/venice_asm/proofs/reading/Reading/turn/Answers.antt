use Rattle.std.proofs.Common.{◌≡◌, ◌≢◌, arith, ap, rules, subst}
use Rattle.ven_io.specs.declared.token.TokenKind.TheVariants.{End}
use Rattle.venice_asm.specs.Moves.{RefusesAll}
use Rattle.venice_asm.proofs.Turns.{reading_ready, taken_on, no_token, token_refused, end_taken, end_refused}
use Rattle.venice_asm.proofs.reading.Reading.turn.Goals as goal

pub take_end-requires : goal.take_end-requires
take_end-requires c = reading_ready c.args.text.now c.args.self.now c.requires.reading

pub take_token-requires-clause-ready : goal.take_token-requires-clause-ready
take_token-requires-clause-ready c = reading_ready c.args.text.now c.args.self.now c.requires.reading

pub returns-in-Ok-take_end : goal.returns-in-Ok-take_end
returns-in-Ok-take_end c =
    let end : c.in-Ok.token.kind ≡ End = search rules in
    end_taken c.args.text.now c.args.self.now c.take_end.new.self c.in-Ok.token c.requires.reading c.in-Ok.ensures.next end c.in-Ok-take_end.ensures

pub returns-in-Err-take_end : goal.returns-in-Err-take_end
returns-in-Err-take_end c =
    let end : c.in-Ok.token.kind ≡ End = search rules in
    end_refused c.args.text.now c.args.self.now c.take_end.new.self c.in-Ok.token c.in-Err-take_end.fault c.requires.reading c.in-Ok.ensures.next end c.in-Err-take_end.ensures

pub returns-in-Ok-take_token : goal.returns-in-Ok-take_token
returns-in-Ok-take_token c =
    let some : c.in-Ok.token.kind ≢ End = search rules in
    let t = c.in-Ok-take_token.ensures in
    let from : c.take_token.new.self.from ≡ c.in-Ok.token.end = ap (λ r. r.from) t.is in
    let after = c.in-Ok.ensures.after in
    let longer = c.in-Ok.ensures.some some in (
      taken_on c.args.text.now c.args.self.now c.take_token.new.self c.in-Ok.token c.requires.reading c.in-Ok.ensures.next some c.in-Ok.ensures.in_text t,
      omega arith,
    )

pub returns-in-Err-take_token : goal.returns-in-Err-take_token
returns-in-Err-take_token c =
    let some : c.in-Ok.token.kind ≢ End = search rules in
    token_refused c.args.text.now c.args.self.now c.in-Ok.token c.in-Err-take_token.fault c.requires.reading c.in-Ok.ensures.next some c.in-Err-take_token.ensures

pub returns-in-Err : goal.returns-in-Err
returns-in-Err c =
    no_token c.args.text.now c.args.self.now c.in-Err.fault c.refused_at.result c.requires.reading c.in-Err.ensures.next
    (subst (λ at. RefusesAll c.args.self.now.phase at c.args.self.now c.refused_at.result) c.unread_at.ensures c.refused_at.ensures)
