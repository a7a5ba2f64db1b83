use Rattle.std.proofs.Common.{sym, ◌≡◌}
use Rattle.array_file.proofs.Answering.{no_word, not_taken, read_on}
use Rattle.array_file.proofs.reading.Reading.take_token.Goals as goal

pub returns-in-None : goal.returns-in-None
returns-in-None c =
    no_word c.args.text.now c.args.self.now.from _ _ c.args.token c.requires.reading.has c.requires.token.stands c.requires.token.some (sym c.in-None.ensures)

pub returns-in-Ok : goal.returns-in-Ok
returns-in-Ok c =
    let t = c.in-Ok.ensures in
    let token = c.requires.token in (
      record {
        has = read_on c.args.text.now c.args.self.now.from _ _ _ _ c.args.token c.in-Some.word c.requires.reading.has token.stands (sym c.in-Some.ensures) t.is t.good t.begins token.further token.within;
        fresh = t.fresh;
      },
      token.further,
    )

pub returns-in-Err : goal.returns-in-Err
returns-in-Err c =
    not_taken c.args.text.now c.args.self.now.from _ _ c.args.token c.in-Some.word c.in-Err.fault c.requires.reading.has c.requires.token.stands (sym c.in-Some.ensures) c.in-Err.ensures
