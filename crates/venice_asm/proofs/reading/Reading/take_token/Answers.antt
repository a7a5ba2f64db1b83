use Rattle.std.proofs.Common.{refl, sym}
use Rattle.venice_asm.proofs.reading.Reading.take_token.Goals as goal

pub returns-in-Ok : goal.returns-in-Ok
returns-in-Ok c = record { word = c.in-Some.word; mid = c.take.new.self; says = sym c.in-Some.ensures; takes = c.in-Ok.ensures; is = refl }
