use Rattle.std.proofs.Common.{refl}
use Rattle.array_file.proofs.Functions.{moved_good}
use Rattle.array_file.proofs.reading.Reading.take_other.Goals as goal

pub returns-in-Some : goal.returns-in-Some
returns-in-Some c =
    let old = c.args.self.now in
    let moved = c.in-Some.ensures old.arrays old.values.items in
    record {
      is = moved.0;
      good = moved_good old.arrays old.phase c.in-Some.phase old.values.items c.args.word.now c.requires.other c.requires.ready.good moved.0;
      begins = moved.1;
      fresh = moved.2 c.requires.ready.fresh;
      from = refl;
    }
