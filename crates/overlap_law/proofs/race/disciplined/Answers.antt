use Rattle.std.proofs.Common.{subst, arith}
use Rattle.overlap_law.specs.Search.{IsEarliest}
use Rattle.overlap_law.proofs.Firsts.{first_of_all}
use Rattle.overlap_law.proofs.race.disciplined.Goals as goal

pub returns-in-Some-clause-race : goal.returns-in-Some-clause-race
returns-in-Some-clause-race c =
    first_of_all c.args.version c.args.list.now c.in-Some.race c.loop-first.first (omega (arith, c.loop-first-test.false))
    (subst (IsEarliest c.args.version c.args.list.now c.loop-first.first) c.in-Some.is c.loop-first.invariant)
