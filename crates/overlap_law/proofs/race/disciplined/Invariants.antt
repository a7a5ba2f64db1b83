use Rattle.overlap_law.specs.Search.{IsEarliest}
use Rattle.overlap_law.proofs.race.disciplined.Given as goal

abbrev pub invariant-loop-first : goal.invariant-loop-first
invariant-loop-first l = IsEarliest l.version l.list l.first l.earliest
