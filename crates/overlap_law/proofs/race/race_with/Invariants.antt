use Rattle.overlap_law.proofs.Races.{IsSearched}
use Rattle.overlap_law.proofs.race.race_with.Given as goal

abbrev pub invariant-loop-place : goal.invariant-loop-place
invariant-loop-place l = IsSearched l.version l.list l.first l.work l.place l.works
