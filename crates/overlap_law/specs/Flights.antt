-- Which works may be in flight behind others, in the words of the manual, and the first race of a list.
use Rattle.std.specs.Prelude.{◌≡◌, ◌⊎◌, ℕ, ◌<◌, ◌≤◌, IsTrue, IsFalse, List, ◌∷◌, ◌++◌, length}
use Rattle.std.specs.List.{filter}
use Rattle.venice_isa.specs.declared.instr.Version.{Version}
use Rattle.venice_isa.specs.declared.issue.Issue.{Issue}
use Rattle.venice_isa.specs.Flight.{waits_for, waits_for_tag_of, Pair, IsRace}
use Rattle.overlap_law.specs.declared.race.Race.{Race}
use Rattle.venice_isa.specs.Units.{Unit, is_of, overtakes, places}

-- how many of the issues are works of the unit
abbrev pub count_of : Unit → List Issue → ℕ
count_of unit issues = length (filter (is_of unit) issues)

-- the unit's work is done once the host has passed these: they have a wait for the unit, before which at least as many
-- of its works stand as the wait lets stay unfinished; or they have as many of its works as its queue has places. Where
-- the unit may go on with a later work first, they have a wait for the unit that lets none stay, or one for the work's
-- tag
pub data IsEnded (version : Version) (unit : Unit) (work : Issue) (between : List Issue) : Type 0 where
  by_wait : (before : List Issue) (wait : Issue) (after : List Issue)
      → between ≡ before ++ wait ∷ after → IsFalse (overtakes version unit)
      → IsTrue (waits_for unit wait (count_of unit before)) → IsEnded version unit work between
  by_places : IsFalse (overtakes version unit) → places unit ≤ count_of unit between
      → IsEnded version unit work between
  by_last_wait : (before : List Issue) (wait : Issue) (after : List Issue)
      → between ≡ before ++ wait ∷ after → IsTrue (overtakes version unit)
      → IsTrue (waits_for unit wait 0) → IsEnded version unit work between
  by_tag : (before : List Issue) (wait : Issue) (after : List Issue)
      → between ≡ before ++ wait ∷ after → IsTrue (overtakes version unit)
      → IsTrue (waits_for_tag_of work wait) → IsEnded version unit work between

-- ---- the first race

-- the two places of a race that code answers
abbrev pub pair_of : Race → Pair
pair_of race = record { first = race.first; second = race.second }

-- its second place is the lesser; or the second places are one, and its first place is no greater
abbrev pub IsNoLater : Pair → Pair → Type 0
IsNoLater pair other = (pair.second < other.second) ⊎ ((pair.second ≡ other.second) × (pair.first ≤ other.first))

-- the pair races, and no pair that races comes before it
pub record IsFirstRace (version : Version) (list : List Issue) (pair : Pair) : Type 0 where
  pub race : IsRace version list pair
  pub first : (other : Pair) → IsRace version list other → IsNoLater pair other
