-- Inner: how the first race is found, work by work.
use Rattle.std.specs.Prelude.{ℕ, ◌<◌, List, length, Option, Some, None}
use Rattle.venice_isa.specs.declared.instr.Version.{Version}
use Rattle.venice_isa.specs.declared.issue.Issue.{Issue}
use Rattle.venice_isa.specs.Flight.{Pair, IsRace}
use Rattle.overlap_law.specs.declared.race.Race.{Race}
use Rattle.overlap_law.specs.Flights.{pair_of, IsNoLater}

-- the places below which a race would be better than the known one
abbrev pub end_for : List Issue → (earliest : Option Race) → ℕ
end_for list None = length list
end_for list (Some race) = race.second

-- the first of the places below the end at which a work races with the one at `first`, if there is one
abbrev pub IsFirstWith : Version → List Issue → (first end : ℕ) → Option ℕ → Type 0
IsFirstWith version list first end None =
    (place : ℕ) → place < end → ¬ IsRace version list (record { first = first; second = place })
IsFirstWith version list first end (Some second) =
    (second < end)
    × IsRace version list (record { first = first; second = second })
    × ((place : ℕ) → place < second → ¬ IsRace version list (record { first = first; second = place }))

-- the first race of those whose first place is one of so many
abbrev pub IsEarliest : Version → List Issue → (firsts : ℕ) → Option Race → Type 0
IsEarliest version list firsts None = (pair : Pair) → pair.first < firsts → ¬ IsRace version list pair
IsEarliest version list firsts (Some race) =
    (race.first < firsts)
    × IsRace version list (pair_of race)
    × ((pair : Pair) → pair.first < firsts → IsRace version list pair → IsNoLater (pair_of race) pair)
