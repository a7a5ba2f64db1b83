-- The first race, work by work.
use Rattle.std.proofs.Common.{◌≡◌, ◌⊎◌, inl, inr, ℕ, ◌+◌, ◌<◌, ◌≤◌, subst, arith, List, length, Option, Some, None}
use Rattle.venice_isa.specs.declared.instr.Version.{Version}
use Rattle.venice_isa.specs.declared.issue.Issue.{Issue}
use Rattle.venice_isa.specs.Flight.{Pair, IsRace, IsDisciplined}
use Rattle.overlap_law.specs.declared.race.Race.{Race}
use Rattle.overlap_law.specs.Flights.{pair_of, IsNoLater, IsFirstRace}
use Rattle.overlap_law.specs.Search.{end_for, IsFirstWith, IsEarliest}
use Rattle.overlap_law.proofs.Races.{from_race}

module _ (version : Version) (list : List Issue) where
  -- a race's places are the list's
  pub race_within : (pair : Pair) → IsRace version list pair → (pair.first < pair.second) × (pair.second < length list)
  race_within pair race = let at = from_race version list pair race.first race in (at.order, at.within)

  module _ (first : ℕ) where
    abbrev Here : ℕ → Type 0
    Here second = IsRace version list (record { first = first; second = second })

    race_here : (pair : Pair) → pair.first ≡ first → IsRace version list pair → Here pair.second
    race_here pair is race = subst (λ n. IsRace version list (record { first = n; second = pair.second })) is race

    -- a work's first race is before all of the works before it
    pub found : (earliest : Option Race) (second : ℕ) → IsEarliest version list first earliest → IsFirstWith version list first (end_for list earliest) (Some second)
        → IsEarliest version list (first + 1) (Some (record { first = first; second = second }))
    found earliest second so_far with_ = (omega arith, with_.1, λ pair below race. elim (which pair below) [ inl before ↦ by_earlier earliest so_far with_ pair before race | inr here ↦ by_this pair here (race_here pair here race) ])
      where
        which : (pair : Pair) → pair.first < first + 1 → (pair.first < first) ⊎ (pair.first ≡ first)
        which pair below = grind arith

        by_this : (pair : Pair) → pair.first ≡ first → Here pair.second → IsNoLater (record { first = first; second = second }) pair
        by_this pair here race =
            let cases : (second < pair.second) ⊎ ((second ≡ pair.second) ⊎ (pair.second < second)) = grind arith in
            elim cases [
              | inl less ↦ inl less
              | inr others ↦ elim others [ inl same ↦ inr (same, omega arith) | inr less ↦ absurd (with_.2 pair.second less race) ]
            ]

        by_earlier : (earliest : Option Race) → IsEarliest version list first earliest → IsFirstWith version list first (end_for list earliest) (Some second) → (pair : Pair) → pair.first < first → IsRace version list pair → IsNoLater (record { first = first; second = second }) pair
        by_earlier None so_far with_ pair before race = absurd (so_far pair before race)
        by_earlier (Some known) so_far with_ pair before race =
            elim (so_far.2 pair before race) [ inl less ↦ inl (omega (arith, with_.0, less)) | inr same ↦ inl (omega (arith, with_.0, same.0)) ]

    -- and where it has none below, what is known stays
    pub not_found : (earliest : Option Race) → IsEarliest version list first earliest → IsFirstWith version list first (end_for list earliest) None → IsEarliest version list (first + 1) earliest
    not_found None so_far none = λ pair below race.
        let cases : (pair.first < first) ⊎ (pair.first ≡ first) = grind arith in
        elim cases [ inl before ↦ so_far pair before race | inr here ↦ none pair.second (race_within pair race).1 (race_here pair here race) ]
    not_found (Some known) so_far none = (
      omega (arith, so_far.0),
      so_far.1,
      λ pair below race.
          let cases : (pair.first < first) ⊎ (pair.first ≡ first) = grind arith in
          elim cases [
            | inl before ↦ so_far.2 pair before race
            | inr here ↦
                let places : (pair.second < known.second) ⊎ ((known.second < pair.second) ⊎ (known.second ≡ pair.second)) = grind arith in
                elim places [
                  | inl less ↦ absurd (none pair.second less (race_here pair here race))
                  | inr others ↦ elim others [ inl less ↦ inl less | inr same ↦ inr (same, omega (arith, so_far.0, here)) ]
                ]
          ],
    )

  -- before any work nothing races
  pub nothing_yet : IsEarliest version list 0 None
  nothing_yet = λ pair below race. absurd (omega arith)

  -- behind all works the first race is the list's
  pub first_of_all : (race : Race) (firsts : ℕ) → length list ≤ firsts → IsEarliest version list firsts (Some race) → IsFirstRace version list (pair_of race)
  first_of_all race firsts all earliest = record { race = earliest.1; first = λ other races. let within = race_within other races in earliest.2 other (omega (arith, all, within)) races }

  pub none_of_all : (firsts : ℕ) → length list ≤ firsts → IsEarliest version list firsts None → IsDisciplined version list
  none_of_all firsts all earliest = λ pair races. let within = race_within pair races in earliest pair (omega (arith, all, within)) races
