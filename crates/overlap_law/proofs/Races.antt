-- Races by their places.
use Rattle.std.proofs.Common.{◌≡◌, ◌⊎◌, inl, inr, ℕ, zero, suc, ◌+◌, ◌-◌, ◌<◌, ◌≤◌, sym, refl, subst, ap, ◌∙◌, arith, List, [], ◌∷◌, ◌++◌, append_assoc, length, get_or, take, drop, Bool, true, false, cond}
use Rattle.std.proofs.Math.Seq.{get_or-append_seam}
use Rattle.std.proofs.lemmas.List.{get_or-drop, get_or-take, get_or_default, take-append-drop, take_more, take_at, length-take-le, length-drop, length-append}
use Rattle.venice_isa.specs.declared.instr.Version.{Version}
use Rattle.venice_isa.specs.declared.issue.Issue.{Issue}
use Rattle.venice_isa.specs.declared.issue.Issue.TheVariants.{Vector, Read, Write}
use Rattle.venice_isa.specs.Flight.{ends, may_be_in_flight, Pair, IsRace}
use Rattle.venice_isa.specs.Footprint.{Conflicts}
use Rattle.venice_isa.specs.Units.{Unit, Lanes, ReadChannel, WriteChannel, is_of, is_work, share_a_unit, keep_their_order}
use Rattle.overlap_law.specs.Flights.{count_of}
use Rattle.overlap_law.proofs.Discipline.{flies_on, count_appended}
use Rattle.overlap_law.proofs.InFlight.{at_ended}

-- ---- parts of lists

split_at : {A : Type 0} (xs : List A) (i : ℕ) (d : A) → i < length xs → xs ≡ take i xs ++ (get_or xs i d ∷ drop (i + 1) xs)
split_at xs i d within =
    sym (take-append-drop (i + 1) xs)
    ∙ ap (λ front. front ++ drop (i + 1) xs) (take_more xs i d within)
    ∙ append_assoc (take i xs) (get_or xs i d ∷ []) (drop (i + 1) xs)

behind : {A : Type 0} (before : List A) (x : A) (rest : List A) → drop (length before + 1) (before ++ x ∷ rest) ≡ rest
behind [] x rest = refl
behind (y ∷ before) x rest =
    let more : length (y ∷ before) + 1 ≡ suc (length before + 1) = omega arith in
    ap (λ n. drop n (y ∷ (before ++ x ∷ rest))) more ∙ behind before x rest

take_take : {A : Type 0} (k m : ℕ) (xs : List A) → k ≤ m → take k (take m xs) ≡ take k xs
take_take zero m xs within = refl
take_take (suc k) zero xs within = absurd (omega arith)
take_take (suc k) (suc m) [] within = refl
take_take (suc k) (suc m) (x ∷ xs) within = ap (λ l. x ∷ l) (take_take k m xs (omega arith))

-- what stands between two places
abbrev pub between : List Issue → (i j : ℕ) → List Issue
between list i j = take (j - (i + 1)) (drop (i + 1) list)

-- ---- races

pub record RaceAt (version : Version) (list : List Issue) (i j : ℕ) (d : Issue) : Type 0 where
  pub order : i < j
  pub within : j < length list
  pub unit : Unit
  pub is_unit : is_of unit (get_or list i d) ≡ true
  pub in_flight : may_be_in_flight version unit (get_or list i d) 0 (between list i j) ≡ true
  pub unordered : keep_their_order version (get_or list i d) (get_or list j d) ≡ false
  pub conflict : Conflicts (get_or list i d) (get_or list j d)

record ArePlaces (list : List Issue) (before middle : List Issue) (x y : Issue) (i j : ℕ) (d : Issue) : Type 0 where
  first : get_or list i d ≡ x
  second : get_or list j d ≡ y
  between_is : between list i j ≡ middle
  within : j < length list

are_places : (before middle after : List Issue) (x y : Issue) (i j : ℕ) (d : Issue) → i ≡ length before → j ≡ length before + 1 + length middle → ArePlaces (before ++ x ∷ (middle ++ y ∷ after)) before middle x y i j d
are_places before middle after x y i j d first second =
    let list = before ++ x ∷ (middle ++ y ∷ after) in
    let rest : drop (i + 1) list ≡ middle ++ y ∷ after = ap (λ n. drop (n + 1) list) first ∙ behind before x (middle ++ y ∷ after) in
    let gap : length middle ≡ j - (i + 1) = omega arith in
    let to : i + 1 + length middle ≡ j = omega arith in
    record {
      first = ap (λ n. get_or list n d) first ∙ get_or-append_seam before x (middle ++ y ∷ after) d;
      second =
          ap (λ n. get_or list n d) (sym to)
          ∙ sym (get_or-drop (i + 1) list (length middle) d)
          ∙ ap (λ l. get_or l (length middle) d) rest
          ∙ get_or-append_seam middle y after d;
      between_is = ap (take (j - (i + 1))) rest ∙ take_at middle (y ∷ after) (j - (i + 1)) gap;
      within = omega (arith, length-append before (x ∷ (middle ++ y ∷ after)), length-append middle (y ∷ after));
    }

pub from_race : (version : Version) (list : List Issue) (pair : Pair) (d : Issue) → IsRace version list pair → RaceAt version list pair.first pair.second d
from_race version list pair d race =
    let at : ArePlaces list race.before race.between race.first race.second pair.first pair.second d =
    subst (λ l. ArePlaces l race.before race.between race.first race.second pair.first pair.second d) (sym race.list_is)
    (are_places race.before race.between race.after race.first race.second pair.first pair.second d race.first_place race.second_place) in
    record {
      order = omega (arith, race.first_place, race.second_place);
      within = at.within;
      unit = race.unit;
      is_unit = ap (is_of race.unit) at.first ∙ race.is_unit;
      in_flight = ap (λ work. may_be_in_flight version race.unit work 0 (between list pair.first pair.second)) at.first ∙ ap (may_be_in_flight version race.unit race.first 0) at.between_is ∙ race.in_flight;
      unordered = ap (λ work. keep_their_order version work (get_or list pair.second d)) at.first ∙ ap (keep_their_order version race.first) at.second ∙ race.unordered;
      conflict = subst (λ work. Conflicts work (get_or list pair.second d)) (sym at.first) (subst (Conflicts race.first) (sym at.second) race.conflict);
    }

pub to_race : (version : Version) (list : List Issue) (i j : ℕ) (d : Issue) → RaceAt version list i j d → IsRace version list (record { first = i; second = j })
to_race version list i j d race =
    let rest = drop (i + 1) list in
    let k = j - (i + 1) in
    let long : length rest ≡ length list - (i + 1) = length-drop (i + 1) list in
    let order = race.order in
    let within = race.within in
    let to : i + 1 + k ≡ j = omega arith in
    let at : get_or rest k d ≡ get_or list j d = get_or-drop (i + 1) list k d ∙ ap (λ n. get_or list n d) to in
    record {
      before = take i list;
      between = between list i j;
      after = drop (k + 1) rest;
      first = get_or list i d;
      second = get_or list j d;
      unit = race.unit;
      list_is =
          split_at list i d (omega arith)
          ∙ ap (λ l. take i list ++ get_or list i d ∷ l) (split_at rest k d (omega (arith, long)))
          ∙ ap (λ y. take i list ++ get_or list i d ∷ (between list i j ++ y ∷ drop (k + 1) rest)) at;
      first_place = sym (length-take-le i list (omega arith));
      second_place = omega (arith, length-take-le i list (omega arith), length-take-le k rest (omega (arith, long)));
      is_unit = race.is_unit;
      in_flight = race.in_flight;
      unordered = race.unordered;
      conflict = race.conflict;
    }

-- ---- a search from one work on

-- no place before this one races with the work at the first place, which may still be in flight here; so many works of
-- its unit stand between
pub record IsSearched (version : Version) (list : List Issue) (first : ℕ) (work : Issue) (place works : ℕ) : Type 0 where
  pub work_is : get_or list first work ≡ work
  pub is : is_work work ≡ true
  pub from : first < place
  pub few : works < place
  pub counted : (unit : Unit) → is_of unit work ≡ true → works ≡ count_of unit (between list first place)
  pub flies : (unit : Unit) → is_of unit work ≡ true → may_be_in_flight version unit work 0 (between list first place) ≡ true
  pub none : (q : ℕ) → q < place → ¬ IsRace version list (record { first = first; second = q })

module _ (version : Version) (list : List Issue) (first : ℕ) (work : Issue) (work_is : get_or list first work ≡ work) where
  none_between : between list first (first + 1) ≡ []
  none_between = let none : first + 1 - (first + 1) ≡ 0 = omega arith in ap (λ n. take n (drop (first + 1) list)) none

  one_between : (place : ℕ) → first < place → place < length list → between list first (place + 1) ≡ between list first place ++ get_or list place work ∷ []
  one_between place order within =
      let rest = drop (first + 1) list in
      let k = place - (first + 1) in
      let more : place + 1 - (first + 1) ≡ k + 1 = omega arith in
      let to : first + 1 + k ≡ place = omega arith in
      ap (λ n. take n rest) more
      ∙ take_more rest k work (omega (arith, length-drop (first + 1) list))
      ∙ ap (λ y. between list first place ++ y ∷ []) (get_or-drop (first + 1) list k work ∙ ap (λ n. get_or list n work) to)

  -- what stands up to a later place begins so
  longer_between : (place later : ℕ) → first < place → place < later → later < length list → (after : List Issue) × (between list first later ≡ between list first place ++ get_or list place work ∷ after)
  longer_between place later order more within =
      let rest = drop (first + 1) list in
      let k = place - (first + 1) in
      let whole = between list first later in
      let long : length whole ≡ later - (first + 1) = length-take-le (later - (first + 1)) rest (omega (arith, length-drop (first + 1) list)) in
      let to : first + 1 + k ≡ place = omega arith in (
        drop (k + 1) whole,
        split_at whole k work (omega (arith, long))
            ∙ ap (λ front. front ++ get_or whole k work ∷ drop (k + 1) whole) (take_take k (later - (first + 1)) rest (omega arith))
            ∙ ap (λ y. between list first place ++ y ∷ drop (k + 1) whole) (get_or-take (later - (first + 1)) rest k work (omega arith) ∙ get_or-drop (first + 1) list k work ∙ ap (λ n. get_or list n work) to),
      )

  abbrev Race : ℕ → Type 0
  Race place = IsRace version list (record { first = first; second = place })

  abbrev Searched : ℕ → ℕ → Type 0
  Searched = IsSearched version list first work

  no_earlier : (q : ℕ) → q ≤ first → ¬ Race q
  no_earlier q within race = let at = from_race version list (record { first = first; second = q }) work race in let order = at.order in omega arith

  pub begin_search : is_work work ≡ true → Searched (first + 1) 0
  begin_search is = record {
    work_is = work_is;
    is = is;
    from = omega arith;
    few = omega arith;
    counted = λ unit is. ap (count_of unit) (sym none_between);
    flies = λ unit is. ap (may_be_in_flight version unit work 0) none_between;
    none = λ q below. no_earlier q (omega arith);
  }

  unit_for : (issue : Issue) → is_work issue ≡ true → (unit : Unit) × (is_of unit issue ≡ true)
  unit_for (Vector work) e = (Lanes, refl)
  unit_for (Read work) e = (ReadChannel, refl)
  unit_for (Write work) e = (WriteChannel, refl)
  unit_for issue e = cc

  -- the place races
  pub found : (place works : ℕ) → Searched place works → place < length list → keep_their_order version work (get_or list place work) ≡ false → Conflicts work (get_or list place work) → Race place
  found place works searched within unordered conflict =
      let unit = unit_for work searched.is in
      to_race version list first place work (record {
        order = searched.from;
        within = within;
        unit = unit.0;
        is_unit = ap (is_of unit.0) work_is ∙ unit.1;
        in_flight = ap (λ w. may_be_in_flight version unit.0 w 0 (between list first place)) work_is ∙ searched.flies unit.0 unit.1;
        unordered = ap (λ w. keep_their_order version w (get_or list place work)) work_is ∙ unordered;
        conflict = subst (λ w. Conflicts w (get_or list place work)) (sym work_is) conflict;
      })

  -- or it doesn't
  abbrev pub NoRaceHere : ℕ → Type 0
  NoRaceHere place = keep_their_order version work (get_or list place work) ≡ false → ¬ Conflicts work (get_or list place work)

  not_here : (place : ℕ) → NoRaceHere place → ¬ Race place
  not_here place none race =
      let at = from_race version list (record { first = first; second = place }) work race in
      none (ap (λ w. keep_their_order version w (get_or list place work)) (sym work_is) ∙ at.unordered) (subst (λ w. Conflicts w (get_or list place work)) work_is at.conflict)

  up_to_here : (place works : ℕ) → Searched place works → NoRaceHere place → (q : ℕ) → q < place + 1 → ¬ Race q
  up_to_here place works searched none q below =
      let last : (q < place) ⊎ (place ≡ q) = grind arith in
      elim last [ inl before ↦ searched.none q before | inr here ↦ subst (λ n. ¬ Race n) here (not_here place none) ]

  -- the work ends here: no later place races
  pub ended : (place works : ℕ) → Searched place works → NoRaceHere place → ((unit : Unit) → is_of unit work ≡ true → ends version unit work works (get_or list place work) ≡ true) → (q : ℕ) → ¬ Race q
  ended place works searched none ends_it q race =
      let cases : (q < place + 1) ⊎ (place < q) = grind arith in
      elim cases [
        | inl before ↦ up_to_here place works searched none q before race
        | inr later ↦
            let at = from_race version list (record { first = first; second = q }) work race in
            let unit = at.unit in
            let is : is_of unit work ≡ true = ap (is_of unit) (sym work_is) ∙ at.is_unit in
            let longer = longer_between place q searched.from later at.within in
            let count : works ≡ 0 + count_of unit (between list first place) = omega (arith, searched.counted unit is) in
            let over : may_be_in_flight version unit work 0 (between list first q) ≡ false =
            ap (may_be_in_flight version unit work 0) longer.1
            ∙ at_ended version unit work 0 (between list first place) (get_or list place work) longer.0 (subst (λ n. ends version unit work n (get_or list place work) ≡ true) count (ends_it unit is)) in
            let flies : may_be_in_flight version unit work 0 (between list first q) ≡ true = ap (λ w. may_be_in_flight version unit w 0 (between list first q)) (sym work_is) ∙ at.in_flight in
            absurd cc
      ]

  shares : (unit : Unit) (first second : Issue) → is_of unit first ≡ true → share_a_unit first second ≡ is_of unit second
  shares Lanes (Vector v) (Vector w) is = refl
  shares Lanes (Vector v) second is = refl
  shares ReadChannel (Read v) (Read w) is = refl
  shares ReadChannel (Read v) second is = refl
  shares WriteChannel (Write v) (Write w) is = refl
  shares WriteChannel (Write v) second is = refl
  shares unit first second is = cc

  -- and else the search goes on
  pub goes_on : (place works : ℕ) → Searched place works → place < length list → NoRaceHere place → ((unit : Unit) → is_of unit work ≡ true → ends version unit work works (get_or list place work) ≡ false)
      → (same : Bool) → share_a_unit work (get_or list place work) ≡ same → Searched (place + 1) (cond same (works + 1) works)
  goes_on place works searched within none goes same is_same =
      let one = one_between place searched.from within in
      record {
        work_is = work_is;
        is = searched.is;
        from = let from = searched.from in omega arith;
        few = few same;
        counted = λ unit is.
            let was = searched.counted unit is in
            let here : is_of unit (get_or list place work) ≡ same = sym (shares unit work (get_or list place work) is) ∙ is_same in
            counted same (count_of unit (between list first place)) was ∙ sym (ap (count_of unit) one ∙ count_appended unit (between list first place) (get_or list place work ∷ []) ∙ ap (λ b. count_of unit (between list first place) + length (cond b (get_or list place work ∷ []) [])) here);
        flies = λ unit is.
            let count : works ≡ 0 + count_of unit (between list first place) = omega (arith, searched.counted unit is) in
            ap (may_be_in_flight version unit work 0) one
            ∙ flies_on version unit work 0 (between list first place) (get_or list place work) (searched.flies unit is) (subst (λ n. ends version unit work n (get_or list place work) ≡ false) count (goes unit is));
        none = up_to_here place works searched none;
      }
    where
      few : (same : Bool) → cond same (works + 1) works < place + 1
      few true = let few = searched.few in omega arith
      few false = let few = searched.few in omega arith

      counted : (same : Bool) (count : ℕ) → works ≡ count → cond same (works + 1) works ≡ count + length (cond same (get_or list place work ∷ []) [])
      counted true count e = omega arith
      counted false count e = omega arith

-- ---- the same, of the issue that was read at the place

module _ (version : Version) (list : List Issue) (first : ℕ) (work : Issue) (place works : ℕ) (searched : IsSearched version list first work place works)
    (issue : Issue) (within : place < length list) (issue_is : issue ≡ get_or list place issue) where
  here : get_or list place work ≡ issue
  here = get_or_default list place work issue within ∙ sym issue_is

  abbrev pub IsSpared : Type 0
  IsSpared = keep_their_order version work issue ≡ false → ¬ Conflicts work issue

  pub race_here : keep_their_order version work issue ≡ false → Conflicts work issue → IsRace version list (record { first = first; second = place })
  race_here unordered conflict =
      found version list first work searched.work_is place works searched within (ap (keep_their_order version work) here ∙ unordered) (subst (Conflicts work) (sym here) conflict)

  spared_here : IsSpared → NoRaceHere version list first work searched.work_is place
  spared_here spared unordered conflict = spared (ap (keep_their_order version work) (sym here) ∙ unordered) (subst (Conflicts work) here conflict)

  pub no_later_race : IsSpared → ((unit : Unit) → is_of unit work ≡ true → true ≡ ends version unit work works issue) → (q : ℕ) → ¬ IsRace version list (record { first = first; second = q })
  no_later_race spared over = ended version list first work searched.work_is place works searched (spared_here spared) (λ unit is. ap (ends version unit work works) here ∙ sym (over unit is))

  pub searched_on : IsSpared → ((unit : Unit) → is_of unit work ≡ true → false ≡ ends version unit work works issue) → (same : Bool) → share_a_unit work issue ≡ same → IsSearched version list first work (place + 1) (cond same (works + 1) works)
  searched_on spared goes same is_same =
      goes_on version list first work searched.work_is place works searched within (spared_here spared) (λ unit is. ap (ends version unit work works) here ∙ sym (goes unit is)) same (ap (share_a_unit work) here ∙ is_same)
