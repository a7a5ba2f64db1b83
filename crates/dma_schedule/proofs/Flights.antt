-- Works that may be in flight at a place of a list: what each issue meets, and what is left of them after it.
use Rattle.std.proofs.Common.{◌≡◌, ◌⊎◌, inl, inr, ℕ, ◌+◌, sym, refl, subst, ap, ◌∙◌, List, [], ◌∷◌, ◌++◌, All, Bool, true, false, cond, not, ◌&&◌, ◌||◌, nat_le}
use Rattle.std.specs.Prelude.{⊤, ◌==◌}
use Rattle.std.proofs.lemmas.List.Elements.{All-head, All-tail, All-cons, All-nil, All-weaker}
use Rattle.ven_base.specs.Store.{Place, in_cells, in_memory}
use Rattle.venice_isa.specs.declared.instr.Version.TheVariants.{Two}
use Rattle.venice_isa.specs.declared.issue.Issue.{Issue}
use Rattle.venice_isa.specs.declared.issue.Issue.TheVariants.{Vector, Read, Write, RWait, WWait, VWait, TWait}
use Rattle.venice_isa.specs.Footprint.{Reads, Writes, Conflicts, writes_what_is_read, reads_what_is_written, both_write}
use Rattle.venice_isa.specs.Units.{Unit, Lanes, ReadChannel, WriteChannel, is_of, is_work, keep_their_order}
use Rattle.venice_isa.specs.Flight.{ends, may_be_in_flight, IsDisciplined}

-- ---- what a wait ends

abbrev pub ends_work : (by work : Issue) → Bool
ends_work VWait (Vector work) = true
ends_work (RWait most) (Read work) = nat_le most 0
ends_work (WWait most) (Write work) = nat_le most 0
ends_work (TWait tag) (Read work) = work.tag == tag
ends_work (TWait tag) (Write work) = work.tag == tag
ends_work _ _ = false

abbrev pub still : (by : Issue) → List Issue → List Issue
still by [] = []
still by (work ∷ works) = cond (ends_work by work) (still by works) (work ∷ still by works)

abbrev pub passing : (by : Issue) → List Issue → List Issue
passing by flights = cond (is_work by) (by ∷ flights) (still by flights)

abbrev pub flights_after : List Issue → List Issue → List Issue
flights_after flights [] = flights
flights_after flights (issue ∷ rest) = flights_after (passing issue flights) rest

-- an issue may meet a work in flight
abbrev pub MayMeet : Issue → Issue → Type 0
MayMeet issue work = keep_their_order Two work issue ≡ false → ¬ Conflicts work issue

abbrev pub Safe : List Issue → List Issue → Type 0
Safe flights [] = ⊤
Safe flights (issue ∷ rest) = All (MayMeet issue) flights × Safe (passing issue flights) rest

-- where all that may be in flight is of one kind, the block is safe, and all that may be in flight after it is of another
pub record Guards (P : Issue → Type 0) (block : List Issue) (Q : Issue → Type 0) : Type 0 where
  pub safe : (flights : List Issue) → All P flights → Safe flights block × All Q (flights_after flights block)

-- ---- blocks after one another

safe_append : (first second flights : List Issue) → Safe flights first → Safe (flights_after flights first) second → Safe flights (first ++ second)
safe_append [] second flights safe then = then
safe_append (issue ∷ first) second flights safe then = (safe.0, safe_append first second (passing issue flights) safe.1 then)

after_append : (first second flights : List Issue) → flights_after flights (first ++ second) ≡ flights_after (flights_after flights first) second
after_append [] second flights = refl
after_append (issue ∷ first) second flights = after_append first second (passing issue flights)

pub guards_append : {P Q R : Issue → Type 0} {first second : List Issue} → Guards P first Q → Guards Q second R → Guards P (first ++ second) R
guards_append {R = R} {first = first} {second = second} one other = record {
  safe = λ flights all.
      let a = one.safe flights all in
      let b = other.safe (flights_after flights first) a.1 in
      (safe_append first second flights a.0 b.0, subst (All R) (sym (after_append first second flights)) b.1);
}

pub guards_weaker : {P Q R : Issue → Type 0} {block : List Issue} → Guards P block Q → ((w : Issue) → Q w → R w) → Guards P block R
guards_weaker {Q = Q} {R = R} {block = block} guards weaker = record {
  safe = λ flights all. let a = guards.safe flights all in (a.0, All-weaker Q R weaker (flights_after flights block) a.1);
}

pub guards_none : {P : Issue → Type 0} → Guards P [] P
guards_none = record { safe = λ flights all. (tt, all) }

-- ---- a wait

pub touches_none : (issue : Issue) (place : Place) → is_work issue ≡ false → (Reads issue place ⊎ Writes issue place) → ⊥
touches_none (Vector work) place none either = cc
touches_none (Read work) place none either = cc
touches_none (Write work) place none either = cc
touches_none (RWait count) (in_cells p) none either = elim either [ inl h ↦ h | inr h ↦ h ]
touches_none (RWait count) (in_memory p) none either = elim either [ inl h ↦ h | inr h ↦ h ]
touches_none (WWait count) (in_cells p) none either = elim either [ inl h ↦ h | inr h ↦ h ]
touches_none (WWait count) (in_memory p) none either = elim either [ inl h ↦ h | inr h ↦ h ]
touches_none VWait (in_cells p) none either = elim either [ inl h ↦ h | inr h ↦ h ]
touches_none VWait (in_memory p) none either = elim either [ inl h ↦ h | inr h ↦ h ]
touches_none (TWait tag) (in_cells p) none either = elim either [ inl h ↦ h | inr h ↦ h ]
touches_none (TWait tag) (in_memory p) none either = elim either [ inl h ↦ h | inr h ↦ h ]

wait_meets : (by work : Issue) → is_work by ≡ false → MayMeet by work
wait_meets by work none order (writes_what_is_read place w r) = touches_none by place none (inl r)
wait_meets by work none order (reads_what_is_written place r w) = touches_none by place none (inr w)
wait_meets by work none order (both_write place v w) = touches_none by place none (inr w)

all_of : (P : Issue → Type 0) → ((w : Issue) → P w) → (list : List Issue) → All P list
all_of P holds [] = All-nil P
all_of P holds (w ∷ list) = All-cons P w list (holds w) (all_of P holds list)

all_still : (P : Issue → Type 0) (by : Issue) (flights : List Issue) → All P flights → All (λ w. P w × (ends_work by w ≡ false)) (still by flights)
all_still P by [] all = All-nil _
all_still P by (work ∷ works) all = go (ends_work by work) refl (all_still P by works (All-tail P work works all))
  where
    go : (ended : Bool) → ends_work by work ≡ ended → All (λ w. P w × (ends_work by w ≡ false)) (still by works) → All (λ w. P w × (ends_work by w ≡ false)) (cond ended (still by works) (work ∷ still by works))
    go true e rest = rest
    go false e rest = All-cons (λ w. P w × (ends_work by w ≡ false)) work (still by works) (All-head P work works all, e) rest

-- a wait leaves those that it doesn't end
pub guards_wait : (P : Issue → Type 0) (by : Issue) → is_work by ≡ false → Guards P (by ∷ []) (λ w. P w × (ends_work by w ≡ false))
guards_wait P by none = record {
  safe = λ flights all. (
    (all_of (MayMeet by) (λ w. wait_meets by w none) flights, tt),
    subst (λ b. All (λ w. P w × (ends_work by w ≡ false)) (cond b (by ∷ flights) (still by flights))) (sym none) (all_still P by flights all),
  );
}

-- ---- a block of works

-- no work meets an earlier one of its block
abbrev pub MeetNone : List Issue → Type 0
MeetNone [] = ⊤
MeetNone (work ∷ works) = All (λ later. MayMeet later work) works × MeetNone works

works_safe : (K R : Issue → Type 0) → ((w : Issue) → K w → is_work w ≡ true) → ((w : Issue) → K w → R w) → (block flights : List Issue) → All K block → MeetNone block
    → All R flights → All (λ i. All (MayMeet i) flights) block → Safe flights block × All R (flights_after flights block)
works_safe K R works into [] flights kinds apart all meets = (tt, all)
works_safe K R works into (work ∷ block) flights kinds apart all meets =
    let kind = All-head K work block kinds in
    let next : passing work flights ≡ work ∷ flights = ap (λ b. cond b (work ∷ flights) (still work flights)) (works work kind) in
    let rest = works_safe K R works into block (work ∷ flights) (All-tail K work block kinds) apart.1 (All-cons R work flights (into work kind) all)
    (both_meet block apart.0 (All-tail (λ i. All (MayMeet i) flights) work block meets)) in
    ((All-head (λ i. All (MayMeet i) flights) work block meets, subst (λ f. Safe f block) (sym next) rest.0), subst (λ f. All R (flights_after f block)) (sym next) rest.1)
  where
    both_meet : (block : List Issue) → All (λ later. MayMeet later work) block → All (λ i. All (MayMeet i) flights) block → All (λ i. All (MayMeet i) (work ∷ flights)) block
    both_meet [] mine theirs = All-nil _
    both_meet (i ∷ block) mine theirs =
        All-cons (λ i. All (MayMeet i) (work ∷ flights)) i block
        (All-cons (MayMeet i) work flights (All-head (λ later. MayMeet later work) i block mine) (All-head (λ i. All (MayMeet i) flights) i block theirs))
        (both_meet block (All-tail (λ later. MayMeet later work) i block mine) (All-tail (λ i. All (MayMeet i) flights) i block theirs))

pub guards_works : (P K : Issue → Type 0) (block : List Issue) → ((w : Issue) → K w → is_work w ≡ true) → All K block → MeetNone block
    → ((w i : Issue) → P w → K i → MayMeet i w) → Guards P block (λ w. P w ⊎ K w)
guards_works P K block works kinds apart meets = record {
  safe = λ flights all.
      works_safe K (λ w. P w ⊎ K w) works (λ w k. inr k) block flights kinds apart (All-weaker P (λ w. P w ⊎ K w) (λ w p. inl p) flights all)
      (All-weaker K (λ i. All (MayMeet i) flights) (λ i k. All-weaker P (MayMeet i) (λ w p. meets w i p k) flights all) block kinds);
}

-- ---- a safe list is disciplined

abbrev Has : Issue → List Issue → Type 0
Has work [] = ⊥
Has work (other ∷ works) = (work ≡ other) ⊎ Has work works

has_all : (P : Issue → Type 0) (work : Issue) (works : List Issue) → Has work works → All P works → P work
has_all P work [] has all = absurd has
has_all P work (other ∷ works) has all = elim has [ inl same ↦ subst P (sym same) (All-head P other works all) | inr later ↦ has_all P work works later (All-tail P other works all) ]

has_still : (by work : Issue) (works : List Issue) → ends_work by work ≡ false → Has work works → Has work (still by works)
has_still by work [] goes has = absurd has
has_still by work (other ∷ works) goes has = go (ends_work by other) refl (has_still by work works goes)
  where
    go : (ended : Bool) → ends_work by other ≡ ended → (Has work works → Has work (still by works)) → Has work (cond ended (still by works) (other ∷ still by works))
    go true e rest = elim has [ inl same ↦ absurd (true_is_false (sym e ∙ ap (ends_work by) (sym same) ∙ goes)) | inr later ↦ rest later ]
      where
        true_is_false : true ≡ false → ⊥
        true_is_false e = cc
    go false e rest = elim has [ inl same ↦ inl same | inr later ↦ inr (rest later) ]

-- what leaves a work in flight ends it by no wait
neither : (a b : Bool) → (a || b) ≡ false → a ≡ false
neither true b e = e
neither false b e = refl

-- what doesn't end a work leaves it in flight
not_ended : (unit : Unit) (n : ℕ) (first by : Issue) → is_of unit first ≡ true → ends Two unit first n by ≡ false → ends_work by first ≡ false
not_ended Lanes n (Vector w) (Vector v) is goes = refl
not_ended Lanes n (Vector w) (Read v) is goes = refl
not_ended Lanes n (Vector w) (Write v) is goes = refl
not_ended Lanes n (Vector w) (RWait v) is goes = refl
not_ended Lanes n (Vector w) (WWait v) is goes = refl
not_ended Lanes n (Vector w) VWait is goes = goes
not_ended Lanes n (Vector w) (TWait v) is goes = refl
not_ended ReadChannel n (Read w) (Vector v) is goes = refl
not_ended ReadChannel n (Read w) (Read v) is goes = refl
not_ended ReadChannel n (Read w) (Write v) is goes = refl
not_ended ReadChannel n (Read w) (RWait v) is goes = neither (nat_le v 0) false goes
not_ended ReadChannel n (Read w) (WWait v) is goes = refl
not_ended ReadChannel n (Read w) VWait is goes = refl
not_ended ReadChannel n (Read w) (TWait v) is goes = goes
not_ended WriteChannel n (Write w) (Vector v) is goes = refl
not_ended WriteChannel n (Write w) (Read v) is goes = refl
not_ended WriteChannel n (Write w) (Write v) is goes = refl
not_ended WriteChannel n (Write w) (RWait v) is goes = refl
not_ended WriteChannel n (Write w) (WWait v) is goes = neither (nat_le v 0) false goes
not_ended WriteChannel n (Write w) VWait is goes = refl
not_ended WriteChannel n (Write w) (TWait v) is goes = goes
not_ended unit n first by is goes = cc

not_true : (a : Bool) → not a ≡ true → a ≡ false
not_true true e = cc
not_true false e = refl

both_true : (a b : Bool) → (a && b) ≡ true → (a ≡ true) × (b ≡ true)
both_true true b e = (refl, e)
both_true false b e = cc

stays : (unit : Unit) (n : ℕ) (first : Issue) (between flights : List Issue) → is_of unit first ≡ true → may_be_in_flight Two unit first n between ≡ true → Has first flights
    → Has first (flights_after flights between)
stays unit n first [] flights is flies has = has
stays unit n first (by ∷ between) flights is flies has =
    let both = both_true (not (ends Two unit first n by)) _ flies in
    stays unit (cond (is_of unit by) (n + 1) n) first between (passing by flights) is both.1 (go (is_work by) (not_true _ both.0))
  where
    go : (work : Bool) → ends Two unit first n by ≡ false → Has first (cond work (by ∷ flights) (still by flights))
    go true goes = inr has
    go false goes = has_still by first flights (not_ended unit n first by is goes) has

safe_rest : (before rest flights : List Issue) → Safe flights (before ++ rest) → Safe (flights_after flights before) rest
safe_rest [] rest flights safe = safe
safe_rest (issue ∷ before) rest flights safe = safe_rest before rest (passing issue flights) safe.1

pub unit_works : (unit : Unit) (issue : Issue) → is_of unit issue ≡ true → is_work issue ≡ true
unit_works Lanes (Vector w) is = refl
unit_works ReadChannel (Read w) is = refl
unit_works WriteChannel (Write w) is = refl
unit_works unit issue is = cc

pub is_disciplined : (list : List Issue) → Safe [] list → IsDisciplined Two list
is_disciplined list safe pair race =
    let first = race.first in
    let rest = safe_rest race.before (first ∷ (race.between ++ race.second ∷ race.after)) [] (subst (Safe []) race.list_is safe) in
    let flights = flights_after [] race.before in
    let here = safe_rest race.between (race.second ∷ race.after) (passing first flights) rest.1 in
    let new : passing first flights ≡ first ∷ flights = ap (λ b. cond b (first ∷ flights) (still first flights)) (unit_works race.unit first race.is_unit) in
    let has : Has first (passing first flights) = subst (Has first) (sym new) (inl refl) in
    has_all (MayMeet race.second) first (flights_after (passing first flights) race.between)
    (stays race.unit 0 first race.between (passing first flights) race.is_unit race.in_flight has) here.0 race.unordered race.conflict
