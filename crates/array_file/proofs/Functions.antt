-- What the functions of the reader give, by what they are given.
use Rattle.std.proofs.Common.{◌≡◌, ◌≢◌, ◌⊎◌, inl, inr, ℕ, ◌+◌, ◌<◌, ◌≤◌, Bool, true, false, IsTrue, ◌↔◌, List, [], ◌∷◌, ◌++◌, length, Some, None, Result, Ok, Err, refl, sym, ap, subst, ◌∙◌, arith, Contains, All}
use Rattle.std.specs.Prelude.{ℤ, pos, neg_ℤ, MatchResult}
use Rattle.std.specs.Int.{w64, cast_signed, cast_unsigned}
use Rattle.std.specs.Int.RustNames.{FitsSigned}
use Rattle.std.proofs.lemmas.Int.{to_z-of_z, ints}
use Rattle.array_file.specs.Words.{too_large}
use Rattle.std.proofs.lemmas.List.Elements.{All-push, Contains-append_left, Contains-push, Contains-push_cases}
use Rattle.ven_base.specs.Elem.{IsElement}
use Rattle.ven_base.specs.Extent.{IsExtent, elements_of}
use Rattle.ven_base.specs.Grid.{Grid}
use Rattle.ven_base.specs.Pairs.{Pairs, ArePairs, names_of}
use Rattle.array_file.specs.declared.fault.ArrayFault.{ArrayFault}
use Rattle.array_file.specs.declared.fault.ArrayFault.TheVariants as answers
use Rattle.array_file.specs.declared.phase.Heading.{Heading}
use Rattle.array_file.specs.declared.phase.Opening.{Opening}
use Rattle.array_file.specs.declared.phase.Phase.{Phase}
use Rattle.array_file.specs.declared.phase.Phase.TheVariants as phases
use Rattle.array_file.specs.declared.reading.Reading.{Reading}
use Rattle.array_file.specs.declared.word.Word.{Word}
use Rattle.array_file.specs.declared.word.Word.TheVariants as words
use Rattle.array_file.specs.Reading.{State, Begin, AfterName, AfterType, AfterOpen, AfterRows, AfterComma, AfterCols, Values, AfterMinus, Stuck, with_value, step, ending, IsNew, IsGood}
use Rattle.array_file.specs.Steps.{grid_of, state_of, state_in, IsFresh, begun_at, IsReady, IsOther, IsTaking, IsRefusal, IsRefusalIn, ComesAgain, IsMiscounted, BeginsAt, IsPushed, IsWrongValue, IsWrongEnd, IsEnding, IsEndRefusal}
use Rattle.array_file.proofs.Goodness.{names_push}

-- both sides of a result
pub result_maps : {A E : Type 0} (P Q : A → Type 0) (R S : E → Type 0) (r : Result A E) → MatchResult r P R → ((x : A) → P x → Q x) → ((e : E) → R e → S e) → MatchResult r Q S
result_maps P Q R S (Ok x) h good bad = good x h
result_maps P Q R S (Err e) h good bad = bad e h

-- a phase's state isn't stuck
state_goes : (done : Pairs) (phase : Phase) (values : List ℤ) → state_of done phase values ≢ Stuck
state_goes done phases.Begin values e = absurd (cc)
state_goes done (phases.AfterName name) values e = absurd (cc)
state_goes done (phases.AfterType name elem) values e = absurd (cc)
state_goes done (phases.AfterOpen opening) values e = absurd (cc)
state_goes done (phases.AfterRows opening rows) values e = absurd (cc)
state_goes done (phases.AfterComma opening rows) values e = absurd (cc)
state_goes done (phases.AfterCols opening rows cols) values e = absurd (cc)
state_goes done (phases.Values heading) values e = absurd (cc)
state_goes done (phases.AfterMinus heading at) values e = absurd (cc)

other_good : (done : Pairs) (phase : Phase) (values : List ℤ) (word : Word) → IsOther phase word → IsGood (state_of done phase values) → step (state_of done phase values) word ≢ Stuck → IsGood (step (state_of done phase values) word)
other_good done (phases.AfterName name) values (words.Elem elem) other h goes = h
other_good done (phases.AfterType name elem) values words.Open other h goes = h
other_good done (phases.AfterOpen opening) values (words.Number rows) other h goes = h
other_good done (phases.AfterRows opening rows) values words.Comma other h goes = h
other_good done (phases.AfterComma opening rows) values (words.Number cols) other h goes = h
other_good done (phases.Values heading) values words.Minus other h goes = h
other_good done (phases.Values heading) values (words.Number n) other h goes = absurd other
other_good done (phases.AfterMinus heading at) values (words.Number n) other h goes = absurd other
other_good done phase values (words.Name name) other h goes = absurd other
other_good done phase values words.Close other h goes = absurd other
other_good done phase values word other h goes = absurd (goes refl)

pub moved_good : (done : Pairs) (phase next : Phase) (values : List ℤ) (word : Word) → IsOther phase word → IsGood (state_of done phase values) → state_of done next values ≡ step (state_of done phase values) word → IsGood (state_of done next values)
moved_good done phase next values word other h is = subst IsGood (sym is) (other_good done phase values word other h (λ e. state_goes done next values (is ∙ e)))

-- ---- values

-- numbers that are passed on
pub kept_plain : (v : ℤ) (n : ℕ) → v ≡ pos n → n ≤ too_large → cast_signed w64 (cast_unsigned w64 v) ≡ pos n
kept_plain v n is small = let fits : FitsSigned w64 v = rw is (omega (arith, ints)) in to_z-of_z w64 v fits ∙ is

pub kept_negative : (v : ℤ) (n : ℕ) → v ≡ neg_ℤ (pos n) → n ≤ too_large → cast_signed w64 (cast_unsigned w64 v) ≡ neg_ℤ (pos n)
kept_negative v n is small = let fits : FitsSigned w64 v = rw is (omega (arith, ints)) in to_z-of_z w64 v fits ∙ is

pushed : (old new : Reading) (heading : Heading) (value : ℤ) (word : Word) (at : ℕ) → IsNew old.arrays heading.name × IsExtent heading.shape × All (IsElement heading.elem) old.values.items → IsPushed heading value old new → step (state_in old) word ≡ Values old.arrays heading.name (with_value (grid_of heading old.values.items) value) → IsFresh new.arrays new.phase new.values.items → IsTaking old word at new
pushed old new heading value word at (fresh, extent, typed) p stepped clear = record {
  is = p.state ∙ sym stepped;
  good = subst IsGood (sym p.state) (fresh, extent, All-push (IsElement heading.elem) old.values.items value typed p.typed);
  begins = subst (λ t. BeginsAt t (begun_at new.phase) (begun_at old.phase) at) (sym p.state) tt;
  fresh = clear;
  from = p.from;
}

-- a state of values comes from no fresh phase
values_fresh : (done done2 : Pairs) (phase : Phase) (values : List ℤ) (name : List ℕ) (grid : Grid) → state_of done phase values ≡ Values done2 name grid → IsFresh done phase values
values_fresh done done2 (phases.Values heading) values name grid e = tt
values_fresh done done2 (phases.AfterMinus heading at) values name grid e = tt
values_fresh done done2 phases.Begin values name grid e = absurd (cc)
values_fresh done done2 (phases.AfterName n) values name grid e = absurd (cc)
values_fresh done done2 (phases.AfterType n elem) values name grid e = absurd (cc)
values_fresh done done2 (phases.AfterOpen opening) values name grid e = absurd (cc)
values_fresh done done2 (phases.AfterRows opening rows) values name grid e = absurd (cc)
values_fresh done done2 (phases.AfterComma opening rows) values name grid e = absurd (cc)
values_fresh done done2 (phases.AfterCols opening rows cols) values name grid e = absurd (cc)

pushed_fresh : (old new : Reading) (heading : Heading) (value : ℤ) → IsPushed heading value old new → IsFresh new.arrays new.phase new.values.items
pushed_fresh old new heading value p = values_fresh new.arrays old.arrays new.phase new.values.items heading.name (with_value (grid_of heading old.values.items) value) p.state

pub pushed_plain : (old new : Reading) (heading : Heading) (value : ℤ) (n at : ℕ) → value ≡ pos n → old.phase ≡ phases.Values heading → IsReady old → IsPushed heading value old new → IsTaking old (words.Number n) at new
pushed_plain old new heading value n at same phase ready p =
    pushed old new heading value (words.Number n) at (subst (λ ph. IsGood (state_of old.arrays ph old.values.items)) phase ready.good) p
    (ap (λ ph. step (state_of old.arrays ph old.values.items) (words.Number n)) phase ∙ ap (λ v. Values old.arrays heading.name (with_value (grid_of heading old.values.items) v)) (sym same))
    (pushed_fresh old new heading value p)

pub pushed_negative : (old new : Reading) (heading : Heading) (value : ℤ) (n at place : ℕ) → value ≡ neg_ℤ (pos n) → old.phase ≡ phases.AfterMinus heading place → IsReady old → IsPushed heading value old new → IsTaking old (words.Number n) at new
pushed_negative old new heading value n at place same phase ready p =
    pushed old new heading value (words.Number n) at (subst (λ ph. IsGood (state_of old.arrays ph old.values.items)) phase ready.good) p
    (ap (λ ph. step (state_of old.arrays ph old.values.items) (words.Number n)) phase ∙ ap (λ v. Values old.arrays heading.name (with_value (grid_of heading old.values.items) v)) (sym same))
    (pushed_fresh old new heading value p)

pub wrong_plain : (old : Reading) (heading : Heading) (value : ℤ) (n at : ℕ) (fault : ArrayFault) → value ≡ pos n → old.phase ≡ phases.Values heading → IsWrongValue heading value at fault → IsRefusalIn old (words.Number n) at fault
wrong_plain old heading value n at fault same phase h = subst (λ ph. IsRefusal (state_of old.arrays ph old.values.items) (begun_at ph) (words.Number n) at fault) (sym phase) (by fault h)
  where
    by : (f : ArrayFault) → IsWrongValue heading value at f → IsRefusal (state_of old.arrays (phases.Values heading) old.values.items) 0 (words.Number n) at f
    by (answers.OutOfType place) (here, bad) = (here, subst (λ v. ¬ IsElement heading.elem v) same bad)
    by answers.Memory w = tt
    by f w = absurd w

pub wrong_negative : (old : Reading) (heading : Heading) (value : ℤ) (n at place : ℕ) (fault : ArrayFault) → value ≡ neg_ℤ (pos n) → old.phase ≡ phases.AfterMinus heading place → IsWrongValue heading value place fault → IsRefusalIn old (words.Number n) at fault
wrong_negative old heading value n at place fault same phase h = subst (λ ph. IsRefusal (state_of old.arrays ph old.values.items) (begun_at ph) (words.Number n) at fault) (sym phase) (by fault h)
  where
    by : (f : ArrayFault) → IsWrongValue heading value place f → IsRefusal (state_of old.arrays (phases.AfterMinus heading place) old.values.items) place (words.Number n) at f
    by (answers.OutOfType there) (here, bad) = (here, subst (λ v. ¬ IsElement heading.elem v) same bad)
    by answers.Memory w = tt
    by f w = absurd w

-- ---- names

pub comes_again : (old : Reading) (heading : Heading) (name : List ℕ) (at : ℕ) → old.phase ≡ phases.Values heading → (heading.name ≡ name) ⊎ Contains (names_of old.arrays) name → IsRefusalIn old (words.Name name) at (answers.Twice name)
comes_again old heading name at phase h = (refl, subst (λ ph. ComesAgain (state_of old.arrays ph old.values.items) name) (sym phase) (there h))
  where
    there : (heading.name ≡ name) ⊎ Contains (names_of old.arrays) name → Contains (names_of (old.arrays ++ (heading.name, grid_of heading old.values.items) ∷ [])) name
    there (inl same) = subst (λ ns. Contains ns name) (sym (names_push old.arrays heading.name (grid_of heading old.values.items))) (subst (λ x. Contains (names_of old.arrays ++ x ∷ []) name) (sym same) (Contains-push (names_of old.arrays) name))
    there (inr c) = subst (λ ns. Contains ns name) (sym (names_push old.arrays heading.name (grid_of heading old.values.items))) (Contains-append_left (names_of old.arrays) (heading.name ∷ []) name c)

pub is_new : (done : Pairs) (own name : List ℕ) (grid : Grid) → ¬ Contains (names_of done) name → own ≢ name → ¬ Contains (names_of (done ++ (own, grid) ∷ [])) name
is_new done own name grid absent other there =
    by (Contains-push_cases (names_of done) own name (subst (λ ns. Contains ns name) (names_push done own grid) there))
  where
    by : Contains (names_of done) name ⊎ (own ≡ name) → ⊥
    by (inl c) = absent c
    by (inr e) = other e

pub miscounted : (old : Reading) (heading : Heading) (name : List ℕ) (at : ℕ) (fault : ArrayFault) → old.phase ≡ phases.Values heading → ¬ ((heading.name ≡ name) ⊎ Contains (names_of old.arrays) name) → IsWrongEnd heading old.values.items fault → IsRefusalIn old (words.Name name) at fault
miscounted old heading name at fault phase new h = subst (λ ph. IsRefusal (state_of old.arrays ph old.values.items) (begun_at ph) (words.Name name) at fault) (sym phase) (by fault h)
  where
    by : (f : ArrayFault) → IsWrongEnd heading old.values.items f → IsRefusal (Values old.arrays heading.name (grid_of heading old.values.items)) 0 (words.Name name) at f
    by (answers.CountWrong wrong need have) (named, need_is, have_is, differ) =
        (name, refl, is_new old.arrays heading.name name (grid_of heading old.values.items) (λ c. new (inr c)) (λ e. new (inl e)), (named, need_is, have_is, differ))
    by answers.Memory w = tt
    by f w = absurd w

pub end_miscounted : (old : Reading) (heading : Heading) (at : ℕ) (fault : ArrayFault) → old.phase ≡ phases.Values heading → IsWrongEnd heading old.values.items fault → IsEndRefusal (state_in old) at fault
end_miscounted old heading at fault phase h = subst (λ ph. IsEndRefusal (state_of old.arrays ph old.values.items) at fault) (sym phase) (by fault h)
  where
    by : (f : ArrayFault) → IsWrongEnd heading old.values.items f → IsEndRefusal (Values old.arrays heading.name (grid_of heading old.values.items)) at f
    by (answers.CountWrong wrong need have) w = w
    by answers.Memory w = tt
    by f w = absurd w

-- the state behind a name
pub named : (old new : Reading) (heading : Heading) (name : List ℕ) (at : ℕ) → old.phase ≡ phases.Values heading → ¬ ((heading.name ≡ name) ⊎ Contains (names_of old.arrays) name) → ArePairs new.arrays → new.arrays ≡ old.arrays ++ (heading.name, grid_of heading old.values.items) ∷ [] → new.phase ≡ phases.AfterName name → new.values.items ≡ [] → new.from ≡ old.from → IsTaking old (words.Name name) at new
named old new heading name at phase fresh whole arrays now empty from =
    let state : state_in new ≡ AfterName new.arrays name = ap (λ ph. state_of new.arrays ph new.values.items) now in
    let grid = grid_of heading old.values.items in
    record {
      is = state ∙ ap (λ p. AfterName p name) arrays ∙ ap (λ ph. step (state_of old.arrays ph old.values.items) (words.Name name)) (sym phase);
      good = subst IsGood (sym state) (record {
        whole = whole;
        new = subst (λ p. ¬ Contains (names_of p) name) (sym arrays) (is_new old.arrays heading.name name grid (λ c. fresh (inr c)) (λ e. fresh (inl e)));
      });
      begins = subst (λ t. BeginsAt t (begun_at new.phase) (begun_at old.phase) at) (sym state) tt;
      fresh = subst (λ ph. IsFresh new.arrays ph new.values.items) (sym now) empty;
      from = from;
    }

no_names : (name : List ℕ) → ¬ Contains (names_of []) name
no_names name (k, lt, is) = absurd (omega arith)

-- the state behind the first name
pub first_named : (old new : Reading) (name : List ℕ) (at : ℕ) → old.phase ≡ phases.Begin → IsReady old → new.arrays ≡ old.arrays → new.phase ≡ phases.AfterName name → new.values.items ≡ old.values.items → new.from ≡ old.from → IsTaking old (words.Name name) at new
first_named old new name at phase ready arrays now values from =
    let state : state_in new ≡ AfterName old.arrays name = ap (λ ph. state_of new.arrays ph new.values.items) now ∙ ap (λ p. AfterName p name) arrays in
    let fresh : IsFresh old.arrays phases.Begin old.values.items = subst (λ ph. IsFresh old.arrays ph old.values.items) phase ready.fresh in
    record {
      is = state ∙ ap (λ ph. step (state_of old.arrays ph old.values.items) (words.Name name)) (sym phase);
      good = subst IsGood (sym state) (record {
        whole = subst (λ ph. IsGood (state_of old.arrays ph old.values.items)) phase ready.good;
        new = subst (λ p. ¬ Contains (names_of p) name) (sym fresh.0) (no_names name);
      });
      begins = subst (λ t. BeginsAt t (begun_at new.phase) (begun_at old.phase) at) (sym state) tt;
      fresh = subst (λ ph. IsFresh new.arrays ph new.values.items) (sym now) (values ∙ fresh.1);
      from = from;
    }

-- the state behind a shape
pub shaped : (old new : Reading) (heading : Heading) (opening : Opening) (rows cols at : ℕ) → old.phase ≡ phases.AfterCols opening rows cols → IsReady old → new.arrays ≡ old.arrays → new.phase ≡ phases.Values heading → new.values.items ≡ old.values.items → new.from ≡ old.from
    → heading.name ≡ opening.name → heading.elem ≡ opening.elem → heading.shape ≡ record { rows = rows; cols = cols } → IsExtent (record { rows = rows; cols = cols }) → IsTaking old words.Close at new
shaped old new heading opening rows cols at phase ready arrays now values from name elem shape extent =
    let fresh : old.values.items ≡ [] = subst (λ ph. IsFresh old.arrays ph old.values.items) phase ready.fresh in
    let empty : new.values.items ≡ [] = values ∙ fresh in
    let grid : Grid = record { elem = opening.elem; shape = record { rows = rows; cols = cols }; values = [] } in
    let grids : grid_of heading new.values.items ≡ grid = λ i. record { elem = elem i; shape = shape i; values = empty i } in
    let state : state_in new ≡ Values old.arrays opening.name grid =
    ap (λ ph. state_of new.arrays ph new.values.items) now ∙ ap (λ p. Values p heading.name (grid_of heading new.values.items)) arrays ∙ ap (λ n. Values old.arrays n (grid_of heading new.values.items)) name ∙ ap (Values old.arrays opening.name) grids in
    let new_name : IsNew old.arrays opening.name = subst (λ ph. IsGood (state_of old.arrays ph old.values.items)) phase ready.good in
    record {
      is = state ∙ ap (λ ph. step (state_of old.arrays ph old.values.items) words.Close) (sym phase);
      good = subst IsGood (sym state) (new_name, extent, λ k d lt. absurd (omega arith));
      begins = subst (λ t. BeginsAt t (begun_at new.phase) (begun_at old.phase) at) (sym state) tt;
      fresh = subst (λ ph. IsFresh new.arrays ph new.values.items) (sym now) tt;
      from = from;
    }

-- where the text ends behind values
pub all_read : (old new : Reading) (heading : Heading) → old.phase ≡ phases.Values heading → ArePairs new.arrays → new.arrays ≡ old.arrays ++ (heading.name, grid_of heading old.values.items) ∷ [] → IsEnding old new
all_read old new heading phase whole arrays = record {
  is = ap (λ ph. ending (state_of old.arrays ph old.values.items)) phase ∙ ap (λ p. Some p) (sym arrays);
  whole = whole;
}

pub test_false : (b : Bool) (P : Type 0) → (IsTrue b ↔ P) → b ≡ false → ¬ P
test_false b P says off p = let on : b ≡ true = says.1 p in let e : true ≡ false = sym on ∙ off in absurd (cc)

pub no_arrays : ArePairs []
no_arrays = record {
  distinct = λ i j d lt within. absurd (omega arith);
  named = λ k d lt. absurd (omega arith);
  arrays = λ k d lt. absurd (omega arith);
  counted = omega arith;
}
