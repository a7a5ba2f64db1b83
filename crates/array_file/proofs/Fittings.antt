-- The first misfit.
use Rattle.std.proofs.Common.{◌≡◌, ◌≢◌, ◌⊎◌, inl, inr, ⊎_elim, ℕ, zero, suc, ◌+◌, ◌<◌, ◌≤◌, Bool, true, false, List, [], ◌∷◌, length, get_or, Option, Some, None, refl, sym, ap, subst, ◌∙◌, arith, Contains}
use Rattle.std.specs.Prelude.{slice_get}
use Rattle.std.proofs.lemmas.Bool.{cases_lt}
use Rattle.std.proofs.lemmas.Option.{slice_get_within, slice_get-get_or, get_or_from_slice_get}
use Rattle.ven_base.specs.declared.entry.Entry.{Entry}
use Rattle.ven_base.specs.First.{IsFirst}
use Rattle.ven_base.specs.Grid.{Grid}
use Rattle.ven_base.specs.Pairs.{Pairs, names_of, array_named}
use Rattle.array_file.specs.declared.fitting.FitFault.{FitFault}
use Rattle.array_file.specs.declared.fitting.FitFault.TheVariants as answers
use Rattle.array_file.specs.Fitting.{IsInput, ListsInput, HasArrayFor, Fits, Misfit, Missing, TypeWrong, ShapeWrong, Extra, IsMisfit, place_in, rank_of, answer_of, IsUnfit}
use Rattle.array_file.specs.Matching.{IsInputNamed, NoneUpTo, FitsEntry, FitsUpTo, Refuses, NamesUpTo}
use Rattle.array_file.proofs.Following.{none_some, some_is}

same_entry : (table : List Entry) (k : ℕ) (one other : Entry) → slice_get table k ≡ Some one → slice_get table k ≡ Some other → one ≡ other
same_entry table k one other h g = some_is one other (sym h ∙ g)

same_grid : (arrays : Pairs) (name : List ℕ) (one other : Grid) → array_named arrays name ≡ Some one → array_named arrays name ≡ Some other → one ≡ other
same_grid arrays name one other h g = some_is one other (sym h ∙ g)

-- a fitted entry has no misfit
no_missing : (arrays : Pairs) (table : List Entry) (k : ℕ) (entry : Entry) → FitsEntry arrays entry → IsMisfit arrays table (Missing k entry) → ⊥
no_missing arrays table k entry fits (is, none) = let (grid, has, elem, shape) = fits is.input in none_some grid (sym none ∙ has.is)

no_type : (arrays : Pairs) (table : List Entry) (k : ℕ) (entry : Entry) → FitsEntry arrays entry → IsMisfit arrays table (TypeWrong k entry) → ⊥
no_type arrays table k entry fits (is, (other, there, differ)) =
    let (grid, has, elem, shape) = fits is.input in
    differ (ap (λ (g : Grid). g.elem) (same_grid arrays entry.name other grid there.is has.is) ∙ elem)

no_shape : (arrays : Pairs) (table : List Entry) (k : ℕ) (entry : Entry) → FitsEntry arrays entry → IsMisfit arrays table (ShapeWrong k entry) → ⊥
no_shape arrays table k entry fits (is, (other, there, differ)) =
    let (grid, has, elem, shape) = fits is.input in
    differ (ap (λ (g : Grid). g.shape) (same_grid arrays entry.name other grid there.is has.is) ∙ shape)

-- no misfit comes before what isn't looked at yet
none_before : (arrays : Pairs) (table : List Entry) (n m : ℕ) → n ≤ length table → FitsUpTo arrays table n → NamesUpTo arrays table m → (other : Misfit) → IsMisfit arrays table other → (place_in table other < n) ⊎ ((n ≡ length table) × (place_in table other < n + m)) → ⊥
none_before arrays table n m within fits names (Missing k entry) h (inl lt) = no_missing arrays table k entry (fits k entry lt h.0.stands) h
none_before arrays table n m within fits names (TypeWrong k entry) h (inl lt) = no_type arrays table k entry (fits k entry lt h.0.stands) h
none_before arrays table n m within fits names (ShapeWrong k entry) h (inl lt) = no_shape arrays table k entry (fits k entry lt h.0.stands) h
none_before arrays table n m within fits names (Missing k entry) h (inr (all, lt)) = let in_table = slice_get_within table k entry h.0.stands in no_missing arrays table k entry (fits k entry (omega arith) h.0.stands) h
none_before arrays table n m within fits names (TypeWrong k entry) h (inr (all, lt)) = let in_table = slice_get_within table k entry h.0.stands in no_type arrays table k entry (fits k entry (omega arith) h.0.stands) h
none_before arrays table n m within fits names (ShapeWrong k entry) h (inr (all, lt)) = let in_table = slice_get_within table k entry h.0.stands in no_shape arrays table k entry (fits k entry (omega arith) h.0.stands) h
none_before arrays table n m within fits names (Extra k name) h (inr (all, lt)) = h.1 (names k name (omega arith) h.0)
none_before arrays table n m within fits names (Extra k name) h (inl lt) = absurd (omega arith)

-- the first misfit at an entry
first_at : (arrays : Pairs) (table : List Entry) (k : ℕ) (entry : Entry) (misfit : Misfit) → FitsUpTo arrays table k → slice_get table k ≡ Some entry → place_in table misfit ≡ k → IsMisfit arrays table misfit → ((other : Misfit) → IsMisfit arrays table other → place_in table other ≡ k → rank_of misfit ≤ rank_of other) → IsFirst (IsMisfit arrays table) (place_in table) rank_of misfit
first_at arrays table k entry misfit fits stands here holds least = record { here = holds; first = λ other h. by other h (cases_lt (place_in table other) k) (cases_lt k (place_in table other)) }
  where
    by : (other : Misfit) → IsMisfit arrays table other → (place_in table other < k) ⊎ (k ≤ place_in table other) → (k < place_in table other) ⊎ (place_in table other ≤ k) → (place_in table misfit < place_in table other) ⊎ ((place_in table misfit ≡ place_in table other) × (rank_of misfit ≤ rank_of other))
    by other h (inl lt) later = absurd (none_before arrays table k 0 (let in_table = slice_get_within table k entry stands in omega arith) fits (λ j name below is. absurd (omega arith)) other h (inl lt))
    by other h (inr le) (inl lt) = inl (omega arith)
    by other h (inr le) (inr ge) = inr (omega arith, least other h (omega arith))

pub entry_misfit : (arrays : Pairs) (table : List Entry) (k : ℕ) (entry : Entry) (fault : FitFault) → FitsUpTo arrays table k → slice_get table k ≡ Some entry → Refuses arrays entry fault → IsUnfit arrays table fault
entry_misfit arrays table k entry (answers.Missing name) fits stands (input, named, none) = record {
  misfit = Missing k entry;
  first = first_at arrays table k entry (Missing k entry) fits stands refl (record { stands = stands; input = input }, none) least;
  is = ap answers.Missing named;
}
  where
    least : (other : Misfit) → IsMisfit arrays table other → place_in table other ≡ k → 1 ≤ rank_of other
    least (Missing j e) h same = omega arith
    least (TypeWrong j e) h same = omega arith
    least (ShapeWrong j e) h same = omega arith
    least (Extra j n) h same = omega arith
entry_misfit arrays table k entry (answers.TypeWrong name) fits stands (input, named, (grid, has, differ)) = record {
  misfit = TypeWrong k entry;
  first = first_at arrays table k entry (TypeWrong k entry) fits stands refl (record { stands = stands; input = input }, (grid, has, differ)) least;
  is = ap answers.TypeWrong named;
}
  where
    least : (other : Misfit) → IsMisfit arrays table other → place_in table other ≡ k → 2 ≤ rank_of other
    least (Missing j e) h same =
        let entries : e ≡ entry = same_entry table j e entry h.0.stands (ap (slice_get table) same ∙ stands) in
        absurd (none_some grid (sym h.1 ∙ ap (λ (x : Entry). array_named arrays x.name) entries ∙ has.is))
    least (TypeWrong j e) h same = omega arith
    least (ShapeWrong j e) h same = omega arith
    least (Extra j n) h same = omega arith
entry_misfit arrays table k entry (answers.ShapeWrong name) fits stands (input, named, (grid, has, elem, differ)) = record {
  misfit = ShapeWrong k entry;
  first = first_at arrays table k entry (ShapeWrong k entry) fits stands refl (record { stands = stands; input = input }, (grid, has, differ)) least;
  is = ap answers.ShapeWrong named;
}
  where
    least : (other : Misfit) → IsMisfit arrays table other → place_in table other ≡ k → 3 ≤ rank_of other
    least (Missing j e) h same =
        let entries : e ≡ entry = same_entry table j e entry h.0.stands (ap (slice_get table) same ∙ stands) in
        absurd (none_some grid (sym h.1 ∙ ap (λ (x : Entry). array_named arrays x.name) entries ∙ has.is))
    least (TypeWrong j e) h same =
        let entries : e ≡ entry = same_entry table j e entry h.0.stands (ap (slice_get table) same ∙ stands) in
        let (other, there, wrong) = h.1 in
        let grids : other ≡ grid = same_grid arrays e.name other grid there.is (ap (λ (x : Entry). array_named arrays x.name) entries ∙ has.is) in
        absurd (wrong (ap (λ (g : Grid). g.elem) grids ∙ elem ∙ ap (λ (x : Entry). x.elem) (sym entries)))
    least (ShapeWrong j e) h same = omega arith
    least (Extra j n) h same = omega arith
entry_misfit arrays table k entry (answers.Extra name) fits stands refuses = absurd refuses

pub extra_misfit : (arrays : Pairs) (table : List Entry) (k : ℕ) (name : List ℕ) → FitsUpTo arrays table (length table) → NamesUpTo arrays table k → slice_get (names_of arrays) k ≡ Some name → ¬ ListsInput table name → IsUnfit arrays table (answers.Extra name)
extra_misfit arrays table k name fits names stands none = record {
  misfit = Extra k name;
  first = record { here = (stands, none); first = λ other h. by other h (cases_lt (place_in table other) (length table + k)) (cases_lt (length table + k) (place_in table other)) };
  is = refl;
}
  where
    least : (other : Misfit) → IsMisfit arrays table other → place_in table other ≡ length table + k → 4 ≤ rank_of other
    least (Missing j e) h same = let in_table = slice_get_within table j e h.0.stands in absurd (omega arith)
    least (TypeWrong j e) h same = let in_table = slice_get_within table j e h.0.stands in absurd (omega arith)
    least (ShapeWrong j e) h same = let in_table = slice_get_within table j e h.0.stands in absurd (omega arith)
    least (Extra j n) h same = omega arith

    by : (other : Misfit) → IsMisfit arrays table other → (place_in table other < length table + k) ⊎ (length table + k ≤ place_in table other) → (length table + k < place_in table other) ⊎ (place_in table other ≤ length table + k) → (length table + k < place_in table other) ⊎ ((length table + k ≡ place_in table other) × (4 ≤ rank_of other))
    by other h (inl lt) later = absurd (none_before arrays table (length table) k (omega arith) fits names other h (inr (refl, lt)))
    by other h (inr le) (inl lt) = inl lt
    by other h (inr le) (inr ge) = inr (omega arith, least other h (omega arith))

pub all_fit : (arrays : Pairs) (table : List Entry) → FitsUpTo arrays table (length table) → NamesUpTo arrays table (length (names_of arrays)) → Fits arrays table
all_fit arrays table fits names = record {
  inputs = λ k entry is. fits k entry (slice_get_within table k entry is.stands) is.stands is.input;
  only = λ name there. let (k, lt, is) = there in names k name lt (slice_get-get_or (names_of arrays) k name lt ∙ ap (λ n. Some n) is);
}

-- ---- turns

pub item_at : (table : List Entry) (i : ℕ) (entry : Entry) → i < length table → entry ≡ get_or table i entry → slice_get table i ≡ Some entry
item_at table i entry lt is = slice_get-get_or table i entry lt ∙ ap (λ e. Some e) (sym is)

-- what holds of the first entries and of the next holds of one more
more_of : (P : Entry → Type 0) (table : List Entry) (i : ℕ) (entry : Entry) → ((k : ℕ) (e : Entry) → k < i → slice_get table k ≡ Some e → P e) → slice_get table i ≡ Some entry → P entry → (k : ℕ) (e : Entry) → k < i + 1 → slice_get table k ≡ Some e → P e
more_of P table i entry before stands here k e lt is = by (cases_lt k i)
  where
    by : (k < i) ⊎ (i ≤ k) → P e
    by (inl below) = before k e below is
    by (inr above) = let same : i ≡ k = omega arith in subst P (same_entry table k entry e (ap (slice_get table) (sym same) ∙ stands) is) here

pub more_fit : (arrays : Pairs) (table : List Entry) (i : ℕ) (entry : Entry) → FitsUpTo arrays table i → slice_get table i ≡ Some entry → FitsEntry arrays entry → FitsUpTo arrays table (i + 1)
more_fit arrays table i entry before stands here = more_of (λ e. FitsEntry arrays e) table i entry before stands here

pub more_none : (table : List Entry) (name : List ℕ) (i : ℕ) (entry : Entry) → NoneUpTo table name i → slice_get table i ≡ Some entry → ¬ IsInputNamed entry name → NoneUpTo table name (i + 1)
more_none table name i entry before stands here = more_of (λ e. ¬ IsInputNamed e name) table i entry before stands here

pub input_there : (table : List Entry) (name : List ℕ) (i : ℕ) (entry : Entry) → slice_get table i ≡ Some entry → IsInputNamed entry name → ListsInput table name
input_there table name i entry stands (input, named) = record { k = i; entry = entry; is_input = record { stands = stands; input = input }; named = named }

pub no_input : (table : List Entry) (name : List ℕ) → NoneUpTo table name (length table) → ¬ ListsInput table name
no_input table name none h = none h.k h.entry (slice_get_within table h.k h.entry h.is_input.stands) h.is_input.stands (h.is_input.input, h.named)

pub more_names : (arrays : Pairs) (table : List Entry) (i : ℕ) (name : List ℕ) → NamesUpTo arrays table i → slice_get (names_of arrays) i ≡ Some name → ListsInput table name → NamesUpTo arrays table (i + 1)
more_names arrays table i name before stands here k other lt is = by (cases_lt k i)
  where
    by : (k < i) ⊎ (i ≤ k) → ListsInput table other
    by (inl below) = before k other below is
    by (inr above) = let same : i ≡ k = omega arith in subst (ListsInput table) (some_is name other (sym (ap (slice_get (names_of arrays)) (sym same) ∙ stands) ∙ is)) here
