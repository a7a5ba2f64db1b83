-- The outputs of a table are taken from memory one after another.
use Rattle.std.proofs.Common.{◌≡◌, ◌≢◌, ◌⊎◌, inl, inr, ℕ, ◌+◌, ◌<◌, ◌≤◌, ap, sym, ◌∙◌, refl, subst, arith, List, [], ◌∷◌, ◌++◌, length, drop, take, get_or, map, Contains, Some, None, true, false, cond, append_assoc, append-nil}
use Rattle.std.specs.Prelude.{AllPairs, ◌^◌, ◌-◌}
use Rattle.std.specs.List.{filter}
use Rattle.std.proofs.lemmas.List.{drop_more, drop_all, take_more, get_or-map, get_or-take, length-map, length-take-le, map-append, length_push}
use Rattle.std.proofs.lemmas.List.Elements.{Contains-append_left, Contains-append_right, Contains-append_cases}
use Rattle.ven_base.specs.declared.entry.Entry.{Entry}
use Rattle.ven_base.specs.Grid.{Grid}
use Rattle.ven_base.specs.Pairs.{Pairs, names_of}
use Rattle.venice_machine.specs.Start.{array_in, outputs_in}

abbrev pub entry_names : List Entry → List (List ℕ)
entry_names table = map (λ entry. entry.name) table

-- the outputs of the first entries are taken: those that are left give the rest
pub record IsTaken (memory : List ℕ) (table : List Entry) (index : ℕ) (arrays : Pairs) : Type 0 where
  pub left : arrays ++ outputs_in memory (drop index table) ≡ outputs_in memory table
  pub names : (name : List ℕ) → Contains (names_of arrays) name → Contains (take index (entry_names table)) name
  pub few : length arrays ≤ index

pub none_taken : (memory : List ℕ) (table : List Entry) → IsTaken memory table 0 []
none_taken memory table = record { left = refl; names = λ name there. there; few = omega arith }

pub all_taken : (memory : List ℕ) (table : List Entry) (index : ℕ) (arrays : Pairs) → length table ≤ index → IsTaken memory table index arrays → arrays ≡ outputs_in memory table
all_taken memory table index arrays le taken =
    sym (append-nil arrays) ∙ sym (ap (λ (rest : List Entry). arrays ++ outputs_in memory rest) (drop_all index table le)) ∙ taken.left

module _ (memory : List ℕ) (table : List Entry) (index : ℕ) (arrays : Pairs) (entry : Entry) (below : index < length table) (is : entry ≡ get_or table index entry) (taken : IsTaken memory table index arrays) where
  rest_is : drop index table ≡ entry ∷ drop (index + 1) table
  rest_is = drop_more table index entry below ∙ ap (λ (e : Entry). e ∷ drop (index + 1) table) (sym is)

  names_below : index < length (entry_names table)
  names_below = subst (λ n. index < n) (sym (length-map table (λ (e : Entry). e.name))) below

  name_is : get_or (entry_names table) index entry.name ≡ entry.name
  name_is = get_or-map (λ (e : Entry). e.name) table index entry entry.name below ∙ ap (λ (e : Entry). e.name) (sym is)

  names_more : take (index + 1) (entry_names table) ≡ take index (entry_names table) ++ entry.name ∷ []
  names_more = take_more (entry_names table) index entry.name names_below ∙ ap (λ n. take index (entry_names table) ++ n ∷ []) name_is

  more_names : (name : List ℕ) → Contains (take index (entry_names table)) name → Contains (take (index + 1) (entry_names table)) name
  more_names name there = subst (λ names. Contains names name) (sym names_more) (Contains-append_left (take index (entry_names table)) (entry.name ∷ []) name there)

  pub no_output : entry.output ≡ false → IsTaken memory table (index + 1) arrays
  no_output isnt = record {
    left = sym (ap (λ (rest : List Entry). arrays ++ outputs_in memory rest) rest_is ∙ ap (λ b. arrays ++ map (λ (e : Entry). (e.name, array_in memory e)) (cond b (entry ∷ filtered) filtered)) isnt) ∙ taken.left;
    names = λ name there. more_names name (taken.names name there);
    few = omega (arith, taken.few);
  }
    where
      filtered : List Entry
      filtered = filter (λ (e : Entry). e.output) (drop (index + 1) table)

  pub one_output : entry.output ≡ true → IsTaken memory table (index + 1) (arrays ++ (entry.name, array_in memory entry) ∷ [])
  one_output output = record {
    left = append_assoc arrays ((entry.name, array_in memory entry) ∷ []) (outputs_in memory (drop (index + 1) table))
        ∙ sym (ap (λ (rest : List Entry). arrays ++ outputs_in memory rest) rest_is ∙ ap (λ b. arrays ++ map (λ (e : Entry). (e.name, array_in memory e)) (cond b (entry ∷ filtered) filtered)) output) ∙ taken.left;
    names = λ name there. of (Contains-append_cases (names_of arrays) (entry.name ∷ []) name (subst (λ names. Contains names name) (map-append (λ (p : List ℕ × Grid). p.0) arrays ((entry.name, array_in memory entry) ∷ [])) there)) name;
    few = omega (arith, taken.few, length_push arrays (entry.name, array_in memory entry));
  }
    where
      filtered : List Entry
      filtered = filter (λ (e : Entry). e.output) (drop (index + 1) table)

      of : {name : List ℕ} → Contains (names_of arrays) name ⊎ Contains (entry.name ∷ []) name → (n : List ℕ) → Contains (take (index + 1) (entry_names table)) name
      of {name} (inl there) n = more_names name (taken.names name there)
      of {name} (inr there) n = subst (λ names. Contains names name) (sym names_more) (Contains-append_right (take index (entry_names table)) (entry.name ∷ []) name there)

  pub new_name : AllPairs (λ x y. x ≢ y) (entry_names table) → Contains (names_of arrays) entry.name → ⊥
  new_name distinct there =
      let earlier = taken.names entry.name there in
      let k = earlier.0 in
      let long = length-take-le index (entry_names table) (omega (arith, names_below)) in
      let before : k < index = omega (arith, earlier.1, long) in
      let same = sym (get_or-take index (entry_names table) k entry.name before) ∙ earlier.2 in
      distinct k index entry.name before names_below (same ∙ sym name_is)

pub few_taken : (memory : List ℕ) (table : List Entry) (index : ℕ) (arrays : Pairs) → IsTaken memory table index arrays → index < length table → length table ≤ 256 → length arrays < 2 ^ 32 - 1
few_taken memory table index arrays taken below few = omega (arith, taken.few, below, few)

pub same_some : (first second : Grid) → Some first ≡ Some second → first ≡ second
same_some first second e = cc

pub not_none : (grid : Grid) → Some grid ≡ None → ⊥
not_none grid e = cc
