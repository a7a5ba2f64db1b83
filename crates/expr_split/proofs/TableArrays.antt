-- Which arrays the entries of a checked program's table stand for: an input's, or what the program means.
use Rattle.std.proofs.Common.{◌≡◌, ℕ, zero, suc, ◌+◌, ◌<◌, ◌≤◌, List, [], ◌∷◌, ◌++◌, length, get_or, refl, sym, ap, ◌∙◌, subst, arith, length-append, Bool, true, false, Some, inl, inr}
use Rattle.std.specs.Prelude.{slice_get, map, unwrap_or, Contains, ◌⊎◌}
use Rattle.std.specs.List.{AllZip, filter, range_with_len}
use Rattle.std.proofs.lemmas.List.{length-map}
use Rattle.ven_base.specs.declared.entry.Entry.{Entry}
use Rattle.ven_base.specs.Grid.{Grid, IsGrid}
use Rattle.ven_base.specs.Pairs.{Pairs, array_named}
use Rattle.shape_check.specs.declared.typed.ArrayType.{ArrayType}
use Rattle.shape_check.specs.Meaning.{no_grid, arrays_of, outputs_of, meaning_of, FitInputs, StandsFor}
use Rattle.shape_check.specs.Rules.{AreTyped, declared_type}
use Rattle.shape_check.specs.Statement.{Statement, Input, Let, Output}
use Rattle.shape_check.proofs.Meanings.{has_one_meaning}
use Rattle.pass_plan.specs.declared.leaf.Leaf.{Leaf}
use Rattle.pass_plan.specs.declared.split.ArrayPlace.{ArrayPlace}
use Rattle.pass_plan.specs.Tree.{TreeOver}
use Rattle.pass_plan.specs.Pass.{Arrays, arrays_after}
use Rattle.pass_plan.specs.Sound.{Split, no_place}
use Rattle.expr_split.specs.Cuts.{Draft, own_of, statement_of, inputs_in}
use Rattle.expr_split.specs.DeclaredTable.{unplaced}
use Rattle.expr_split.specs.Places.{input_types, draft_type, plan_of, array_types, places_of, table_from, IsSplitOf, input_grids, no_array, first_arrays, outputs_left}
use Rattle.expr_split.specs.TableLaws.{TablesAreDeclared, StandsAt, EntriesAreArrays, SourcesAreInputs, IsLeftAs, OutputsAreLeft}
use Rattle.expr_split.proofs.Soundness.{dests-are, passes-many, places-length}
use Rattle.expr_split.proofs.Statements.{keeps_meaning}
use Rattle.expr_split.proofs.Table.{new_trees, names-are, table-declared, numbers, AreLast, next, StandsIn, all_places, input-stands, output-stands, table-stands, numbers-own}

-- ---- relations at each place of two lists

zip-weaker : {A B : Type 0} (P Q : A → B → Type 0) → ((a : A) (b : B) → P a b → Q a b) → (xs : List A) (ys : List B) → AllZip P xs ys → AllZip Q xs ys
zip-weaker P Q f [] [] h = tt
zip-weaker P Q f [] (y ∷ ys) h = absurd h
zip-weaker P Q f (x ∷ xs) [] h = absurd h
zip-weaker P Q f (x ∷ xs) (y ∷ ys) h = (f x y h.0, zip-weaker P Q f xs ys h.1)

zip-both : {A B : Type 0} (P Q R : A → B → Type 0) → ((a : A) (b : B) → P a b → Q a b → R a b) → (xs : List A) (ys : List B) → AllZip P xs ys
    → AllZip Q xs ys → AllZip R xs ys
zip-both P Q R f [] [] h g = tt
zip-both P Q R f [] (y ∷ ys) h g = absurd h
zip-both P Q R f (x ∷ xs) [] h g = absurd h
zip-both P Q R f (x ∷ xs) (y ∷ ys) h g = (f x y h.0 g.0, zip-both P Q R f xs ys h.1 g.1)

abbrev is_out : Entry → Bool
is_out entry = entry.output

-- ---- inputs

-- an input entry of the table for an array, and the array of that name
record IsSource (places : List ArrayPlace) (table : List Entry) (inputs : Pairs) (number : ℕ) (array : Grid) : Type 0 where
  k : ℕ
  entry : Entry
  there : slice_get table k ≡ Some entry
  input : entry.output ≡ false
  stands : StandsIn places entry number
  is : array_named inputs entry.name ≡ Some array

source-behind : (places : List ArrayPlace) (first : Entry) (table : List Entry) (inputs : Pairs) (number : ℕ) (array : Grid)
    → IsSource places table inputs number array → IsSource places (first ∷ table) inputs number array
source-behind places first table inputs number array h =
    record { k = suc h.k; entry = h.entry; there = h.there; input = h.input; stands = h.stands; is = h.is }

module _ (inputs : List ArrayType) (drafts : List Draft) where
  abbrev places : List ArrayPlace
  places = all_places inputs drafts

  sources : (pairs : Pairs) (program : List Statement) (taken : ℕ) (names : List (TreeOver Leaf)) (base : ℕ) (stmts : List Statement) (j number : ℕ)
      → FitInputs stmts pairs → AreLast inputs drafts program taken names base stmts → number ≡ taken + j → j < length (input_types stmts)
      → IsSource places (table_from places stmts (new_trees program taken names base stmts)) pairs number (get_or (input_grids pairs stmts) j no_array)
  sources pairs program taken names base [] j number fit h is low = absurd (omega arith)
  sources pairs program taken names base (Input name elem shape ∷ more) zero number fit h is low =
      let here = input-stands inputs drafts program taken names base name elem shape more h in
      record {
        k = 0;
        entry = record { name = name; output = false; elem = elem; shape = shape; place = (get_or places taken no_place).place };
        there = refl;
        input = refl;
        stands = subst (λ (n : ℕ). StandsIn places
            (record { name = name; output = false; elem = elem; shape = shape; place = (get_or places taken no_place).place }) n) (omega (arith, is)) here;
        is = fit.0.found ∙ ap Some (sym (ap (λ o. unwrap_or o (no_grid elem shape)) fit.0.found));
      }
  sources pairs program taken names base (Input name elem shape ∷ more) (suc j) number fit h is low =
      let s = Input name elem shape in
      let seen = statement_of program taken names base s in
      let rest = new_trees program (taken + inputs_in s) (names ++ seen.tree ∷ []) (base + length seen.passes) more in
      source-behind places (record { name = name; output = false; elem = elem; shape = shape; place = (get_or places taken no_place).place })
      (table_from places more rest) pairs number (get_or (input_grids pairs more) j no_array)
      (sources pairs program (taken + inputs_in s) (names ++ seen.tree ∷ []) (base + length seen.passes) more j number fit.1
      (next inputs drafts program taken names base s more h) (omega (arith, is)) (omega (arith, low)))
  sources pairs program taken names base (Let name value ∷ more) j number fit h is low =
      let s = Let name value in
      let seen = statement_of program taken names base s in
      sources pairs program (taken + inputs_in s) (names ++ seen.tree ∷ []) (base + length seen.passes) more j number fit.1
      (next inputs drafts program taken names base s more h) (omega (arith, is)) low
  sources pairs program taken names base (Output name value ∷ more) j number fit h is low =
      let s = Output name value in
      let seen = statement_of program taken names base s in
      let own = own_of names base value in
      let rest = new_trees program (taken + inputs_in s) (names ++ seen.tree ∷ []) (base + length seen.passes) more in
      let type = declared_type s in
      source-behind places (record {
        name = name;
        output = true;
        elem = type.elem;
        shape = type.shape;
        place =
            (get_or places (base + length own.passes) no_place).place;
      }) (table_from places more rest) pairs number (get_or (input_grids pairs more) j no_array)
      (sources pairs program (taken + inputs_in s) (names ++ seen.tree ∷ []) (base + length seen.passes) more j number fit.1
      (next inputs drafts program taken names base s more h) (omega (arith, is)) low)

  -- ---- outputs

  -- an output's entry, and the array with its number
  record IsLeft (arrays : Arrays) (entry : Entry) (output : List ℕ × Grid) : Type 0 where
    named : entry.name ≡ output.0
    number : ℕ
    stands : StandsIn places entry number
    is : arrays number ≡ output.1

  outputs-stand : (arrays : Arrays) (types : List ArrayType) (program : List Statement) (taken : ℕ) (names : List (TreeOver Leaf)) (base : ℕ)
      (stmts : List Statement)
      → AreTyped types stmts → AreLast inputs drafts program taken names base stmts
      → AllZip (IsLeft arrays) (filter is_out (table_from places stmts (new_trees program taken names base stmts)))
      (outputs_left arrays stmts (new_trees program taken names base stmts))
  outputs-stand arrays types program taken names base [] typed h = tt
  outputs-stand arrays types program taken names base (Input name elem shape ∷ more) typed h =
      let s = Input name elem shape in
      let seen = statement_of program taken names base s in
      outputs-stand arrays (types ++ declared_type s ∷ []) program (taken + inputs_in s) (names ++ seen.tree ∷ []) (base + length seen.passes) more typed.1
      (next inputs drafts program taken names base s more h)
  outputs-stand arrays types program taken names base (Let name value ∷ more) typed h =
      let s = Let name value in
      let seen = statement_of program taken names base s in
      outputs-stand arrays (types ++ declared_type s ∷ []) program (taken + inputs_in s) (names ++ seen.tree ∷ []) (base + length seen.passes) more typed.1
      (next inputs drafts program taken names base s more h)
  outputs-stand arrays types program taken names base (Output name value ∷ more) typed h =
      let s = Output name value in
      let own = own_of names base value in
      let seen = statement_of program taken names base s in (
        record { named = refl; number = base + length own.passes; stands = output-stands inputs drafts types program taken names base name value more typed.0.0 h; is = refl },
        outputs-stand arrays (types ++ declared_type s ∷ []) program (taken + inputs_in s) (names ++ seen.tree ∷ []) (base + length seen.passes) more typed.1
            (next inputs drafts program taken names base s more h),
      )

  -- an output's meaning has the type and shape of its entry
  record IsMeant (entry : Entry) (output : List ℕ × Grid) : Type 0 where
    elem_is : output.1.elem ≡ entry.elem
    shape_is : output.1.shape ≡ entry.shape
    is_grid : IsGrid output.1

  outputs-meant : (pairs : Pairs) (all : List Grid) (program : List Statement) (taken : ℕ) (names : List (TreeOver Leaf)) (base : ℕ) (stmts : List Statement)
      (arrays : List Grid)
      → AllZip (StandsFor pairs all) stmts arrays
      → AllZip IsMeant (filter is_out (table_from places stmts (new_trees program taken names base stmts))) (outputs_of stmts arrays)
  outputs-meant pairs all program taken names base [] [] h = tt
  outputs-meant pairs all program taken names base [] (a ∷ arrays) h = absurd h
  outputs-meant pairs all program taken names base (s ∷ more) [] h = absurd h
  outputs-meant pairs all program taken names base (Input name elem shape ∷ more) (a ∷ arrays) h =
      let s = Input name elem shape in
      let seen = statement_of program taken names base s in
      outputs-meant pairs all program (taken + inputs_in s) (names ++ seen.tree ∷ []) (base + length seen.passes) more arrays h.1
  outputs-meant pairs all program taken names base (Let name value ∷ more) (a ∷ arrays) h =
      let s = Let name value in
      let seen = statement_of program taken names base s in
      outputs-meant pairs all program (taken + inputs_in s) (names ++ seen.tree ∷ []) (base + length seen.passes) more arrays h.1
  outputs-meant pairs all program taken names base (Output name value ∷ more) (a ∷ arrays) h =
      let s = Output name value in
      let seen = statement_of program taken names base s in (
        record { elem_is = h.0.elem_is; shape_is = h.0.shape_is; is_grid = h.0.is_grid },
        outputs-meant pairs all program (taken + inputs_in s) (names ++ seen.tree ∷ []) (base + length seen.passes) more arrays h.1,
      )

-- ---- a split's table

abbrev drafts_in : List Statement → List Draft
drafts_in program = (plan_of program).passes

abbrev trees_in : List Statement → List (TreeOver Leaf)
trees_in program = new_trees program 0 [] (length (input_types program)) program

abbrev table_in : List Statement → List Entry
table_in program = table_from (places_of program) program (trees_in program)

all-last : (program : List Statement) → AreLast (input_types program) (drafts_in program) program 0 [] (length (input_types program)) program
all-last program = record { before = []; done = []; inputs_are = refl; taken_is = refl; drafts_are = refl; base_is = omega arith }

trees-are : (program : List Statement) → (plan_of program).names ≡ trees_in program
trees-are program = names-are program 0 [] (length (input_types program)) program

table-is : (program : List Statement) (split : Split) → IsSplitOf program split → split.table ≡ table_in program
table-is program split is = is.table ∙ ap (table_from (places_of program) program) (trees-are program)

stands-in-split : (program : List Statement) (split : Split) → IsSplitOf program split → (entry : Entry) (number : ℕ)
    → StandsIn (places_of program) entry number → StandsAt split entry number
stands-in-split program split is entry number h = record {
  known = subst (λ (a : List ArrayPlace). number < length a) (sym is.arrays) h.known;
  is = ap (λ (a : List ArrayPlace). get_or a number no_place) is.arrays ∙ h.is;
}

pub tables_declared : TablesAreDeclared
tables_declared program split checked is =
    ap (map unplaced) (table-is program split is) ∙ table-declared (places_of program) program 0 [] (length (input_types program)) program

pub entries_are_arrays : EntriesAreArrays
entries_are_arrays program split checked is =
    let base = length (input_types program) in
    let last = all-last program in
    let ks = numbers program 0 [] base program in
    record {
      numbers = ks;
      stand = subst (λ (t : List Entry). AllZip (StandsAt split) t ks) (sym (table-is program split is))
          (zip-weaker (StandsIn (places_of program)) (StandsAt split) (stands-in-split program split is) (table_in program) ks
          (table-stands (input_types program) (drafts_in program) [] program 0 [] base program checked.typed last));
      own = numbers-own (input_types program) (drafts_in program) program 0 [] base program last;
    }

-- a number that isn't among so many from a place on is below them, or behind them
in-range : (a n k : ℕ) → a ≤ k → k < a + n → Contains (range_with_len a n) k
in-range a zero k low high = absurd (omega arith)
in-range a (suc n) k low high = elim (first a k low)
    [ inl same ↦ (0, omega arith, sym same) | inr more ↦ later (in-range (a + 1) n k more (omega (arith, high))) ]
  where
    first : (a k : ℕ) → a ≤ k → (k ≡ a) ⊎ (a + 1 ≤ k)
    first a k low = grind arith

    later : Contains (range_with_len (a + 1) n) k → Contains (range_with_len a (suc n)) k
    later c = (suc c.0, omega (arith, c.1), c.2)

pub sources_are_inputs : SourcesAreInputs
sources_are_inputs program split pairs number checked fit is known unmade =
    let types = input_types program in
    let ds = drafts_in program in
    let base = length types in
    let many : length split.arrays ≡ base + length split.passes =
    omega (
      arith,
      ap length is.arrays,
      places-length 0 (array_types program),
      length-append types
          (map draft_type ds),
      length-map ds draft_type,
      passes-many base ds split.passes is.passes,
    ) in
    let low : number < base = below number base (length split.passes) (omega (arith, known, many))
    (λ c. unmade (subst (λ (l : List ℕ). Contains l number) (sym (dests-are base ds split.passes is.passes)) c)) in
    let source = sources types ds pairs program 0 [] base program number number fit (all-last program) (omega arith) low in
    record {
      k = source.k;
      entry = source.entry;
      there = ap (λ (t : List Entry). slice_get t source.k) (table-is program split is) ∙ source.there;
      input = source.input;
      stands = stands-in-split program split is source.entry number source.stands;
      is = source.is;
    }
  where
    either : (number base : ℕ) → (number < base) ⊎ (base ≤ number)
    either number base = grind arith

    below : (number base n : ℕ) → number < base + n → ¬ Contains (range_with_len base n) number → number < base
    below number base n high absent = elim (either number base) [ inl l ↦ l | inr m ↦ absurd (absent (in-range base n number m high)) ]

pub outputs_are_left : OutputsAreLeft
outputs_are_left program split pairs checked fit is =
    let types = input_types program in
    let ds = drafts_in program in
    let base = length types in
    let arrays = arrays_after split.passes (first_arrays (input_grids pairs program)) in
    let trees = trees_in program in
    let outs = filter is_out (table_in program) in
    let meant = (has_one_meaning program pairs (arrays_of pairs program) checked fit).1 refl in
    let left_is : outputs_left arrays program trees ≡ meaning_of program pairs =
    ap (outputs_left arrays program) (sym (trees-are program)) ∙ keeps_meaning program split pairs checked fit is in
    let left : AllZip (IsLeft types ds arrays) outs (meaning_of program pairs) =
    subst (λ (o : Pairs). AllZip (IsLeft types ds arrays) outs o) left_is
    (outputs-stand types ds arrays [] program 0 [] base program checked.typed (all-last program)) in
    subst (λ (t : List Entry). AllZip (IsLeftAs split arrays) (filter is_out t) (meaning_of program pairs)) (sym (table-is program split is))
    (zip-both (IsLeft types ds arrays) (IsMeant types ds) (IsLeftAs split arrays)
    (λ entry output l m. record {
      named = l.named;
      number = l.number;
      stands = stands-in-split program split is entry l.number l.stands;
      is = l.is;
      elem_is = m.elem_is;
      shape_is = m.shape_is;
      is_grid = m.is_grid;
    }) outs (meaning_of program pairs) left
    (outputs-meant types ds pairs (arrays_of pairs program) program 0 [] base program (arrays_of pairs program) meant))
