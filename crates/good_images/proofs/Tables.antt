-- A program's table has the program's inputs, so that arrays which fit these fit the table, and are inputs of the program.
use Rattle.std.proofs.Common.{◌≡◌, ℕ, zero, suc, List, [], ◌∷◌, map, refl, sym, ap, ◌∙◌, arith, false, Contains, Option, Some, IfSome, slice_get, subst}
use Rattle.std.specs.Option.{option_map}
use Rattle.std.proofs.lemmas.List.{get_or-map, length-map}
use Rattle.std.proofs.lemmas.Option.{slice_get-map}
use Rattle.ven_base.specs.declared.entry.Entry.{Entry}
use Rattle.ven_base.specs.Grid.{Grid, IsGrid}
use Rattle.ven_base.specs.Pairs.{Pairs, ArePairs, array_named}
use Rattle.ven_base.proofs.NamedArrays.{array_named-pair}
use Rattle.array_file.specs.Fitting.{Fits, IsInput, ListsInput, HasArrayFor}
use Rattle.shape_check.specs.Meaning.{FitInputs}
use Rattle.shape_check.specs.Statement.{Statement, Input, Let, Output}
use Rattle.expr_split.specs.DeclaredTable.{input_table, declared_table, unplaced}
use Rattle.good_images.specs.Laws.{TablesFit, FittingArraysAreInputs}

-- ---- inputs of the program

-- an array that has a name is an array
contained_grid : (pairs : Pairs) (name : List ℕ) (grid : Grid) → ArePairs pairs → Contains pairs (name, grid) → IsGrid grid
contained_grid pairs name grid are has =
    let there = get_or-map (λ (p : List ℕ × Grid). p.1) pairs has.0 (name, grid) grid has.1 in
    subst IsGrid (there ∙ ap (λ (p : List ℕ × Grid). p.1) has.2) (are.arrays has.0 grid (omega (arith, length-map pairs (λ (p : List ℕ × Grid). p.1), has.1)))

pub named_grid : (pairs : Pairs) (name : List ℕ) (grid : Grid) → ArePairs pairs → array_named pairs name ≡ Some grid → IsGrid grid
named_grid pairs name grid are found =
    contained_grid pairs name grid are (subst (λ (o : Option Grid). IfSome o (λ g. Contains pairs (name, g))) found (array_named-pair pairs name))

-- the arrays have what an entry asks for
abbrev HasEntry : Pairs → Entry → Type 0
HasEntry arrays entry = (grid : Grid) × HasArrayFor arrays entry grid × (grid.elem ≡ entry.elem) × (grid.shape ≡ entry.shape)

entries_fit : (program : List Statement) (arrays : Pairs) → ArePairs arrays
    → ((k : ℕ) (entry : Entry) → IsInput (input_table program) k entry → HasEntry arrays entry) → FitInputs program arrays
entries_fit [] arrays are has = tt
entries_fit (Input name elem shape ∷ more) arrays are has =
    let entry : Entry = record { name = name; output = false; elem = elem; shape = shape; place = 0 } in
    let own = has 0 entry (record { stands = refl; input = refl }) in (
      record { array = own.0; found = own.1.is; elem_is = own.2; shape_is = own.3; is_grid = named_grid arrays name own.0 are own.1.is },
      entries_fit more arrays are (λ k e is. has (suc k) e (record { stands = is.stands; input = is.input })),
    )
entries_fit (Let name value ∷ more) arrays are has = (tt, entries_fit more arrays are has)
entries_fit (Output name value ∷ more) arrays are has = (tt, entries_fit more arrays are has)

pub inputs_fit : FittingArraysAreInputs
inputs_fit program arrays are fits = entries_fit program arrays are fits.inputs

-- ---- entries of one table in another

-- the entry is in the table
record IsIn (table : List Entry) (entry : Entry) : Type 0 where
  k : ℕ
  there : slice_get table k ≡ Some entry

next_in : (first entry : Entry) (table : List Entry) → IsIn table entry → IsIn (first ∷ table) entry
next_in first entry table is = record { k = suc is.k; there = is.there }

-- what the program declares as an input is one of its inputs
declared_input : (program : List Statement) (k : ℕ) (entry : Entry) → IsInput (declared_table program) k entry → IsIn (input_table program) entry
declared_input [] k entry is = let none = is.stands in cc
declared_input (Input name elem shape ∷ more) zero entry is = record { k = 0; there = is.stands }
declared_input (Input name elem shape ∷ more) (suc k) entry is =
    next_in (record { name = name; output = false; elem = elem; shape = shape; place = 0 }) entry (input_table more)
    (declared_input more k entry (record { stands = is.stands; input = is.input }))
declared_input (Let name value ∷ more) k entry is = declared_input more k entry (record { stands = is.stands; input = is.input })
declared_input (Output name value ∷ more) zero entry is =
    let other = ap (λ (o : Option Entry). option_map (λ (e : Entry). e.output) o) is.stands in
    let input = is.input in
    cc
declared_input (Output name value ∷ more) (suc k) entry is = declared_input more k entry (record { stands = is.stands; input = is.input })

-- and the other way
input_declared : (program : List Statement) (k : ℕ) (entry : Entry) → slice_get (input_table program) k ≡ Some entry → IsIn (declared_table program) entry
input_declared [] k entry there = cc
input_declared (Input name elem shape ∷ more) zero entry there = record { k = 0; there = there }
input_declared (Input name elem shape ∷ more) (suc k) entry there =
    next_in (record { name = name; output = false; elem = elem; shape = shape; place = 0 }) entry (declared_table more) (input_declared more k entry there)
input_declared (Let name value ∷ more) k entry there = input_declared more k entry there
input_declared (Output name value ∷ more) k entry there =
    let later = input_declared more k entry there in
    record { k = suc later.k; there = later.there }

-- ---- tables

-- an entry of a table whose entries without places are these
record IsPlaced (table : List Entry) (entry : Entry) : Type 0 where
  k : ℕ
  placed : Entry
  there : slice_get table k ≡ Some placed
  is : unplaced placed ≡ entry

placed_at : (table : List Entry) (k : ℕ) (entry : Entry) → slice_get (map unplaced table) k ≡ Some entry → IsPlaced table entry
placed_at [] k entry there = cc
placed_at (first ∷ table) zero entry there =
    let same : Some (unplaced first) ≡ Some entry = there in
    record { k = 0; placed = first; there = refl; is = cc }
placed_at (first ∷ table) (suc k) entry there =
    let later = placed_at table k entry there in
    record { k = suc later.k; placed = later.placed; there = later.there; is = later.is }

module _ (program : List Statement) (table : List Entry) (arrays : Pairs) (declared : map unplaced table ≡ declared_table program)
    (fits : Fits arrays (input_table program)) where
  entry_fits : (k : ℕ) (entry : Entry) → IsInput table k entry → HasEntry arrays entry
  entry_fits k entry is =
      let there : slice_get (declared_table program) k ≡ Some (unplaced entry) =
      ap (λ (t : List Entry). slice_get t k) (sym declared) ∙ slice_get-map unplaced table k ∙ ap (option_map unplaced) is.stands in
      let input = declared_input program k (unplaced entry) (record { stands = there; input = is.input }) in
      let has = fits.inputs input.k (unplaced entry) (record { stands = input.there; input = is.input }) in
      (has.0, record { is = has.1.is }, has.2, has.3)

  lists_input : (name : List ℕ) → ListsInput (input_table program) name → ListsInput table name
  lists_input name lists =
      let stands = lists.is_input in
      let declares = input_declared program lists.k lists.entry stands.stands in
      let own = placed_at table declares.k lists.entry (ap (λ (t : List Entry). slice_get t declares.k) declared ∙ declares.there) in
      record {
        k = own.k;
        entry = own.placed;
        is_input = record { stands = own.there; input = ap (λ (e : Entry). e.output) own.is ∙ stands.input };
        named = ap (λ (e : Entry). e.name) own.is ∙ lists.named;
      }

pub tables_fit : TablesFit
tables_fit program table arrays declared fits = record {
  inputs = entry_fits program table arrays declared fits;
  only = λ name has. lists_input program table arrays declared fits name (fits.only name has);
}
