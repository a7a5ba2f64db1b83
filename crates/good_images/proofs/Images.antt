-- The image of a split and of code for it keeps the rules and the limits of images.
use Rattle.std.proofs.Common.{◌≡◌, ◌≢◌, ◌⊎◌, inl, inr, ℕ, zero, suc, ◌+◌, ◌*◌, ◌<◌, ◌≤◌, ap, sym, ◌∙◌, refl, subst, arith, Bool, true, false, ◌&&◌, List, [], ◌∷◌, length, take, map, get_or, Contains, Option, None, Some, slice_get}
use Rattle.std.specs.Prelude.{All}
use Rattle.std.specs.List.{AllPairs, AllZip, list_any}
use Rattle.std.specs.Option.{IsSomeAnd, option_map}
use Rattle.std.proofs.Math.Dec.{ltb}
use Rattle.std.proofs.lemmas.Bool.{cases_lt, ltb-true}
use Rattle.std.proofs.lemmas.List.{length-map, get_or-map, get_or-take, length-take-le}
use Rattle.std.proofs.lemmas.List.Elements.{All-cons}
use Rattle.std.proofs.lemmas.List.Folds.{Any-from_list_any}
use Rattle.std.proofs.lemmas.List.Kept.{AllPairs-cons}
use Rattle.std.proofs.lemmas.Option.{slice_get-map, slice_get_within, get_or_from_slice_get, slice_get-get_or}
use Rattle.ven_base.specs.declared.elem.Elem.{Elem}
use Rattle.ven_base.specs.declared.elem.Elem.TheVariants.{U8, I8, U16, I16, U32, I32}
use Rattle.ven_base.specs.declared.entry.Entry.{Entry}
use Rattle.ven_base.specs.Elem.{size_of}
use Rattle.ven_base.specs.Extent.{IsExtent, elements_of}
use Rattle.ven_base.specs.Limits.{cell_limit}
use Rattle.ven_base.specs.Name.{IsName}
use Rattle.venice_isa.specs.Code.{Listing}
use Rattle.venice_isa.specs.Encoding.{bit, type_number}
use Rattle.image_loader.specs.declared.table.EntryPart.{EntryPart}
use Rattle.image_loader.specs.declared.table.EntryPart.TheVariants.{NameLength, NameBytes, Kind, ElementType, Rows, Columns, Place}
use Rattle.image_loader.specs.Image.{raw_entry, raw_entries, header_of, IsTable}
use Rattle.image_loader.specs.Table.{Header, RawEntry, HeaderPart, Spad, Memory, Arrays, Instrs, HeaderField, EntryField, LiesIn, least_of, most_of, header_number, elem_of, array_bytes, share_byte, names_of as raw_names_of, BreaksEntry, IsRight}
use Rattle.shape_check.specs.Checked.{IsCheckedProgram}
use Rattle.shape_check.specs.Statement.{Statement, Input, Let, Output, names_of}
use Rattle.pass_plan.specs.Need.{need_of}
use Rattle.pass_plan.specs.Sound.{Split, IsSound, no_place, end_of}
use Rattle.pass_plan.specs.declared.split.ArrayPlace.{ArrayPlace}
use Rattle.expr_split.specs.DeclaredTable.{declared_table, unplaced}
use Rattle.expr_split.specs.Laws.{SplitsAreSound, NeedsAreSome}
use Rattle.expr_split.specs.Places.{IsSplitOf}
use Rattle.expr_split.specs.TableLaws.{TablesAreDeclared, EntriesAreArrays, StandsAt, HasNumbers}
use Rattle.good_images.specs.Laws.{IsCodeFor, image_with, TheyAreImages}

-- ---- the names of a table

abbrev table_names : List Entry → List (List ℕ)
table_names table = map (λ (entry : Entry). entry.name) table

-- what holds of all names of a program holds of those of its inputs and outputs
all_declared : (P : List ℕ → Type 0) (program : List Statement) → All P (names_of program) → All P (table_names (declared_table program))
all_declared P [] all = all
all_declared P (Input name elem shape ∷ more) all =
    All-cons P name (table_names (declared_table more)) (all 0 name (omega arith)) (all_declared P more (λ k d below. all (suc k) d (omega (arith, below))))
all_declared P (Let name value ∷ more) all = all_declared P more (λ k d below. all (suc k) d (omega (arith, below)))
all_declared P (Output name value ∷ more) all =
    All-cons P name (table_names (declared_table more)) (all 0 name (omega arith)) (all_declared P more (λ k d below. all (suc k) d (omega (arith, below))))

pairs_behind : {X : Type 0} (R : X → X → Type 0) (x : X) (xs : List X) → AllPairs R (x ∷ xs) → AllPairs R xs
pairs_behind R x xs pairs i j d before below = pairs (suc i) (suc j) d (omega (arith, before)) (omega (arith, below))

pairs_first : {X : Type 0} (R : X → X → Type 0) (x : X) (xs : List X) → AllPairs R (x ∷ xs) → All (R x) xs
pairs_first R x xs pairs k d below = pairs 0 (suc k) d (omega arith) (omega (arith, below))

pairs_declared : (R : List ℕ → List ℕ → Type 0) (program : List Statement) → AllPairs R (names_of program) → AllPairs R (table_names (declared_table program))
pairs_declared R [] pairs = pairs
pairs_declared R (Input name elem shape ∷ more) pairs =
    AllPairs-cons R name (table_names (declared_table more)) (all_declared (R name) more (pairs_first R name (names_of more) pairs))
    (pairs_declared R more (pairs_behind R name (names_of more) pairs))
pairs_declared R (Let name value ∷ more) pairs = pairs_declared R more (pairs_behind R name (names_of more) pairs)
pairs_declared R (Output name value ∷ more) pairs =
    AllPairs-cons R name (table_names (declared_table more)) (all_declared (R name) more (pairs_first R name (names_of more) pairs))
    (pairs_declared R more (pairs_behind R name (names_of more) pairs))

declared_few : (program : List Statement) → length (declared_table program) ≤ length program
declared_few [] = omega arith
declared_few (Input name elem shape ∷ more) = omega (arith, declared_few more)
declared_few (Let name value ∷ more) = omega (arith, declared_few more)
declared_few (Output name value ∷ more) = omega (arith, declared_few more)

-- a table has the names of its entries without places
unplaced_names : (table : List Entry) → table_names (map unplaced table) ≡ table_names table
unplaced_names [] = refl
unplaced_names (entry ∷ table) = ap (λ (names : List (List ℕ)). entry.name ∷ names) (unplaced_names table)

-- ---- the parts of an entry

type_is : (elem : Elem) → elem_of (type_number elem) ≡ elem
type_is U8 = refl
type_is I8 = refl
type_is U16 = refl
type_is I16 = refl
type_is U32 = refl
type_is I32 = refl

type_few : (elem : Elem) → type_number elem ≤ 5
type_few U8 = omega arith
type_few I8 = omega arith
type_few U16 = omega arith
type_few I16 = omega arith
type_few U32 = omega arith
type_few I32 = omega arith

bit_few : (b : Bool) → bit b ≤ 1
bit_few true = omega arith
bit_few false = omega arith

name_some : (name : List ℕ) → IsName name → 1 ≤ length name
name_some [] is = absurd is.token
name_some (byte ∷ bytes) is = omega arith

bytes_are : (entry : Entry) → array_bytes (raw_entry entry) ≡ elements_of entry.shape * size_of entry.elem
bytes_are entry = ap (λ (elem : Elem). elements_of entry.shape * size_of elem) (type_is entry.elem)

both_true : (x y : Bool) → (x && y) ≡ true → (x ≡ true) × (y ≡ true)
both_true true y both = (refl, both)
both_true false y both = cc

-- the arrays of two entries share no byte
abbrev LieApart : Entry → Entry → Type 0
LieApart entry other = (other.place + array_bytes (raw_entry other) ≤ entry.place) ⊎ (entry.place + array_bytes (raw_entry entry) ≤ other.place)

none_shared : (entry other : Entry) → LieApart entry other → share_byte (raw_entry entry) (raw_entry other) ≡ true → ⊥
none_shared entry other apart share =
    let both =
    both_true (ltb other.place (entry.place + array_bytes (raw_entry entry))) (ltb entry.place (other.place + array_bytes (raw_entry other))) share in
    let under = ltb-true other.place (entry.place + array_bytes (raw_entry entry)) both.0 in
    let over = ltb-true entry.place (other.place + array_bytes (raw_entry other)) both.1 in
    elim apart [ inl before ↦ absurd (omega (arith, before, over)) | inr behind ↦ absurd (omega (arith, behind, under)) ]

-- what an entry has to be in a memory of this size
record IsGoodEntry (memory : ℕ) (entry : Entry) : Type 0 where
  name : IsName entry.name
  shaped : IsExtent entry.shape
  inside : entry.place + array_bytes (raw_entry entry) ≤ memory

-- and behind earlier ones: it has another name than each of them, and its array shares no byte with theirs
record IsBehind (earlier : List Entry) (entry : Entry) : Type 0 where
  names : (i : ℕ) → i < length earlier → (get_or earlier i entry).name ≢ entry.name
  apart : (i : ℕ) → i < length earlier → LieApart entry (get_or earlier i entry)

module _ (memory : ℕ) (earlier : List Entry) (entry : Entry) (good : IsGoodEntry memory entry) (behind : IsBehind earlier entry) where
  name_lies : LiesIn 1 31 (length entry.name)
  name_lies = record { from = name_some entry.name good.name; to = good.name.short }

  name_new : Contains (raw_names_of (raw_entries earlier)) entry.name → ⊥
  name_new has =
      let long = length-map (raw_entries earlier) (λ (e : RawEntry). e.name) in
      let longer = length-map earlier raw_entry in
      let below : has.0 < length earlier = omega (arith, has.1, long, longer) in
      let lower : has.0 < length (raw_entries earlier) = omega (arith, below, longer) in
      behind.names has.0 below
      (sym (get_or-map (λ (e : RawEntry). e.name) (raw_entries earlier) has.0 (raw_entry entry) entry.name lower
      ∙ ap (λ (e : RawEntry). e.name) (get_or-map raw_entry earlier has.0 entry (raw_entry entry) below)) ∙ has.2)

  place_free : list_any (share_byte (raw_entry entry)) (raw_entries earlier) ≡ true → ⊥
  place_free any =
      let found = Any-from_list_any (share_byte (raw_entry entry)) (raw_entries earlier) any in
      let longer = length-map earlier raw_entry in
      let below : found.0 < length earlier = omega (arith, found.2, longer) in
      let there : get_or (raw_entries earlier) found.0 found.1 ≡ raw_entry (get_or earlier found.0 entry) =
      get_or-map raw_entry earlier found.0 entry found.1 below in
      none_shared entry (get_or earlier found.0 entry) (behind.apart found.0 below)
      (ap (share_byte (raw_entry entry)) (sym there ∙ found.3) ∙ found.4)

  entry_right : IsRight memory (raw_entries earlier) (raw_entry entry)
  entry_right = record { each = right }
    where
      right : (part : EntryPart) → ¬ BreaksEntry memory (raw_entries earlier) (raw_entry entry) part
      right NameLength breaks = breaks name_lies
      right NameBytes breaks = elim breaks.1 [ inl unnamed ↦ unnamed good.name | inr has ↦ name_new has ]
      right Kind breaks = absurd (omega (arith, bit_few entry.output, breaks))
      right ElementType breaks = absurd (omega (arith, type_few entry.elem, breaks))
      right Rows breaks = absurd (omega (arith, good.shaped.some_rows, breaks))
      right Columns breaks =
          elim breaks [ inl none ↦ absurd (omega (arith, good.shaped.some_cols, none)) | inr many ↦ absurd (omega (arith, good.shaped.within, many)) ]
      right Place breaks = elim breaks [ inl past ↦ absurd (omega (arith, good.inside, past)) | inr any ↦ place_free any ]

-- ---- the whole table

take_raws : (k : ℕ) (entries : List Entry) → take k (raw_entries entries) ≡ raw_entries (take k entries)
take_raws zero entries = refl
take_raws (suc k) [] = refl
take_raws (suc k) (entry ∷ entries) = ap (λ (rest : List RawEntry). raw_entry entry ∷ rest) (take_raws k entries)

module _ (header : Header) (entries : List Entry) (lie : (part : HeaderPart) → LiesIn (least_of part) (most_of part) (header_number header part))
    (right : (k : ℕ) (entry : Entry) → slice_get entries k ≡ Some entry → IsRight header.memory (raw_entries (take k entries)) (raw_entry entry)) where
  keeps_part : (k : ℕ) (part : EntryPart) (slot : Option Entry) → slice_get entries k ≡ slot
      → IsSomeAnd (option_map raw_entry slot) (λ raw. BreaksEntry header.memory (take k (raw_entries entries)) raw part) → ⊥
  keeps_part k part None there breaks = absurd breaks
  keeps_part k part (Some entry) there breaks =
      (right k entry there).each part (subst (λ earlier. BreaksEntry header.memory earlier (raw_entry entry) part) (take_raws k entries) breaks)

  is_table : IsTable header (raw_entries entries)
  is_table (HeaderField part) breaks = breaks (lie part)
  is_table (EntryField k part) breaks =
      keeps_part k part (slice_get entries k) refl
      (subst (λ (o : Option RawEntry). IsSomeAnd o (λ raw. BreaksEntry header.memory (take k (raw_entries entries)) raw part))
      (slice_get-map raw_entry entries k) breaks)

-- ---- entries by their arrays

-- the number of the array that an entry stands for
record HasNumber (split : Split) (numbers : List ℕ) (k : ℕ) (entry : Entry) : Type 0 where
  number : ℕ
  there : slice_get numbers k ≡ Some number
  stands : StandsAt split entry number

number_at : (split : Split) (table : List Entry) (numbers : List ℕ) (k : ℕ) (entry : Entry) → AllZip (StandsAt split) table numbers
    → slice_get table k ≡ Some entry
    → HasNumber split numbers k entry
number_at split [] numbers k entry zip there = cc
number_at split (first ∷ table) [] k entry zip there = absurd zip
number_at split (first ∷ table) (number ∷ numbers) zero entry zip there =
    let here : Some first ≡ Some entry = there in
    let same : first ≡ entry = cc in
    record { number = number; there = refl; stands = subst (λ (e : Entry). StandsAt split e number) same zip.0 }
number_at split (first ∷ table) (number ∷ numbers) (suc k) entry zip there =
    let later = number_at split table numbers k entry zip.1 there in
    record { number = later.number; there = later.there; stands = later.stands }

module _ (split : Split) (sound : IsSound split) where
  entry_shaped : (entry : Entry) (number : ℕ) → StandsAt split entry number → IsExtent entry.shape
  entry_shaped entry number stands = subst (λ (place : ArrayPlace). IsExtent place.shape) stands.is (sound.placed.shaped number no_place stands.known)

  -- where the entry's array ends
  end_is : (entry : Entry) (number : ℕ) → StandsAt split entry number
      → end_of (get_or split.arrays number no_place) ≡ entry.place + array_bytes (raw_entry entry)
  end_is entry number stands = ap end_of stands.is ∙ ap (λ n. entry.place + n) (sym (bytes_are entry))

  entry_inside : (entry : Entry) (number : ℕ) → StandsAt split entry number → entry.place + array_bytes (raw_entry entry) ≤ split.memory
  entry_inside entry number stands = subst (λ n. n ≤ split.memory) (end_is entry number stands) (sound.placed.inside number no_place stands.known)

  -- arrays with two numbers, the first of which is the lower one
  ordered_apart : (entry other : Entry) (a b : ℕ) → StandsAt split entry a → StandsAt split other b → a < b → LieApart entry other
  ordered_apart entry other a b stands stands_too before =
      let place = ap (λ (p : ArrayPlace). p.place) stands.is in
      let place_too = ap (λ (p : ArrayPlace). p.place) stands_too.is in
      let end = end_is entry a stands in
      let end_too = end_is other b stands_too in
      elim (sound.placed.apart a b no_place before stands_too.known) [
        | inl first ↦ inr (omega (arith, first, end, place_too))
        | inr second ↦ inl (omega (arith, second, end_too, place))
      ]

  numbers_apart : (entry other : Entry) (a b : ℕ) → StandsAt split entry a → StandsAt split other b → b ≢ a → LieApart entry other
  numbers_apart entry other a b stands stands_too differ =
      elim (cases_lt a b) [
        | inl before ↦ ordered_apart entry other a b stands stands_too before
        | inr from ↦
            elim (cases_lt b a) [
              | inl behind ↦ elim (ordered_apart other entry b a stands_too stands behind) [ inl first ↦ inr first | inr second ↦ inl second ]
              | inr to ↦ absurd (differ (omega (arith, from, to)))
            ]
      ]

module _ (program : List Statement) (split : Split) (checked : IsCheckedProgram program) (sound : IsSound split)
    (declared : map unplaced split.table ≡ declared_table program) (arrays : HasNumbers split) where
  same_names : table_names split.table ≡ table_names (declared_table program)
  same_names = sym (unplaced_names split.table) ∙ ap table_names declared

  table_few : length split.table ≤ 256
  table_few = omega (arith, length-map split.table unplaced, ap (λ (t : List Entry). length t) declared, declared_few program, checked.limits.statements)

  named_at : (k : ℕ) (d : List ℕ) (entry : Entry) → slice_get split.table k ≡ Some entry → get_or (table_names split.table) k d ≡ entry.name
  named_at k d entry there =
      get_or-map (λ (e : Entry). e.name) split.table k entry d (slice_get_within split.table k entry there)
      ∙ ap (λ (e : Entry). e.name) (get_or_from_slice_get split.table k entry entry there)

  named_below : (k : ℕ) (entry : Entry) → slice_get split.table k ≡ Some entry → k < length (table_names split.table)
  named_below k entry there = omega (arith, slice_get_within split.table k entry there, length-map split.table (λ (e : Entry). e.name))

  entry_named : (k : ℕ) (entry : Entry) → slice_get split.table k ≡ Some entry → IsName entry.name
  entry_named k entry there =
      let names = all_declared IsName program (λ i d below. (checked.named i d below).name) in
      let here = subst (λ (l : List (List ℕ)). All IsName l) (sym same_names) names k entry.name (named_below k entry there) in
      subst IsName (named_at k entry.name entry there) here

  names_differ : (i k : ℕ) (other entry : Entry) → i < k → slice_get split.table i ≡ Some other → slice_get split.table k ≡ Some entry
      → other.name ≢ entry.name
  names_differ i k other entry before there here same =
      let pairs = pairs_declared (λ a b. a ≢ b) program checked.distinct in
      subst (λ (l : List (List ℕ)). AllPairs (λ a b. a ≢ b) l) (sym same_names) pairs i k entry.name before (named_below k entry here)
      (named_at i entry.name other there ∙ same ∙ sym (named_at k entry.name entry here))

  entries_apart : (i k : ℕ) (other entry : Entry) → i < k → slice_get split.table i ≡ Some other → slice_get split.table k ≡ Some entry → LieApart entry other
  entries_apart i k other entry before there here =
      let first = number_at split split.table arrays.numbers i other arrays.stand there in
      let second = number_at split split.table arrays.numbers k entry arrays.stand here in
      let lower = get_or_from_slice_get arrays.numbers i first.number 0 first.there in
      let upper = get_or_from_slice_get arrays.numbers k second.number 0 second.there in
      let below = slice_get_within arrays.numbers k second.number second.there in
      numbers_apart split sound entry other second.number first.number second.stands first.stands
      (λ same. arrays.own i k 0 before below (lower ∙ same ∙ sym upper))

  good_at : (k : ℕ) (entry : Entry) → slice_get split.table k ≡ Some entry → IsGoodEntry split.memory entry
  good_at k entry there =
      let own = number_at split split.table arrays.numbers k entry arrays.stand there in
      record {
        name = entry_named k entry there;
        shaped = entry_shaped split sound entry own.number own.stands;
        inside = entry_inside split sound entry own.number own.stands;
      }

  -- the earlier entry of this number
  earlier_at : (k i : ℕ) (entry : Entry) → slice_get split.table k ≡ Some entry → i < length (take k split.table)
      → (i < k) × (slice_get split.table i ≡ Some (get_or (take k split.table) i entry))
  earlier_at k i entry there lower =
      let below = slice_get_within split.table k entry there in
      let long = length-take-le k split.table (omega (arith, below)) in
      let before : i < k = omega (arith, lower, long) in (
        before,
        slice_get-get_or split.table i entry (omega (arith, before, below)) ∙ ap (λ (e : Entry). Some e) (sym (get_or-take k split.table i entry before)),
      )

  behind_at : (k : ℕ) (entry : Entry) → slice_get split.table k ≡ Some entry → IsBehind (take k split.table) entry
  behind_at k entry there = record {
    names = λ i lower.
        let earlier = earlier_at k i entry there lower in
        names_differ i k (get_or (take k split.table) i entry) entry earlier.0 earlier.1 there;
    apart = λ i lower.
        let earlier = earlier_at k i entry there lower in
        entries_apart i k (get_or (take k split.table) i entry) entry earlier.0 earlier.1 there;
  }

module _ (sound : SplitsAreSound) (needs : NeedsAreSome) (declared : TablesAreDeclared) (arrays : EntriesAreArrays) where
  header_lies : (program : List Statement) (split : Split) (spad : ℕ) (code : Listing) → IsCheckedProgram program → IsSplitOf program split
      → need_of split.passes ≤ spad
      → spad ≤ cell_limit → IsCodeFor split spad code → (part : HeaderPart)
      → LiesIn (least_of part) (most_of part) (header_number (header_of (image_with split spad code)) part)
  header_lies program split spad code checked is enough few is_code Spad = record { from = omega (arith, needs program split checked is, enough); to = few }
  header_lies program split spad code checked is enough few is_code Memory = record {
    from = omega arith;
    to = (sound program split checked is).placed.within;
  }
  header_lies program split spad code checked is enough few is_code Arrays = record {
    from = omega arith;
    to = table_few program split checked (sound program split checked is) (declared program split checked is) (arrays program split checked is);
  }
  header_lies program split spad code checked is enough few is_code Instrs = record { from = omega arith; to = is_code.few }

  pub they_are_images : TheyAreImages
  they_are_images program split spad code checked is enough few is_code =
      let is_sound = sound program split checked is in
      let is_declared = declared program split checked is in
      let numbers = arrays program split checked is in
      record {
        table =
            is_table (header_of (image_with split spad code)) split.table (header_lies program split spad code checked is enough few is_code)
            (λ k entry there. entry_right split.memory (take k split.table) entry (good_at program split checked is_sound is_declared numbers k entry there)
            (behind_at program split checked is_sound is_declared numbers k entry there));
        code = is_code.is_code;
      }
