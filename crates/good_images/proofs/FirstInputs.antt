-- The first memory holds the inputs at their places.
use Rattle.std.proofs.Common.{◌≡◌, ◌⊎◌, inl, inr, ℕ, zero, suc, ◌+◌, ◌<◌, ◌≤◌, ap, sym, ◌∙◌, refl, subst, arith, Bool, true, false, cond, List, [], ◌∷◌, length, drop, get_or, Option, Some, None, slice_get, replicate, take, ◌&&◌}
use Rattle.std.specs.Option.{IsSomeAnd, option_map}
use Rattle.std.proofs.Math.Dec.{ltb}
use Rattle.std.proofs.lemmas.Bool.{cases_lt, lt-ltb}
use Rattle.std.proofs.lemmas.List.{ext_get_or, get_or-take, get_or-drop, length-take-le, length-drop, length-replicate}
use Rattle.std.proofs.lemmas.List.Folds.{list_any_at}
use Rattle.std.proofs.lemmas.Option.{slice_get-map, slice_get_within, get_or_from_slice_get}
use Rattle.ven_base.specs.declared.entry.Entry.{Entry}
use Rattle.ven_base.specs.Grid.{Grid}
use Rattle.ven_base.specs.Pairs.{Pairs, ArePairs, array_named}
use Rattle.venice_isa.specs.Cell.{part}
use Rattle.venice_isa.proofs.Overwrites.{overwritten_length, overwritten_below, overwritten_in, overwritten_above}
use Rattle.array_file.specs.Fitting.{IsInput, Fits}
use Rattle.image_loader.specs.Table.{array_bytes as table_bytes, EntryField, RawEntry, BreaksEntry, share_byte}
use Rattle.image_loader.specs.declared.table.EntryPart.TheVariants.{Place}
use Rattle.image_loader.specs.Image.{raw_entry, raw_entries, ImageContents, IsImage}
use Rattle.venice_machine.specs.Start.{array_bytes, with_grid_bytes, with_inputs, start_state}
use Rattle.venice_machine.proofs.Inputs.{stand_in, input_bytes}
use Rattle.good_images.proofs.Tables.{named_grid}

-- ---- one array

-- what an entry puts into memory
abbrev put : Bool → Option Grid → ℕ → List ℕ → List ℕ
put output found place memory = cond output memory (with_grid_bytes found place memory)

-- it puts so many bytes, if any
record Puts (output : Bool) (found : Option Grid) (count : ℕ) : Type 0 where
  counted : (grid : Grid) → output ≡ false → found ≡ Some grid → length (array_bytes grid) ≡ count

put_length : (output : Bool) (found : Option Grid) (place count : ℕ) (memory : List ℕ) → Puts output found count → place + count ≤ length memory
    → length (put output found place memory) ≡ length memory
put_length true found place count memory puts inside = refl
put_length false None place count memory puts inside = refl
put_length false (Some grid) place count memory puts inside =
    overwritten_length memory place (array_bytes grid) (omega (arith, puts.counted grid refl refl, inside))

put_kept : (output : Bool) (found : Option Grid) (place count p : ℕ) (memory : List ℕ) → Puts output found count → place + count ≤ length memory
    → (p < place) ⊎ (place + count ≤ p) → get_or (put output found place memory) p 0 ≡ get_or memory p 0
put_kept true found place count p memory puts inside past = refl
put_kept false None place count p memory puts inside past = refl
put_kept false (Some grid) place count p memory puts inside past =
    let counted = puts.counted grid refl refl in
    let within : place + length (array_bytes grid) ≤ length memory = omega (arith, counted, inside) in
    elim past [
      | inl below ↦ overwritten_below memory place (array_bytes grid) within 0 p below
      | inr above ↦ overwritten_above memory place (array_bytes grid) within 0 p (omega (arith, counted, above))
    ]

put_in : (output : Bool) (found : Option Grid) (grid : Grid) (place b : ℕ) (memory : List ℕ) → output ≡ false → found ≡ Some grid
    → place + length (array_bytes grid) ≤ length memory → b < length (array_bytes grid)
    → get_or (put output found place memory) (place + b) 0 ≡ get_or (array_bytes grid) b 0
put_in output found grid place b memory input is inside below =
    ap (λ (o : Bool). get_or (put o found place memory) (place + b) 0) input
    ∙ ap (λ (f : Option Grid). get_or (put false f place memory) (place + b) 0) is
    ∙ overwritten_in memory place (array_bytes grid) inside 0 b below

-- ---- all of a table

-- one past the last byte of an entry's array
abbrev pub end_at : Entry → ℕ
end_at entry = entry.place + table_bytes (raw_entry entry)

-- in a memory of this size the arrays of a table lie inside, and share no byte; and each input has as many bytes as its
-- entry
pub record CanStand (size : ℕ) (inputs : Pairs) (table : List Entry) : Type 0 where
  pub inside : (k : ℕ) (entry : Entry) → slice_get table k ≡ Some entry → end_at entry ≤ size
  pub sized : (k : ℕ) (entry : Entry) (grid : Grid) → IsInput table k entry → array_named inputs entry.name ≡ Some grid
      → length (array_bytes grid) ≡ table_bytes (raw_entry entry)
  pub apart : (i j : ℕ) (a b : Entry) → i < j → slice_get table i ≡ Some a → slice_get table j ≡ Some b → (end_at a ≤ b.place) ⊎ (end_at b ≤ a.place)

module _ (inputs : Pairs) where
  rest_stands : (size : ℕ) (entry : Entry) (table : List Entry) → CanStand size inputs (entry ∷ table) → CanStand size inputs table
  rest_stands size entry table stand = record {
    inside = λ k e there. stand.inside (suc k) e there;
    sized = λ k e grid is. stand.sized (suc k) e grid (record { stands = is.stands; input = is.input });
    apart = λ i j a b before. stand.apart (suc i) (suc j) a b (omega (arith, before));
  }

  -- memory behind the first entry's array
  abbrev behind : Entry → List ℕ → List ℕ
  behind entry memory = put entry.output (array_named inputs entry.name) entry.place memory

  first_puts : (size : ℕ) (entry : Entry) (table : List Entry) → CanStand size inputs (entry ∷ table)
      → Puts entry.output (array_named inputs entry.name) (table_bytes (raw_entry entry))
  first_puts size entry table stand = record { counted = λ grid input is. stand.sized 0 entry grid (record { stands = refl; input = input }) is }

  behind_length : (entry : Entry) (table : List Entry) (memory : List ℕ) → CanStand (length memory) inputs (entry ∷ table)
      → length (behind entry memory) ≡ length memory
  behind_length entry table memory stand =
      put_length entry.output (array_named inputs entry.name) entry.place (table_bytes (raw_entry entry)) memory
      (first_puts (length memory) entry table stand)
      (stand.inside 0 entry refl)

  behind_stands : (entry : Entry) (table : List Entry) (memory : List ℕ) → CanStand (length memory) inputs (entry ∷ table)
      → CanStand (length (behind entry memory)) inputs table
  behind_stands entry table memory stand =
      subst (λ n. CanStand n inputs table) (sym (behind_length entry table memory stand)) (rest_stands (length memory) entry table stand)

  inputs_length : (table : List Entry) (memory : List ℕ) → CanStand (length memory) inputs table → length (with_inputs table inputs memory) ≡ length memory
  inputs_length [] memory stand = refl
  inputs_length (entry ∷ table) memory stand =
      inputs_length table (behind entry memory) (behind_stands entry table memory stand) ∙ behind_length entry table memory stand

  -- a byte that lies in none of the arrays
  others_kept : (table : List Entry) (memory : List ℕ) (p : ℕ) → CanStand (length memory) inputs table
      → ((k : ℕ) (entry : Entry) → slice_get table k ≡ Some entry → (p < entry.place) ⊎ (end_at entry ≤ p))
      → get_or (with_inputs table inputs memory) p 0 ≡ get_or memory p 0
  others_kept [] memory p stand past = refl
  others_kept (entry ∷ table) memory p stand past =
      others_kept table (behind entry memory) p (behind_stands entry table memory stand) (λ k e there. past (suc k) e there)
      ∙ put_kept entry.output (array_named inputs entry.name) entry.place (table_bytes (raw_entry entry)) p memory
      (first_puts (length memory) entry table stand)
      (stand.inside 0 entry refl) (past 0 entry refl)

  -- a byte of the first entry's array is in none of the later ones
  past_first : (size b : ℕ) (entry : Entry) (table : List Entry) → CanStand size inputs (entry ∷ table) → b < table_bytes (raw_entry entry)
      → (k : ℕ) (other : Entry)
      → slice_get table k ≡ Some other → (entry.place + b < other.place) ⊎ (end_at other ≤ entry.place + b)
  past_first size b entry table stand below k other there =
      elim (stand.apart 0 (suc k) entry other (omega arith) refl there) [
        | inl before ↦ inl (omega (arith, before, below))
        | inr after ↦ inr (omega (arith, after))
      ]

  first_stands : (entry : Entry) (table : List Entry) (memory : List ℕ) (grid : Grid) (b : ℕ) → CanStand (length memory) inputs (entry ∷ table)
      → entry.output ≡ false
      → array_named inputs entry.name ≡ Some grid → b < length (array_bytes grid)
      → get_or (with_inputs (entry ∷ table) inputs memory) (entry.place + b) 0 ≡ get_or (array_bytes grid) b 0
  first_stands entry table memory grid b stand input named below =
      let counted = stand.sized 0 entry grid (record { stands = refl; input = input }) named in
      let inside = stand.inside 0 entry refl in
      others_kept table (behind entry memory) (entry.place + b) (behind_stands entry table memory stand)
      (past_first (length memory) b entry table stand (omega (arith, counted, below)))
      ∙ put_in entry.output (array_named inputs entry.name) grid entry.place b memory input named (omega (arith, counted, inside)) below

  one_stands : (table : List Entry) (memory : List ℕ) (k : ℕ) (entry : Entry) (grid : Grid) (b : ℕ) → CanStand (length memory) inputs table
      → IsInput table k entry
      → array_named inputs entry.name ≡ Some grid → b < length (array_bytes grid)
      → get_or (with_inputs table inputs memory) (entry.place + b) 0 ≡ get_or (array_bytes grid) b 0
  one_stands [] memory k entry grid b stand is named below = let none = is.stands in cc
  one_stands (first ∷ table) memory zero entry grid b stand is named below =
      let there : Some first ≡ Some entry = is.stands in
      let same : first ≡ entry = cc in
      let input : first.output ≡ false = ap (λ (e : Entry). e.output) same ∙ is.input in
      let found : array_named inputs first.name ≡ Some grid = ap (λ (e : Entry). array_named inputs e.name) same ∙ named in
      ap (λ (e : Entry). get_or (with_inputs (first ∷ table) inputs memory) (e.place + b) 0) (sym same)
      ∙ first_stands first table memory grid b stand input found below
  one_stands (first ∷ table) memory (suc k) entry grid b stand is named below =
      one_stands table (behind first memory) k entry grid b (behind_stands first table memory stand)
      (record { stands = is.stands; input = is.input }) named below

  -- the bytes of an input stand at its entry's place
  pub input_stands : (table : List Entry) (memory : List ℕ) (k : ℕ) (entry : Entry) (grid : Grid) → CanStand (length memory) inputs table
      → IsInput table k entry
      → array_named inputs entry.name ≡ Some grid
      → part (with_inputs table inputs memory) entry.place (length (array_bytes grid)) ≡ array_bytes grid
  input_stands table memory k entry grid stand is named =
      let whole = with_inputs table inputs memory in
      let bytes = array_bytes grid in
      let counted = stand.sized k entry grid is named in
      let inside = stand.inside k entry is.stands in
      let long = inputs_length table memory stand in
      let room : length bytes ≤ length (drop entry.place whole) = omega (arith, length-drop entry.place whole, counted, inside, long) in
      let count : length (part whole entry.place (length bytes)) ≡ length bytes = length-take-le (length bytes) (drop entry.place whole) room in
      ext_get_or 0 (part whole entry.place (length bytes)) bytes count (λ b below.
      let lower : b < length bytes = omega (arith, count, below) in
      get_or-take (length bytes) (drop entry.place whole) b 0 lower
      ∙ get_or-drop entry.place whole b 0
      ∙ one_stands table memory k entry grid b stand is named lower)

-- ---- the inputs of an image

-- two arrays that reach into each other share a byte
shares : (a b : RawEntry) → a.place < b.place + table_bytes b → b.place < a.place + table_bytes a → share_byte b a ≡ true
shares a b under over =
    ap (λ t. t && ltb b.place (a.place + table_bytes a)) (lt-ltb a.place (b.place + table_bytes b) under) ∙ lt-ltb b.place (a.place + table_bytes a) over

module _ (image : ImageContents) (is_image : IsImage image) where
  abbrev raws : List RawEntry
  raws = raw_entries image.arrays

  raw_there : (k : ℕ) (entry : Entry) → slice_get image.arrays k ≡ Some entry → slice_get raws k ≡ Some (raw_entry entry)
  raw_there k entry there = slice_get-map raw_entry image.arrays k ∙ ap (option_map raw_entry) there

  lies_inside : (k : ℕ) (entry : Entry) → slice_get image.arrays k ≡ Some entry → end_at entry ≤ image.memory
  lies_inside k entry there =
      subst (λ (e : Entry). end_at e ≤ image.memory) (get_or_from_slice_get image.arrays k entry entry there)
      (stand_in image is_image k entry (slice_get_within image.arrays k entry there))

  shares_none : (i j : ℕ) (a b : Entry) → i < j → slice_get image.arrays i ≡ Some a → slice_get image.arrays j ≡ Some b
      → share_byte (raw_entry b) (raw_entry a) ≡ true → ⊥
  shares_none i j a b before there other share =
      let below : j < length raws = slice_get_within raws j (raw_entry b) (raw_there j b other) in
      let lower : i < length (take j raws) = omega (arith, length-take-le j raws (omega (arith, below)), before) in
      let earlier : get_or (take j raws) i (raw_entry a) ≡ raw_entry a =
      get_or-take j raws i (raw_entry a) before ∙ get_or_from_slice_get raws i (raw_entry a) (raw_entry a) (raw_there i a there) in
      let any = list_any_at (share_byte (raw_entry b)) (take j raws) i (raw_entry a) lower (ap (share_byte (raw_entry b)) earlier ∙ share) in
      is_image.table (EntryField j Place)
      (subst (λ (o : Option RawEntry). IsSomeAnd o (λ entry. BreaksEntry image.memory (take j raws) entry Place)) (sym (raw_there j b other)) (inr any))

  lie_apart : (i j : ℕ) (a b : Entry) → i < j → slice_get image.arrays i ≡ Some a → slice_get image.arrays j ≡ Some b
      → (end_at a ≤ b.place) ⊎ (end_at b ≤ a.place)
  lie_apart i j a b before there other =
      elim (cases_lt b.place (end_at a)) [
        | inl over ↦ elim (cases_lt a.place (end_at b)) [
          | inl under ↦ absurd (shares_none i j a b before there other (shares (raw_entry a) (raw_entry b) under over))
          | inr clear ↦ inr clear
        ]
        | inr clear ↦ inl clear
      ]

  inputs_can_stand : (inputs : Pairs) → ArePairs inputs → Fits inputs image.arrays → CanStand image.memory inputs image.arrays
  inputs_can_stand inputs pairs fits = record {
    inside = lies_inside;
    sized = λ k entry grid is named.
        input_bytes image.arrays inputs k entry grid fits (named_grid inputs entry.name grid pairs named) (slice_get_within image.arrays k entry is.stands)
        (sym (get_or_from_slice_get image.arrays k entry entry is.stands)) is.input named;
    apart = lie_apart;
  }

-- before the first cycle the bytes of each input stand at its entry's place
pub first_inputs : (image : ImageContents) (inputs : Pairs) (spad : ℕ) → IsImage image → ArePairs inputs → Fits inputs image.arrays
    → (k : ℕ) (entry : Entry) (grid : Grid)
    → IsInput image.arrays k entry → array_named inputs entry.name ≡ Some grid
    → part (start_state image inputs spad).store.memory entry.place (length (array_bytes grid)) ≡ array_bytes grid
first_inputs image inputs spad is_image pairs fits k entry grid is named =
    let stand = inputs_can_stand image is_image inputs pairs fits in
    let zeros : List ℕ = replicate image.memory 0 in
    input_stands inputs image.arrays zeros k entry grid (subst (λ n. CanStand n inputs image.arrays) (sym (length-replicate image.memory 0)) stand) is named
