-- The inputs of a table are put into memory one after another.
use Rattle.std.proofs.Common.{◌≡◌, ◌≢◌, inl, inr, ℕ, ◌+◌, ◌*◌, ◌<◌, ◌≤◌, ap, sym, ◌∙◌, refl, subst, arith, List, [], ◌∷◌, length, drop, take, get_or, map, Contains, Option, Some, None, false, cond, slice_get, ℤ, IsSome, IfSome}
use Rattle.std.proofs.lemmas.List.{drop_more, get_or-map, get_or-take, length-map, length-take-le}
use Rattle.std.proofs.lemmas.Bool.{cases_lt}
use Rattle.std.proofs.lemmas.Option.{slice_get-get_or, slice_get-map}
use Rattle.std.specs.Option.{IsSomeAnd, option_map}
use Rattle.ven_base.specs.declared.elem.Elem.{Elem}
use Rattle.ven_base.specs.declared.elem.Elem.TheVariants.{U8, I8, U16, I16, U32, I32}
use Rattle.ven_base.specs.declared.entry.Entry.{Entry}
use Rattle.ven_base.specs.Elem.{size_of, IsElement}
use Rattle.ven_base.proofs.Wrapped.{IsElement-wrapped}
use Rattle.std.specs.List.{range_with_len}
use Rattle.std.proofs.lemmas.List.FromFn.{length-map-range_with_len}
use Rattle.std.proofs.lemmas.List.Elements.{All-map}
use Rattle.std.proofs.Math.Nat.{mul-le-mul_right}
use Rattle.ven_base.specs.Extent.{elements_of, element_limit, IsExtent}
use Rattle.ven_base.specs.Grid.{Grid, IsGrid}
use Rattle.ven_base.specs.Pairs.{Pairs, array_named, arrays_of, ArePairs}
use Rattle.venice_isa.specs.Encoding.{type_number}
use Rattle.venice_isa.specs.Element.{number_of}
use Rattle.ven_base.specs.Limits.{memory_limit}
use Rattle.image_loader.specs.Table.{elem_of, array_bytes as table_bytes, array_limit, HeaderField, EntryField, Memory, Arrays, RawEntry, LiesIn, BreaksEntry}
use Rattle.image_loader.specs.declared.table.EntryPart.TheVariants.{NameLength, NameBytes, Rows, Columns, Place}
use Rattle.image_loader.specs.declared.table.EntryPart.{EntryPart}
use Rattle.image_loader.specs.Image.{raw_entry, raw_entries, ImageContents, IsImage}
use Rattle.array_file.specs.Fitting.{Fits}
use Rattle.venice_machine.specs.Start.{array_bytes, with_grid_bytes, with_inputs, array_in, element_in}
use Rattle.venice_machine.specs.Inside.{AllStandIn}
use Rattle.venice_machine.proofs.Stretches.{bytes_length}

-- what the rest of the table puts gives what all of it does
pub record IsLeft (table : List Entry) (inputs : Pairs) (index : ℕ) (before memory : List ℕ) : Type 0 where
  pub same : length memory ≡ length before
  pub left : with_inputs (drop index table) inputs memory ≡ with_inputs table inputs before

pub one_input : (table : List Entry) (inputs : Pairs) (index : ℕ) (before memory after : List ℕ) (entry : Entry) → index < length table → entry ≡ get_or table index entry
    → after ≡ cond entry.output memory (with_grid_bytes (array_named inputs entry.name) entry.place memory) → length after ≡ length memory
    → IsLeft table inputs index before memory → IsLeft table inputs (index + 1) before after
one_input table inputs index before memory after entry below is puts same left = record {
  same = same ∙ left.same;
  left = ap (with_inputs (drop (index + 1) table) inputs) puts
      ∙ sym (ap (λ (entries : List Entry). with_inputs entries inputs memory) (drop_more table index entry below ∙ ap (λ (e : Entry). e ∷ drop (index + 1) table) (sym is)))
      ∙ left.left;
}

type_is : (elem : Elem) → elem_of (type_number elem) ≡ elem
type_is U8 = refl
type_is I8 = refl
type_is U16 = refl
type_is I16 = refl
type_is U32 = refl
type_is I32 = refl

some_same : (first second : Grid) → Some first ≡ Some second → first ≡ second
some_same first second e = cc

pub is_array : (inputs : Pairs) (name : List ℕ) (array : Grid) → ArePairs inputs → Contains inputs (name, array) → IsGrid array
is_array inputs name array pairs there =
    let k = there.0 in
    let d : List ℕ × Grid = (name, array) in
    let at : get_or (arrays_of inputs) k array ≡ array = get_or-map (λ (p : List ℕ × Grid). p.1) inputs k d array there.1 ∙ ap (λ (p : List ℕ × Grid). p.1) there.2 in
    let below : k < length (arrays_of inputs) = subst (λ n. k < n) (sym (length-map inputs (λ (p : List ℕ × Grid). p.1))) there.1 in
    subst IsGrid at (pairs.arrays k array below)

-- what an image says of its table and its memory
pub memory_few : (image : ImageContents) → IsImage image → image.memory ≤ memory_limit
memory_few image is = elim (cases_lt memory_limit image.memory) [
  | inl more ↦ absurd (is.table (HeaderField Memory) (λ lies. omega (arith, lies.to, more)))
  | inr few ↦ few
]

pub stand_in : (image : ImageContents) → IsImage image → AllStandIn image.memory image.arrays
stand_in image is k d below = elim (cases_lt image.memory (place_end (get_or image.arrays k d))) [
  | inl more ↦ absurd (is.table (EntryField k Place) (subst (λ (o : Option RawEntry). IsSomeAnd o (λ entry. BreaksEntry image.memory (take k (raw_entries image.arrays)) entry Place)) (sym there) (inl more)))
  | inr few ↦ few
]
  where
    there : slice_get (raw_entries image.arrays) k ≡ Some (raw_entry (get_or image.arrays k d))
    there = slice_get-map raw_entry image.arrays k ∙ ap (option_map raw_entry) (slice_get-get_or image.arrays k d below)

    place_end : Entry → ℕ
    place_end entry = entry.place + table_bytes (raw_entry entry)

-- an input's array has as many bytes as its entry
pub input_bytes : (table : List Entry) (inputs : Pairs) (index : ℕ) (entry : Entry) (array : Grid) → Fits inputs table → IsGrid array → index < length table → entry ≡ get_or table index entry → entry.output ≡ false
    → array_named inputs entry.name ≡ Some array → length (array_bytes array) ≡ table_bytes (raw_entry entry)
input_bytes table inputs index entry array fits is_grid below is input named =
    let stands : slice_get table index ≡ Some entry = slice_get-get_or table index entry below ∙ ap (λ (e : Entry). Some e) (sym is) in
    let fit = fits.inputs index entry (record { stands = stands; input = input }) in
    let same : array ≡ fit.0 = some_same array fit.0 (sym named ∙ fit.1.is) in
    let elem : array.elem ≡ entry.elem = ap (λ (g : Grid). g.elem) same ∙ fit.2 in
    let shape = ap (λ (g : Grid). g.shape) same ∙ fit.3 in
    bytes_length array.elem array.values
    ∙ ap (λ n. n * size_of array.elem) (is_grid.filled ∙ ap elements_of shape)
    ∙ ap (λ (e : Elem). elements_of entry.shape * size_of e) elem
    ∙ ap (λ (e : Elem). elements_of entry.shape * size_of e) (sym (type_is entry.elem))

pub input_inside : (size : ℕ) (table : List Entry) (inputs : Pairs) (index : ℕ) (entry : Entry) (array : Grid) → AllStandIn size table → Fits inputs table → IsGrid array → index < length table → entry ≡ get_or table index entry
    → entry.output ≡ false → array_named inputs entry.name ≡ Some array → entry.place + length (array_bytes array) ≤ size
input_inside size table inputs index entry array stand fits is_grid below is input named =
    let bytes = input_bytes table inputs index entry array fits is_grid below is input named in
    subst (λ n. entry.place + n ≤ size) (sym bytes) (subst (λ (e : Entry). e.place + table_bytes (raw_entry e) ≤ size) (sym is) (stand index entry below))

-- ---- the array at an entry's place

pub element_room : (size : ℕ) (entry : Entry) (k : ℕ) → AllStandIn size (entry ∷ []) → k < elements_of entry.shape → entry.place + k * size_of entry.elem + size_of entry.elem ≤ size
element_room size entry k stand below =
    let first : 0 < 1 = omega arith in
    let all = stand 0 entry first in
    let bytes : table_bytes (raw_entry entry) ≡ elements_of entry.shape * size_of entry.elem = ap (λ (e : Elem). elements_of entry.shape * size_of e) (type_is entry.elem) in
    let more : k + 1 ≤ elements_of entry.shape = omega (arith, below) in
    let rows = mul-le-mul_right (size_of entry.elem) more in
    let next : (k + 1) * size_of entry.elem ≡ k * size_of entry.elem + size_of entry.elem = omega arith in
    omega (arith, all, bytes, rows, next)

pub array_is_grid : (memory : List ℕ) (entry : Entry) → IsExtent entry.shape → IsGrid (array_in memory entry)
array_is_grid memory entry shape = record {
  shaped = shape;
  filled = length-map-range_with_len value_at 0 (elements_of entry.shape);
  typed = All-map (IsElement entry.elem) value_at (range_with_len 0 (elements_of entry.shape)) (λ k d below. IsElement-wrapped entry.elem _);
}
  where
    value_at : ℕ → ℤ
    value_at k = number_of entry.elem (element_in memory entry k)

pub some_grid : (result : Option Grid) (grid : Grid) → IsSome result → IfSome result (λ array. array ≡ grid) → result ≡ Some grid
some_grid None grid some is = cc
some_grid (Some array) grid some is = ap (λ (g : Grid). Some g) is

-- ---- the rules of an image's table

lies : (least most n : ℕ) → ¬ (¬ LiesIn least most n) → LiesIn least most n
lies least most n not_out = elim (cases_lt n least) [
  | inl low ↦ absurd (not_out (λ l. omega (arith, l.from, low)))
  | inr from ↦ elim (cases_lt most n) [
    | inl high ↦ absurd (not_out (λ l. omega (arith, l.to, high)))
    | inr to ↦ record { from = from; to = to }
  ]
]

module _ (image : ImageContents) (is : IsImage image) where
  raw_there : (k : ℕ) (d : Entry) → k < length image.arrays → slice_get (raw_entries image.arrays) k ≡ Some (raw_entry (get_or image.arrays k d))
  raw_there k d below = slice_get-map raw_entry image.arrays k ∙ ap (option_map raw_entry) (slice_get-get_or image.arrays k d below)

  -- no part of an entry breaks its rule
  no_break : (k : ℕ) (d : Entry) (part : EntryPart) → k < length image.arrays → ¬ BreaksEntry image.memory (take k (raw_entries image.arrays)) (raw_entry (get_or image.arrays k d)) part
  no_break k d part below breaks =
      is.table (EntryField k part) (subst (λ (o : Option RawEntry). IsSomeAnd o (λ entry. BreaksEntry image.memory (take k (raw_entries image.arrays)) entry part)) (sym (raw_there k d below)) breaks)

  pub arrays_few : length image.arrays ≤ array_limit
  arrays_few = (lies 0 array_limit (length image.arrays) (is.table (HeaderField Arrays))).to

  pub arrays_shaped : (k : ℕ) (d : Entry) → k < length image.arrays → IsExtent (get_or image.arrays k d).shape
  arrays_shaped k d below =
      let shape = (get_or image.arrays k d).shape in
      record {
        some_rows = elim (cases_lt 0 shape.rows) [ inl some ↦ some | inr none ↦ absurd (no_break k d Rows below (omega (arith, none))) ];
        some_cols = elim (cases_lt 0 shape.cols) [ inl some ↦ some | inr none ↦ absurd (no_break k d Columns below (inl (omega (arith, none)))) ];
        within = elim (cases_lt element_limit (elements_of shape)) [ inl more ↦ absurd (no_break k d Columns below (inr more)) | inr few ↦ few ];
      }

  pub names_differ : (i j : ℕ) (d : Entry) → i < j → j < length image.arrays → (get_or image.arrays i d).name ≢ (get_or image.arrays j d).name
  names_differ i j d before below same =
      let raws = raw_entries image.arrays in
      let name = (get_or image.arrays j d).name in
      let earlier : i < length image.arrays = omega (arith, before, below) in
      let long = length-map image.arrays raw_entry in
      let lower : i < length (take j raws) = omega (arith, length-take-le j raws (omega (arith, long, below)), before) in
      let inside : i < length (map (λ (e : RawEntry). e.name) (take j raws)) = subst (λ n. i < n) (sym (length-map (take j raws) (λ (e : RawEntry). e.name))) lower in
      let named = get_or-map (λ (e : RawEntry). e.name) (take j raws) i (raw_entry d) name lower
      ∙ ap (λ (e : RawEntry). e.name) (get_or-take j raws i (raw_entry d) before ∙ get_or-map raw_entry image.arrays i d (raw_entry d) earlier) in
      no_break j d NameBytes below (lies 1 31 (length name) (no_break j d NameLength below), inr (i, inside, named ∙ same))

  pub entry_names_differ : (i j : ℕ) (x : List ℕ) → i < j → j < length (map (λ (entry : Entry). entry.name) image.arrays)
      → get_or (map (λ (entry : Entry). entry.name) image.arrays) i x ≢ get_or (map (λ (entry : Entry). entry.name) image.arrays) j x
  entry_names_differ i j x before below same = go image.arrays refl
    where
      go : (arrays : List Entry) → image.arrays ≡ arrays → ⊥
      go [] none = absurd (omega (arith, before, subst (λ (entries : List Entry). j < length (map (λ (entry : Entry). entry.name) entries)) none below))
      go (d ∷ rest) some =
          let there : j < length image.arrays = subst (λ n. j < n) (length-map image.arrays (λ (entry : Entry). entry.name)) below in
          let earlier : i < length image.arrays = omega (arith, before, there) in
          names_differ i j d before there
          (sym (get_or-map (λ (entry : Entry). entry.name) image.arrays i d x earlier) ∙ same ∙ get_or-map (λ (entry : Entry). entry.name) image.arrays j d x there)
