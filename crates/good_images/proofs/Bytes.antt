-- The bytes of an array in memory, as the machine counts them and as the compiler does.
use Rattle.std.proofs.Common.{◌≡◌, ℕ, pos, ℤ, ◌+◌, ◌*◌, ◌-◌, ◌<◌, ◌≤◌, ap, sym, ◌∙◌, refl, subst, arith, false, List, length, take, drop, get_or, map, slice_get, Option, Some, None}
use Rattle.std.specs.List.{flat_map, range_with_len}
use Rattle.std.specs.Option.{option_map}
use Rattle.std.proofs.lemmas.List.{ext_get_or, get_or-take, get_or-drop, length-take-le, length-drop}
use Rattle.std.proofs.lemmas.List.Concat.{get_or-flat_map}
use Rattle.std.proofs.lemmas.List.FromFn.{length-map-range_with_len, get_or-map-range_with_len}
use Rattle.std.proofs.lemmas.Option.{slice_get-get_or, slice_get_within}
use Rattle.std.proofs.Math.Nat.{mul-le-mul_right}
use Rattle.ven_base.specs.declared.elem.Elem.{Elem}
use Rattle.ven_base.specs.declared.elem.Elem.TheVariants.{U8, I8, U16, I16, U32, I32}
use Rattle.ven_base.specs.declared.entry.Entry.{Entry}
use Rattle.ven_base.specs.Elem.{size_of, IsElement}
use Rattle.ven_base.specs.Extent.{elements_of}
use Rattle.ven_base.specs.Grid.{Grid, IsGrid}
use Rattle.ven_base.specs.Operation.{bits_of}
use Rattle.ven_base.specs.Store.{Store}
use Rattle.venice_isa.specs.Cell.{byte_of, part}
use Rattle.venice_isa.specs.Element.{bytes_of, number_of}
use Rattle.venice_isa.proofs.Spellings.{low_bytes_length, bytes_spell}
use Rattle.venice_machine.specs.Start.{array_bytes, array_in, element_in}
use Rattle.venice_machine.proofs.Stretches.{bytes_length}
use Rattle.pass_plan.specs.declared.split.ArrayPlace.{ArrayPlace}
use Rattle.pass_plan.specs.Buffers.{byte_of_value}
use Rattle.dma_segments.specs.Laws.{HasArray}
use Rattle.dma_segments.proofs.Values.{low_byte, array_has}

-- ---- parts

part_length : {A : Type 0} (items : List A) (place count : ℕ) → place + count ≤ length items → length (part items place count) ≡ count
part_length items place count inside = length-take-le count (drop place items) (omega (arith, length-drop place items, inside))

part_at : {A : Type 0} (items : List A) (place count b : ℕ) (d : A) → b < count → get_or (part items place count) b d ≡ get_or items (place + b) d
part_at items place count b d below = get_or-take count (drop place items) b d below ∙ get_or-drop place items b d

-- ---- one value

-- byte b of a value's bytes
value_byte : (elem : Elem) (value : ℤ) (b : ℕ) → b < size_of elem → get_or (bytes_of elem value) b 0 ≡ byte_of_value elem value b
value_byte elem value b below = low_byte (size_of elem) (bits_of elem value) b below

some_bytes : (elem : Elem) → 0 < size_of elem
some_bytes U8 = omega arith
some_bytes I8 = omega arith
some_bytes U16 = omega arith
some_bytes I16 = omega arith
some_bytes U32 = omega arith
some_bytes I32 = omega arith

-- ---- from the array's bytes to the array

-- byte b of element `index`
array_byte_at : (array : Grid) (index b : ℕ) → index < length array.values → b < size_of array.elem
    → get_or (array_bytes array) (index * size_of array.elem + b) 0 ≡ byte_of_value array.elem (get_or array.values index (pos 0)) b
array_byte_at array index b within b_within =
    let value = get_or array.values index (pos 0) in
    let before : length (flat_map (bytes_of array.elem) (take index array.values)) ≡ index * size_of array.elem =
    bytes_length array.elem (take index array.values) ∙ ap (λ n. n * size_of array.elem) (length-take-le index array.values (omega (arith, within))) in
    let long : length (bytes_of array.elem value) ≡ size_of array.elem = low_bytes_length (size_of array.elem) (bits_of array.elem value) in
    ap (λ n. get_or (array_bytes array) (n + b) 0) (sym before)
    ∙ get_or-flat_map (bytes_of array.elem) array.values index b (pos 0) 0 within (omega (arith, long, b_within))
    ∙ value_byte array.elem value b b_within

byte_below : (array : Grid) (index b : ℕ) → index < length array.values → b < size_of array.elem → index * size_of array.elem + b < length (array_bytes array)
byte_below array index b within b_within =
    let rows = mul-le-mul_right {m = index + 1} {n = length array.values} (size_of array.elem) (omega (arith, within)) in
    let next : (index + 1) * size_of array.elem ≡ index * size_of array.elem + size_of array.elem = omega arith in
    omega (arith, bytes_length array.elem array.values, rows, next, b_within)

-- where its bytes stand at the place, memory has the array
pub has_array : (place : ArrayPlace) (array : Grid) (store : Store) → array.elem ≡ place.elem → place.place + length (array_bytes array) ≤ length store.memory
    → part store.memory place.place (length (array_bytes array)) ≡ array_bytes array → HasArray place array store
has_array place array store elem_is inside bytes p byte is =
    let at = is.stands in
    let size : size_of array.elem ≡ size_of place.elem = ap size_of elem_is in
    let b_within : at.b < size_of array.elem = omega (arith, at.b_within, size) in
    let offset = at.index * size_of array.elem + at.b in
    let below = byte_below array at.index at.b at.within b_within in
    let p_is : p ≡ place.place + offset = at.is ∙ ap (λ n. place.place + (at.index * n + at.b)) (sym size) in
    let found : get_or store.memory (place.place + offset) 0 ≡ byte =
    sym (part_at store.memory place.place (length (array_bytes array)) offset 0 below)
    ∙ ap (λ (items : List ℕ). get_or items offset 0) bytes
    ∙ array_byte_at array at.index at.b at.within b_within
    ∙ ap (λ e. byte_of_value e (get_or array.values at.index (pos 0)) at.b) elem_is
    ∙ sym is.is in
    ap (λ n. option_map byte_of (option_map (λ x. (x, false)) (slice_get store.memory n))) p_is
    ∙ ap (λ o. option_map byte_of (option_map (λ x. (x, false)) o)) (slice_get-get_or store.memory (place.place + offset) 0 (omega (arith, inside, below)))
    ∙ ap (λ x. Some x) found

-- ---- and back

-- an entry's place
abbrev pub place_of : Entry → ArrayPlace
place_of entry = record { elem = entry.elem; shape = entry.shape; place = entry.place }

has_within : (memory : List ℕ) (p byte : ℕ) → option_map byte_of (option_map (λ x. (x, false)) (slice_get memory p)) ≡ Some byte → p < length memory
has_within memory p byte has = by (slice_get memory p) refl has
  where
    by : (o : Option ℕ) → slice_get memory p ≡ o → option_map byte_of (option_map (λ x. (x, false)) o) ≡ Some byte → p < length memory
    by None is h = absurd (cc)
    by (Some x) is h = slice_get_within memory p x is

module _ (entry : Entry) (array : Grid) (store : Store) (has : HasArray (place_of entry) array store) (is_grid : IsGrid array)
    (elem_is : array.elem ≡ entry.elem) (shape_is : array.shape ≡ entry.shape) where
  module _ (k : ℕ) (within : k < length array.values) where
    abbrev value : ℤ
    value = get_or array.values k (pos 0)

    abbrev start : ℕ
    start = entry.place + k * size_of entry.elem

    element_inside : start + size_of entry.elem ≤ length store.memory
    element_inside =
        let last = size_of entry.elem - 1 in
        let some = some_bytes entry.elem in
        let byte = byte_of_value entry.elem value last in
        let p = entry.place + (k * size_of entry.elem + last) in
        let there = has p byte (record { stands = record { index = k; b = last; within = within; b_within = omega (arith, some); is = refl }; is = refl }) in
        omega (arith, has_within store.memory p byte there, some)

    element_is : element_in store.memory entry k ≡ bytes_of entry.elem value
    element_is =
        let size = size_of entry.elem in
        let long = part_length store.memory start size element_inside in
        ext_get_or 0 (part store.memory start size) (bytes_of entry.elem value) (long ∙ sym (low_bytes_length size (bits_of entry.elem value)))
        (λ b below.
        let b_within : b < size = omega (arith, below, long) in
        part_at store.memory start size b 0 b_within
        ∙ ap (λ n. get_or store.memory n 0) (omega arith)
        ∙ array_has (place_of entry) array store has k b within b_within
        ∙ sym (value_byte entry.elem value b b_within))

    value_is : number_of entry.elem (element_in store.memory entry k) ≡ value
    value_is =
        ap (number_of entry.elem) element_is
        ∙ (bytes_spell entry.elem value (subst (λ e. IsElement e value) elem_is (is_grid.typed k (pos 0) within))).number

  -- the array that memory holds at the entry's place
  pub array_there : array_in store.memory entry ≡ array
  array_there = λ i. record { elem = sym elem_is i; shape = sym shape_is i; values = values_are i }
    where
      count : length array.values ≡ elements_of entry.shape
      count = is_grid.filled ∙ ap elements_of shape_is

      values_are : (array_in store.memory entry).values ≡ array.values
      values_are =
          let f = λ (k : ℕ). number_of entry.elem (element_in store.memory entry k) in
          let n = elements_of entry.shape in
          let long : length (map f (range_with_len 0 n)) ≡ n = length-map-range_with_len f 0 n in
          ext_get_or (pos 0) (map f (range_with_len 0 n)) array.values (long ∙ sym count)
          (λ k below.
          let k_below : k < n = omega (arith, below, long) in
          get_or-map-range_with_len f 0 n k k (pos 0) k_below (omega arith) ∙ value_is k (omega (arith, k_below, count)))
