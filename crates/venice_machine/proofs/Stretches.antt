-- Parts of memory that are written one behind the other.
use Rattle.std.proofs.Common.{◌≡◌, ℕ, zero, suc, ◌+◌, ◌*◌, ◌-◌, ◌/◌, ◌%◌, ◌<◌, ◌≤◌, ap, sym, ◌∙◌, refl, arith, List, [], ◌∷◌, ◌++◌, length, take, drop, set, get_or, ℤ, append_assoc, length-append, append-nil}
use Rattle.std.specs.List.{flat_map}
use Rattle.std.proofs.lemmas.List.{length-take-le, drop-drop, drop_at, take_at, take_more_set, drop-set-lt, take_more, take_all, drop_more}
use Rattle.std.proofs.lemmas.Grind.{flat_map-append}
use Rattle.std.proofs.Math.Nat.{mul-le-mul_right}
use Rattle.ven_base.specs.declared.elem.Elem.{Elem}
use Rattle.ven_base.specs.Elem.{size_of}
use Rattle.ven_base.specs.Operation.{bits_of}
use Rattle.ven_base.specs.Grid.{Grid}
use Rattle.venice_isa.specs.Cell.{overwritten, part}
use Rattle.venice_isa.specs.Element.{bytes_of, low_bytes, little_endian}
use Rattle.venice_isa.proofs.Overwrites.{overwritten_nothing, overwritten_length}
use Rattle.venice_machine.specs.Start.{array_bytes}
use Rattle.venice_isa.proofs.Spellings.{low_bytes_length}

module _ {A : Type 0} where
  -- what is written behind what was written
  pub overwritten_next : (items : List A) (place : ℕ) (first next : List A) → place + length first ≤ length items
      → overwritten (overwritten items place first) (place + length first) next ≡ overwritten items place (first ++ next)
  overwritten_next items place first next inside =
      let front = take place items in
      let end = place + length first in
      let rest = drop end items in
      let long : length (front ++ first) ≡ end = length-append front first ∙ ap (λ n. n + length first) (length-take-le place items (omega arith)) in
      let whole : overwritten items place first ≡ (front ++ first) ++ rest = sym (append_assoc front first rest) in
      let more : drop (end + length next) (overwritten items place first) ≡ drop (place + length (first ++ next)) items =
      ap (drop (end + length next)) whole ∙ sym (drop-drop (length next) end ((front ++ first) ++ rest)) ∙ ap (drop (length next)) (drop_at (front ++ first) rest end long)
      ∙ drop-drop (length next) end items ∙ ap (λ n. drop n items) (sum (length next)) in
      ap (λ t. t ++ (next ++ drop (end + length next) (overwritten items place first))) (ap (take end) whole ∙ take_at (front ++ first) rest end long)
      ∙ ap (λ d. (front ++ first) ++ (next ++ d)) more
      ∙ append_assoc front first (next ++ drop (place + length (first ++ next)) items)
      ∙ ap (λ l. front ++ l) (sym (append_assoc first next (drop (place + length (first ++ next)) items)))
    where
      sum : (n : ℕ) → place + length first + length next ≡ place + length (first ++ next)
      sum n = let both = length-append first next in omega (arith, both)

  -- one item, and what is written behind it
  pub overwritten_one : (items : List A) (place : ℕ) (item : A) (next : List A) → place < length items
      → overwritten (set items place item) (place + 1) next ≡ overwritten items place (item ∷ next)
  overwritten_one items place item next inside =
      let behind : drop (place + 1 + length next) (set items place item) ≡ drop (place + suc (length next)) items =
      drop-set-lt (place + 1 + length next) items place item (omega arith) ∙ ap (λ n. drop n items) (omega arith) in
      ap (λ t. t ++ (next ++ drop (place + 1 + length next) (set items place item))) (take_more_set items place item inside)
      ∙ append_assoc (take place items) (item ∷ []) (next ++ drop (place + 1 + length next) (set items place item))
      ∙ ap (λ d. take place items ++ (item ∷ (next ++ d))) behind

pub nothing_put : (memory : List ℕ) (place count number : ℕ) → count ≡ 0 → memory ≡ overwritten memory place (low_bytes count number)
nothing_put memory place count number none = sym (overwritten_nothing memory place (low_bytes count number) (low_bytes_length count number ∙ none))

pub one_put : (memory : List ℕ) (place count number : ℕ) → 0 < count → place < length memory
    → overwritten (set memory place (number % 256)) (place + 1) (low_bytes (count - 1) (number / 256)) ≡ overwritten memory place (low_bytes count number)
one_put memory place zero number some inside = absurd (omega (arith, some))
one_put memory place (suc count) number some inside =
    let less : suc count - 1 ≡ count = omega arith in
    ap (λ n. overwritten (set memory place (number % 256)) (place + 1) (low_bytes n (number / 256))) less
    ∙ overwritten_one memory place (number % 256) (low_bytes count (number / 256)) inside

pub put_on : (memory : List ℕ) (place count k rest : ℕ) → k < count → place + k < length memory
    → overwritten (set memory (place + k) (rest % 256)) (place + (k + 1)) (low_bytes (count - (k + 1)) (rest / 256)) ≡ overwritten memory (place + k) (low_bytes (count - k) rest)
put_on memory place count k rest below inside =
    let next : place + (k + 1) ≡ place + k + 1 = omega arith in
    let fewer : count - (k + 1) ≡ count - k - 1 = omega arith in
    let some : 0 < count - k = omega (arith, below) in
    ap (λ at. overwritten (set memory (place + k) (rest % 256)) at (low_bytes (count - (k + 1)) (rest / 256))) next
    ∙ ap (λ n. overwritten (set memory (place + k) (rest % 256)) (place + k + 1) (low_bytes n (rest / 256))) fewer
    ∙ one_put memory (place + k) (count - k) rest some inside

pub bytes_length : (elem : Elem) (values : List ℤ) → length (flat_map (bytes_of elem) values) ≡ length values * size_of elem
bytes_length elem [] = omega arith
bytes_length elem (value ∷ values) =
    let sum = length-append (bytes_of elem value) (flat_map (bytes_of elem) values) in
    let more : suc (length values) * size_of elem ≡ length values * size_of elem + size_of elem = omega arith in
    omega (arith, sum, more, low_bytes_length (size_of elem) (bits_of elem value), bytes_length elem values)

-- ---- the values of an array

-- the first values are put
pub record IsPut (array : Grid) (place index next_place : ℕ) (before memory : List ℕ) : Type 0 where
  pub next : next_place ≡ place + index * size_of array.elem
  pub memory_is : memory ≡ overwritten before place (flat_map (bytes_of array.elem) (take index array.values))

module _ (array : Grid) (place : ℕ) (before : List ℕ) (inside : place + length (array_bytes array) ≤ length before) where
  abbrev put_bytes : ℕ → List ℕ
  put_bytes index = flat_map (bytes_of array.elem) (take index array.values)

  put_length : (index : ℕ) → index ≤ length array.values → length (put_bytes index) ≡ index * size_of array.elem
  put_length index le = bytes_length array.elem (take index array.values) ∙ ap (λ n. n * size_of array.elem) (length-take-le index array.values le)

  rows_below : (index count size : ℕ) → index ≤ count → index * size ≤ count * size
  rows_below index count size le = mul-le-mul_right size le

  pub none_put : IsPut array place 0 place before before
  none_put = record { next = omega arith; memory_is = sym (overwritten_nothing before place [] refl) }

  put_within : (index : ℕ) → index ≤ length array.values → place + length (put_bytes index) ≤ length before
  put_within index le = omega (arith, inside, put_length index le, bytes_length array.elem array.values, rows_below index (length array.values) (size_of array.elem) le)

  module _ (index next_place : ℕ) (memory : List ℕ) (put : IsPut array place index next_place before memory) where
    pub put_same : index ≤ length array.values → length memory ≡ length before
    put_same le = ap length put.memory_is ∙ overwritten_length before place (put_bytes index) (put_within index le)

    pub put_room : index < length array.values → next_place + size_of array.elem ≤ length memory
    put_room below =
        let more : index + 1 ≤ length array.values = omega (arith, below) in
        let rows : (index + 1) * size_of array.elem ≡ index * size_of array.elem + size_of array.elem = omega arith in
        omega (arith, put.next, rows, put_same (omega (arith, below)), put_within (index + 1) more, put_length (index + 1) more)

    pub one_more_put : (d : ℤ) → index < length array.values
        → IsPut array place (index + 1) (next_place + size_of array.elem) before (overwritten memory next_place (bytes_of array.elem (get_or array.values index d)))
    one_more_put d below =
        let value = get_or array.values index d in
        let le : index ≤ length array.values = omega (arith, below) in
        let end : next_place ≡ place + length (put_bytes index) = omega (arith, put.next, put_length index le) in
        let bytes : put_bytes (index + 1) ≡ put_bytes index ++ bytes_of array.elem value =
        ap (flat_map (bytes_of array.elem)) (take_more array.values index d below) ∙ flat_map-append (bytes_of array.elem) (take index array.values) (value ∷ []) ∙ ap (λ b. put_bytes index ++ b) (append-nil (bytes_of array.elem value)) in
        record {
          next = omega (arith, put.next);
          memory_is = ap (λ m. overwritten m next_place (bytes_of array.elem value)) put.memory_is
              ∙ ap (λ at. overwritten (overwritten before place (put_bytes index)) at (bytes_of array.elem value)) end
              ∙ overwritten_next before place (put_bytes index) (bytes_of array.elem value) (put_within index le)
              ∙ ap (overwritten before place) (sym bytes);
        }

    pub all_put : length array.values ≤ index → memory ≡ overwritten before place (array_bytes array)
    all_put le = put.memory_is ∙ ap (λ (values : List ℤ). overwritten before place (flat_map (bytes_of array.elem) values)) (take_all index array.values le)

-- ---- bytes that stand at a place

part_more : (memory : List ℕ) (place n : ℕ) → place < length memory → part memory place (suc n) ≡ get_or memory place 0 ∷ part memory (place + 1) n
part_more memory place n below = ap (take (suc n)) (drop_more memory place 0 below)

pub one_there : (memory : List ℕ) (place : ℕ) → place + 1 ≤ length memory → little_endian (part memory place 1) ≡ get_or memory place 0
one_there memory place inside = ap little_endian (part_more memory place 0 (omega (arith, inside))) ∙ omega arith

pub two_there : (memory : List ℕ) (place : ℕ) → place + 2 ≤ length memory → little_endian (part memory place 2) ≡ get_or memory place 0 + 256 * get_or memory (place + 1) 0
two_there memory place inside =
    ap little_endian (part_more memory place 1 (omega (arith, inside)) ∙ ap (λ bytes. get_or memory place 0 ∷ bytes) (part_more memory (place + 1) 0 (omega (arith, inside)))) ∙ omega arith

pub four_there : (memory : List ℕ) (place : ℕ) → place + 4 ≤ length memory
    → little_endian (part memory place 4) ≡ little_endian (part memory place 2) + 65536 * little_endian (part memory (place + 2) 2)
four_there memory place inside =
    let second : place + 1 + 1 ≡ place + 2 = omega arith in
    let inner : part memory (place + 1) 3 ≡ get_or memory (place + 1) 0 ∷ part memory (place + 2) 2 = part_more memory (place + 1) 2 (omega (arith, inside)) ∙ ap (λ at. get_or memory (place + 1) 0 ∷ part memory at 2) second in
    let whole = ap little_endian (part_more memory place 3 (omega (arith, inside)) ∙ ap (λ bytes. get_or memory place 0 ∷ bytes) inner) in
    let first = two_there memory place (omega (arith, inside)) in
    omega (arith, whole, first)
