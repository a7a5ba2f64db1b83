-- Arrays made of the value at each index.
use Rattle.std.proofs.Common.{◌≡◌, ℕ, zero, suc, ◌+◌, ◌*◌, ◌<◌, List, ◌++◌, length, get_or, refl, ap, ◌∙◌, arith, length-append}
use Rattle.std.specs.Prelude.{ℤ, pos, map, All}
use Rattle.std.specs.List.{range_with_len, flat_map}
use Rattle.std.proofs.lemmas.List.{get_or_append_left, get_or-append-add}
use Rattle.std.proofs.lemmas.List.Elements.{All-append, All-from_get_or}
use Rattle.std.proofs.lemmas.List.FromFn.{length-map-range_with_len, get_or-map-range_with_len}
use Rattle.ven_base.specs.declared.elem.Elem.{Elem}
use Rattle.ven_base.specs.Elem.{IsElement}
use Rattle.ven_base.specs.Extent.{Extent, IsExtent, IsIndex, elements_of}
use Rattle.ven_base.specs.Grid.{IsGrid, value_at, row_values, values_with, grid_with}

-- ---- a row

pub row_values-length : (cols : ℕ) (f : ℕ → ℤ) → length (row_values cols f) ≡ cols
row_values-length cols f = length-map-range_with_len f 0 cols

pub row_values-at : (cols : ℕ) (f : ℕ → ℤ) (j : ℕ) (d : ℤ) → j < cols → get_or (row_values cols f) j d ≡ f j
row_values-at cols f j d h = get_or-map-range_with_len f 0 cols j j d h (omega arith)

range_same : (start n : ℕ) (f g : ℕ → ℤ) → ((j : ℕ) → j < start + n → f j ≡ g j) → map f (range_with_len start n) ≡ map g (range_with_len start n)
range_same start zero f g h = refl
range_same start (suc n) f g h =
    let first = h start (omega arith) in
    let rest = range_same (start + 1) n f g (λ j below. h j (omega arith)) in
    cc

pub row_values-same : (cols : ℕ) (f g : ℕ → ℤ) → ((j : ℕ) → j < cols → f j ≡ g j) → row_values cols f ≡ row_values cols g
row_values-same cols f g h = range_same 0 cols f g (λ j below. h j (omega arith))

pub row_values-all : (P : ℤ → Type 0) (cols : ℕ) (f : ℕ → ℤ) → ((j : ℕ) → j < cols → P (f j)) → All P (row_values cols f)
row_values-all P cols f h =
    All-from_get_or P (row_values cols f) (pos 0)
    (λ j below. let inside : j < cols = omega (arith, row_values-length cols f) in rw (row_values-at cols f j (pos 0) inside) (h j inside))

-- ---- rows from one on

abbrev rows_from : ℕ → (ℕ → ℕ → ℤ) → ℕ → ℕ → List ℤ
rows_from cols f start n = flat_map (λ i. row_values cols (f i)) (range_with_len start n)

rows_from-length : (cols : ℕ) (f : ℕ → ℕ → ℤ) (start n : ℕ) → length (rows_from cols f start n) ≡ n * cols
rows_from-length cols f start zero = omega arith
rows_from-length cols f start (suc n) =
    omega (arith, length-append (row_values cols (f start)) (rows_from cols f (start + 1) n), row_values-length cols (f start), rows_from-length cols f (start + 1) n)

rows_from-at : (cols : ℕ) (f : ℕ → ℕ → ℤ) (start n i j : ℕ) (d : ℤ) → i < n → j < cols → get_or (rows_from cols f start n) (i * cols + j) d ≡ f (start + i) j
rows_from-at cols f start zero i j d h l = absurd (omega arith)
rows_from-at cols f start (suc n) zero j d h l =
    let row = row_values cols (f start) in
    let rest = rows_from cols f (start + 1) n in
    let place : 0 * cols + j ≡ j = omega arith in
    let here : j < length row = omega (arith, row_values-length cols (f start)) in
    let same : start ≡ start + 0 = omega arith in
    ap (λ p. get_or (row ++ rest) p d) place ∙ get_or_append_left row rest d j here ∙ row_values-at cols (f start) j d l ∙ ap (λ r. f r j) same
rows_from-at cols f start (suc n) (suc i) j d h l =
    let row = row_values cols (f start) in
    let rest = rows_from cols f (start + 1) n in
    let place : suc i * cols + j ≡ length row + (i * cols + j) = omega (arith, row_values-length cols (f start)) in
    let same : start + 1 + i ≡ start + suc i = omega arith in
    ap (λ p. get_or (row ++ rest) p d) place ∙ get_or-append-add row rest (i * cols + j) d ∙ rows_from-at cols f (start + 1) n i j d (omega arith) l ∙ ap (λ r. f r j) same

rows_from-same : (cols : ℕ) (f g : ℕ → ℕ → ℤ) (start n : ℕ) → ((i j : ℕ) → i < start + n → j < cols → f i j ≡ g i j) → rows_from cols f start n ≡ rows_from cols g start n
rows_from-same cols f g start zero h = refl
rows_from-same cols f g start (suc n) h =
    let first = row_values-same cols (f start) (g start) (λ j below. h start j (omega arith) below) in
    let rest = rows_from-same cols f g (start + 1) n (λ i j low below. h i j (omega arith) below) in
    cc

rows_from-all : (P : ℤ → Type 0) (cols : ℕ) (f : ℕ → ℕ → ℤ) (start n : ℕ) → ((i j : ℕ) → i < start + n → j < cols → P (f i j)) → All P (rows_from cols f start n)
rows_from-all P cols f start zero h = λ k d below. absurd (omega arith)
rows_from-all P cols f start (suc n) h =
    All-append P (row_values cols (f start)) (rows_from cols f (start + 1) n) (row_values-all P cols (f start) (λ j below. h start j (omega arith) below))
    (rows_from-all P cols f (start + 1) n (λ i j low below. h i j (omega arith) below))

-- ---- whole arrays

pub values_with-length : (shape : Extent) (f : ℕ → ℕ → ℤ) → length (values_with shape f) ≡ elements_of shape
values_with-length shape f = rows_from-length shape.cols f 0 shape.rows

pub values_with-same : (shape : Extent) (f g : ℕ → ℕ → ℤ) → ((i j : ℕ) → IsIndex shape i j → f i j ≡ g i j) → values_with shape f ≡ values_with shape g
values_with-same shape f g h = rows_from-same shape.cols f g 0 shape.rows (λ i j row col. h i j (record { row = omega arith; col = col }))

pub values_with-all : (P : ℤ → Type 0) (shape : Extent) (f : ℕ → ℕ → ℤ) → ((i j : ℕ) → IsIndex shape i j → P (f i j)) → All P (values_with shape f)
values_with-all P shape f h = rows_from-all P shape.cols f 0 shape.rows (λ i j row col. h i j (record { row = omega arith; col = col }))

pub grid_with-at : (elem : Elem) (shape : Extent) (f : ℕ → ℕ → ℤ) (i j : ℕ) → IsIndex shape i j → value_at (grid_with elem shape f) i j ≡ f i j
grid_with-at elem shape f i j h = rows_from-at shape.cols f 0 shape.rows i j (pos 0) h.row h.col ∙ ap (λ r. f r j) (let same : 0 + i ≡ i = omega arith in same)

pub grid_with-same : (elem : Elem) (shape : Extent) (f g : ℕ → ℕ → ℤ) → ((i j : ℕ) → IsIndex shape i j → f i j ≡ g i j) → grid_with elem shape f ≡ grid_with elem shape g
grid_with-same elem shape f g h = let same = values_with-same shape f g h in λ k. record { elem = elem; shape = shape; values = same k }

-- values of the type make an array
pub IsGrid-grid_with : (elem : Elem) (shape : Extent) (f : ℕ → ℕ → ℤ) → IsExtent shape → ((i j : ℕ) → IsIndex shape i j → IsElement elem (f i j)) → IsGrid (grid_with elem shape f)
IsGrid-grid_with elem shape f e h = record { shaped = e; filled = values_with-length shape f; typed = values_with-all (IsElement elem) shape f h }
