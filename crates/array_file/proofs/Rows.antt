-- Printed rows, value by value.
use Rattle.std.proofs.Common.{◌≡◌, ℕ, zero, suc, ◌+◌, ◌-◌, ◌*◌, ◌<◌, ◌≤◌, drop, Some, List, [], ◌∷◌, ◌++◌, map, take, length, get_or, refl, sym, ap, ◌∙◌, append_assoc, arith}
use Rattle.std.specs.Prelude.{ℤ, pos}
use Rattle.std.specs.Fmt.{signed_decimal}
use Rattle.std.specs.List.{join_with_byte}
use Rattle.std.proofs.lemmas.List.{map_more, append-nil, length-take, length-map}
use Rattle.std.specs.Prelude.{slice_get}
use Rattle.ven_base.specs.Grid.{Grid}
use Rattle.ven_base.specs.Pairs.{Pairs, names_of, arrays_of}
use Rattle.array_file.specs.Output.{values_text, row_text, rows_text, array_text, arrays_text}
use Rattle.array_file.proofs.Following.{none_some, some_is}

-- one more piece behind at least one
join_push : (c : ℕ) (x : List ℕ) (xs : List (List ℕ)) (y : List ℕ) → join_with_byte c ((x ∷ xs) ++ y ∷ []) ≡ join_with_byte c (x ∷ xs) ++ c ∷ y
join_push c x [] y = refl
join_push c x (z ∷ xs) y = ap (λ (t : List ℕ). x ++ c ∷ t) (join_push c z xs y) ∙ sym (append_assoc x (c ∷ join_with_byte c (z ∷ xs)) (c ∷ y))

join_behind : (c : ℕ) (xs : List (List ℕ)) (y : List ℕ) → 0 < length xs → join_with_byte c (xs ++ y ∷ []) ≡ join_with_byte c xs ++ c ∷ y
join_behind c [] y some = absurd (omega arith)
join_behind c (x ∷ xs) y some = join_push c x xs y

-- the first value stands alone, and each later one behind a space
pub first_value : (row : List ℤ) (d : ℤ) → 0 < length row → values_text (take 1 row) ≡ signed_decimal (get_or row 0 d)
first_value [] d some = absurd (omega arith)
first_value (x ∷ row) d some = refl

pub next_value : (row : List ℤ) (j : ℕ) (d : ℤ) → 0 < j → j < length row → values_text (take (j + 1) row) ≡ values_text (take j row) ++ 32 ∷ signed_decimal (get_or row j d)
next_value row j d later lt =
    ap (join_with_byte 32) (map_more signed_decimal row j d lt)
    ∙ join_behind 32 (map signed_decimal (take j row)) (signed_decimal (get_or row j d)) (simp length-map (omega (arith, length-take j row)))

-- a turn of the loop over a row's values
pub first_turn : (start before after : List ℕ) (row : List ℤ) (j : ℕ) (value : ℤ) → j ≡ 0 → j < length row → value ≡ get_or row j (pos 0)
    → before ≡ start ++ values_text (take j row) → after ≡ before ++ signed_decimal value → after ≡ start ++ values_text (take (j + 1) row)
first_turn start before after row j value none lt is so_far now =
    now ∙ rw (so_far, none, is, none, first_value row (pos 0) (omega arith)) (ap (λ (t : List ℕ). t ++ signed_decimal (get_or row 0 (pos 0))) (append-nil start))

pub later_turn : (start before mid after : List ℕ) (row : List ℤ) (j : ℕ) (value : ℤ) → 0 < j → j < length row → value ≡ get_or row j (pos 0)
    → before ≡ start ++ values_text (take j row) → mid ≡ before ++ 32 ∷ [] → after ≡ mid ++ signed_decimal value → after ≡ start ++ values_text (take (j + 1) row)
later_turn start before mid after row j value later lt is so_far space now =
    now ∙ rw (space, so_far, is, next_value row j (pos 0) later lt) (simp append_assoc)

-- the first of some rows, and those behind it
pub rows_more : (rows cols : ℕ) (values : List ℤ) → 0 < rows → rows_text rows cols values ≡ row_text (take cols values) ++ rows_text (rows - 1) cols (drop cols values)
rows_more zero cols values some = absurd (omega arith)
rows_more (suc rows) cols values some = let same : suc rows - 1 ≡ rows = omega arith in rw same refl

-- a turn of the loop over rows
pub row_turn : (before after all : List ℕ) (rest row behind : List ℤ) (rows cols : ℕ) → 0 < rows → row ≡ take cols rest → behind ≡ drop cols rest → after ≡ before ++ row_text row → before ++ rows_text rows cols rest ≡ all → after ++ rows_text (rows - 1) cols behind ≡ all
row_turn before after all rest row behind rows cols some row_is behind_is now so_far =
    rw (now, row_is, behind_is) (append_assoc before (row_text (take cols rest)) (rows_text (rows - 1) cols (drop cols rest)) ∙ ap (λ (t : List ℕ). before ++ t) (sym (rows_more rows cols rest some)) ∙ so_far)

pub row_fits : (n rows cols : ℕ) → 0 < rows → n ≡ rows * cols → cols ≤ n
row_fits n zero cols some is = absurd (omega arith)
row_fits n (suc rows) cols some is = omega arith

pub left_over : (n m rows cols : ℕ) → 0 < rows → n ≡ rows * cols → m ≡ n - cols → m ≡ (rows - 1) * cols
left_over n m zero cols some is rest = absurd (omega arith)
left_over n m (suc rows) cols some is rest = let same : suc rows - 1 ≡ rows = omega arith in rw same (omega arith)

-- the text of one array more
pub next_text : (arrays : Pairs) (k : ℕ) (name : List ℕ) (grid : Grid) → slice_get (names_of arrays) k ≡ Some name → slice_get (arrays_of arrays) k ≡ Some grid → arrays_text (take (k + 1) arrays) ≡ arrays_text (take k arrays) ++ array_text name grid
next_text [] k name grid named is = absurd (none_some name named)
next_text (pair ∷ arrays) zero name grid named is =
    append-nil (array_text pair.0 pair.1) ∙ ap (λ (n : List ℕ). array_text n pair.1) (some_is pair.0 name named) ∙ ap (array_text name) (some_is pair.1 grid is)
next_text (pair ∷ arrays) (suc k) name grid named is =
    let next : suc k + 1 ≡ suc (k + 1) = omega arith in
    ap (λ n. arrays_text (take n (pair ∷ arrays))) next
    ∙ ap (λ (t : List ℕ). array_text pair.0 pair.1 ++ t) (next_text arrays k name grid named is)
    ∙ sym (append_assoc (array_text pair.0 pair.1) (arrays_text (take k arrays)) (array_text name grid))

-- a heading, part by part
pub heading_pushed : (start named spaced typed all name kind shape : List ℕ) → named ≡ start ++ name → spaced ≡ named ++ 32 ∷ [] → typed ≡ spaced ++ kind → all ≡ typed ++ shape → all ≡ start ++ (((name ++ 32 ∷ []) ++ kind) ++ shape)
heading_pushed start named spaced typed all name kind shape a b c d = rw (d, c, b, a) (simp append_assoc)
