-- Parts of lists.
use Rattle.std.proofs.Common.{◌≡◌, ℕ, zero, suc, ◌+◌, ◌*◌, ◌<◌, ◌≤◌, ap, sym, ◌∙◌, refl, arith, List, [], ◌∷◌, ◌++◌, length, take, drop, map, get_or, replicate}
use Rattle.std.specs.Prelude.{Bool}
use Rattle.std.specs.List.{zip}
use Rattle.std.proofs.lemmas.List.{drop-take, drop-drop, drop-map, take-map, take-take, take-append-le, take_at, drop_at, length-take-le, ext_get_or, length-replicate, get_or-replicate}
use Rattle.ven_base.specs.Cell.{Cell}
use Rattle.venice_isa.specs.Cell.{part, overwritten}

module _ {A : Type 0} where
  part_is_end : (xs : List A) (q size : ℕ) → part xs q size ≡ drop q (take (q + size) xs)
  part_is_end xs q size = sym (drop-take q size xs)

  -- a part of a list's front
  pub part_of_front : (xs ys : List A) (q size : ℕ) → q + size ≤ length xs → part (xs ++ ys) q size ≡ part xs q size
  part_of_front xs ys q size inside = part_is_end (xs ++ ys) q size ∙ ap (drop q) (take-append-le (q + size) xs ys inside) ∙ sym (part_is_end xs q size)

  pub part_of_take : (n : ℕ) (xs : List A) (q size : ℕ) → q + size ≤ n → part (take n xs) q size ≡ part xs q size
  part_of_take n xs q size inside = part_is_end (take n xs) q size ∙ ap (drop q) (take-take (q + size) n xs inside) ∙ sym (part_is_end xs q size)

  pub part_of_part : (xs : List A) (place n q size : ℕ) → q + size ≤ n → part (part xs place n) q size ≡ part xs (place + q) size
  part_of_part xs place n q size inside = part_of_take n (drop place xs) q size inside ∙ ap (take size) (drop-drop q place xs)

  -- what was written, and what stands before it
  pub part_overwritten : (xs : List A) (place : ℕ) (new : List A) → place ≤ length xs → part (overwritten xs place new) place (length new) ≡ new
  part_overwritten xs place new inside =
      let rest = drop (place + length new) xs in
      ap (take (length new)) (drop_at (take place xs) (new ++ rest) place (length-take-le place xs inside)) ∙ take_at new rest (length new) refl

  pub part_before : (xs : List A) (place : ℕ) (new : List A) (q size : ℕ) → place ≤ length xs → q + size ≤ place → part (overwritten xs place new) q size ≡ part xs q size
  part_before xs place new q size inside before =
      let front : q + size ≤ length (take place xs) = omega (arith, length-take-le place xs inside) in
      part_of_front (take place xs) (new ++ drop (place + length new) xs) q size front ∙ part_of_take place xs q size before

  -- what is written twice is what was written last
  pub overwritten_twice : (xs : List A) (place : ℕ) (new newer : List A) → place ≤ length xs → length newer ≡ length new → overwritten (overwritten xs place new) place newer ≡ overwritten xs place newer
  overwritten_twice xs place new newer inside same =
      let front = take place xs in
      let rest = drop (place + length new) xs in
      let long = length-take-le place xs inside in
      ap (λ front. front ++ (newer ++ drop (place + length newer) (overwritten xs place new))) (take_at front (new ++ rest) place long)
      ∙ ap (λ rest. front ++ (newer ++ rest))
      (sym (drop-drop (length newer) place (overwritten xs place new))
      ∙ ap (drop (length newer)) (drop_at front (new ++ rest) place long)
      ∙ ap (λ n. drop n (new ++ rest)) same
      ∙ drop_at new rest (length new) refl
      ∙ ap (λ n. drop (place + n) xs) (sym same))

  pub empty_list : (xs : List A) → length xs ≡ 0 → xs ≡ []
  empty_list [] none = refl
  empty_list (x ∷ xs) none = absurd (omega arith)

  pub same_items : (xs : List A) (n : ℕ) (x : A) → length xs ≡ n → ((k : ℕ) → k < n → get_or xs k x ≡ x) → xs ≡ replicate n x
  same_items xs n x long each =
      ext_get_or x xs (replicate n x) (long ∙ sym (length-replicate n x))
      (λ k below. let within : k < n = omega (arith, long) in each k within ∙ sym (get_or-replicate n k x x within))

pub part_of_map : {A B : Type 0} (f : A → B) (xs : List A) (q size : ℕ) → part (map f xs) q size ≡ map f (part xs q size)
part_of_map f xs q size = ap (take size) (drop-map f q xs) ∙ take-map f size (drop q xs)

-- ---- pairs

module _ {A B : Type 0} where
  zip_nothing : (xs : List A) → zip {X = B} xs [] ≡ []
  zip_nothing [] = refl
  zip_nothing (x ∷ xs) = refl

  take_zip : (n : ℕ) (xs : List A) (ys : List B) → take n (zip xs ys) ≡ zip (take n xs) (take n ys)
  take_zip zero xs ys = refl
  take_zip (suc n) [] ys = refl
  take_zip (suc n) (x ∷ xs) [] = refl
  take_zip (suc n) (x ∷ xs) (y ∷ ys) = ap (λ rest. (x, y) ∷ rest) (take_zip n xs ys)

  drop_zip : (n : ℕ) (xs : List A) (ys : List B) → drop n (zip xs ys) ≡ zip (drop n xs) (drop n ys)
  drop_zip zero xs ys = refl
  drop_zip (suc n) [] ys = refl
  drop_zip (suc n) (x ∷ xs) [] = sym (zip_nothing (drop n xs))
  drop_zip (suc n) (x ∷ xs) (y ∷ ys) = drop_zip n xs ys

  pub part_of_zip : (xs : List A) (ys : List B) (q size : ℕ) → part (zip xs ys) q size ≡ zip (part xs q size) (part ys q size)
  part_of_zip xs ys q size = ap (take size) (drop_zip q xs ys) ∙ take_zip size (drop q xs) (drop q ys)

  pub zip_same : (xs : List A) (y : B) → zip xs (replicate (length xs) y) ≡ map (λ x. (x, y)) xs
  zip_same [] y = refl
  zip_same (x ∷ xs) y = ap (λ rest. (x, y) ∷ rest) (zip_same xs y)

  pub firsts_of_zip : (xs : List A) (ys : List B) → length ys ≡ length xs → map (λ (pair : A × B). pair.0) (zip xs ys) ≡ xs
  firsts_of_zip [] ys same = refl
  firsts_of_zip (x ∷ xs) [] same = absurd (omega arith)
  firsts_of_zip (x ∷ xs) (y ∷ ys) same = ap (λ rest. x ∷ rest) (firsts_of_zip xs ys (omega arith))

pub zip_back : (cells : List Cell) → zip (map (λ (cell : Cell). cell.0) cells) (map (λ (cell : Cell). cell.1) cells) ≡ cells
zip_back [] = refl
zip_back (cell ∷ cells) = ap (λ rest. cell ∷ rest) (zip_back cells)
