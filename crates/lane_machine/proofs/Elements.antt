-- Elements read and written byte by byte.
use Rattle.std.proofs.Common.{◌≡◌, ℕ, zero, suc, ◌+◌, ◌*◌, ◌%◌, ◌<◌, ◌≤◌, ap, sym, ◌∙◌, refl, arith, List, [], ◌∷◌, ◌++◌, length, take, drop, set, pos}
use Rattle.std.specs.Prelude.{◌<ℤ◌, ◌≤ℤ◌, ◌+ℤ◌, ◌-ℤ◌}
use Rattle.std.specs.Int.{int_rem_euclid}
use Rattle.std.proofs.lemmas.Nat.{mod-mul-add}
use Rattle.std.proofs.lemmas.List.{append_assoc, length-append, length-take-le, take_at, drop_at, drop-drop, set_split, length-set}
use Rattle.std.proofs.Math.Nat.{mul-le-mul_right}
use Rattle.ven_base.specs.declared.elem.Elem.{Elem}
use Rattle.ven_base.specs.Elem.{modulus_of, least_of}
use Rattle.ven_base.specs.Wrap.{wrapped}
use Rattle.ven_base.proofs.Wrapped.{wrap_below, wrap_above, IsWrapped-is}
use Rattle.venice_isa.specs.Cell.{part, overwritten}

-- ---- numbers

-- bits are what is left of them
rem_of_bits : (m bits : ℕ) → bits < m → pos bits ≡ int_rem_euclid (pos bits) (pos m)
rem_of_bits m bits below =
    let same : 0 * m + bits ≡ bits = omega arith in
    ap pos (sym (ap (λ n. n % m) (sym same) ∙ mod-mul-add 0 m bits below))

pub low_number : (elem : Elem) (bits : ℕ) → bits < modulus_of elem → pos bits <ℤ (least_of elem +ℤ pos (modulus_of elem)) → pos bits ≡ wrapped elem (pos bits)
low_number elem bits below low = IsWrapped-is elem (pos bits) (pos bits) (wrap_below elem (pos bits) (pos bits) (rem_of_bits (modulus_of elem) bits below) low)

pub high_number : (elem : Elem) (bits : ℕ) → bits < modulus_of elem → (least_of elem +ℤ pos (modulus_of elem)) ≤ℤ pos bits → (pos bits -ℤ pos (modulus_of elem)) ≡ wrapped elem (pos bits)
high_number elem bits below high = IsWrapped-is elem (pos bits) (pos bits -ℤ pos (modulus_of elem)) (wrap_above elem (pos bits) (pos bits) (rem_of_bits (modulus_of elem) bits below) high)

-- ---- lists

-- to write two lists one behind the other is to write both
pub overwritten-append : {A : Type 0} (items : List A) (place : ℕ) (xs ys : List A) → place + length xs ≤ length items → overwritten (overwritten items place xs) (place + length xs) ys ≡ overwritten items place (xs ++ ys)
overwritten-append items place xs ys inside =
    let q = place + length xs in
    let front = take place items ++ xs in
    let back = drop q items in
    let front_long : length front ≡ q = omega (arith, length-append (take place items) xs, length-take-le place items (omega arith)) in
    let split : overwritten items place xs ≡ front ++ back = sym (append_assoc (take place items) xs back) in
    let taken : take q (overwritten items place xs) ≡ front = ap (take q) split ∙ take_at front back q front_long in
    let dropped : drop (q + length ys) (overwritten items place xs) ≡ drop (q + length ys) items =
    sym (drop-drop (length ys) q (overwritten items place xs)) ∙ ap (drop (length ys)) (ap (drop q) split ∙ drop_at front back q front_long) ∙ drop-drop (length ys) q items in
    let all : q + length ys ≡ place + length (xs ++ ys) = omega (arith, length-append xs ys) in
    ap (λ taken. taken ++ (ys ++ drop (q + length ys) (overwritten items place xs))) taken
    ∙ ap (λ dropped. front ++ (ys ++ dropped)) (dropped ∙ ap (λ n. drop n items) all)
    ∙ append_assoc (take place items) xs (ys ++ drop (place + length (xs ++ ys)) items)
    ∙ ap (λ rest. take place items ++ rest) (sym (append_assoc xs ys (drop (place + length (xs ++ ys)) items)))

-- to write a list is to write its first item, and then the rest behind it
pub overwritten_more : {A : Type 0} (items : List A) (place : ℕ) (x : A) (xs : List A) → place < length items → overwritten items place (x ∷ xs) ≡ overwritten (set items place x) (place + 1) xs
overwritten_more items place x xs inside =
    let next : suc place ≡ place + 1 = omega arith in
    let one : overwritten items place (x ∷ []) ≡ set items place x = sym (set_split items place x inside ∙ ap (λ n. take place items ++ (x ∷ drop n items)) next) in
    sym (overwritten-append items place (x ∷ []) xs (omega arith)) ∙ ap (λ now. overwritten now (place + 1) xs) one

-- a list's front, and what lies behind it
front_and_rest : {A : Type 0} (count : ℕ) (items : List A) → take count items ++ drop (length (take count items)) items ≡ items
front_and_rest zero items = refl
front_and_rest (suc count) [] = refl
front_and_rest (suc count) (x ∷ items) = ap (λ rest. x ∷ rest) (front_and_rest count items)

-- what is written behind a list and is what stood there changes nothing
pub overwritten_by_itself : {A : Type 0} (items : List A) (place : ℕ) (xs : List A) (count : ℕ) → place + length xs ≤ length items → overwritten (overwritten items place xs) (place + length xs) (part items (place + length xs) count) ≡ overwritten items place xs
overwritten_by_itself items place xs count inside =
    let q = place + length xs in
    let front = take place items ++ xs in
    let back = drop q items in
    let front_long : length front ≡ q = omega (arith, length-append (take place items) xs, length-take-le place items (omega arith)) in
    let split : overwritten items place xs ≡ front ++ back = sym (append_assoc (take place items) xs back) in
    let taken : take q (overwritten items place xs) ≡ front = ap (take q) split ∙ take_at front back q front_long in
    let new = part items q count in
    let dropped : drop (q + length new) (overwritten items place xs) ≡ drop (length new) back =
    sym (drop-drop (length new) q (overwritten items place xs)) ∙ ap (drop (length new)) (ap (drop q) split ∙ drop_at front back q front_long) in
    let rest : new ++ drop (length new) back ≡ back = front_and_rest count back in
    ap (λ taken. taken ++ (new ++ drop (q + length new) (overwritten items place xs))) taken
    ∙ ap (λ dropped. front ++ (new ++ dropped)) dropped
    ∙ ap (λ rest. front ++ rest) rest
    ∙ sym split

-- ---- a number written byte by byte

pub one_put : {A : Type 0} (items : List A) (place : ℕ) (x : A) → place < length items → set items place x ≡ overwritten items place (x ∷ [])
one_put items place x inside =
    let next : suc place ≡ place + 1 = omega arith in
    set_split items place x inside ∙ ap (λ n. take place items ++ (x ∷ drop n items)) next

pub two_put : {A : Type 0} (items : List A) (place : ℕ) (x y : A) → place + 2 ≤ length items → set (set items place x) (place + 1) y ≡ overwritten items place (x ∷ y ∷ [])
two_put items place x y inside =
    one_put (set items place x) (place + 1) y (omega (arith, length-set items place x))
    ∙ sym (overwritten_more items place x (y ∷ []) (omega arith))

pub four_put : {A : Type 0} (items : List A) (place : ℕ) (x y z w : A) → place + 4 ≤ length items → set (set (set (set items place x) (place + 1) y) (place + 2) z) (place + 3) w ≡ overwritten items place (x ∷ y ∷ z ∷ w ∷ [])
four_put items place x y z w inside =
    let third : place + 2 ≡ (place + 1) + 1 = omega arith in
    let fourth : place + 3 ≡ (place + 2) + 1 = omega arith in
    let two = set (set items place x) (place + 1) y in
    let long : length two ≡ length items = length-set (set items place x) (place + 1) y ∙ length-set items place x in
    ap (λ p. set (set two (place + 2) z) p w) fourth
    ∙ two_put two (place + 2) z w (omega (arith, long))
    ∙ ap (λ p. overwritten two p (z ∷ w ∷ [])) third
    ∙ sym (overwritten_more (set items place x) (place + 1) y (z ∷ w ∷ []) (omega (arith, length-set items place x)))
    ∙ sym (overwritten_more items place x (y ∷ z ∷ w ∷ []) (omega arith))

-- an element of a group ends in it
pub element_in_row : (k count size : ℕ) → k < count → k * size + size ≤ count * size
element_in_row k count size below =
    let some : (k + 1) * size ≤ count * size = mul-le-mul_right size (omega arith) in
    omega arith
