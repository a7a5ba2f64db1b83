-- A part of a text, byte by byte.
use Rattle.std.proofs.Common.{◌≡◌, ℕ, zero, suc, ◌+◌, ◌-◌, ◌<◌, ◌≤◌, Bool, true, List, [], ◌∷◌, length, get_or, take, drop, refl, sym, ap, ◌∙◌, arith, inl, inr}
use Rattle.std.specs.Prelude.{slice_range, Contains, ◌==◌}
use Rattle.std.specs.List.{list_all, list_any}
use Rattle.std.proofs.Math.Seq.{drop-cons}
use Rattle.std.proofs.lemmas.Bool.{and_parts, and_from, or_cases, eqb-true}
use Rattle.std.proofs.lemmas.List.{length-take-le, length-drop, get_or-take, get_or-drop}
use Rattle.ven_io.specs.Runs.{AllBetween}

pub range_at : (text : List ℕ) (i j k : ℕ) → k < j - i → get_or (slice_range text i j) k 0 ≡ get_or text (i + k) 0
range_at text i j k lt = get_or-take (j - i) (drop i text) k 0 lt ∙ get_or-drop i text k 0

pub range_length : (text : List ℕ) (i j : ℕ) → i ≤ j → j ≤ length text → length (slice_range text i j) ≡ j - i
range_length text i j le in_text = length-take-le (j - i) (drop i text) (omega (arith, length-drop i text))

-- the first byte of a part, and the rest
pub range_cons : (text : List ℕ) (i j : ℕ) → i < j → i < length text → slice_range text i j ≡ get_or text i 0 ∷ slice_range text (i + 1) j
range_cons text i j lt in_text =
    let count : j - i ≡ suc (j - (i + 1)) = omega arith in
    let next : i + 1 ≡ suc i = omega arith in
    ap (λ (xs : List ℕ). take (j - i) xs) (drop-cons text i 0 in_text) ∙ ap (λ (n : ℕ). take n (get_or text i 0 ∷ drop (suc i) text)) count
    ∙ ap (λ (n : ℕ). get_or text i 0 ∷ take (j - (i + 1)) (drop n text)) (sym next)

pub range_nil : (text : List ℕ) (i : ℕ) → slice_range text i i ≡ []
range_nil text i = let none : i - i ≡ 0 = omega arith in ap (λ (n : ℕ). take n (drop i text)) none

-- each byte passes, by place
pub list_all_from : (test : ℕ → Bool) (xs : List ℕ) → ((k : ℕ) → k < length xs → test (get_or xs k 0) ≡ true) → list_all test xs ≡ true
list_all_from test [] each = refl
list_all_from test (x ∷ xs) each = and_from (test x) (list_all test xs) (each 0 (omega arith)) (list_all_from test xs (λ k lt. each (suc k) (omega arith)))

pub list_all_to : (test : ℕ → Bool) (xs : List ℕ) → list_all test xs ≡ true → (k : ℕ) → k < length xs → test (get_or xs k 0) ≡ true
list_all_to test [] all k lt = absurd (omega arith)
list_all_to test (x ∷ xs) all zero lt = (and_parts (test x) (list_all test xs) all).0
list_all_to test (x ∷ xs) all (suc k) lt = list_all_to test xs (and_parts (test x) (list_all test xs) all).1 k (omega arith)

pub range_all : (test : ℕ → Bool) (text : List ℕ) (i j : ℕ) → i ≤ j → j ≤ length text → AllBetween test text i j → list_all test (slice_range text i j) ≡ true
range_all test text i j le in_text all =
    let len = range_length text i j le in_text in
    list_all_from test (slice_range text i j) (λ k lt. let near : k < j - i = omega (arith, len) in ap test (range_at text i j k near) ∙ all (i + k) (omega arith) (omega arith))

-- what every entry of a table passes holds of what the table has
pub each_of : {X : Type 0} (test : X → Bool) (table : List X) (x : X) → Contains table x → list_all test table ≡ true → test x ≡ true
each_of test [] x (k, lt, e) all = absurd (omega arith)
each_of test (y ∷ ys) x (zero, lt, e) all = ap test (sym e) ∙ (and_parts (test y) (list_all test ys) all).0
each_of test (y ∷ ys) x (suc k, lt, e) all = each_of test ys x (k, omega arith, e) (and_parts (test y) (list_all test ys) all).1

-- one of some numbers passes what all of them pass
pub one_of : (test : ℕ → Bool) (b : ℕ) (xs : List ℕ) → list_any (λ x. x == b) xs ≡ true → list_all test xs ≡ true → test b ≡ true
one_of test b [] any all = absurd cc
one_of test b (x ∷ xs) any all =
    let both = and_parts (test x) (list_all test xs) all in
    elim (or_cases (x == b) (list_any (λ y. y == b) xs) any) [
      | inl same ↦ ap test (sym (eqb-true x b same)) ∙ both.0
      | inr later ↦ one_of test b xs later both.1
    ]
