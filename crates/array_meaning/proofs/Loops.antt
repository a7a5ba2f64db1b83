-- What the loops over values keep.
use Rattle.std.proofs.Common.{◌≡◌, ℕ, ◌+◌, ◌<◌, List, [], ◌∷◌, ◌++◌, length, take, get_or, sym, ap, ◌∙◌, arith}
use Rattle.std.specs.Prelude.{ℤ, pos, negsuc, ◌+ℤ◌, ◌≤ℤ◌, neg_ℤ, ◌^◌}
use Rattle.std.specs.Int.{w64}
use Rattle.std.specs.List.{range_with_len, flat_map}
use Rattle.std.proofs.lemmas.Grind.{flat_map-append}
use Rattle.std.proofs.lemmas.Int.{ints, to_z-of_z}
use Rattle.std.proofs.lemmas.List.{take_more, append-nil, map-id}
use Rattle.std.proofs.lemmas.List.FromFn.{map-range_with_len_more}
use lib.Signed.{mag}
use mir.Val.{to_z, of_z}
use Rattle.ven_base.specs.declared.elem.Elem.{Elem}
use Rattle.ven_base.specs.Elem.{IsElement}
use Rattle.ven_base.specs.Folding.{total_of}
use Rattle.ven_base.proofs.Operations.{element_small}
use Rattle.ven_base.proofs.Reductions.{total_of-append}
use Rattle.shape_check.specs.Meaning.{row_values}

-- a number that isn't far from 0 lies in 64 bits
pub small_read : (x : ℤ) → neg_ℤ (pos 4611686018427387904) ≤ℤ x → x ≤ℤ pos 4611686018427387904 → to_z w64 (of_z w64 x) ≡ x
small_read x low high = to_z-of_z w64 x (record { sfits = in_word x low high })
  where
    in_word : (z : ℤ) → neg_ℤ (pos 4611686018427387904) ≤ℤ z → z ≤ℤ pos 4611686018427387904 → mag z < 2 ^ 63
    in_word (pos n) l h = omega (arith, ints)
    in_word (negsuc n) l h = omega (arith, ints)

pub element_read : (elem : Elem) (x : ℤ) → IsElement elem x → to_z w64 (of_z w64 x) ≡ x
element_read elem x h = let small = element_small elem x h in let low = small.0 in let high = small.1 in small_read x (omega (arith, ints)) (omega (arith, ints))

range_more : (n : ℕ) → range_with_len 0 (n + 1) ≡ range_with_len 0 n ++ n ∷ []
range_more n =
    let m = map-range_with_len_more (λ (k : ℕ). k) 0 n n (omega arith) in
    sym (map-id (range_with_len 0 (n + 1))) ∙ m ∙ ap (λ xs. xs ++ n ∷ []) (map-id (range_with_len 0 n))

-- one row more
pub rows_more : (cols : ℕ) (f : ℕ → ℕ → ℤ) (n : ℕ) → flat_map (λ r. row_values cols (f r)) (range_with_len 0 (n + 1)) ≡ flat_map (λ r. row_values cols (f r)) (range_with_len 0 n) ++ row_values cols (f n)
rows_more cols f n =
    let g = λ (r : ℕ). row_values cols (f r) in
    ap (flat_map g) (range_more n) ∙ flat_map-append g (range_with_len 0 n) (n ∷ []) ∙ ap (λ xs. flat_map g (range_with_len 0 n) ++ xs) (append-nil (g n))

-- one column more
pub row_more : (f : ℕ → ℤ) (n : ℕ) → row_values (n + 1) f ≡ row_values n f ++ f n ∷ []
row_more f n = map-range_with_len_more f 0 n n (omega arith)

pub total_more : (xs : List ℤ) (i : ℕ) → i < length xs → total_of (take (i + 1) xs) ≡ total_of (take i xs) +ℤ get_or xs i (pos 0)
total_more xs i h =
    let x = get_or xs i (pos 0) in
    ap total_of (take_more xs i (pos 0) h) ∙ total_of-append (take i xs) (x ∷ []) ∙ ap (λ y. total_of (take i xs) +ℤ y) (let same : x +ℤ pos 0 ≡ x = omega (arith, ints) in same)
