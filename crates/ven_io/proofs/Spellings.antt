-- The spellings of tokens, byte by byte.
use Rattle.std.proofs.Common.{◌≡◌, ◌⊎◌, ℕ, zero, suc, ◌<◌, ◌≤◌, Bool, true, false, ◌&&◌, ◌||◌, List, [], ◌∷◌, ◌++◌, length, get_or, refl, sym, subst, arith, inl, inr}
use Rattle.std.specs.Prelude.{Contains, codes, ◌==◌}
use Rattle.std.specs.List.{list_all, list_any}
use Rattle.std.proofs.lemmas.Bool.{or_left, or_cases, and_parts, eqb-true}
use Rattle.ven_base.specs.Name.{is_digit, is_name_start, is_name_byte, IsNameToken}
use Rattle.ven_io.specs.Token.{is_hex_digit, IsNumberToken, AreSome, signs}
use Rattle.ven_io.specs.Signs.{is_single_sign, is_double_sign}
use Rattle.ven_io.proofs.Places.{list_all_from, list_all_to, each_of, one_of}

-- ---- names

pub name_from : (xs : List ℕ) → 0 < length xs → is_name_start (get_or xs 0 0) ≡ true → ((k : ℕ) → 1 ≤ k → k < length xs → is_name_byte (get_or xs k 0) ≡ true) → IsNameToken xs
name_from [] some first rest = absurd (omega arith)
name_from (x ∷ xs) some first rest = (first, list_all_from is_name_byte xs (λ k lt. rest (suc k) (omega arith) (omega arith)))

pub name_first : (xs : List ℕ) → IsNameToken xs → is_name_start (get_or xs 0 0) ≡ true
name_first [] name = absurd name
name_first (x ∷ xs) name = name.0

pub name_each : (xs : List ℕ) → IsNameToken xs → (k : ℕ) → k < length xs → is_name_byte (get_or xs k 0) ≡ true
name_each [] name k lt = absurd name
name_each (x ∷ xs) name zero lt = or_left (is_name_start x) (is_digit x) name.0
name_each (x ∷ xs) name (suc k) lt = list_all_to is_name_byte xs name.1 k (omega arith)

-- ---- numbers

-- `0x` and hexadecimal digits
pub record IsHexToken (xs : List ℕ) : Type 0 where
  pub long : 3 ≤ length xs
  pub zero_digit : get_or xs 0 0 ≡ 48
  pub letter : get_or xs 1 0 ≡ 120
  pub each : (k : ℕ) → 2 ≤ k → k < length xs → is_hex_digit (get_or xs k 0) ≡ true

hex_tail : (digits : List ℕ) → list_all is_hex_digit digits ≡ true → (k : ℕ) → 2 ≤ k → k < length (48 ∷ 120 ∷ digits) → is_hex_digit (get_or (48 ∷ 120 ∷ digits) k 0) ≡ true
hex_tail digits all zero le lt = absurd (omega arith)
hex_tail digits all (suc zero) le lt = absurd (omega arith)
hex_tail digits all (suc (suc k)) le lt = list_all_to is_hex_digit digits all k (omega arith)

pub hex_to : (xs digits : List ℕ) → xs ≡ codes "0x" ++ digits → AreSome is_hex_digit digits → IsHexToken xs
hex_to xs digits e some =
    subst IsHexToken (sym e) (record { long = omega (arith, some.0); zero_digit = refl; letter = refl; each = hex_tail digits some.1 })

pub number_cases : (xs : List ℕ) → IsNumberToken xs → ((k : ℕ) → k < length xs → is_digit (get_or xs k 0) ≡ true) ⊎ IsHexToken xs
number_cases xs (inl some) = inl (list_all_to is_digit xs some.1)
number_cases xs (inr (digits, e, some)) = inr (hex_to xs digits e some)

-- ---- signs

-- the bytes are a sign
pub is_sign : List ℕ → Bool
is_sign [] = false
is_sign (b ∷ []) = is_single_sign b
is_sign (b ∷ c ∷ []) = is_double_sign b c
is_sign (b ∷ c ∷ d ∷ xs) = false

-- a sign is one byte or two
pub sign_cases : (xs : List ℕ) → Contains signs xs → ((length xs ≡ 1) × (is_single_sign (get_or xs 0 0) ≡ true)) ⊎ ((length xs ≡ 2) × (is_double_sign (get_or xs 0 0) (get_or xs 1 0) ≡ true))
unfolding is_sign
sign_cases xs sign = by_length xs (each_of is_sign signs xs sign refl)
  where
    by_length : (xs : List ℕ) → is_sign xs ≡ true → ((length xs ≡ 1) × (is_single_sign (get_or xs 0 0) ≡ true)) ⊎ ((length xs ≡ 2) × (is_double_sign (get_or xs 0 0) (get_or xs 1 0) ≡ true))
    by_length [] e = absurd cc
    by_length (b ∷ []) e = inl (refl, e)
    by_length (b ∷ c ∷ []) e = inr (refl, e)
    by_length (b ∷ c ∷ d ∷ xs) e = absurd cc

same_bytes : List ℕ → List ℕ → Bool
same_bytes [] [] = true
same_bytes [] (y ∷ ys) = false
same_bytes (x ∷ xs) [] = false
same_bytes (x ∷ xs) (y ∷ ys) = x == y && same_bytes xs ys

same_from : (xs ys : List ℕ) → same_bytes xs ys ≡ true → xs ≡ ys
unfolding same_bytes
same_from [] [] e = refl
same_from [] (y ∷ ys) e = absurd cc
same_from (x ∷ xs) [] e = absurd cc
same_from (x ∷ xs) (y ∷ ys) e =
    let both = and_parts (x == y) (same_bytes xs ys) e in
    let head : x ≡ y = eqb-true x y both.0 in
    let tail : xs ≡ ys = same_from xs ys both.1 in
    cc

is_among : List (List ℕ) → List ℕ → Bool
is_among table xs = list_any (λ entry. same_bytes entry xs) table

among_from : (table : List (List ℕ)) (xs : List ℕ) → list_any (λ entry. same_bytes entry xs) table ≡ true → Contains table xs
among_from [] xs e = absurd cc
among_from (y ∷ ys) xs e =
    elim (or_cases (same_bytes y xs) (list_any (λ entry. same_bytes entry xs) ys) e) [
      | inl here ↦ (0, omega arith, same_from y xs here)
      | inr later ↦ let rest = among_from ys xs later in (suc rest.0, omega (arith, rest.1), rest.2)
    ]

pub single_is_sign : (b : ℕ) → is_single_sign b ≡ true → Contains signs (b ∷ [])
unfolding same_bytes is_among
single_is_sign b single = among_from signs (b ∷ []) (one_of (λ x. is_among signs (x ∷ [])) b (codes "+-*&|^~()[],;=<>:") single refl)

pair_is_sign : (b c m n : ℕ) → b ≡ m → c ≡ n → is_among signs (m ∷ n ∷ []) ≡ true → Contains signs (b ∷ c ∷ [])
unfolding is_among
pair_is_sign b c m n first second among =
    let bytes : b ∷ c ∷ [] ≡ m ∷ n ∷ [] = cc in
    subst (λ (xs : List ℕ). Contains signs xs) (sym bytes) (among_from signs (m ∷ n ∷ []) among)

pub double_is_sign : (b c : ℕ) → is_double_sign b c ≡ true → Contains signs (b ∷ c ∷ [])
unfolding same_bytes is_among
double_is_sign b c double =
    elim (or_cases ((b == 60 && c == 60) || (b == 62 && c == 62)) (c == 61 && (b == 61 || b == 33 || b == 60 || b == 62)) double) [
      | inl shift ↦
          elim (or_cases (b == 60 && c == 60) (b == 62 && c == 62) shift) [
            | inl left ↦ let p = and_parts (b == 60) (c == 60) left in pair_is_sign b c 60 60 (eqb-true b 60 p.0) (eqb-true c 60 p.1) refl
            | inr right ↦ let p = and_parts (b == 62) (c == 62) right in pair_is_sign b c 62 62 (eqb-true b 62 p.0) (eqb-true c 62 p.1) refl
          ]
      | inr compare ↦
          let p = and_parts (c == 61) (b == 61 || b == 33 || b == 60 || b == 62) compare in
          let equals : c ≡ 61 = eqb-true c 61 p.0 in
          elim (or_cases (b == 61 || b == 33 || b == 60) (b == 62) p.1) [
            | inr more ↦ pair_is_sign b c 62 61 (eqb-true b 62 more) equals refl
            | inl three ↦
                elim (or_cases (b == 61 || b == 33) (b == 60) three) [
                  | inr less ↦ pair_is_sign b c 60 61 (eqb-true b 60 less) equals refl
                  | inl two ↦
                      elim (or_cases (b == 61) (b == 33) two) [
                        | inl same ↦ pair_is_sign b c 61 61 (eqb-true b 61 same) equals refl
                        | inr differ ↦ pair_is_sign b c 33 61 (eqb-true b 33 differ) equals refl
                      ]
                ]
          ]
    ]
