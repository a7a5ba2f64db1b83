-- Each text and place settles what is next, and each text its number.
use Rattle.std.proofs.Common.{◌≡◌, ◌⊎◌, ℕ, ◌+◌, ◌-◌, ◌<◌, ◌≤◌, Bool, true, false, List, [], ◌∷◌, length, get_or, drop, Result, Ok, Err, refl, sym, ap, subst, ◌∙◌, arith, inl, inr, ℤ, cond, ◌&&◌}
use Rattle.std.specs.Prelude.{slice_range, ◌==◌}
use Rattle.std.specs.List.{list_all}
use Rattle.std.proofs.lemmas.Bool.{both_ways, cases_order, and_left, and_right, ne_eqb}
use Rattle.std.proofs.lemmas.List.{length-drop, get_or-drop}
use Rattle.ven_base.specs.Name.{is_digit}
use Rattle.ven_io.specs.declared.token.Token.{Token}
use Rattle.ven_io.specs.declared.token.TokenFault.{TokenFault}
use Rattle.ven_io.specs.declared.token.TokenFault.TheVariants.{NotAscii, Unexpected}
use Rattle.ven_io.specs.declared.numbers.NumberFault.{NumberFault}
use Rattle.ven_io.specs.declared.numbers.NumberFault.TheVariants.{Empty, NotDigit, TooLarge}
use Rattle.ven_io.specs.Token.{IsStop, IsEnd, IsSpelling, StandsAt, NoneBeyond, IsNumberToken, HasOneNext}
use Rattle.ven_io.specs.Number.{is_digit_of, is_hexadecimal, base_of, digits_start, digits_of, value_of, IsNumeral, IsFirstOther, HasOneNumber, ReadsTokens}
use Rattle.ven_io.proofs.Places.{list_all_to}
use Rattle.ven_io.proofs.Standing.{IsPart, same_kind, begins_ascii}

-- ---- tokens

same_stop : (text : List ℕ) (from p q : ℕ) → IsStop text from p → IsStop text from q → p ≡ q
same_stop text from p q h g =
    elim (cases_order p q) [
      | inl e ↦ e
      | inr (inl lt) ↦ absurd (h.unskipped (omega (arith, g.in_text)) (g.before p h.after lt))
      | inr (inr lt) ↦ absurd (g.unskipped (omega (arith, h.in_text)) (h.before q g.after lt))
    ]

token_same : (t u : Token) → t.kind ≡ u.kind → t.start ≡ u.start → t.end ≡ u.end → t ≡ u
token_same t u kinds starts ends = λ i. record { kind = kinds i; start = starts i; end = ends i }

-- what stands at the start of u's spelling
at_start : (text : List ℕ) (t u : Token) → t.start ≡ u.start → StandsAt text u → IsSpelling u.kind (slice_range text t.start u.end)
at_start text t u starts g = subst (λ (s : ℕ). IsSpelling u.kind (slice_range text s u.end)) (sym starts) g.spelled

same_standing : (text : List ℕ) (t u : Token) → t.start ≡ u.start → StandsAt text t → StandsAt text u → t ≡ u
same_standing text t u starts h g =
    elim (cases_order t.end u.end) [
      | inl ends ↦
          let part : IsPart text t.start t.end = record { some = h.some; in_text = h.in_text } in
          let other : IsPart text t.start u.end = record { some = omega (arith, starts, g.some); in_text = g.in_text } in
          token_same t u (same_kind text t.start t.end u.end t.kind u.kind part other h.spelled (at_start text t u starts g)) starts ends
      | inr (inl lt) ↦ absurd (h.longest u.kind u.end lt g.in_text (at_start text t u starts g))
      | inr (inr lt) ↦ absurd (g.longest t.kind t.end lt h.in_text (at_start text u t (sym starts) h))
    ]

same_token : (text : List ℕ) (t u : Token) → t.start ≡ u.start → IsEnd text t ⊎ StandsAt text t → IsEnd text u ⊎ StandsAt text u → t ≡ u
same_token text t u starts (inl h) (inl g) = token_same t u (h.kind ∙ sym g.kind) starts (h.end ∙ sym g.end)
same_token text t u starts (inl h) (inr g) = absurd (omega (arith, starts, h.start, g.some, g.in_text))
same_token text t u starts (inr h) (inl g) = absurd (omega (arith, starts, g.start, h.some, h.in_text))
same_token text t u starts (inr h) (inr g) = same_standing text t u starts h g

-- a token begins with a byte below 128
no_other_byte : (text : List ℕ) (t : Token) (at : ℕ) → t.start ≡ at → at < length text → IsEnd text t ⊎ StandsAt text t → 128 ≤ get_or text at 0 → ⊥
no_other_byte text t at e lt (inl h) high = absurd (omega (arith, e, h.start))
no_other_byte text t at e lt (inr h) high =
    let low : get_or text t.start 0 < 128 = begins_ascii text t.start t.end t.kind (record { some = h.some; in_text = h.in_text }) h.spelled in
    let there : get_or text at 0 < 128 = subst (λ (k : ℕ). get_or text k 0 < 128) e low in
    absurd (omega arith)

no_token_there : (text : List ℕ) (t : Token) (at : ℕ) → t.start ≡ at → at < length text → IsEnd text t ⊎ StandsAt text t → NoneBeyond text at at → ⊥
no_token_there text t at e lt (inl h) none = absurd (omega (arith, e, h.start))
no_token_there text t at e lt (inr h) none = none t.kind t.end (omega (arith, e, h.some)) h.in_text (subst (λ (s : ℕ). IsSpelling t.kind (slice_range text s t.end)) e h.spelled)

read_as : Token → Result Token TokenFault
read_as t = Ok t

pub one_next_holds : HasOneNext
unfolding read_as
one_next_holds text from (Ok t) (Ok u) h g = ap read_as (same_token text t u (same_stop text from t.start u.start h.0 g.0) h.1 g.1)
one_next_holds text from (Ok t) (Err (NotAscii at)) h g = absurd (no_other_byte text t at (same_stop text from t.start at h.0 g.0) g.1 h.1 g.2)
one_next_holds text from (Ok t) (Err (Unexpected at)) h g = absurd (no_token_there text t at (same_stop text from t.start at h.0 g.0) g.1 h.1 g.3)
one_next_holds text from (Err (NotAscii at)) (Ok t) h g = absurd (no_other_byte text t at (same_stop text from t.start at g.0 h.0) h.1 g.1 h.2)
one_next_holds text from (Err (NotAscii at)) (Err (NotAscii there)) h g = let e = same_stop text from at there h.0 g.0 in cc
one_next_holds text from (Err (NotAscii at)) (Err (Unexpected there)) h g =
    let e = same_stop text from at there h.0 g.0 in
    let high : 128 ≤ get_or text there 0 = subst (λ (k : ℕ). 128 ≤ get_or text k 0) e h.2 in
    absurd (omega (arith, g.2))
one_next_holds text from (Err (Unexpected at)) (Ok t) h g = absurd (no_token_there text t at (same_stop text from t.start at g.0 h.0) h.1 g.1 h.3)
one_next_holds text from (Err (Unexpected at)) (Err (NotAscii there)) h g =
    let e = same_stop text from at there h.0 g.0 in
    let high : 128 ≤ get_or text at 0 = subst (λ (k : ℕ). 128 ≤ get_or text k 0) (sym e) g.2 in
    absurd (omega (arith, h.2))
one_next_holds text from (Err (Unexpected at)) (Err (Unexpected there)) h g = let e = same_stop text from at there h.0 g.0 in cc

-- ---- numbers

digit_at : (text : List ℕ) (at : ℕ) → IsNumeral text → digits_start text ≤ at → at < length text → is_digit_of (base_of text) (get_or text at 0) ≡ true
digit_at text at numeral le lt =
    let place : digits_start text + (at - digits_start text) ≡ at = omega arith in
    let len = length-drop (digits_start text) text in
    ap (λ (k : ℕ). is_digit_of (base_of text) (get_or text k 0)) (sym place)
    ∙ ap (is_digit_of (base_of text)) (sym (get_or-drop (digits_start text) text (at - digits_start text) 0))
    ∙ list_all_to (is_digit_of (base_of text)) (digits_of text) numeral.each (at - digits_start text) (omega (arith, len))

numeral_or_other : (text : List ℕ) (at : ℕ) → IsNumeral text → IsFirstOther text at → ⊥
numeral_or_other text at numeral first = both_ways _ first.other (digit_at text at numeral first.after first.in_text)

numeral_or_empty : (text : List ℕ) → IsNumeral text → digits_of text ≡ [] → ⊥
numeral_or_empty text numeral none = absurd (omega (arith, numeral.some, ap length none))

empty_or_other : (text : List ℕ) (at : ℕ) → digits_of text ≡ [] → IsFirstOther text at → ⊥
empty_or_other text at none first =
    let len : length (digits_of text) ≡ 0 = ap length none in
    absurd (omega (arith, len, length-drop (digits_start text) text, first.after, first.in_text))

same_other : (text : List ℕ) (p q : ℕ) → IsFirstOther text p → IsFirstOther text q → p ≡ q
same_other text p q h g =
    elim (cases_order p q) [
      | inl e ↦ e
      | inr (inl lt) ↦ absurd (both_ways _ h.other (g.before p h.after lt))
      | inr (inr lt) ↦ absurd (both_ways _ g.other (h.before q g.after lt))
    ]

denotes : ℤ → Result ℤ NumberFault
denotes n = Ok n

pub one_number_holds : HasOneNumber
unfolding denotes
one_number_holds text (Ok n) (Ok m) h g = ap denotes (h.1 ∙ sym g.1)
one_number_holds text (Ok n) (Err Empty) h g = absurd (numeral_or_empty text h.0 g)
one_number_holds text (Ok n) (Err (NotDigit at)) h g = absurd (numeral_or_other text at h.0 g)
one_number_holds text (Ok n) (Err TooLarge) h g = absurd (omega (arith, h.2, g.1))
one_number_holds text (Err Empty) (Ok m) h g = absurd (numeral_or_empty text g.0 h)
one_number_holds text (Err Empty) (Err Empty) h g = refl
one_number_holds text (Err Empty) (Err (NotDigit at)) h g = absurd (empty_or_other text at h g)
one_number_holds text (Err Empty) (Err TooLarge) h g = absurd (numeral_or_empty text g.0 h)
one_number_holds text (Err (NotDigit at)) (Ok m) h g = absurd (numeral_or_other text at g.0 h)
one_number_holds text (Err (NotDigit at)) (Err Empty) h g = absurd (empty_or_other text at g h)
one_number_holds text (Err (NotDigit at)) (Err (NotDigit there)) h g = let e = same_other text at there h g in cc
one_number_holds text (Err (NotDigit at)) (Err TooLarge) h g = absurd (numeral_or_other text at g.0 h)
one_number_holds text (Err TooLarge) (Ok m) h g = absurd (omega (arith, g.2, h.1))
one_number_holds text (Err TooLarge) (Err Empty) h g = absurd (numeral_or_empty text h.0 g)
one_number_holds text (Err TooLarge) (Err (NotDigit at)) h g = absurd (numeral_or_other text at h.0 g)
one_number_holds text (Err TooLarge) (Err TooLarge) h g = refl

-- ---- the numbers of tokens

-- behind `0x` comes no digit, so all digits is no `0x`
decimal : (bytes : List ℕ) → list_all is_digit bytes ≡ true → is_hexadecimal bytes ≡ false
decimal [] all = refl
decimal (b ∷ []) all = and_right (48 == b) false refl
decimal (b ∷ c ∷ bytes) all =
    let second : is_digit c ≡ true = list_all_to is_digit (b ∷ c ∷ bytes) all 1 (omega arith) in
    let no_letter : (120 == c) ≡ false = ne_eqb 120 c (λ e. let x : is_digit 120 ≡ true = ap is_digit e ∙ second in absurd cc) in
    and_right (48 == b) ((120 == c) && true) (and_left (120 == c) true no_letter)

pub token_is_numeral : (bytes : List ℕ) → IsNumberToken bytes → IsNumeral bytes
token_is_numeral bytes (inl digits) =
    let no_hex = decimal bytes digits.1 in
    let each : (hex : Bool) → hex ≡ false → (0 < length (drop (cond hex 2 0) bytes)) × (list_all (is_digit_of (cond hex 16 10)) (drop (cond hex 2 0) bytes) ≡ true) =
    λ hex e. subst (λ (h : Bool). (0 < length (drop (cond h 2 0) bytes)) × (list_all (is_digit_of (cond h 16 10)) (drop (cond h 2 0) bytes) ≡ true)) (sym e) digits in
    let both = each (is_hexadecimal bytes) no_hex in
    record { some = both.0; each = both.1 }
token_is_numeral bytes (inr (digits, e, some)) = subst IsNumeral (sym e) (record { some = some.0; each = some.1 })

-- at a number token, number answers its value, or that it is too large
pub tokens_number : ReadsTokens
tokens_number bytes (Ok n) token denoted = (value_of bytes, (token, refl), denoted.1, denoted.2)
tokens_number bytes (Err Empty) token denoted = numeral_or_empty bytes (token_is_numeral bytes token) denoted
tokens_number bytes (Err (NotDigit at)) token denoted = numeral_or_other bytes at (token_is_numeral bytes token) denoted
tokens_number bytes (Err TooLarge) token denoted = (value_of bytes, (token, refl), denoted.1)
