-- What stands at a place of a text, kind by kind.
use Rattle.std.proofs.Common.{◌≡◌, ◌⊎◌, ℕ, ◌+◌, ◌-◌, ◌<◌, ◌≤◌, Bool, true, List, [], ◌∷◌, ◌++◌, length, get_or, refl, sym, ap, subst, ◌∙◌, arith, inl, inr, not, ◌&&◌}
use Rattle.std.specs.Prelude.{slice_range, Contains, codes, nat_lt, ◌==◌}
use Rattle.std.proofs.lemmas.Bool.{both_ways, cases_lt, and_parts, not-true, eqb-false, ltb-true}
use Rattle.std.proofs.lemmas.Bool.Decides.{nat_tests}
use Rattle.ven_base.specs.Name.{is_digit, is_name_start, is_name_byte, IsNameToken}
use Rattle.ven_io.specs.declared.token.TokenKind.{TokenKind}
use Rattle.ven_io.specs.declared.token.TokenKind.TheVariants.{Name, Number, Sign, Line, End}
use Rattle.ven_io.specs.Token.{is_hex_digit, signs, IsSpelling, IsNumberToken, NoneBeyond, StandsAt}
use Rattle.ven_io.specs.Signs.{is_single_sign, is_double_sign}
use Rattle.ven_io.specs.Runs.{IsRun, AllBetween, IsHexadecimalAt, IsDoubleSignAt, NoSign}
use Rattle.ven_io.proofs.Places.{range_at, range_length, range_cons, range_nil, range_all, one_of}
use Rattle.ven_io.proofs.Spellings.{name_from, name_first, name_each, number_cases, sign_cases, single_is_sign, double_is_sign}

-- the first byte of a part of the text
pub first_at : (text : List ℕ) (s e : ℕ) → s < e → get_or (slice_range text s e) 0 0 ≡ get_or text s 0
first_at text s e lt = range_at text s e 0 (omega arith) ∙ (let here : s + 0 ≡ s = omega arith in ap (λ (k : ℕ). get_or text k 0) here)

-- the byte of the text at a place of the part
place_at : (text : List ℕ) (s e k : ℕ) → s ≤ k → k < e → get_or (slice_range text s e) (k - s) 0 ≡ get_or text k 0
place_at text s e k le lt = range_at text s e (k - s) (omega arith) ∙ (let there : s + (k - s) ≡ k = omega arith in ap (λ (j : ℕ). get_or text j 0) there)

-- ---- what a spelling from a place says of the text

-- the part of the text that is looked at
pub record IsPart (text : List ℕ) (s e : ℕ) : Type 0 where
  pub some : s < e
  pub in_text : e ≤ length text

pub name_starts : (text : List ℕ) (s e : ℕ) → IsPart text s e → IsNameToken (slice_range text s e) → is_name_start (get_or text s 0) ≡ true
name_starts text s e part name = ap is_name_start (sym (first_at text s e part.some)) ∙ name_first (slice_range text s e) name

pub name_goes_on : (text : List ℕ) (s e k : ℕ) → IsPart text s e → IsNameToken (slice_range text s e) → s ≤ k → k < e → is_name_byte (get_or text k 0) ≡ true
name_goes_on text s e k part name le lt =
    let len = range_length text s e (omega (arith, part.some)) part.in_text in
    ap is_name_byte (sym (place_at text s e k le lt)) ∙ name_each (slice_range text s e) name (k - s) (omega (arith, len))

-- a number goes on with digits, or with hexadecimal ones behind `0x`
pub number_goes_on : (text : List ℕ) (s e : ℕ) → IsPart text s e → IsNumberToken (slice_range text s e) → AllBetween is_digit text s e ⊎ (IsHexadecimalAt text s × AllBetween is_hex_digit text (s + 2) e)
number_goes_on text s e part number =
    let len = range_length text s e (omega (arith, part.some)) part.in_text in
    elim (number_cases (slice_range text s e) number) [
      | inl digits ↦ inl (λ k le lt. ap is_digit (sym (place_at text s e k le lt)) ∙ digits (k - s) (omega (arith, len)))
      | inr hex ↦
          let long : s + 2 < e = omega (arith, len, hex.long) in
          let second : s + 1 - s ≡ 1 = omega arith in
          let third : s + 2 - s ≡ 2 = omega arith in
          let each : AllBetween is_hex_digit text (s + 2) e =
          λ k le lt. ap is_hex_digit (sym (place_at text s e k (omega arith) lt)) ∙ hex.each (k - s) (omega arith) (omega (arith, len)) in
          inr (
            record {
              room = omega (arith, part.in_text, long);
              zero_digit = sym (first_at text s e part.some) ∙ hex.zero_digit;
              letter = sym (place_at text s e (s + 1) (omega arith) (omega (arith, long))) ∙ ap (λ (j : ℕ). get_or (slice_range text s e) j 0) second ∙ hex.letter;
              digit = each (s + 2) (omega arith) long;
            },
            each,
          )
    ]

number_starts : (text : List ℕ) (s e : ℕ) → IsPart text s e → IsNumberToken (slice_range text s e) → is_digit (get_or text s 0) ≡ true
number_starts text s e part number =
    elim (number_goes_on text s e part number) [
      | inl digits ↦ digits s (omega arith) part.some
      | inr hex ↦ ap is_digit hex.0.zero_digit
    ]

line_starts : (text : List ℕ) (s e : ℕ) → IsPart text s e → slice_range text s e ≡ 10 ∷ [] → (get_or text s 0 ≡ 10) × (e ≡ s + 1)
line_starts text s e part line =
    let len = range_length text s e (omega (arith, part.some)) part.in_text in
    let one : length (slice_range text s e) ≡ 1 = ap length line in
    (sym (first_at text s e part.some) ∙ ap (λ (xs : List ℕ). get_or xs 0 0) line, omega (arith, len, one, part.some))

-- a sign is one byte or two
pub sign_goes_on : (text : List ℕ) (s e : ℕ) → IsPart text s e → Contains signs (slice_range text s e) →
    ((e ≡ s + 1) × (is_single_sign (get_or text s 0) ≡ true)) ⊎ ((e ≡ s + 2) × (is_double_sign (get_or text s 0) (get_or text (s + 1) 0) ≡ true))
sign_goes_on text s e part sign =
    let len = range_length text s e (omega (arith, part.some)) part.in_text in
    elim (sign_cases (slice_range text s e) sign) [
      | inl one ↦ inl (omega (arith, len, one.0, part.some), ap is_single_sign (sym (first_at text s e part.some)) ∙ one.1)
      | inr two ↦
          let long : e ≡ s + 2 = omega (arith, len, two.0, part.some) in
          let second : get_or (slice_range text s e) 1 0 ≡ get_or text (s + 1) 0 = range_at text s e 1 (omega arith) in
          inr (long, ap (λ (b : ℕ). is_double_sign b (get_or text (s + 1) 0)) (sym (first_at text s e part.some)) ∙ ap (is_double_sign (get_or (slice_range text s e) 0 0)) (sym second) ∙ two.1)
    ]

-- ---- the first bytes of the kinds differ

name_no_digit : (b : ℕ) → is_name_start b ≡ true → is_digit b ≡ true → ⊥
name_no_digit b name digit = grind (arith, nat_tests)

name_no_line : (b : ℕ) → is_name_start b ≡ true → b ≡ 10 → ⊥
name_no_line b name line = let there : is_name_start 10 ≡ true = ap is_name_start (sym line) ∙ name in absurd cc

digit_no_line : (b : ℕ) → is_digit b ≡ true → b ≡ 10 → ⊥
digit_no_line b digit line = let there : is_digit 10 ≡ true = ap is_digit (sym line) ∙ digit in absurd cc

name_ascii : (b : ℕ) → is_name_start b ≡ true → b < 128
name_ascii b name = grind (arith, nat_tests)

digit_ascii : (b : ℕ) → is_digit b ≡ true → b < 128
digit_ascii b digit = grind (arith, nat_tests)

-- a byte that begins a sign begins nothing else, and is ASCII
begins_sign_only : ℕ → Bool
begins_sign_only b = not (is_name_start b) && not (is_digit b) && not (b == 10) && nat_lt b 128

double_first : (b c : ℕ) → is_double_sign b c ≡ true → (b ≡ 60) ⊎ ((b ≡ 62) ⊎ ((b ≡ 61) ⊎ (b ≡ 33)))
double_first b c double = grind (arith, nat_tests)

single_only : (b : ℕ) → is_single_sign b ≡ true → begins_sign_only b ≡ true
unfolding begins_sign_only
single_only b single = one_of begins_sign_only b (codes "+-*&|^~()[],;=<>:") single refl

double_only : (b c : ℕ) → is_double_sign b c ≡ true → begins_sign_only b ≡ true
unfolding begins_sign_only
double_only b c double =
    elim (double_first b c double) [
      | inl e ↦ ap begins_sign_only e
      | inr (inl e) ↦ ap begins_sign_only e
      | inr (inr (inl e)) ↦ ap begins_sign_only e
      | inr (inr (inr e)) ↦ ap begins_sign_only e
    ]

sign_only : (text : List ℕ) (s e : ℕ) → IsPart text s e → Contains signs (slice_range text s e) → begins_sign_only (get_or text s 0) ≡ true
sign_only text s e part sign =
    elim (sign_goes_on text s e part sign) [
      | inl one ↦ single_only (get_or text s 0) one.1
      | inr two ↦ double_only (get_or text s 0) (get_or text (s + 1) 0) two.1
    ]

-- what a byte that begins a sign is not
record IsSignByte (b : ℕ) : Type 0 where
  no_name : is_name_start b ≡ true → ⊥
  no_digit : is_digit b ≡ true → ⊥
  no_line : b ≡ 10 → ⊥
  ascii : b < 128

sign_byte : (b : ℕ) → begins_sign_only b ≡ true → IsSignByte b
unfolding begins_sign_only
sign_byte b only =
    let three = and_parts (not (is_name_start b) && not (is_digit b) && not (b == 10)) (nat_lt b 128) only in
    let two = and_parts (not (is_name_start b) && not (is_digit b)) (not (b == 10)) three.0 in
    let one = and_parts (not (is_name_start b)) (not (is_digit b)) two.0 in
    record {
      no_name = both_ways (is_name_start b) (not-true (is_name_start b) one.0);
      no_digit = both_ways (is_digit b) (not-true (is_digit b) one.1);
      no_line = eqb-false b 10 (not-true (b == 10) two.1);
      ascii = ltb-true b 128 three.1;
    }

sign_starts : (text : List ℕ) (s e : ℕ) → IsPart text s e → Contains signs (slice_range text s e) → IsSignByte (get_or text s 0)
sign_starts text s e part sign = sign_byte (get_or text s 0) (sign_only text s e part sign)

-- the byte begins a token of the kind
Begins : TokenKind → ℕ → Type 0
Begins Name b = is_name_start b ≡ true
Begins Number b = is_digit b ≡ true
Begins Sign b = IsSignByte b
Begins Line b = b ≡ 10
Begins End b = ⊥

begins : (text : List ℕ) (s e : ℕ) (kind : TokenKind) → IsPart text s e → IsSpelling kind (slice_range text s e) → Begins kind (get_or text s 0)
unfolding Begins
begins text s e Name part spelled = name_starts text s e part spelled
begins text s e Number part spelled = number_starts text s e part spelled
begins text s e Sign part spelled = sign_starts text s e part spelled
begins text s e Line part spelled = (line_starts text s e part spelled).0
begins text s e End part spelled = spelled

one_kind : (b : ℕ) (k l : TokenKind) → Begins k b → Begins l b → k ≡ l
unfolding Begins
one_kind b Name Name h g = refl
one_kind b Name Number h g = absurd (name_no_digit b h g)
one_kind b Name Sign h g = absurd (g.no_name h)
one_kind b Name Line h g = absurd (name_no_line b h g)
one_kind b Number Name h g = absurd (name_no_digit b g h)
one_kind b Number Number h g = refl
one_kind b Number Sign h g = absurd (g.no_digit h)
one_kind b Number Line h g = absurd (digit_no_line b h g)
one_kind b Sign Name h g = absurd (h.no_name g)
one_kind b Sign Number h g = absurd (h.no_digit g)
one_kind b Sign Sign h g = refl
one_kind b Sign Line h g = absurd (h.no_line g)
one_kind b Line Name h g = absurd (name_no_line b g h)
one_kind b Line Number h g = absurd (digit_no_line b g h)
one_kind b Line Sign h g = absurd (g.no_line h)
one_kind b Line Line h g = refl
one_kind b End l h g = absurd h
one_kind b k End h g = absurd g

-- two tokens that are spelled from one place are of one kind
pub same_kind : (text : List ℕ) (s d e : ℕ) (k l : TokenKind) → IsPart text s d → IsPart text s e → IsSpelling k (slice_range text s d) → IsSpelling l (slice_range text s e) → k ≡ l
same_kind text s d e k l p q h g = one_kind (get_or text s 0) k l (begins text s d k p h) (begins text s e l q g)

-- a token begins with an ASCII byte
pub begins_ascii : (text : List ℕ) (s e : ℕ) (kind : TokenKind) → IsPart text s e → IsSpelling kind (slice_range text s e) → get_or text s 0 < 128
begins_ascii text s e Name part spelled = name_ascii (get_or text s 0) (name_starts text s e part spelled)
begins_ascii text s e Number part spelled = digit_ascii (get_or text s 0) (number_starts text s e part spelled)
begins_ascii text s e Sign part spelled = (sign_starts text s e part spelled).ascii
begins_ascii text s e Line part spelled = omega (arith, (line_starts text s e part spelled).0)
begins_ascii text s e End part spelled = absurd spelled

-- ---- what stands at a place

-- a spelling stands there where none of its own kind goes further
stands : (text : List ℕ) (kind : TokenKind) (s e : ℕ) → IsPart text s e → IsSpelling kind (slice_range text s e)
    → ((further : ℕ) → e < further → IsPart text s further → IsSpelling kind (slice_range text s further) → ⊥)
    → StandsAt text (record { kind = kind; start = s; end = e })
stands text kind s e part spelled none =
    record {
      some = part.some;
      in_text = part.in_text;
      spelled = spelled;
      longest = λ other further beyond in_text longer.
          let whole : IsPart text s further = record { some = omega (arith, part.some); in_text = in_text } in
          let same = same_kind text s further e other kind whole part longer spelled in
          none further beyond whole (subst (λ (k : TokenKind). IsSpelling k (slice_range text s further)) same longer);
    }

pub name_stands : (text : List ℕ) (s e : ℕ) → s < length text → is_name_start (get_or text s 0) ≡ true → IsRun is_name_byte text (s + 1) e → StandsAt text (record { kind = Name; start = s; end = e })
name_stands text s e in_text first run =
    let part : IsPart text s e = record { some = omega (arith, run.after); in_text = run.in_text } in
    let len = range_length text s e (omega (arith, run.after)) run.in_text in
    let each : (k : ℕ) → 1 ≤ k → k < length (slice_range text s e) → is_name_byte (get_or (slice_range text s e) k 0) ≡ true =
    λ k le lt. ap is_name_byte (range_at text s e k (omega (arith, len))) ∙ run.same (s + k) (omega arith) (omega (arith, len)) in
    stands text Name s e part
    (name_from (slice_range text s e) (omega (arith, len, part.some)) (ap is_name_start (first_at text s e part.some) ∙ first) each)
    (λ further beyond whole longer. both_ways _ (run.stops (omega (arith, whole.in_text))) (name_goes_on text s further e whole longer (omega (arith, part.some)) beyond))

pub decimal_stands : (text : List ℕ) (s e : ℕ) → s < length text → is_digit (get_or text s 0) ≡ true → (IsHexadecimalAt text s → ⊥) → IsRun is_digit text s e → StandsAt text (record { kind = Number; start = s; end = e })
decimal_stands text s e in_text first no_hex run =
    let some : s < e =
    elim (cases_lt s e) [
      | inl lt ↦ lt
      | inr le ↦ let same : e ≡ s = omega (arith, run.after) in absurd (both_ways _ (run.stops (omega (arith, same))) (ap (λ (k : ℕ). is_digit (get_or text k 0)) same ∙ first))
    ] in
    let part : IsPart text s e = record { some = some; in_text = run.in_text } in
    let len = range_length text s e run.after run.in_text in
    stands text Number s e part
    (inl (omega (arith, len, some), range_all is_digit text s e run.after run.in_text run.same))
    (λ further beyond whole longer.
    elim (number_goes_on text s further whole longer) [
      | inl digits ↦ both_ways _ (run.stops (omega (arith, whole.in_text))) (digits e run.after beyond)
      | inr hex ↦ no_hex hex.0
    ])

pub hexadecimal_stands : (text : List ℕ) (s e : ℕ) → IsHexadecimalAt text s → IsRun is_hex_digit text (s + 2) e → StandsAt text (record { kind = Number; start = s; end = e })
hexadecimal_stands text s e hex run =
    let some : s + 2 < e =
    elim (cases_lt (s + 2) e) [
      | inl lt ↦ lt
      | inr le ↦ let same : e ≡ s + 2 = omega (arith, run.after) in absurd (both_ways _ (run.stops (omega (arith, same, hex.room))) (ap (λ (k : ℕ). is_hex_digit (get_or text k 0)) same ∙ hex.digit))
    ] in
    let part : IsPart text s e = record { some = omega (arith, some); in_text = run.in_text } in
    let len = range_length text (s + 2) e run.after run.in_text in
    let next : s + 1 + 1 ≡ s + 2 = omega arith in
    let bytes : slice_range text s e ≡ codes "0x" ++ slice_range text (s + 2) e =
    range_cons text s e (omega (arith, some)) (omega (arith, hex.room))
    ∙ ap (λ (xs : List ℕ). get_or text s 0 ∷ xs) (range_cons text (s + 1) e (omega (arith, some)) (omega (arith, hex.room)))
    ∙ ap (λ (b : ℕ). b ∷ get_or text (s + 1) 0 ∷ slice_range text (s + 1 + 1) e) hex.zero_digit
    ∙ ap (λ (b : ℕ). 48 ∷ b ∷ slice_range text (s + 1 + 1) e) hex.letter
    ∙ ap (λ (k : ℕ). 48 ∷ 120 ∷ slice_range text k e) next in
    stands text Number s e part
    (inr (slice_range text (s + 2) e, bytes, (omega (arith, len, some), range_all is_hex_digit text (s + 2) e run.after run.in_text run.same)))
    (λ further beyond whole longer.
    elim (number_goes_on text s further whole longer) [
      | inl digits ↦ let x : is_digit 120 ≡ true = ap is_digit (sym hex.letter) ∙ digits (s + 1) (omega arith) (omega (arith, some)) in absurd cc
      | inr more ↦ both_ways _ (run.stops (omega (arith, whole.in_text))) (more.1 e run.after beyond)
    ])

pub line_stands : (text : List ℕ) (s : ℕ) → s < length text → get_or text s 0 ≡ 10 → StandsAt text (record { kind = Line; start = s; end = s + 1 })
line_stands text s in_text first =
    let bytes : slice_range text s (s + 1) ≡ 10 ∷ [] =
    range_cons text s (s + 1) (omega arith) in_text ∙ ap (λ (xs : List ℕ). get_or text s 0 ∷ xs) (range_nil text (s + 1)) ∙ ap (λ (b : ℕ). b ∷ []) first in
    stands text Line s (s + 1) (record { some = omega arith; in_text = omega arith }) bytes
    (λ further beyond whole longer. let short = (line_starts text s further whole longer).1 in absurd (omega arith))

pub single_stands : (text : List ℕ) (s : ℕ) → s < length text → is_single_sign (get_or text s 0) ≡ true → (IsDoubleSignAt text s → ⊥)
    → StandsAt text (record { kind = Sign; start = s; end = s + 1 })
single_stands text s in_text first no_double =
    let bytes : slice_range text s (s + 1) ≡ get_or text s 0 ∷ [] =
    range_cons text s (s + 1) (omega arith) in_text ∙ ap (λ (xs : List ℕ). get_or text s 0 ∷ xs) (range_nil text (s + 1)) in
    stands text Sign s (s + 1) (record { some = omega arith; in_text = omega arith })
    (subst (λ (xs : List ℕ). Contains signs xs) (sym bytes) (single_is_sign (get_or text s 0) first))
    (λ further beyond whole longer.
    elim (sign_goes_on text s further whole longer) [
      | inl one ↦ absurd (omega (arith, one.0))
      | inr two ↦ no_double (record { room = omega (arith, two.0, whole.in_text); bytes = two.1 })
    ])

pub double_stands : (text : List ℕ) (s : ℕ) → IsDoubleSignAt text s → StandsAt text (record { kind = Sign; start = s; end = s + 2 })
double_stands text s double =
    let in_text = double.room in
    let next : s + 1 + 1 ≡ s + 2 = omega arith in
    let bytes : slice_range text s (s + 2) ≡ get_or text s 0 ∷ get_or text (s + 1) 0 ∷ [] =
    range_cons text s (s + 2) (omega arith) (omega arith)
    ∙ ap (λ (xs : List ℕ). get_or text s 0 ∷ xs) (range_cons text (s + 1) (s + 2) (omega arith) in_text)
    ∙ ap (λ (k : ℕ). get_or text s 0 ∷ get_or text (s + 1) 0 ∷ slice_range text k (s + 2)) next
    ∙ ap (λ (xs : List ℕ). get_or text s 0 ∷ get_or text (s + 1) 0 ∷ xs) (range_nil text (s + 2)) in
    stands text Sign s (s + 2) (record { some = omega arith; in_text = omega arith })
    (subst (λ (xs : List ℕ). Contains signs xs) (sym bytes) (double_is_sign (get_or text s 0) (get_or text (s + 1) 0) double.bytes))
    (λ further beyond whole longer.
    elim (sign_goes_on text s further whole longer) [
      | inl one ↦ absurd (omega (arith, one.0))
      | inr two ↦ absurd (omega (arith, two.0))
    ])

pub no_sign : (text : List ℕ) (s : ℕ) → (is_single_sign (get_or text s 0) ≡ true → ⊥) → (IsDoubleSignAt text s → ⊥) → NoSign text s
no_sign text s no_single no_double e some in_text spelled =
    elim (sign_goes_on text s e (record { some = some; in_text = in_text }) spelled) [
      | inl one ↦ no_single one.1
      | inr two ↦ no_double (record { room = omega (arith, two.0); bytes = two.1 })
    ]

-- no token stands where no kind begins
pub none_stands : (text : List ℕ) (s : ℕ) → (is_name_start (get_or text s 0) ≡ true → ⊥) → (is_digit (get_or text s 0) ≡ true → ⊥) → (get_or text s 0 ≡ 10 → ⊥) → NoSign text s → NoneBeyond text s s
none_stands text s no_name no_digit no_line none Name e some in_text spelled = no_name (name_starts text s e (record { some = some; in_text = in_text }) spelled)
none_stands text s no_name no_digit no_line none Number e some in_text spelled = no_digit (number_starts text s e (record { some = some; in_text = in_text }) spelled)
none_stands text s no_name no_digit no_line none Line e some in_text spelled = no_line (line_starts text s e (record { some = some; in_text = in_text }) spelled).0
none_stands text s no_name no_digit no_line none Sign e some in_text spelled = none e some in_text spelled
none_stands text s no_name no_digit no_line none End e some in_text spelled = spelled
