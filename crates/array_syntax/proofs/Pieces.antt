-- The tokens of a text that is made of pieces.
use Rattle.std.proofs.Common.{◌≡◌, ◌≢◌, ◌⊎◌, inl, inr, ⊎_elim, ℕ, zero, suc, ◌+◌, ◌-◌, ◌*◌, ◌^◌, ◌%◌, ◌≤◌, ◌<◌, Bool, true, false, List, [], ◌∷◌, ◌++◌, length, get_or, take, drop, Option, Some, None, refl, sym, ap, subst, ◌∙◌, arith, append_assoc, append-nil, length-append}
use Rattle.std.specs.Prelude.{slice_range, ◌==◌, ◌||◌, ◌&&◌, nat_eq, nat_le, Ok, option_map, IsTrue, IsFalse, codes, decimal, if◌then◌else◌, ℤ, pos}
use Rattle.std.specs.List.{list_all}
use Rattle.std.proofs.Math.Nat.{pow-zero, pow-succ'}
use Rattle.std.proofs.Math.Seq.{take-append_seam, drop-append_seam}
use Rattle.std.proofs.lemmas.Bool.{both_ways, eqb-true, cases_lt}
use Rattle.std.proofs.lemmas.Fmt.{decimal_by_steps}
use Rattle.std.proofs.lemmas.List.{get_or-append-add, get_or_append_left}
use Rattle.ven_base.specs.Name.{is_digit, is_name_start, is_name_byte, IsNameToken}
use Rattle.ven_io.specs.declared.token.TokenKind.{TokenKind}
use Rattle.ven_io.specs.declared.token.TokenKind.TheVariants as token_kinds
use Rattle.ven_io.specs.declared.token.Token.{Token as TextToken}
use Rattle.ven_io.specs.Number.{digit_value, digits_value, is_hexadecimal, value_of, number_limit}
use Rattle.ven_io.specs.Runs.{IsRun, IsHexadecimalAt, IsDoubleSignAt}
use Rattle.ven_io.specs.Signs.{is_single_sign, is_double_sign}
use Rattle.ven_io.specs.Token.{is_blank, comment_sign, IsInComment, IsSkipped, IsStop, StandsAt, NextIs}
use Rattle.ven_io.specs.Tokens.{TokensTo, Here, Passed, Taken, IsTaken}
use Rattle.ven_io.proofs.Places.{list_all_to}
use Rattle.ven_io.proofs.Reached.{tokens_on}
use Rattle.ven_io.proofs.Spellings.{name_first, name_each}
use Rattle.ven_io.proofs.Standing.{name_stands, decimal_stands, single_stands, double_stands, line_stands}
use Rattle.array_syntax.specs.declared.word.Token.{Token}
use Rattle.array_syntax.specs.declared.word.Word.{Word}
use Rattle.array_syntax.specs.declared.word.Word.TheVariants as words
use Rattle.array_syntax.specs.Grammar.{token}
use Rattle.array_syntax.specs.Words.{word_of, language}

-- ---- bytes of a text by its pieces

byte_at : (front p rest : List ℕ) (k : ℕ) → get_or (front ++ (p ++ rest)) (length front + k) 0 ≡ get_or (p ++ rest) k 0
byte_at front p rest k = get_or-append-add front (p ++ rest) k 0

-- a byte of the piece
byte_in : (front p rest : List ℕ) (k : ℕ) → length front ≤ k → k < length front + length p → get_or (front ++ (p ++ rest)) k 0 ≡ get_or p (k - length front) 0
byte_in front p rest k le lt =
    let is : k ≡ length front + (k - length front) = omega arith in
    ap (λ n. get_or (front ++ (p ++ rest)) n 0) is ∙ byte_at front p rest (k - length front) ∙ get_or_append_left p rest 0 (k - length front) (omega arith)

-- the first byte of the piece
byte_first : (front p rest : List ℕ) → 0 < length p → get_or (front ++ (p ++ rest)) (length front) 0 ≡ get_or p 0 0
byte_first front p rest some =
    let none : length front - length front ≡ 0 = omega arith in
    byte_in front p rest (length front) (omega arith) (omega arith) ∙ ap (λ n. get_or p n 0) none

-- the byte behind the piece
byte_behind : (front p rest : List ℕ) → get_or (front ++ (p ++ rest)) (length front + length p) 0 ≡ get_or rest 0 0
byte_behind front p rest =
    let is : length p ≡ length p + 0 = omega arith in
    byte_at front p rest (length p) ∙ ap (λ n. get_or (p ++ rest) n 0) is ∙ get_or-append-add p rest 0 0

size : (front p rest : List ℕ) → length (front ++ (p ++ rest)) ≡ length front + length p + length rest
size front p rest = let a = length-append front (p ++ rest) in let b = length-append p rest in omega arith

piece : (front p rest : List ℕ) → slice_range (front ++ (p ++ rest)) (length front) (length front + length p) ≡ p
piece front p rest =
    let n : length front + length p - length front ≡ length p = omega arith in
    ap (λ (xs : List ℕ). take (length front + length p - length front) xs) (drop-append_seam front (p ++ rest)) ∙ ap (λ k. take k (p ++ rest)) n ∙ take-append_seam p rest

-- ---- what begins a token, and what ends it

-- the byte is no blank, and begins no comment
record IsLead (b : ℕ) : Type 0 where
  pub blank : is_blank b ≡ false
  pub comment : b ≢ comment_sign

unequal : (test : ℕ → Bool) (b n : ℕ) → test n ≡ false → test b ≡ true → (b == n) ≡ false
unequal test b n fails holds = by (b == n) refl
  where
    by : (t : Bool) → (b == n) ≡ t → t ≡ false
    by true e = absurd (both_ways (test n) fails (ap test (sym (eqb-true b n e)) ∙ holds))
    by false e = refl

none_of : (x y z : Bool) → x ≡ false → y ≡ false → z ≡ false → (x || y || z) ≡ false
none_of x y z p q r = rw (p, q, r) refl

-- a byte that passes a test which no blank passes
lead_by : (test : ℕ → Bool) (b : ℕ) → test 32 ≡ false → test 9 ≡ false → test 13 ≡ false → test comment_sign ≡ false → test b ≡ true → IsLead b
lead_by test b space tab return hash holds = record {
  blank = none_of (b == 32) (b == 9) (b == 13) (unequal test b 32 space holds) (unequal test b 9 tab holds) (unequal test b 13 return holds);
  comment = λ e. both_ways (test comment_sign) hash (ap test (sym e) ∙ holds);
}

not_skipped : (text : List ℕ) (s : ℕ) → IsLead (get_or text s 0) → ¬ IsSkipped text s s
not_skipped text s lead skipped = ⊎_elim (λ blank. both_ways (is_blank (get_or text s 0)) lead.blank blank) in_comment skipped.passed
  where
    in_comment : IsInComment text s s → ⊥
    in_comment c = let same : s ≡ c.hash = omega (arith, c.after, c.before) in lead.comment (ap (λ k. get_or text k 0) same ∙ c.sign)

-- what stands at a place is next there
next_here : (text : List ℕ) (raw : TextToken) → StandsAt text raw → IsLead (get_or text raw.start 0) → NextIs text raw.start (Ok raw)
next_here text raw stands lead = (
  record {
    after = omega arith;
    in_text = omega (arith, stands.some, stands.in_text);
    before = λ k le lt. absurd (omega arith);
    unskipped = λ lt. not_skipped text raw.start lead;
  },
  inr stands,
)

-- what stands behind a token ends it: no name, number or sign goes on with it
pub record Closes (b : ℕ) : Type 0 where
  pub no_name : is_name_byte b ≡ false
  pub no_less : (b == 60) ≡ false
  pub no_assign : (b == 61) ≡ false
  pub no_greater : (b == 62) ≡ false

abbrev pub IsClosed : List ℕ → Type 0
IsClosed [] = ⊥
IsClosed (b ∷ rest) = Closes b

abbrev pub Any : List ℕ → Type 0
Any rest = Unit {0}

closed_first : (rest : List ℕ) → IsClosed rest → Closes (get_or rest 0 0)
closed_first [] closed = absurd closed
closed_first (b ∷ rest) closed = closed

-- ---- the kinds of tokens

name_at : (front p rest : List ℕ) → IsNameToken p → IsClosed rest → StandsAt (front ++ (p ++ rest)) (record { kind = token_kinds.Name; start = length front; end = length front + length p })
name_at front [] rest name closed = absurd name
name_at front (b ∷ bs) rest name closed =
    let p = b ∷ bs in
    let text = front ++ (p ++ rest) in
    let all = size front p rest in
    let run : IsRun is_name_byte text (length front + 1) (length front + length p) = record {
      after = omega arith;
      in_text = omega arith;
      same = λ k le lt. ap is_name_byte (byte_in front p rest k (omega arith) lt) ∙ name_each p name (k - length front) (omega arith);
      stops = λ lt. ap is_name_byte (byte_behind front p rest) ∙ (closed_first rest closed).no_name;
    } in
    name_stands text (length front) (length front + length p) (omega arith) (ap is_name_start (byte_first front p rest (omega arith)) ∙ name_first p name) run

-- digits are no hexadecimal number
second_digit : (p : List ℕ) → list_all is_digit p ≡ true → 1 < length p → get_or p 1 0 ≡ 120 → ⊥
second_digit p digits long letter = let x : is_digit 120 ≡ true = ap is_digit (sym letter) ∙ list_all_to is_digit p digits 1 long in cc

number_at : (front p rest : List ℕ) → 0 < length p → list_all is_digit p ≡ true → IsClosed rest → StandsAt (front ++ (p ++ rest)) (record { kind = token_kinds.Number; start = length front; end = length front + length p })
number_at front p rest some digits closed =
    let text = front ++ (p ++ rest) in
    let all = size front p rest in
    let run : IsRun is_digit text (length front) (length front + length p) = record {
      after = omega arith;
      in_text = omega arith;
      same = λ k le lt. ap is_digit (byte_in front p rest k le lt) ∙ list_all_to is_digit p digits (k - length front) (omega arith);
      stops = λ lt. ap is_digit (byte_behind front p rest) ∙ no_digit (get_or rest 0 0) (closed_first rest closed).no_name;
    } in
    decimal_stands text (length front) (length front + length p) (omega arith) (ap is_digit (byte_first front p rest some) ∙ list_all_to is_digit p digits 0 some) no_hex run
  where
    no_digit : (b : ℕ) → is_name_byte b ≡ false → is_digit b ≡ false
    no_digit b none = right_of (is_name_start b) (is_digit b) none
      where
        right_of : (x y : Bool) → (x || y) ≡ false → y ≡ false
        right_of true y e = absurd (cc)
        right_of false y e = e

    no_hex : IsHexadecimalAt (front ++ (p ++ rest)) (length front) → ⊥
    no_hex h = ⊎_elim
        (λ (long : 1 < length p).
        let place : length front + 1 - length front ≡ 1 = omega arith in
        second_digit p digits long (sym (ap (λ n. get_or p n 0) place) ∙ sym (byte_in front p rest (length front + 1) (omega arith) (omega arith)) ∙ h.letter))
        (λ (short : length p ≤ 1).
        let place : length front + 1 ≡ length front + length p = omega arith in
        let behind : get_or rest 0 0 ≡ 120 = sym (byte_behind front p rest) ∙ sym (ap (λ n. get_or (front ++ (p ++ rest)) n 0) place) ∙ h.letter in
        let x : is_name_byte 120 ≡ false = sym (ap is_name_byte behind) ∙ (closed_first rest closed).no_name in cc)
        (cases_lt 1 (length p))

and_false : (x : Bool) → (x && false) ≡ false
and_false true = refl
and_false false = refl

-- no sign of two bytes begins with the byte, or ends with one that closes
sealed_byte : (x u y v z w : Bool) → x ≡ false → y ≡ false → w ≡ false → ((x && u) || (y && v) || (z && w)) ≡ false
sealed_byte x u y v z w p q r = rw (p, q, r) (and_false z)

closing_byte : (x u y v z w : Bool) → u ≡ false → v ≡ false → z ≡ false → ((x && u) || (y && v) || (z && w)) ≡ false
closing_byte x u y v z w p q r = rw (p, q, r, and_false x, and_false y) refl

closed_double : (b c : ℕ) → Closes c → is_double_sign b c ≡ false
closed_double b c closes = closing_byte (b == 60) (c == 60) (b == 62) (c == 62) (c == 61) (b == 61 || b == 33 || b == 60 || b == 62) closes.no_less closes.no_greater closes.no_assign

-- the byte begins no sign of two
pub record IsSealed (b : ℕ) : Type 0 where
  pub no_less : (b == 60) ≡ false
  pub no_greater : (b == 62) ≡ false
  pub none : (b == 61 || b == 33 || b == 60 || b == 62) ≡ false

sealed_double : (b c : ℕ) → IsSealed b → is_double_sign b c ≡ false
sealed_double b c sealed = sealed_byte (b == 60) (c == 60) (b == 62) (c == 62) (c == 61) (b == 61 || b == 33 || b == 60 || b == 62) sealed.no_less sealed.no_greater sealed.none

single_at : (front rest : List ℕ) (b : ℕ) → is_single_sign b ≡ true → is_double_sign b (get_or rest 0 0) ≡ false → StandsAt (front ++ (b ∷ [] ++ rest)) (record { kind = token_kinds.Sign; start = length front; end = length front + 1 })
single_at front rest b single no_double =
    let text = front ++ (b ∷ [] ++ rest) in
    let all = size front (b ∷ []) rest in
    let first = byte_first front (b ∷ []) rest (omega arith) in
    single_stands text (length front) (omega arith) (ap is_single_sign first ∙ single)
    (λ h. both_ways (is_double_sign b (get_or rest 0 0)) no_double
    (sym (ap (λ x. is_double_sign x (get_or rest 0 0)) first) ∙ sym (ap (is_double_sign (get_or text (length front) 0)) (byte_behind front (b ∷ []) rest)) ∙ h.bytes))

double_at : (front rest : List ℕ) (b c : ℕ) → is_double_sign b c ≡ true → StandsAt (front ++ (b ∷ c ∷ [] ++ rest)) (record { kind = token_kinds.Sign; start = length front; end = length front + 2 })
double_at front rest b c double =
    let p = b ∷ c ∷ [] in
    let text = front ++ (p ++ rest) in
    let all = size front p rest in
    let place : length front + 1 - length front ≡ 1 = omega arith in
    let first = byte_first front p rest (omega arith) in
    let second : get_or text (length front + 1) 0 ≡ c = byte_in front p rest (length front + 1) (omega arith) (omega arith) ∙ ap (λ n. get_or p n 0) place in
    double_stands text (length front) (record { room = omega arith; bytes = ap (λ x. is_double_sign x (get_or text (length front + 1) 0)) first ∙ ap (is_double_sign b) second ∙ double })

-- ---- pieces that are read

-- wherever the piece stands, its bytes are read as some tokens
abbrev pub Reads : (List ℕ → Type 0) → List ℕ → (List Token → Type 0) → Type 0
Reads ends p are = (front rest : List ℕ) → ends rest → (ts : List Token) × are ts × TokensTo language (front ++ (p ++ rest)) (length front) ts (length front + length p)

-- as one token of the word
abbrev pub IsOne : Word → List Token → Type 0
IsOne word ts = (at : ℕ) × (ts ≡ token at word ∷ [])

one_token : (kind : TokenKind) (front p rest : List ℕ) (word : Word) → StandsAt (front ++ (p ++ rest)) (record { kind = kind; start = length front; end = length front + length p }) → IsLead (get_or (front ++ (p ++ rest)) (length front) 0) → kind ≢ token_kinds.End → language.passes kind ≡ false → word_of kind p ≡ Some word → TokensTo language (front ++ (p ++ rest)) (length front) (token (length front) word ∷ []) (length front + length p)
one_token kind front p rest word stands lead some kept is =
    let text = front ++ (p ++ rest) in
    let raw : TextToken = record { kind = kind; start = length front; end = length front + length p } in
    let own : IsTaken language text (length front) raw (token (length front) word) = record {
      next = next_here text raw stands lead;
      some = some;
      kept = kept;
      is = ap (λ bytes. option_map (λ w. token (length front) w) (word_of kind bytes)) (piece front p rest) ∙ ap (option_map (λ w. token (length front) w)) is;
    } in
    Taken (length front) raw.end raw (token (length front) word) [] own (Here raw.end)

pub name_reads : (p : List ℕ) (word : Word) → IsNameToken p → word_of token_kinds.Name p ≡ Some word → Reads IsClosed p (IsOne word)
name_reads p word name is front rest closed = (
  token (length front) word ∷ [],
  (length front, refl),
  one_token token_kinds.Name front p rest word (name_at front p rest name closed)
      (subst IsLead (sym (byte_first front p rest (some_bytes p name))) (lead_by is_name_start (get_or p 0 0) refl refl refl refl (name_first p name))) (λ e. cc) refl is,
)
  where
    some_bytes : (xs : List ℕ) → IsNameToken xs → 0 < length xs
    some_bytes [] name = absurd name
    some_bytes (x ∷ xs) name = omega arith

single_reads : (ends : List ℕ → Type 0) (b : ℕ) (word : Word) → ((rest : List ℕ) → ends rest → is_double_sign b (get_or rest 0 0) ≡ false) → is_single_sign b ≡ true → word_of token_kinds.Sign (b ∷ []) ≡ Some word → Reads ends (b ∷ []) (IsOne word)
single_reads ends b word no_double single is front rest closed = (
  token (length front) word ∷ [],
  (length front, refl),
  one_token token_kinds.Sign front (b ∷ []) rest word (single_at front rest b single (no_double rest closed))
      (subst IsLead (sym (byte_first front (b ∷ []) rest (omega arith))) (lead_by is_single_sign b refl refl refl refl single)) (λ e. cc) refl is,
)

-- a sign of one byte that begins none of two is read whatever stands behind it
pub sealed_reads : (b : ℕ) (word : Word) → IsSealed b → is_single_sign b ≡ true → word_of token_kinds.Sign (b ∷ []) ≡ Some word → Reads Any (b ∷ []) (IsOne word)
sealed_reads b word sealed single is = single_reads Any b word (λ rest any. sealed_double b (get_or rest 0 0) sealed) single is

-- any other is where what stands behind closes it
pub sign_reads : (b : ℕ) (word : Word) → is_single_sign b ≡ true → word_of token_kinds.Sign (b ∷ []) ≡ Some word → Reads IsClosed (b ∷ []) (IsOne word)
sign_reads b word single is = single_reads IsClosed b word (λ rest closed. closed_double b (get_or rest 0 0) (closed_first rest closed)) single is

pub double_reads : (b c : ℕ) (word : Word) → is_double_sign b c ≡ true → is_blank b ≡ false → b ≢ comment_sign → word_of token_kinds.Sign (b ∷ c ∷ []) ≡ Some word → Reads IsClosed (b ∷ c ∷ []) (IsOne word)
double_reads b c word double blank comment is front rest closed = (
  token (length front) word ∷ [],
  (length front, refl),
  one_token token_kinds.Sign front (b ∷ c ∷ []) rest word (double_at front rest b c double)
      (subst IsLead (sym (byte_first front (b ∷ c ∷ []) rest (omega arith))) (record { blank = blank; comment = comment })) (λ e. cc) refl is,
)

-- ---- numbers

digits_push : (xs : List ℕ) (d : ℕ) → digits_value 10 (xs ++ d ∷ []) ≡ digits_value 10 xs * 10 + digit_value d
digits_push [] d = rw pow-zero (omega arith)
digits_push (x ∷ xs) d =
    let len : length (xs ++ d ∷ []) ≡ suc (length xs) = omega (arith, length-append xs (d ∷ [])) in
    rw (len, pow-succ' 10 (length xs), digits_push xs d) (regroup (digit_value x) (10 ^ length xs) (digits_value 10 xs) (digit_value d))
  where
    regroup : (a p v d : ℕ) → a * (10 * p) + (v * 10 + d) ≡ (a * p + v) * 10 + d
    regroup a p v d = omega arith

-- the digits of a number, and their value
record AreDigits (n : ℕ) (ds : List ℕ) : Type 0 where
  pub some : 0 < length ds
  pub digits : list_all is_digit ds ≡ true
  pub value : digits_value 10 ds ≡ n

all_more : (xs : List ℕ) (d : ℕ) → list_all is_digit xs ≡ true → is_digit d ≡ true → list_all is_digit (xs ++ d ∷ []) ≡ true
all_more [] d all digit = rw digit refl
all_more (x ∷ xs) d all digit = both (is_digit x) (list_all is_digit xs) (list_all is_digit (xs ++ d ∷ [])) all (λ a. all_more xs d a digit)
  where
    both : (a b c : Bool) → (a && b) ≡ true → (b ≡ true → c ≡ true) → (a && c) ≡ true
    both true b c e more = more e
    both false b c e more = absurd (cc)

is_digit_plus : (m : ℕ) → m < 10 → is_digit (48 + m) ≡ true
is_digit_plus m lt = grind arith

digit_value_plus : (m : ℕ) → m < 10 → digit_value (48 + m) ≡ m
digit_value_plus m lt = by (is_small m lt)
  where
    is_small : (m : ℕ) → m < 10 → nat_le (48 + m) 57 ≡ true
    is_small m lt = grind arith

    by : nat_le (48 + m) 57 ≡ true → digit_value (48 + m) ≡ m
    by e = rw e (omega arith)

decimal_digits : (n : ℕ) → n < 2 ^ 64 → AreDigits n (decimal n)
decimal_digits n small = decimal_by_steps AreDigits
    (λ m lt. record { some = omega arith; digits = all_more [] (48 + m) refl (is_digit_plus m lt); value = digits_push [] (48 + m) ∙ omega (arith, digit_value_plus m lt) })
    (λ m ds le d. let last : m % 10 < 10 = omega arith in record {
      some = omega (arith, length-append ds ((48 + m % 10) ∷ []));
      digits = all_more ds (48 + m % 10) d.digits (is_digit_plus (m % 10) last);
      value = digits_push ds (48 + m % 10) ∙ omega (arith, d.value, digit_value_plus (m % 10) last);
    }) n small

not_letter : (y : ℕ) → is_digit y ≡ true → nat_eq 120 y ≡ false
not_letter y digit = by (nat_eq 120 y) refl
  where
    by : (t : Bool) → nat_eq 120 y ≡ t → t ≡ false
    by true e = let x : is_digit 120 ≡ true = ap is_digit (eqb-true 120 y e) ∙ digit in absurd (cc)
    by false e = refl

not_hex : (p : List ℕ) → list_all is_digit p ≡ true → is_hexadecimal p ≡ false
not_hex [] digits = refl
not_hex (x ∷ []) digits = and_false (nat_eq 48 x)
not_hex (x ∷ y ∷ p) digits = rw (not_letter y (list_all_to is_digit (x ∷ y ∷ p) digits 1 (omega arith))) (and_false (nat_eq 48 x))

-- the value of digits, as a number's text
plain_value : (p : List ℕ) → list_all is_digit p ≡ true → value_of p ≡ digits_value 10 p
plain_value p digits = by (is_hexadecimal p) (not_hex p digits)
  where
    by : (h : Bool) → h ≡ false → digits_value (if h then 16 else 10) (drop (if h then 2 else 0) p) ≡ digits_value 10 p
    by true e = absurd (cc)
    by false e = refl

number_word : (p : List ℕ) (n : ℕ) → value_of p ≡ n → n ≤ number_limit → word_of token_kinds.Number p ≡ Some (words.Number n)
number_word p n is le = ap (λ m. if nat_le m number_limit then Some (words.Number m) else None) is ∙ by (nat_le n number_limit) (within n le)
  where
    within : (n : ℕ) → n ≤ number_limit → nat_le n number_limit ≡ true
    within n le = grind arith

    by : (b : Bool) → b ≡ true → (if b then Some (words.Number n) else None) ≡ Some (words.Number n)
    by true e = refl
    by false e = absurd (cc)

pub number_reads : (n : ℕ) → n ≤ number_limit → Reads IsClosed (decimal n) (IsOne (words.Number n))
number_reads n le front rest closed =
    let d = decimal_digits n (omega arith) in (
      token (length front) (words.Number n) ∷ [],
      (length front, refl),
      one_token token_kinds.Number front (decimal n) rest (words.Number n) (number_at front (decimal n) rest d.some d.digits closed)
          (subst IsLead (sym (byte_first front (decimal n) rest d.some)) (lead_by is_digit (get_or (decimal n) 0 0) refl refl refl refl (list_all_to is_digit (decimal n) d.digits 0 d.some)))
          (λ e. cc) refl (number_word (decimal n) n (plain_value (decimal n) d.digits ∙ d.value) le),
    )

-- ---- pieces one behind another

moved : (text other : List ℕ) (from start to end : ℕ) (ts : List Token) → text ≡ other → from ≡ start → to ≡ end → TokensTo language text from ts to → TokensTo language other start ts end
moved text other from start to end ts p q r h = subst (λ e. TokensTo language other start ts e) r (subst (λ s. TokensTo language other s ts to) q (subst (λ t. TokensTo language t from ts to) p h))

-- a piece and what is read behind it
pub bind : (ends : List ℕ → Type 0) (later : List ℕ → Type 0) (p q : List ℕ) (one all : List Token → Type 0) → Reads ends p one → ((rest : List ℕ) → later rest → ends (q ++ rest)) → ((ts : List Token) → one ts → Reads later q (λ more. all (ts ++ more))) → Reads later (p ++ q) all
bind ends later p q one all reads goes_on behind front rest at_end =
    let (ts, is, h) = reads front (q ++ rest) (goes_on rest at_end) in
    let (more, are, g) = behind ts is (front ++ p) rest at_end in
    let text = front ++ ((p ++ q) ++ rest) in
    let sum = length-append p q in
    let start = length-append front p in
    let first : TokensTo language text (length front) ts (length front + length p) = moved (front ++ (p ++ (q ++ rest))) text (length front) (length front) (length front + length p) (length front + length p) ts (ap (λ x. front ++ x) (sym (append_assoc p q rest))) refl refl h in
    let second : TokensTo language text (length front + length p) more (length front + length (p ++ q)) = moved ((front ++ p) ++ (q ++ rest)) text (length (front ++ p)) (length front + length p) (length (front ++ p) + length q) (length front + length (p ++ q)) more (append_assoc front p (q ++ rest) ∙ ap (λ x. front ++ x) (sym (append_assoc p q rest))) start (omega arith) g in
    (ts ++ more, are, tokens_on language text (length front) (length front + length p) (length front + length (p ++ q)) ts more first second)

-- the same behind one token
pub word_then : (ends : List ℕ → Type 0) (later : List ℕ → Type 0) (p q : List ℕ) (word : Word) (all : List Token → Type 0) → Reads ends p (IsOne word) → ((rest : List ℕ) → later rest → ends (q ++ rest)) → ((at : ℕ) → Reads later q (λ more. all (token at word ∷ more))) → Reads later (p ++ q) all
word_then ends later p q word all reads goes_on behind =
    bind ends later p q (IsOne word) all reads goes_on (λ ts one. subst (λ xs. Reads later q (λ more. all (xs ++ more))) (sym one.1) (behind one.0))

-- no bytes are no tokens
pub nothing_reads : (ends : List ℕ → Type 0) (all : List Token → Type 0) → all [] → Reads ends [] all
nothing_reads ends all is front rest at_end =
    let same : length front ≡ length front + 0 = omega arith in
    ([], is, subst (λ to. TokensTo language (front ++ ([] ++ rest)) (length front) [] to) same (Here (length front)))

-- what is read, seen as something else
pub seen_as : (ends : List ℕ → Type 0) (p : List ℕ) (one other : List Token → Type 0) → Reads ends p one → ((ts : List Token) → one ts → other ts) → Reads ends p other
seen_as ends p one other reads so front rest at_end = let (ts, is, h) = reads front rest at_end in (ts, so ts is, h)

pub last : (ends : List ℕ → Type 0) (p : List ℕ) (word : Word) (all : List Token → Type 0) → Reads ends p (IsOne word) → ((at : ℕ) → all (token at word ∷ [])) → Reads ends p all
last ends p word all reads so = seen_as ends p (IsOne word) all reads (λ ts one. subst all (sym one.1) (so one.0))

-- ---- blanks and line ends

other_byte : (b : ℕ) → b ≡ 32 → b ≡ comment_sign → ⊥
other_byte b blank hash = absurd (omega arith)

later_stop : (text : List ℕ) (from place : ℕ) → get_or text from 0 ≡ 32 → IsStop text (from + 1) place → IsStop text from place
later_stop text from place blank stop = record {
  after = omega (arith, stop.after);
  in_text = stop.in_text;
  before = λ k le lt. ⊎_elim (λ (ge : from < k). earlier k (stop.before k (omega arith) lt)) (λ (ge : k ≤ from). let same : k ≡ from = omega arith in subst (IsSkipped text from) (sym same) here) (cases_lt from k);
  unskipped = λ lt skipped. stop.unskipped lt (ascii_and skipped.ascii (⊎_elim (λ b. inl b) (λ c. inr (later c)) skipped.passed));
}
  where
    here : IsSkipped text from from
    here = record { ascii = omega (arith, blank); passed = inl (ap is_blank blank) }

    wider : (k : ℕ) → IsInComment text (from + 1) k → IsInComment text from k
    wider k c = record { hash = c.hash; after = omega (arith, c.after); before = c.before; sign = c.sign; unended = c.unended }

    earlier : (k : ℕ) → IsSkipped text (from + 1) k → IsSkipped text from k
    earlier k s = record { ascii = s.ascii; passed = ⊎_elim (λ b. inl b) (λ c. inr (wider k c)) s.passed }

    not_here : (hash : ℕ) → get_or text hash 0 ≡ comment_sign → from ≢ hash
    not_here hash sign e = other_byte (get_or text hash 0) (sym (ap (λ k. get_or text k 0) e) ∙ blank) sign

    later : IsInComment text from place → IsInComment text (from + 1) place
    later c = let other : from ≢ c.hash = not_here c.hash c.sign in record { hash = c.hash; after = omega (arith, c.after, other); before = c.before; sign = c.sign; unended = c.unended }

    ascii_and : get_or text place 0 < 128 → (is_blank (get_or text place 0) ≡ true) ⊎ IsInComment text (from + 1) place → IsSkipped text (from + 1) place
    ascii_and low passed = record { ascii = low; passed = passed }

later_tokens : (text : List ℕ) (from to : ℕ) (t : Token) (ts : List Token) → get_or text from 0 ≡ 32 → TokensTo language text (from + 1) (t ∷ ts) to → TokensTo language text from (t ∷ ts) to
later_tokens text from to t ts blank (Passed place last raw more next passes h) = Passed from to raw (t ∷ ts) (later_stop text from raw.start blank next.0, next.1) passes h
later_tokens text from to t ts blank (Taken place last raw own more taken h) =
    Taken from to raw t ts (record { next = (later_stop text from raw.start blank taken.next.0, taken.next.1); some = taken.some; kept = taken.kept; is = taken.is }) h

-- some tokens, and nothing else
abbrev pub AreSome : (List Token → Type 0) → List Token → Type 0
AreSome are ts = (first : Token) × (more : List Token) × (ts ≡ first ∷ more) × are ts

-- a blank before a piece changes nothing
pub blank : (ends : List ℕ → Type 0) (p : List ℕ) (are : List Token → Type 0) → Reads ends p (AreSome are) → Reads ends (32 ∷ p) are
blank ends p are reads front rest at_end =
    let (ts, some, h) = reads (front ++ 32 ∷ []) rest at_end in
    let (first, more, all, is) = some in
    let text = front ++ ((32 ∷ p) ++ rest) in
    let start = length-append front (32 ∷ []) in
    let here : get_or text (length front) 0 ≡ 32 = byte_first front (32 ∷ []) (p ++ rest) (omega arith) in
    let there : TokensTo language text (length front + 1) ts (length front + length (32 ∷ p)) = moved ((front ++ 32 ∷ []) ++ (p ++ rest)) text (length (front ++ 32 ∷ [])) (length front + 1) (length (front ++ 32 ∷ []) + length p) (length front + length (32 ∷ p)) ts (append_assoc front (32 ∷ []) (p ++ rest)) start (omega arith) h in
    (ts, is, subst (λ xs. TokensTo language text (length front) xs (length front + length (32 ∷ p))) (sym all) (later_tokens text (length front) (length front + length (32 ∷ p)) first more here (subst (λ xs. TokensTo language text (length front + 1) xs (length front + length (32 ∷ p))) all there)))

-- before one token too
pub blank_word : (ends : List ℕ → Type 0) (p : List ℕ) (word : Word) → Reads ends p (IsOne word) → Reads ends (32 ∷ p) (IsOne word)
blank_word ends p word reads = blank ends p (IsOne word) (seen_as ends p (IsOne word) (AreSome (IsOne word)) reads (λ ts one. (token one.0 word, [], one.1, one)))

-- a line end is no token
pub line_reads : Reads Any (10 ∷ []) (λ ts. ts ≡ [])
line_reads front rest any =
    let text = front ++ (10 ∷ [] ++ rest) in
    let raw : TextToken = record { kind = token_kinds.Line; start = length front; end = length front + 1 } in
    let all = size front (10 ∷ []) rest in
    let first : get_or text (length front) 0 ≡ 10 = byte_first front (10 ∷ []) rest (omega arith) in
    let lead : IsLead (get_or text (length front) 0) = subst IsLead (sym first) (record { blank = refl; comment = λ e. absurd (omega arith) }) in
    ([], refl, Passed (length front) (length front + 1) raw [] (next_here text raw (line_stands text (length front) (omega arith) first) lead) refl (Here (length front + 1)))
