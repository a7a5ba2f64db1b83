-- Words are read as they are spelled.
use Rattle.std.proofs.Common.{◌≡◌, ◌≢◌, ◌⊎◌, inl, inr, ℕ, zero, suc, ◌+◌, ◌-◌, ◌*◌, ◌^◌, ◌%◌, ◌<◌, ◌≤◌, min, Bool, true, false, ◌||◌, ◌&&◌, IsTrue, List, [], ◌∷◌, ◌++◌, length, get_or, take, drop, Some, None, Result, Ok, Err, refl, sym, ap, subst, ◌∙◌, arith, append_assoc, length-append}
use Rattle.std.specs.Prelude.{slice_range, decimal, nat_le, if◌then◌else◌, ◌==◌}
use Rattle.std.specs.List.{list_all}
use Rattle.std.proofs.Math.Nat.{pow-zero, pow-succ'}
use Rattle.std.proofs.lemmas.Bool.{both_ways, cases_lt, and_left, and_right, and_parts, and_from, ne_eqb}
use Rattle.std.proofs.lemmas.Bool.Decides.{nat_tests}
use Rattle.std.proofs.lemmas.Fmt.{decimal_by_steps}
use Rattle.std.proofs.lemmas.List.{get_or-append-add, get_or_append_left, take_at, drop_at}
use Rattle.ven_base.specs.Name.{is_digit, is_name_start, is_name_byte, IsNameToken, name_limit}
use Rattle.ven_io.specs.declared.token.Token.{Token}
use Rattle.ven_io.specs.declared.token.TokenFault.{TokenFault}
use Rattle.ven_io.specs.declared.token.TokenFault.TheVariants.{NotAscii, Unexpected}
use Rattle.ven_io.specs.declared.token.TokenKind.{TokenKind}
use Rattle.ven_io.specs.declared.token.TokenKind.TheVariants as kinds
use Rattle.ven_io.specs.Number.{digit_value, digits_value, is_hexadecimal, value_of, number_limit}
use Rattle.ven_io.specs.Runs.{IsRun, IsHexadecimalAt, IsDoubleSignAt}
use Rattle.ven_io.specs.Signs.{is_single_sign, is_double_sign}
use Rattle.ven_io.specs.Token.{is_blank, line_end, comment_sign, IsInComment, IsSkipped, IsStop, StandsAt, NextIs}
use Rattle.ven_io.specs.Tokens.{IsTaken, TokensTo, Here, Passed, Taken}
use Rattle.ven_io.proofs.Places.{list_all_to}
use Rattle.ven_io.proofs.Reached.{tokens_on}
use Rattle.ven_io.proofs.Standing.{name_stands, decimal_stands, single_stands, line_stands}
use Rattle.venice_asm.specs.declared.word.Word.{Word}
use Rattle.venice_asm.specs.declared.word.Word.TheVariants as words
use Rattle.venice_asm.specs.Canonical.{word_text}
use Rattle.venice_asm.specs.Label.{IsLabel}
use Rattle.venice_asm.specs.Words.{name_word, too_large, word_of, language}

-- ---- what stands next

at_next : (text : List ℕ) (p e : ℕ) (kind : TokenKind) → StandsAt text (record { kind = kind; start = p; end = e }) → is_blank (get_or text p 0) ≡ false → get_or text p 0 ≢ comment_sign → NextIs text p (Ok (record { kind = kind; start = p; end = e }))
at_next text p e kind stands no_blank no_comment = (
  record {
    after = omega arith;
    in_text = omega (arith, stands.some, stands.in_text);
    before = λ k le lt. absurd (omega arith);
    unskipped = λ lt skipped. unskipped skipped.passed;
  },
  inr stands,
)
  where
    unskipped : IsTrue (is_blank (get_or text p 0)) ⊎ IsInComment text p p → ⊥
    unskipped (inl blank) = both_ways _ no_blank blank
    unskipped (inr c) = let here : c.hash ≡ p = omega (arith, c.after, c.before) in no_comment (ap (λ k. get_or text k 0) (sym here) ∙ c.sign)

further : (text : List ℕ) (p k : ℕ) → IsSkipped text (p + 1) k → IsSkipped text p k
further text p k h = record { ascii = h.ascii; passed = by h.passed }
  where
    by : IsTrue (is_blank (get_or text k 0)) ⊎ IsInComment text (p + 1) k → IsTrue (is_blank (get_or text k 0)) ⊎ IsInComment text p k
    by (inl blank) = inl blank
    by (inr c) = inr (record { hash = c.hash; after = omega (arith, c.after); before = c.before; sign = c.sign; unended = c.unended })

nearer : (text : List ℕ) (p k : ℕ) → get_or text p 0 ≡ 32 → IsSkipped text p k → IsSkipped text (p + 1) k
nearer text p k blank h = record { ascii = h.ascii; passed = by h.passed }
  where
    behind : (hash : ℕ) → p ≤ hash → get_or text hash 0 ≡ comment_sign → (p < hash) ⊎ (hash ≤ p) → p + 1 ≤ hash
    behind hash le sign (inl lt) = omega arith
    behind hash le sign (inr ge) =
        let same : hash ≡ p = omega arith in
        let wrong : get_or text p 0 ≡ comment_sign = ap (λ (j : ℕ). get_or text j 0) (sym same) ∙ sign in
        absurd (omega (arith, blank, wrong))

    by : IsTrue (is_blank (get_or text k 0)) ⊎ IsInComment text p k → IsTrue (is_blank (get_or text k 0)) ⊎ IsInComment text (p + 1) k
    by (inl is) = inl is
    by (inr c) = inr (record { hash = c.hash; after = behind c.hash c.after c.sign (cases_lt p c.hash); before = c.before; sign = c.sign; unended = c.unended })

stop_back : (text : List ℕ) (p q : ℕ) → get_or text p 0 ≡ 32 → IsStop text (p + 1) q → IsStop text p q
stop_back text p q blank h = record {
  after = omega (arith, h.after);
  in_text = h.in_text;
  before = λ k le lt. before k le lt (cases_lt p k);
  unskipped = λ lt skipped. h.unskipped lt (nearer text p q blank skipped);
}
  where
    before : (k : ℕ) → p ≤ k → k < q → (p < k) ⊎ (k ≤ p) → IsSkipped text p k
    before k le lt (inl later) = further text p k (h.before k (omega arith) lt)
    before k le lt (inr here) =
        let same : p ≡ k = omega arith in
        let byte : get_or text k 0 ≡ 32 = ap (λ j. get_or text j 0) (sym same) ∙ blank in
        record { ascii = omega (arith, byte); passed = inl (ap is_blank byte) }

skip_blank : (text : List ℕ) (p : ℕ) (next : Result Token TokenFault) → get_or text p 0 ≡ 32 → NextIs text (p + 1) next → NextIs text p next
skip_blank text p (Ok token) blank h = (stop_back text p token.start blank h.0, h.1)
skip_blank text p (Err (NotAscii at)) blank h = (stop_back text p at blank h.0, h.1, h.2)
skip_blank text p (Err (Unexpected at)) blank h = (stop_back text p at blank h.0, h.1, h.2, h.3)

skip_tokens : (text : List ℕ) (p from to : ℕ) (tokens : List Word) → from ≡ p + 1 → get_or text p 0 ≡ 32 → 0 < length tokens → TokensTo language text from tokens to → TokensTo language text p tokens to
skip_tokens text p _ _ _ is blank some (Here place) = absurd (omega arith)
skip_tokens text p from to tokens is blank some (Passed place last token rest next passed h) =
    Passed p to token tokens (skip_blank text p (Ok token) blank (subst (λ f. NextIs text f (Ok token)) is next)) passed h
skip_tokens text p from to _ is blank some (Taken place last token own rest taken h) =
    Taken p to token own rest (record { next = skip_blank text p (Ok token) blank (subst (λ f. NextIs text f (Ok token)) is taken.next); some = taken.some; kept = taken.kept; is = taken.is }) h

-- ---- a piece of a text

-- wherever the piece stands, with something behind it, it is read as these words
abbrev pub Reads : (List ℕ → Type 0) → List ℕ → List Word → Type 0
Reads P piece tokens = (pre post : List ℕ) → P post → TokensTo language (pre ++ (piece ++ post)) (length pre) tokens (length pre + length piece)

-- anything may stand behind it, or nothing with which a name or a number goes on
abbrev pub Any : List ℕ → Type 0
Any post = Unit {0}

abbrev pub Ends : List ℕ → Type 0
Ends post = 0 < length post → is_name_byte (get_or post 0 0) ≡ false

moved : (text there : List ℕ) (from start to end : ℕ) (tokens : List Word) → text ≡ there → from ≡ start → to ≡ end → TokensTo language text from tokens to → TokensTo language there start tokens end
moved text there from start to end tokens t f e h =
    subst (λ x. TokensTo language there start tokens x) e (subst (λ x. TokensTo language there x tokens to) f (subst (λ x. TokensTo language x from tokens to) t h))

pub join : (P Q : List ℕ → Type 0) (a b : List ℕ) (ts us : List Word) → Reads P a ts → Reads Q b us → ((post : List ℕ) → Q post → P (b ++ post)) → Reads Q (a ++ b) (ts ++ us)
join P Q a b ts us ra rb follows pre post q =
    let text = pre ++ ((a ++ b) ++ post) in
    let one : pre ++ (a ++ (b ++ post)) ≡ text = ap (λ t. pre ++ t) (sym (append_assoc a b post)) in
    let two : (pre ++ a) ++ (b ++ post) ≡ text = append_assoc pre a (b ++ post) ∙ one in
    let mid : length (pre ++ a) ≡ length pre + length a = length-append pre a in
    let end : length (pre ++ a) + length b ≡ length pre + length (a ++ b) = omega (arith, mid, length-append a b) in
    tokens_on language text (length pre) (length pre + length a) (length pre + length (a ++ b)) ts us
    (moved (pre ++ (a ++ (b ++ post))) text (length pre) (length pre) (length pre + length a) (length pre + length a) ts one refl refl (ra pre (b ++ post) (follows post q)))
    (moved ((pre ++ a) ++ (b ++ post)) text (length (pre ++ a)) (length pre + length a) (length (pre ++ a) + length b) (length pre + length (a ++ b)) us two mid end (rb (pre ++ a) post q))

first_byte : (pre rest : List ℕ) (b : ℕ) → get_or (pre ++ b ∷ rest) (length pre) 0 ≡ b
first_byte pre rest b = let here : length pre ≡ length pre + 0 = omega arith in ap (λ k. get_or (pre ++ b ∷ rest) k 0) here ∙ get_or-append-add pre (b ∷ rest) 0 0

-- a blank before a piece
pub blank : (P : List ℕ → Type 0) (piece : List ℕ) (tokens : List Word) → 0 < length tokens → Reads P piece tokens → Reads P (32 ∷ piece) tokens
blank P piece tokens some r pre post p =
    let text = pre ++ (32 ∷ piece ++ post) in
    let same : (pre ++ 32 ∷ []) ++ (piece ++ post) ≡ text = append_assoc pre (32 ∷ []) (piece ++ post) in
    let mid : length (pre ++ 32 ∷ []) ≡ length pre + 1 = length-append pre (32 ∷ []) in
    let end : length (pre ++ 32 ∷ []) + length piece ≡ length pre + length (32 ∷ piece) = omega (arith, mid) in
    skip_tokens text (length pre) (length pre + 1) (length pre + length (32 ∷ piece)) tokens refl (first_byte pre (piece ++ post) 32) some
    (moved ((pre ++ 32 ∷ []) ++ (piece ++ post)) text (length (pre ++ 32 ∷ [])) (length pre + 1) (length (pre ++ 32 ∷ []) + length piece) (length pre + length (32 ∷ piece)) tokens same mid end (r (pre ++ 32 ∷ []) post p))

-- the bytes of a piece and behind it
byte_in : (pre piece post : List ℕ) (k : ℕ) → k < length piece → get_or (pre ++ (piece ++ post)) (length pre + k) 0 ≡ get_or piece k 0
byte_in pre piece post k lt = get_or-append-add pre (piece ++ post) k 0 ∙ get_or_append_left piece post 0 k lt

byte_behind : (pre piece post : List ℕ) → get_or (pre ++ (piece ++ post)) (length pre + length piece) 0 ≡ get_or post 0 0
byte_behind pre piece post =
    let here : length piece ≡ length piece + 0 = omega arith in
    get_or-append-add pre (piece ++ post) (length piece) 0 ∙ ap (λ k. get_or (piece ++ post) k 0) here ∙ get_or-append-add piece post 0 0

whole_length : (pre piece post : List ℕ) → length (pre ++ (piece ++ post)) ≡ length pre + (length piece + length post)
whole_length pre piece post = omega (arith, length-append pre (piece ++ post), length-append piece post)

piece_is : (pre piece post : List ℕ) → slice_range (pre ++ (piece ++ post)) (length pre) (length pre + length piece) ≡ piece
piece_is pre piece post =
    let count : (length pre + length piece) - length pre ≡ length piece = omega arith in
    ap (λ n. take n (drop (length pre) (pre ++ (piece ++ post)))) count ∙ ap (take (length piece)) (drop_at pre (piece ++ post) (length pre) refl) ∙ take_at piece post (length piece) refl

run_part : (test : ℕ → Bool) (pre piece post : List ℕ) (lead start : ℕ) → start ≡ length pre + lead → lead ≤ length piece → ((k : ℕ) → lead ≤ k → k < length piece → test (get_or piece k 0) ≡ true) → (0 < length post → test (get_or post 0 0) ≡ false) → IsRun test (pre ++ (piece ++ post)) start (length pre + length piece)
run_part test pre piece post lead start start_is le each ends =
    let whole = whole_length pre piece post in
    record {
      after = omega arith;
      in_text = omega arith;
      same = λ k from to.
          let place : length pre + (k - length pre) ≡ k = omega arith in
          ap (λ j. test (get_or (pre ++ (piece ++ post)) j 0)) (sym place) ∙ ap test (byte_in pre piece post (k - length pre) (omega arith)) ∙ each (k - length pre) (omega arith) (omega arith);
      stops = λ lt. ap test (byte_behind pre piece post) ∙ ends (omega arith);
    }

-- a token that is a word
one_word : (pre piece post : List ℕ) (kind : TokenKind) (word : Word) → kind ≢ kinds.End → word_of kind piece ≡ Some word → NextIs (pre ++ (piece ++ post)) (length pre) (Ok (record { kind = kind; start = length pre; end = length pre + length piece })) → TokensTo language (pre ++ (piece ++ post)) (length pre) (word ∷ []) (length pre + length piece)
one_word pre piece post kind word some is next =
    let token : Token = record { kind = kind; start = length pre; end = length pre + length piece } in
    let taken : IsTaken language (pre ++ (piece ++ post)) (length pre) token word = record { next = next; some = some; kept = refl; is = ap (word_of kind) (piece_is pre piece post) ∙ is } in
    Taken (length pre) (length pre + length piece) token word [] taken (Here (length pre + length piece))

name_plain : (b : ℕ) → is_name_start b ≡ true → is_blank b ≡ false
name_plain b name = grind (arith, nat_tests)

name_no_comment : (b : ℕ) → is_name_start b ≡ true → b ≢ 35
name_no_comment b name e = let there : is_name_start 35 ≡ true = ap is_name_start (sym e) ∙ name in absurd cc

digit_plain : (b : ℕ) → is_digit b ≡ true → is_blank b ≡ false
digit_plain b digit = grind (arith, nat_tests)

digit_no_comment : (b : ℕ) → is_digit b ≡ true → b ≢ 35
digit_no_comment b digit e = let there : is_digit 35 ≡ true = ap is_digit (sym e) ∙ digit in absurd cc

-- ---- names and types

name_reads : (bytes : List ℕ) (word : Word) → IsNameToken bytes → word_of kinds.Name bytes ≡ Some word → Reads Ends bytes (word ∷ [])
name_reads [] word token is pre post ends = absurd token
name_reads (b ∷ bytes) word token is pre post ends =
    let text = pre ++ ((b ∷ bytes) ++ post) in
    let first : get_or text (length pre) 0 ≡ b = first_byte pre (bytes ++ post) b in
    let starts : is_name_start (get_or text (length pre) 0) ≡ true = ap is_name_start first ∙ token.0 in
    let run = run_part is_name_byte pre (b ∷ bytes) post 1 (length pre + 1) refl (omega arith) (λ k le lt. in_name k le lt) ends in
    let stands = name_stands text (length pre) (length pre + length (b ∷ bytes)) (omega (arith, whole_length pre (b ∷ bytes) post)) starts run in
    one_word pre (b ∷ bytes) post kinds.Name word (λ e. absurd (cc)) is
    (at_next text (length pre) (length pre + length (b ∷ bytes)) kinds.Name stands (ap is_blank first ∙ name_plain b token.0) (λ e. name_no_comment b token.0 (sym first ∙ e)))
  where
    in_name : (k : ℕ) → 1 ≤ k → k < length (b ∷ bytes) → is_name_byte (get_or (b ∷ bytes) k 0) ≡ true
    in_name zero le lt = absurd (omega arith)
    in_name (suc k) le lt = list_all_to is_name_byte bytes token.1 k (omega arith)

-- ---- numbers

pub digits_push : (base : ℕ) (xs : List ℕ) (d : ℕ) → digits_value base (xs ++ d ∷ []) ≡ digits_value base xs * base + digit_value d
digits_push base [] d = rw pow-zero (omega arith)
digits_push base (x ∷ xs) d =
    let len : length (xs ++ d ∷ []) ≡ suc (length xs) = omega (arith, length-append xs (d ∷ [])) in
    rw (len, pow-succ' base (length xs), digits_push base xs d) (regroup (digit_value x) base (base ^ length xs) (digits_value base xs) (digit_value d))
  where
    regroup : (a b p v d : ℕ) → a * (b * p) + (v * b + d) ≡ (a * p + v) * b + d
    regroup a b p v d = omega arith

-- what the digits of a number are
pub record AreDigits (n : ℕ) (digits : List ℕ) : Type 0 where
  pub some : 0 < length digits
  pub each : list_all is_digit digits ≡ true
  pub value : digits_value 10 digits ≡ n

pub digit_small : (n : ℕ) → n < 10 → is_digit (48 + n) ≡ true
digit_small n lt = grind (arith, nat_tests)

pub digit_says : (n : ℕ) → n < 10 → digit_value (48 + n) ≡ n
digit_says n lt = grind (arith, nat_tests)

pub all_push : (test : ℕ → Bool) (xs : List ℕ) (d : ℕ) → list_all test xs ≡ true → test d ≡ true → list_all test (xs ++ d ∷ []) ≡ true
all_push test [] d all last = and_from (test d) true last refl
all_push test (x ∷ xs) d all last = let both = and_parts (test x) (list_all test xs) all in and_from (test x) (list_all test (xs ++ d ∷ [])) both.0 (all_push test xs d both.1 last)

pub spelled : (n : ℕ) → n < 2 ^ 64 → AreDigits n (decimal n)
spelled n small = decimal_by_steps AreDigits
    (λ k lt. record { some = omega arith; each = and_from (is_digit (48 + k)) true (digit_small k lt) refl; value = rw pow-zero (let d = digit_says k lt in omega arith) })
    (λ k ds ge h.
    let d : k % 10 < 10 = omega arith in
    record {
      some = omega (arith, length-append ds ((48 + k % 10) ∷ []));
      each = all_push is_digit ds (48 + k % 10) h.each (digit_small (k % 10) d);
      value = digits_push 10 ds (48 + k % 10) ∙ (let v = h.value in let l = digit_says (k % 10) d in omega (arith, v, l));
    })
    n small

pub not_hexadecimal : (bytes : List ℕ) → list_all is_digit bytes ≡ true → is_hexadecimal bytes ≡ false
not_hexadecimal [] all = refl
not_hexadecimal (b ∷ []) all = and_right (48 == b) false refl
not_hexadecimal (b ∷ c ∷ bytes) all =
    let second : is_digit c ≡ true = list_all_to is_digit (b ∷ c ∷ bytes) all 1 (omega arith) in
    let no_letter : (120 == c) ≡ false = ne_eqb 120 c (λ e. let x : is_digit 120 ≡ true = ap is_digit e ∙ second in absurd cc) in
    and_right (48 == b) ((120 == c) && true) (and_left (120 == c) true no_letter)

value_is : (digits : List ℕ) (n : ℕ) → AreDigits n digits → value_of digits ≡ n
value_is digits n h = rw (not_hexadecimal digits h.each) h.value

number_says : (n : ℕ) (digits : List ℕ) → n ≤ number_limit → AreDigits n digits → word_of kinds.Number digits ≡ Some (words.Number n)
number_says n digits small h = let capped : min n too_large ≡ n = omega arith in ap (λ v. Some (words.Number (min v too_large))) (value_is digits n h) ∙ ap (λ v. Some (words.Number v)) capped

or_second : (a b : Bool) → (a || b) ≡ false → b ≡ false
or_second true b h = let e : true ≡ false = h in absurd (cc)
or_second false b h = h

digits_read : (n : ℕ) (digits : List ℕ) → n ≤ number_limit → AreDigits n digits → Reads Ends digits (words.Number n ∷ [])
digits_read n digits small h pre post ends =
    let text = pre ++ (digits ++ post) in
    let here : length pre ≡ length pre + 0 = omega arith in
    let first : get_or text (length pre) 0 ≡ get_or digits 0 0 = ap (λ k. get_or text k 0) here ∙ byte_in pre digits post 0 h.some in
    let digit : is_digit (get_or digits 0 0) ≡ true = list_all_to is_digit digits h.each 0 h.some in
    let run = run_part is_digit pre digits post 0 (length pre) here (omega arith) (λ k le lt. list_all_to is_digit digits h.each k lt) (λ some. or_second (is_name_start (get_or post 0 0)) (is_digit (get_or post 0 0)) (ends some)) in
    let stands = decimal_stands text (length pre) (length pre + length digits) (omega (arith, whole_length pre digits post, h.some)) (ap is_digit first ∙ digit) no_hex run in
    one_word pre digits post kinds.Number (words.Number n) (λ e. absurd (cc)) (number_says n digits small h)
    (at_next text (length pre) (length pre + length digits) kinds.Number stands (ap is_blank first ∙ digit_plain (get_or digits 0 0) digit) (λ e. digit_no_comment (get_or digits 0 0) digit (sym first ∙ e)))
  where
    no_hex : IsHexadecimalAt (pre ++ (digits ++ post)) (length pre) → ⊥
    no_hex x = by (cases_lt 1 (length digits))
      where
        by : (1 < length digits) ⊎ (length digits ≤ 1) → ⊥
        by (inl lt) =
            let there : is_digit 120 ≡ true = ap is_digit (sym x.letter ∙ byte_in pre digits post 1 lt) ∙ list_all_to is_digit digits h.each 1 lt in
            absurd cc
        by (inr le) =
            let one : length digits ≡ 1 = omega (arith, h.some) in
            let letter : get_or post 0 0 ≡ 120 = sym (byte_behind pre digits post) ∙ ap (λ k. get_or (pre ++ (digits ++ post)) (length pre + k) 0) one ∙ x.letter in
            let off : is_name_byte 120 ≡ false = ap is_name_byte (sym letter) ∙ ends (omega (arith, whole_length pre digits post, x.room)) in
            absurd cc

number_reads : (n : ℕ) → n ≤ number_limit → Reads Ends (decimal n) (words.Number n ∷ [])
number_reads n small = digits_read n (decimal n) small (spelled n (omega arith))

-- ---- signs and line ends

sign_reads : (b : ℕ) (word : Word) → is_single_sign b ≡ true → ((c : ℕ) → is_double_sign b c ≡ false) → is_blank b ≡ false → b ≢ 35 → word_of kinds.Sign (b ∷ []) ≡ Some word → Reads Any (b ∷ []) (word ∷ [])
sign_reads b word single no_double no_blank no_comment is pre post any =
    let text = pre ++ (b ∷ [] ++ post) in
    let first : get_or text (length pre) 0 ≡ b = first_byte pre post b in
    let double : IsDoubleSignAt text (length pre) → ⊥ = λ d. both_ways _ (no_double (get_or text (length pre + 1) 0)) (ap (λ x. is_double_sign x (get_or text (length pre + 1) 0)) (sym first) ∙ d.bytes) in
    let stands = single_stands text (length pre) (omega (arith, whole_length pre (b ∷ []) post)) (ap is_single_sign first ∙ single) double in
    one_word pre (b ∷ []) post kinds.Sign word (λ e. absurd (cc)) is
    (at_next text (length pre) (length pre + 1) kinds.Sign stands (ap is_blank first ∙ no_blank) (λ e. no_comment (sym first ∙ e)))

pub nothing_reads : Reads Any [] []
nothing_reads pre post any = let here : length pre ≡ length pre + 0 = omega arith in subst (λ to. TokensTo language (pre ++ post) (length pre) [] to) here (Here (length pre))

-- ---- words

pub line_reads : Reads Any (line_end ∷ []) (words.Line ∷ [])
line_reads pre post any =
    let text = pre ++ (line_end ∷ [] ++ post) in
    let first : get_or text (length pre) 0 ≡ 10 = first_byte pre post 10 in
    let stands = line_stands text (length pre) (omega (arith, whole_length pre (line_end ∷ []) post)) first in
    one_word pre (line_end ∷ []) post kinds.Line words.Line (λ e. absurd (cc)) refl
    (at_next text (length pre) (length pre + 1) kinds.Line stands (ap is_blank first) (λ e. absurd (omega (arith, e, first))))

pub open_reads : Reads Any (91 ∷ []) (words.Open ∷ [])
open_reads = sign_reads 91 words.Open refl (λ c. and_right (c == 61) false refl) refl (λ e. absurd (omega arith)) refl

pub comma_reads : Reads Any (44 ∷ []) (words.Comma ∷ [])
comma_reads = sign_reads 44 words.Comma refl (λ c. and_right (c == 61) false refl) refl (λ e. absurd (omega arith)) refl

pub close_reads : Reads Any (93 ∷ []) (words.Close ∷ [])
close_reads = sign_reads 93 words.Close refl (λ c. and_right (c == 61) false refl) refl (λ e. absurd (omega arith)) refl

colon_reads : Reads Any (58 ∷ []) (words.Colon ∷ [])
colon_reads = sign_reads 58 words.Colon refl (λ c. and_right (c == 61) false refl) refl (λ e. absurd (omega arith)) refl

label_says : (bytes : List ℕ) → IsLabel bytes → word_of kinds.Name bytes ≡ Some (words.Name bytes)
label_says bytes h = by (nat_le (length bytes) name_limit) refl
  where
    by : (short : Bool) → nat_le (length bytes) name_limit ≡ short → name_word bytes ≡ Some (words.Name bytes)
    by true is = ap (λ b. if b then Some (words.Name bytes) else None) is
    by false is = let short = h.short in absurd (grind (arith, nat_tests))

-- a word has a spelling: a name is one, a number isn't too large
abbrev pub IsSpelled : Word → Type 0
IsSpelled (words.Name bytes) = IsLabel bytes
IsSpelled (words.Number n) = n ≤ number_limit
IsSpelled word = Unit {0}

pub any_ends : (piece : List ℕ) (tokens : List Word) → Reads Any piece tokens → Reads Ends piece tokens
any_ends piece tokens r pre post ends = r pre post tt

pub word_reads : (word : Word) → IsSpelled word → Reads Ends (word_text word) (word ∷ [])
word_reads (words.Name bytes) h = name_reads bytes (words.Name bytes) h.token (label_says bytes h)
word_reads (words.Number n) h = number_reads n h
word_reads words.Colon h = any_ends (58 ∷ []) (words.Colon ∷ []) colon_reads
word_reads words.Open h = any_ends (91 ∷ []) (words.Open ∷ []) open_reads
word_reads words.Comma h = any_ends (44 ∷ []) (words.Comma ∷ []) comma_reads
word_reads words.Close h = any_ends (93 ∷ []) (words.Close ∷ []) close_reads
word_reads words.Line h = any_ends (line_end ∷ []) (words.Line ∷ []) line_reads
