-- The text of arrays is read as their words.
use Rattle.std.proofs.Common.{◌≡◌, ◌≢◌, ◌⊎◌, inl, inr, ℕ, zero, suc, ◌+◌, ◌-◌, ◌*◌, ◌^◌, ◌/◌, ◌%◌, ◌<◌, ◌≤◌, min, Bool, true, false, ◌||◌, ◌&&◌, IsTrue, IsFalse, List, [], ◌∷◌, ◌++◌, length, get_or, take, drop, map, Option, Some, None, Result, Ok, Err, refl, sym, ap, subst, ◌∙◌, arith, append_assoc, length-append, Contains, All}
use Rattle.std.specs.Prelude.{slice_range, codes, decimal, ◌==◌, ℤ, pos, negsuc, neg_ℤ}
use Rattle.std.specs.Fmt.{signed_decimal}
use Rattle.std.specs.List.{list_all, join_with_byte}
use Rattle.std.specs.Str.{bytes_eq}
use Rattle.std.proofs.Math.Nat.{pow-zero, pow-succ'}
use Rattle.std.proofs.lemmas.Bool.{both_ways, cases_lt, and_left, and_right, and_parts, and_from, ne_eqb}
use Rattle.std.proofs.lemmas.Bool.Decides.{nat_tests}
use Rattle.std.proofs.lemmas.Fmt.{decimal_by_steps}
use Rattle.std.proofs.lemmas.Int.{ints}
use Rattle.std.proofs.lemmas.List.{append-nil, get_or-append-add, get_or_append_left, take_at, drop_at, nil_from_length, length-take-le, length-drop, take-append-drop}
use Rattle.std.proofs.lemmas.List.Elements.{All-head, All-tail, All-take, All-drop, All-weaker}
use Rattle.ven_base.specs.declared.elem.Elem.{Elem}
use Rattle.ven_base.specs.declared.elem.Elem.TheVariants.{U8, I8, U16, I16, U32, I32}
use Rattle.ven_base.specs.Elem.{IsElement}
use Rattle.ven_base.specs.Extent.{Extent, IsExtent}
use Rattle.ven_base.specs.Grid.{Grid, IsGrid}
use Rattle.ven_base.specs.Pairs.{Pairs, ArePairs, names_of, arrays_of}
use Rattle.ven_base.specs.Name.{is_digit, is_name_start, is_name_byte, IsNameToken, IsName, IsReserved, reserved_words}
use Rattle.ven_base.proofs.Words.{same_bytes}
use Rattle.ven_io.specs.declared.token.Token.{Token}
use Rattle.ven_io.specs.declared.token.TokenFault.{TokenFault}
use Rattle.ven_io.specs.declared.token.TokenFault.TheVariants.{NotAscii, Unexpected}
use Rattle.ven_io.specs.declared.token.TokenKind.{TokenKind}
use Rattle.ven_io.specs.declared.token.TokenKind.TheVariants as kinds
use Rattle.ven_io.specs.Number.{digit_value, digits_value, is_hexadecimal, base_of, value_of, number_limit}
use Rattle.ven_io.specs.Runs.{IsRun, IsHexadecimalAt, IsDoubleSignAt}
use Rattle.ven_io.specs.Signs.{is_single_sign, is_double_sign}
use Rattle.ven_io.specs.Token.{is_blank, line_end, comment_sign, IsInComment, IsSkipped, IsStop, StandsAt, NextIs}
use Rattle.ven_io.specs.Tokens.{IsTaken, TokensTo, Here, Passed, Taken}
use Rattle.ven_io.proofs.Places.{list_all_to}
use Rattle.ven_io.proofs.Reached.{tokens_on}
use Rattle.ven_io.proofs.Standing.{name_stands, decimal_stands, single_stands, line_stands}
use Rattle.array_file.specs.declared.word.Word.{Word}
use Rattle.array_file.specs.declared.word.Word.TheVariants as words
use Rattle.array_file.specs.Faults.{DenotesArrays}
use Rattle.array_file.specs.Grammar.{shape_words, heading_words, IsValue, Plain, Negative, AreValues, NoValues, MoreValues, AreArrays, NoArrays, MoreArrays}
use Rattle.array_file.specs.Output.{shape_text, heading_text, values_text, row_text, rows_text, array_text, arrays_text}
use Rattle.ven_base.specs.ElemWord.{elem_word, elem_among, elem_named}
use Rattle.array_file.specs.Words.{name_word, too_large, word_of, passes, language}
use Rattle.array_file.proofs.LargeNumbers.{no_large_value, no_large_shape}
use Rattle.array_file.proofs.Vocabulary.{name_is}

-- ---- what stands next

at_next : (text : List ℕ) (p e : ℕ) (kind : TokenKind) → StandsAt text (record { kind = kind; start = p; end = e }) → is_blank (get_or text p 0) ≡ false → get_or text p 0 ≢ comment_sign → NextIs text p (Ok (record { kind = kind; start = p; end = e }))
at_next text p e kind stands no_blank no_comment = (
  record {
    after = omega arith;
    in_text = omega (arith, stands.some, stands.in_text);
    before = λ k le lt. absurd (omega arith);
    unskipped = λ lt skipped. unskipped skipped.passed;
  },
  inr stands,
)
  where
    unskipped : IsTrue (is_blank (get_or text p 0)) ⊎ IsInComment text p p → ⊥
    unskipped (inl blank) = both_ways _ no_blank blank
    unskipped (inr c) = let here : c.hash ≡ p = omega (arith, c.after, c.before) in no_comment (ap (λ k. get_or text k 0) (sym here) ∙ c.sign)

further : (text : List ℕ) (p k : ℕ) → IsSkipped text (p + 1) k → IsSkipped text p k
further text p k h = record { ascii = h.ascii; passed = by h.passed }
  where
    by : IsTrue (is_blank (get_or text k 0)) ⊎ IsInComment text (p + 1) k → IsTrue (is_blank (get_or text k 0)) ⊎ IsInComment text p k
    by (inl blank) = inl blank
    by (inr c) = inr (record { hash = c.hash; after = omega (arith, c.after); before = c.before; sign = c.sign; unended = c.unended })

nearer : (text : List ℕ) (p k : ℕ) → get_or text p 0 ≡ 32 → IsSkipped text p k → IsSkipped text (p + 1) k
nearer text p k blank h = record { ascii = h.ascii; passed = by h.passed }
  where
    behind : (hash : ℕ) → p ≤ hash → get_or text hash 0 ≡ comment_sign → (p < hash) ⊎ (hash ≤ p) → p + 1 ≤ hash
    behind hash le sign (inl lt) = omega arith
    behind hash le sign (inr ge) =
        let same : hash ≡ p = omega arith in
        let wrong : get_or text p 0 ≡ comment_sign = ap (λ (j : ℕ). get_or text j 0) (sym same) ∙ sign in
        absurd (omega (arith, blank, wrong))

    by : IsTrue (is_blank (get_or text k 0)) ⊎ IsInComment text p k → IsTrue (is_blank (get_or text k 0)) ⊎ IsInComment text (p + 1) k
    by (inl is) = inl is
    by (inr c) = inr (record { hash = c.hash; after = behind c.hash c.after c.sign (cases_lt p c.hash); before = c.before; sign = c.sign; unended = c.unended })

stop_back : (text : List ℕ) (p q : ℕ) → get_or text p 0 ≡ 32 → IsStop text (p + 1) q → IsStop text p q
stop_back text p q blank h = record {
  after = omega (arith, h.after);
  in_text = h.in_text;
  before = λ k le lt. before k le lt (cases_lt p k);
  unskipped = λ lt skipped. h.unskipped lt (nearer text p q blank skipped);
}
  where
    before : (k : ℕ) → p ≤ k → k < q → (p < k) ⊎ (k ≤ p) → IsSkipped text p k
    before k le lt (inl later) = further text p k (h.before k (omega arith) lt)
    before k le lt (inr here) =
        let same : p ≡ k = omega arith in
        let byte : get_or text k 0 ≡ 32 = ap (λ j. get_or text j 0) (sym same) ∙ blank in
        record { ascii = omega (arith, byte); passed = inl (ap is_blank byte) }

skip_blank : (text : List ℕ) (p : ℕ) (next : Result Token TokenFault) → get_or text p 0 ≡ 32 → NextIs text (p + 1) next → NextIs text p next
skip_blank text p (Ok token) blank h = (stop_back text p token.start blank h.0, h.1)
skip_blank text p (Err (NotAscii at)) blank h = (stop_back text p at blank h.0, h.1, h.2)
skip_blank text p (Err (Unexpected at)) blank h = (stop_back text p at blank h.0, h.1, h.2, h.3)

skip_tokens : (text : List ℕ) (p from to : ℕ) (tokens : List Word) → from ≡ p + 1 → get_or text p 0 ≡ 32 → 0 < length tokens → TokensTo language text from tokens to → TokensTo language text p tokens to
skip_tokens text p _ _ _ is blank some (Here place) = absurd (omega arith)
skip_tokens text p from to tokens is blank some (Passed place last token rest next passed h) =
    Passed p to token tokens (skip_blank text p (Ok token) blank (subst (λ f. NextIs text f (Ok token)) is next)) passed h
skip_tokens text p from to _ is blank some (Taken place last token own rest taken h) =
    Taken p to token own rest (record { next = skip_blank text p (Ok token) blank (subst (λ f. NextIs text f (Ok token)) is taken.next); some = taken.some; kept = taken.kept; is = taken.is }) h

-- ---- a piece of a text

-- wherever the piece stands, with something behind it, it is read as these words
abbrev Reads : (List ℕ → Type 0) → List ℕ → List Word → Type 0
Reads P piece tokens = (pre post : List ℕ) → P post → TokensTo language (pre ++ (piece ++ post)) (length pre) tokens (length pre + length piece)

-- anything may stand behind it, or nothing with which a name or a number goes on
abbrev Any : List ℕ → Type 0
Any post = Unit {0}

abbrev Ends : List ℕ → Type 0
Ends post = 0 < length post → is_name_byte (get_or post 0 0) ≡ false

moved : (text there : List ℕ) (from start to end : ℕ) (tokens : List Word) → text ≡ there → from ≡ start → to ≡ end → TokensTo language text from tokens to → TokensTo language there start tokens end
moved text there from start to end tokens t f e h =
    subst (λ x. TokensTo language there start tokens x) e (subst (λ x. TokensTo language there x tokens to) f (subst (λ x. TokensTo language x from tokens to) t h))

join : (P Q : List ℕ → Type 0) (a b : List ℕ) (ts us : List Word) → Reads P a ts → Reads Q b us → ((post : List ℕ) → Q post → P (b ++ post)) → Reads Q (a ++ b) (ts ++ us)
join P Q a b ts us ra rb follows pre post q =
    let text = pre ++ ((a ++ b) ++ post) in
    let one : pre ++ (a ++ (b ++ post)) ≡ text = ap (λ t. pre ++ t) (sym (append_assoc a b post)) in
    let two : (pre ++ a) ++ (b ++ post) ≡ text = append_assoc pre a (b ++ post) ∙ one in
    let mid : length (pre ++ a) ≡ length pre + length a = length-append pre a in
    let end : length (pre ++ a) + length b ≡ length pre + length (a ++ b) = omega (arith, mid, length-append a b) in
    tokens_on language text (length pre) (length pre + length a) (length pre + length (a ++ b)) ts us
    (moved (pre ++ (a ++ (b ++ post))) text (length pre) (length pre) (length pre + length a) (length pre + length a) ts one refl refl (ra pre (b ++ post) (follows post q)))
    (moved ((pre ++ a) ++ (b ++ post)) text (length (pre ++ a)) (length pre + length a) (length (pre ++ a) + length b) (length pre + length (a ++ b)) us two mid end (rb (pre ++ a) post q))

first_byte : (pre rest : List ℕ) (b : ℕ) → get_or (pre ++ b ∷ rest) (length pre) 0 ≡ b
first_byte pre rest b = let here : length pre ≡ length pre + 0 = omega arith in ap (λ k. get_or (pre ++ b ∷ rest) k 0) here ∙ get_or-append-add pre (b ∷ rest) 0 0

-- a blank before a piece
blank : (P : List ℕ → Type 0) (piece : List ℕ) (tokens : List Word) → 0 < length tokens → Reads P piece tokens → Reads P (32 ∷ piece) tokens
blank P piece tokens some r pre post p =
    let text = pre ++ (32 ∷ piece ++ post) in
    let same : (pre ++ 32 ∷ []) ++ (piece ++ post) ≡ text = append_assoc pre (32 ∷ []) (piece ++ post) in
    let mid : length (pre ++ 32 ∷ []) ≡ length pre + 1 = length-append pre (32 ∷ []) in
    let end : length (pre ++ 32 ∷ []) + length piece ≡ length pre + length (32 ∷ piece) = omega (arith, mid) in
    skip_tokens text (length pre) (length pre + 1) (length pre + length (32 ∷ piece)) tokens refl (first_byte pre (piece ++ post) 32) some
    (moved ((pre ++ 32 ∷ []) ++ (piece ++ post)) text (length (pre ++ 32 ∷ [])) (length pre + 1) (length (pre ++ 32 ∷ []) + length piece) (length pre + length (32 ∷ piece)) tokens same mid end (r (pre ++ 32 ∷ []) post p))

-- the bytes of a piece and behind it
byte_in : (pre piece post : List ℕ) (k : ℕ) → k < length piece → get_or (pre ++ (piece ++ post)) (length pre + k) 0 ≡ get_or piece k 0
byte_in pre piece post k lt = get_or-append-add pre (piece ++ post) k 0 ∙ get_or_append_left piece post 0 k lt

byte_behind : (pre piece post : List ℕ) → get_or (pre ++ (piece ++ post)) (length pre + length piece) 0 ≡ get_or post 0 0
byte_behind pre piece post =
    let here : length piece ≡ length piece + 0 = omega arith in
    get_or-append-add pre (piece ++ post) (length piece) 0 ∙ ap (λ k. get_or (piece ++ post) k 0) here ∙ get_or-append-add piece post 0 0

whole_length : (pre piece post : List ℕ) → length (pre ++ (piece ++ post)) ≡ length pre + (length piece + length post)
whole_length pre piece post = omega (arith, length-append pre (piece ++ post), length-append piece post)

piece_is : (pre piece post : List ℕ) → slice_range (pre ++ (piece ++ post)) (length pre) (length pre + length piece) ≡ piece
piece_is pre piece post =
    let count : (length pre + length piece) - length pre ≡ length piece = omega arith in
    ap (λ n. take n (drop (length pre) (pre ++ (piece ++ post)))) count ∙ ap (take (length piece)) (drop_at pre (piece ++ post) (length pre) refl) ∙ take_at piece post (length piece) refl

run_part : (test : ℕ → Bool) (pre piece post : List ℕ) (lead start : ℕ) → start ≡ length pre + lead → lead ≤ length piece → ((k : ℕ) → lead ≤ k → k < length piece → test (get_or piece k 0) ≡ true) → (0 < length post → test (get_or post 0 0) ≡ false) → IsRun test (pre ++ (piece ++ post)) start (length pre + length piece)
run_part test pre piece post lead start start_is le each ends =
    let whole = whole_length pre piece post in
    record {
      after = omega arith;
      in_text = omega arith;
      same = λ k from to.
          let place : length pre + (k - length pre) ≡ k = omega arith in
          ap (λ j. test (get_or (pre ++ (piece ++ post)) j 0)) (sym place) ∙ ap test (byte_in pre piece post (k - length pre) (omega arith)) ∙ each (k - length pre) (omega arith) (omega arith);
      stops = λ lt. ap test (byte_behind pre piece post) ∙ ends (omega arith);
    }

-- a token that is a word
one_word : (pre piece post : List ℕ) (kind : TokenKind) (word : Word) → kind ≢ kinds.End → passes kind ≡ false → word_of kind piece ≡ Some word → NextIs (pre ++ (piece ++ post)) (length pre) (Ok (record { kind = kind; start = length pre; end = length pre + length piece })) → TokensTo language (pre ++ (piece ++ post)) (length pre) (word ∷ []) (length pre + length piece)
one_word pre piece post kind word some kept is next =
    let token : Token = record { kind = kind; start = length pre; end = length pre + length piece } in
    let taken : IsTaken language (pre ++ (piece ++ post)) (length pre) token word = record { next = next; some = some; kept = kept; is = ap (word_of kind) (piece_is pre piece post) ∙ is } in
    Taken (length pre) (length pre + length piece) token word [] taken (Here (length pre + length piece))

name_plain : (b : ℕ) → is_name_start b ≡ true → is_blank b ≡ false
name_plain b name = grind (arith, nat_tests)

name_no_comment : (b : ℕ) → is_name_start b ≡ true → b ≢ 35
name_no_comment b name e = let there : is_name_start 35 ≡ true = ap is_name_start (sym e) ∙ name in absurd cc

digit_plain : (b : ℕ) → is_digit b ≡ true → is_blank b ≡ false
digit_plain b digit = grind (arith, nat_tests)

digit_no_comment : (b : ℕ) → is_digit b ≡ true → b ≢ 35
digit_no_comment b digit e = let there : is_digit 35 ≡ true = ap is_digit (sym e) ∙ digit in absurd cc

-- ---- names and types

name_reads : (bytes : List ℕ) (word : Word) → IsNameToken bytes → word_of kinds.Name bytes ≡ Some word → Reads Ends bytes (word ∷ [])
name_reads [] word token is pre post ends = absurd token
name_reads (b ∷ bytes) word token is pre post ends =
    let text = pre ++ ((b ∷ bytes) ++ post) in
    let first : get_or text (length pre) 0 ≡ b = first_byte pre (bytes ++ post) b in
    let starts : is_name_start (get_or text (length pre) 0) ≡ true = ap is_name_start first ∙ token.0 in
    let run = run_part is_name_byte pre (b ∷ bytes) post 1 (length pre + 1) refl (omega arith) (λ k le lt. in_name k le lt) ends in
    let stands = name_stands text (length pre) (length pre + length (b ∷ bytes)) (omega (arith, whole_length pre (b ∷ bytes) post)) starts run in
    one_word pre (b ∷ bytes) post kinds.Name word (λ e. absurd (cc)) refl is
    (at_next text (length pre) (length pre + length (b ∷ bytes)) kinds.Name stands (ap is_blank first ∙ name_plain b token.0) (λ e. name_no_comment b token.0 (sym first ∙ e)))
  where
    in_name : (k : ℕ) → 1 ≤ k → k < length (b ∷ bytes) → is_name_byte (get_or (b ∷ bytes) k 0) ≡ true
    in_name zero le lt = absurd (omega arith)
    in_name (suc k) le lt = list_all_to is_name_byte bytes token.1 k (omega arith)

reserved_type : (elem : Elem) → Contains reserved_words (elem_word elem)
reserved_type U8 = (3, omega arith, refl)
reserved_type I8 = (4, omega arith, refl)
reserved_type U16 = (5, omega arith, refl)
reserved_type I16 = (6, omega arith, refl)
reserved_type U32 = (7, omega arith, refl)
reserved_type I32 = (8, omega arith, refl)

other_word : (bytes word : List ℕ) → Contains reserved_words word → ¬ IsReserved bytes → (b : Bool) → bytes_eq bytes word ≡ b → bytes_eq bytes word ≡ false
other_word bytes word kept free false is = is
other_word bytes word kept free true is = absurd (free (subst (Contains reserved_words) (sym (same_bytes bytes word is)) kept))

no_elem : (elems : List Elem) (bytes : List ℕ) → ¬ IsReserved bytes → elem_among elems bytes ≡ None
no_elem [] bytes free = refl
no_elem (elem ∷ elems) bytes free = rw (other_word bytes (elem_word elem) (reserved_type elem) free (bytes_eq bytes (elem_word elem)) refl) (no_elem elems bytes free)

name_says : (name : List ℕ) → IsName name → word_of kinds.Name name ≡ Some (words.Name name)
name_says name h = ap (λ o. name_word o name) (no_elem (U8 ∷ I8 ∷ U16 ∷ I16 ∷ U32 ∷ I32 ∷ []) name h.free) ∙ sym (name_is name name h.token h refl)

type_token : (elem : Elem) → IsNameToken (elem_word elem)
type_token U8 = (refl, refl)
type_token I8 = (refl, refl)
type_token U16 = (refl, refl)
type_token I16 = (refl, refl)
type_token U32 = (refl, refl)
type_token I32 = (refl, refl)

type_says : (elem : Elem) → word_of kinds.Name (elem_word elem) ≡ Some (words.Elem elem)
type_says U8 = refl
type_says I8 = refl
type_says U16 = refl
type_says I16 = refl
type_says U32 = refl
type_says I32 = refl

-- ---- numbers

digits_push : (base : ℕ) (xs : List ℕ) (d : ℕ) → digits_value base (xs ++ d ∷ []) ≡ digits_value base xs * base + digit_value d
digits_push base [] d = rw pow-zero (omega arith)
digits_push base (x ∷ xs) d =
    let len : length (xs ++ d ∷ []) ≡ suc (length xs) = omega (arith, length-append xs (d ∷ [])) in
    rw (len, pow-succ' base (length xs), digits_push base xs d) (regroup (digit_value x) base (base ^ length xs) (digits_value base xs) (digit_value d))
  where
    regroup : (a b p v d : ℕ) → a * (b * p) + (v * b + d) ≡ (a * p + v) * b + d
    regroup a b p v d = omega arith

-- what the digits of a number are
record IsSpelled (n : ℕ) (digits : List ℕ) : Type 0 where
  some : 0 < length digits
  each : list_all is_digit digits ≡ true
  value : digits_value 10 digits ≡ n

digit_small : (n : ℕ) → n < 10 → is_digit (48 + n) ≡ true
digit_small n lt = grind (arith, nat_tests)

digit_says : (n : ℕ) → n < 10 → digit_value (48 + n) ≡ n
digit_says n lt = grind (arith, nat_tests)

all_push : (test : ℕ → Bool) (xs : List ℕ) (d : ℕ) → list_all test xs ≡ true → test d ≡ true → list_all test (xs ++ d ∷ []) ≡ true
all_push test [] d all last = and_from (test d) true last refl
all_push test (x ∷ xs) d all last = let both = and_parts (test x) (list_all test xs) all in and_from (test x) (list_all test (xs ++ d ∷ [])) both.0 (all_push test xs d both.1 last)

spelled : (n : ℕ) → n < 2 ^ 64 → IsSpelled n (decimal n)
spelled n small = decimal_by_steps IsSpelled
    (λ k lt. record { some = omega arith; each = and_from (is_digit (48 + k)) true (digit_small k lt) refl; value = rw pow-zero (let d = digit_says k lt in omega arith) })
    (λ k ds ge h.
    let d : k % 10 < 10 = omega arith in
    record {
      some = omega (arith, length-append ds ((48 + k % 10) ∷ []));
      each = all_push is_digit ds (48 + k % 10) h.each (digit_small (k % 10) d);
      value = digits_push 10 ds (48 + k % 10) ∙ (let v = h.value in let l = digit_says (k % 10) d in omega (arith, v, l));
    })
    n small

not_hexadecimal : (bytes : List ℕ) → list_all is_digit bytes ≡ true → is_hexadecimal bytes ≡ false
not_hexadecimal [] all = refl
not_hexadecimal (b ∷ []) all = and_right (48 == b) false refl
not_hexadecimal (b ∷ c ∷ bytes) all =
    let second : is_digit c ≡ true = list_all_to is_digit (b ∷ c ∷ bytes) all 1 (omega arith) in
    let no_letter : (120 == c) ≡ false = ne_eqb 120 c (λ e. let x : is_digit 120 ≡ true = ap is_digit e ∙ second in absurd cc) in
    and_right (48 == b) ((120 == c) && true) (and_left (120 == c) true no_letter)

value_is : (digits : List ℕ) (n : ℕ) → IsSpelled n digits → value_of digits ≡ n
value_is digits n h = rw (not_hexadecimal digits h.each) h.value

number_says : (n : ℕ) (digits : List ℕ) → n ≤ number_limit → IsSpelled n digits → word_of kinds.Number digits ≡ Some (words.Number n)
number_says n digits small h = let capped : min n too_large ≡ n = omega arith in ap (λ v. Some (words.Number (min v too_large))) (value_is digits n h) ∙ ap (λ v. Some (words.Number v)) capped

or_second : (a b : Bool) → (a || b) ≡ false → b ≡ false
or_second true b h = let e : true ≡ false = h in absurd (cc)
or_second false b h = h

digits_read : (n : ℕ) (digits : List ℕ) → n ≤ number_limit → IsSpelled n digits → Reads Ends digits (words.Number n ∷ [])
digits_read n digits small h pre post ends =
    let text = pre ++ (digits ++ post) in
    let here : length pre ≡ length pre + 0 = omega arith in
    let first : get_or text (length pre) 0 ≡ get_or digits 0 0 = ap (λ k. get_or text k 0) here ∙ byte_in pre digits post 0 h.some in
    let digit : is_digit (get_or digits 0 0) ≡ true = list_all_to is_digit digits h.each 0 h.some in
    let run = run_part is_digit pre digits post 0 (length pre) here (omega arith) (λ k le lt. list_all_to is_digit digits h.each k lt) (λ some. or_second (is_name_start (get_or post 0 0)) (is_digit (get_or post 0 0)) (ends some)) in
    let stands = decimal_stands text (length pre) (length pre + length digits) (omega (arith, whole_length pre digits post, h.some)) (ap is_digit first ∙ digit) no_hex run in
    one_word pre digits post kinds.Number (words.Number n) (λ e. absurd (cc)) refl (number_says n digits small h)
    (at_next text (length pre) (length pre + length digits) kinds.Number stands (ap is_blank first ∙ digit_plain (get_or digits 0 0) digit) (λ e. digit_no_comment (get_or digits 0 0) digit (sym first ∙ e)))
  where
    no_hex : IsHexadecimalAt (pre ++ (digits ++ post)) (length pre) → ⊥
    no_hex x = by (cases_lt 1 (length digits))
      where
        by : (1 < length digits) ⊎ (length digits ≤ 1) → ⊥
        by (inl lt) =
            let there : is_digit 120 ≡ true = ap is_digit (sym x.letter ∙ byte_in pre digits post 1 lt) ∙ list_all_to is_digit digits h.each 1 lt in
            absurd cc
        by (inr le) =
            let one : length digits ≡ 1 = omega (arith, h.some) in
            let letter : get_or post 0 0 ≡ 120 = sym (byte_behind pre digits post) ∙ ap (λ k. get_or (pre ++ (digits ++ post)) (length pre + k) 0) one ∙ x.letter in
            let off : is_name_byte 120 ≡ false = ap is_name_byte (sym letter) ∙ ends (omega (arith, whole_length pre digits post, x.room)) in
            absurd cc

number_reads : (n : ℕ) → n ≤ number_limit → Reads Ends (decimal n) (words.Number n ∷ [])
number_reads n small = digits_read n (decimal n) small (spelled n (omega arith))

-- ---- signs and line ends

sign_reads : (b : ℕ) (word : Word) → is_single_sign b ≡ true → ((c : ℕ) → is_double_sign b c ≡ false) → is_blank b ≡ false → b ≢ 35 → word_of kinds.Sign (b ∷ []) ≡ Some word → Reads Any (b ∷ []) (word ∷ [])
sign_reads b word single no_double no_blank no_comment is pre post any =
    let text = pre ++ (b ∷ [] ++ post) in
    let first : get_or text (length pre) 0 ≡ b = first_byte pre post b in
    let double : IsDoubleSignAt text (length pre) → ⊥ = λ d. both_ways _ (no_double (get_or text (length pre + 1) 0)) (ap (λ x. is_double_sign x (get_or text (length pre + 1) 0)) (sym first) ∙ d.bytes) in
    let stands = single_stands text (length pre) (omega (arith, whole_length pre (b ∷ []) post)) (ap is_single_sign first ∙ single) double in
    one_word pre (b ∷ []) post kinds.Sign word (λ e. absurd (cc)) refl is
    (at_next text (length pre) (length pre + 1) kinds.Sign stands (ap is_blank first ∙ no_blank) (λ e. no_comment (sym first ∙ e)))

minus_reads : Reads Any (45 ∷ []) (words.Minus ∷ [])
minus_reads = sign_reads 45 words.Minus refl (λ c. and_right (c == 61) false refl) refl (λ e. absurd (omega arith)) refl

open_reads : Reads Any (91 ∷ []) (words.Open ∷ [])
open_reads = sign_reads 91 words.Open refl (λ c. and_right (c == 61) false refl) refl (λ e. absurd (omega arith)) refl

comma_reads : Reads Any (44 ∷ []) (words.Comma ∷ [])
comma_reads = sign_reads 44 words.Comma refl (λ c. and_right (c == 61) false refl) refl (λ e. absurd (omega arith)) refl

close_reads : Reads Any (93 ∷ []) (words.Close ∷ [])
close_reads = sign_reads 93 words.Close refl (λ c. and_right (c == 61) false refl) refl (λ e. absurd (omega arith)) refl

line_reads : Reads Any (line_end ∷ []) []
line_reads pre post any =
    let text = pre ++ (line_end ∷ [] ++ post) in
    let first : get_or text (length pre) 0 ≡ 10 = first_byte pre post 10 in
    let token : Token = record { kind = kinds.Line; start = length pre; end = length pre + 1 } in
    let stands = line_stands text (length pre) (omega (arith, whole_length pre (line_end ∷ []) post)) first in
    Passed (length pre) (length pre + 1) token [] (at_next text (length pre) (length pre + 1) kinds.Line stands (ap is_blank first) (λ e. absurd (omega (arith, e, first)))) refl (Here (length pre + 1))

nothing_reads : Reads Any [] []
nothing_reads pre post any = let here : length pre ≡ length pre + 0 = omega arith in subst (λ to. TokensTo language (pre ++ post) (length pre) [] to) here (Here (length pre))

-- ---- values

abbrev pub value_words : ℤ → List Word
value_words (pos n) = words.Number n ∷ []
value_words (negsuc n) = words.Minus ∷ words.Number (suc n) ∷ []

abbrev pub values_words : List ℤ → List Word
values_words [] = []
values_words (value ∷ values) = value_words value ++ values_words values

-- the value is in some type's range
record IsTyped (value : ℤ) : Type 0 where
  elem : Elem
  is : IsElement elem value

value_reads : (value : ℤ) → IsTyped value → Reads Ends (signed_decimal value) (value_words value)
value_reads (pos n) h = number_reads n (by (cases_lt n too_large))
  where
    by : (n < too_large) ⊎ (too_large ≤ n) → n ≤ number_limit
    by (inl lt) = omega arith
    by (inr le) = absurd ((no_large_value h.elem n le).0 h.is)
value_reads (negsuc n) h = join Any Ends (45 ∷ []) (decimal (suc n)) (words.Minus ∷ []) (words.Number (suc n) ∷ []) minus_reads (number_reads (suc n) (by (cases_lt (suc n) too_large))) (λ post ends. tt)
  where
    by : (suc n < too_large) ⊎ (too_large ≤ suc n) → suc n ≤ number_limit
    by (inl lt) = omega arith
    by (inr le) = absurd ((no_large_value h.elem (suc n) le).1 h.is)

some_words : (value : ℤ) (values : List ℤ) → 0 < length (values_words (value ∷ values))
some_words (pos n) values = omega arith
some_words (negsuc n) values = omega arith

values_read : (value : ℤ) (values : List ℤ) → All IsTyped (value ∷ values) → Reads Ends (values_text (value ∷ values)) (values_words (value ∷ values))
values_read value [] h = subst (λ ts. Reads Ends (signed_decimal value) ts) (sym (append-nil (value_words value))) (value_reads value (All-head IsTyped value [] h))
values_read value (next ∷ values) h =
    let rest = All-tail IsTyped value (next ∷ values) h in
    join Ends Ends (signed_decimal value) (32 ∷ values_text (next ∷ values)) (value_words value) (values_words (next ∷ values))
    (value_reads value (All-head IsTyped value (next ∷ values) h))
    (blank Ends (values_text (next ∷ values)) (values_words (next ∷ values)) (some_words next values) (values_read next values rest))
    (λ post ends some. refl)

row_reads : (row : List ℤ) → 0 < length row → All IsTyped row → Reads Any (row_text row) (values_words row)
row_reads [] some h = absurd (omega arith)
row_reads (value ∷ values) some h =
    subst (λ ts. Reads Any (row_text (value ∷ values)) ts) (append-nil (values_words (value ∷ values)))
    (join Ends Any (values_text (value ∷ values)) (line_end ∷ []) (values_words (value ∷ values)) [] (values_read value values h) line_reads (λ post any some. refl))

values_words_append : (xs ys : List ℤ) → values_words (xs ++ ys) ≡ values_words xs ++ values_words ys
values_words_append [] ys = refl
values_words_append (x ∷ xs) ys = ap (λ ts. value_words x ++ ts) (values_words_append xs ys) ∙ sym (append_assoc (value_words x) (values_words xs) (values_words ys))

-- ---- rows, headings and arrays

rows_read : (rows cols : ℕ) (values : List ℤ) → 1 ≤ cols → length values ≡ rows * cols → All IsTyped values → Reads Any (rows_text rows cols values) (values_words values)
rows_read zero cols values some filled h =
    let none : values ≡ [] = nil_from_length values (omega (arith, filled)) in
    subst (λ ts. Reads Any [] ts) (ap values_words (sym none)) nothing_reads
rows_read (suc rows) cols values some filled h =
    let long : cols ≤ length values = omega (arith, filled) in
    let row : length (take cols values) ≡ cols = length-take-le cols values long in
    let rest : length (drop cols values) ≡ rows * cols = omega (arith, length-drop cols values, filled) in
    let all : values_words (take cols values) ++ values_words (drop cols values) ≡ values_words values =
    sym (values_words_append (take cols values) (drop cols values)) ∙ ap values_words (take-append-drop cols values) in
    subst (λ ts. Reads Any (rows_text (suc rows) cols values) ts) all
    (join Any Any (row_text (take cols values)) (rows_text rows cols (drop cols values)) (values_words (take cols values)) (values_words (drop cols values))
    (row_reads (take cols values) (omega (arith, row)) (All-take IsTyped cols values h))
    (rows_read rows cols (drop cols values) some rest (All-drop IsTyped cols values h))
    (λ post any. tt))

shape_reads : (shape : Extent) → IsExtent shape → Reads Any (shape_text shape) (shape_words shape)
shape_reads shape h =
    let (few_rows, few_cols) = no_large_shape shape h in
    let rows = number_reads shape.rows (omega (arith, few_rows)) in
    let cols = number_reads shape.cols (omega (arith, few_cols)) in
    let r = words.Number shape.rows in
    let c = words.Number shape.cols in
    let one = join Any Ends (codes "[") (decimal shape.rows) (words.Open ∷ []) (r ∷ []) open_reads rows (λ post ends. tt) in
    let two = join Ends Any (codes "[" ++ decimal shape.rows) (codes ",") (words.Open ∷ r ∷ []) (words.Comma ∷ []) one comma_reads (λ post any some. refl) in
    let three = join Any Ends (codes "[" ++ decimal shape.rows ++ codes ",") (decimal shape.cols) (words.Open ∷ r ∷ words.Comma ∷ []) (c ∷ []) two cols (λ post ends. tt) in
    let four = join Ends Any (codes "[" ++ decimal shape.rows ++ codes "," ++ decimal shape.cols) (codes "]") (words.Open ∷ r ∷ words.Comma ∷ c ∷ []) (words.Close ∷ []) three close_reads (λ post any some. refl) in
    join Any Any (codes "[" ++ decimal shape.rows ++ codes "," ++ decimal shape.cols ++ codes "]") (line_end ∷ []) (shape_words shape) [] four line_reads (λ post any. tt)

heading_reads : (name : List ℕ) (elem : Elem) (shape : Extent) → IsName name → IsExtent shape → Reads Any (heading_text name elem shape) (heading_words name elem shape)
heading_reads name elem shape named extent =
    let kind = blank Ends (elem_word elem) (words.Elem elem ∷ []) (omega arith) (name_reads (elem_word elem) (words.Elem elem) (type_token elem) (type_says elem)) in
    let two = join Ends Ends name (32 ∷ elem_word elem) (words.Name name ∷ []) (words.Elem elem ∷ []) (name_reads name (words.Name name) named.token (name_says name named)) kind (λ post ends some. refl) in
    let front : name ++ (32 ∷ elem_word elem) ≡ (name ++ codes " ") ++ elem_word elem = sym (append_assoc name (codes " ") (elem_word elem)) in
    subst (λ t. Reads Any (t ++ shape_text shape) (heading_words name elem shape)) front
    (join Ends Any (name ++ (32 ∷ elem_word elem)) (shape_text shape) (words.Name name ∷ words.Elem elem ∷ []) (shape_words shape) two (shape_reads shape extent) (λ post any some. refl))

abbrev pub array_words : List ℕ → Grid → List Word
array_words name grid = heading_words name grid.elem grid.shape ++ values_words grid.values

array_reads : (name : List ℕ) (grid : Grid) → IsName name → IsGrid grid → Reads Any (array_text name grid) (array_words name grid)
array_reads name grid named h =
    join Any Any (heading_text name grid.elem grid.shape) (rows_text grid.shape.rows grid.shape.cols grid.values) (heading_words name grid.elem grid.shape) (values_words grid.values)
    (heading_reads name grid.elem grid.shape named h.shaped)
    (rows_read grid.shape.rows grid.shape.cols grid.values h.shaped.some_cols h.filled (All-weaker (IsElement grid.elem) IsTyped (λ value is. record { elem = grid.elem; is = is }) grid.values h.typed))
    (λ post any. tt)

abbrev pub arrays_words : Pairs → List Word
arrays_words [] = []
arrays_words (pair ∷ arrays) = array_words pair.0 pair.1 ++ arrays_words arrays

arrays_read_as : (arrays : Pairs) → All IsName (names_of arrays) → All IsGrid (arrays_of arrays) → Reads Any (arrays_text arrays) (arrays_words arrays)
arrays_read_as [] names grids = nothing_reads
arrays_read_as (pair ∷ arrays) names grids =
    join Any Any (array_text pair.0 pair.1) (arrays_text arrays) (array_words pair.0 pair.1) (arrays_words arrays)
    (array_reads pair.0 pair.1 (All-head IsName pair.0 (names_of arrays) names) (All-head IsGrid pair.1 (arrays_of arrays) grids))
    (arrays_read_as arrays (All-tail IsName pair.0 (names_of arrays) names) (All-tail IsGrid pair.1 (arrays_of arrays) grids))
    (λ post any. tt)

-- ---- and the words are the arrays

value_is_read : (value : ℤ) → IsValue (value_words value) value
value_is_read (pos n) = Plain n
value_is_read (negsuc n) = Negative (suc n)

values_are : (before : List Word) (front values : List ℤ) → AreValues before front → AreValues (before ++ values_words values) (front ++ values)
values_are before front [] h = subst (λ ts. AreValues ts (front ++ [])) (sym (append-nil before)) (subst (AreValues before) (sym (append-nil front)) h)
values_are before front (value ∷ values) h =
    let more = values_are (before ++ value_words value) (front ++ value ∷ []) values (MoreValues before (value_words value) front value h (value_is_read value)) in
    subst (λ ts. AreValues ts (front ++ value ∷ values)) (append_assoc before (value_words value) (values_words values))
    (subst (AreValues ((before ++ value_words value) ++ values_words values)) (append_assoc front (value ∷ []) values) more)

arrays_are : (before : List Word) (front arrays : Pairs) → AreArrays before front → AreArrays (before ++ arrays_words arrays) (front ++ arrays)
arrays_are before front [] h = subst (λ ts. AreArrays ts (front ++ [])) (sym (append-nil before)) (subst (AreArrays before) (sym (append-nil front)) h)
arrays_are before front (pair ∷ arrays) h =
    let own = array_words pair.0 pair.1 in
    let one : AreArrays (before ++ own) (front ++ pair ∷ []) = MoreArrays before (values_words pair.1.values) front pair.0 pair.1 h (values_are [] [] pair.1.values NoValues) in
    let more = arrays_are (before ++ own) (front ++ pair ∷ []) arrays one in
    subst (λ ts. AreArrays ts (front ++ pair ∷ arrays)) (append_assoc before own (arrays_words arrays))
    (subst (AreArrays ((before ++ own) ++ arrays_words arrays)) (append_assoc front (pair ∷ []) arrays) more)

-- the text of arrays denotes them
pub text_denotes : (arrays : Pairs) → ArePairs arrays → DenotesArrays (arrays_text arrays) arrays
text_denotes arrays h =
    let text = arrays_text arrays in
    let end : Token = record { kind = kinds.End; start = length text; end = length text } in
    record {
      words = arrays_words arrays;
      end = end;
      is_end = refl;
      behind = record {
        from = length text;
        read = subst (λ t. TokensTo language t 0 (arrays_words arrays) (length text)) (append-nil text) (whole (arrays_read_as arrays h.named h.arrays [] [] tt));
        next_is = (record { after = omega arith; in_text = omega arith; before = λ k le lt. absurd (omega arith); unskipped = λ lt s. absurd (omega arith) }, inl (record { kind = refl; start = refl; end = refl }));
        kept = refl;
      };
      are = arrays_are [] [] arrays NoArrays;
      whole = h;
    }
  where
    whole : TokensTo language ([] ++ (arrays_text arrays ++ [])) 0 (arrays_words arrays) (0 + length (arrays_text arrays)) → TokensTo language (arrays_text arrays ++ []) 0 (arrays_words arrays) (length (arrays_text arrays))
    whole r = let here : 0 + length (arrays_text arrays) ≡ length (arrays_text arrays) = omega arith in subst (λ to. TokensTo language (arrays_text arrays ++ []) 0 (arrays_words arrays) to) here r
