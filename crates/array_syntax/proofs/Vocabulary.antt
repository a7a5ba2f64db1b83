-- The words of the language: what is kept, what is free, and what has no word.
use Rattle.std.proofs.Common.{◌≡◌, ◌≢◌, ◌↔◌, ◌⊎◌, inl, inr, ⊎_elim, ℕ, ◌+◌, ◌≤◌, ◌<◌, Bool, true, false, List, [], ◌∷◌, ◌++◌, length, Option, Some, None, refl, sym, ap, subst, ◌∙◌, arith, append_assoc, append-nil, length-append}
use Rattle.std.specs.Prelude.{nat_le, nat_lt, pos, neg_ℤ, ℤ}
use Rattle.ven_base.specs.declared.elem.Elem.TheVariants as elems
use Rattle.ven_base.specs.declared.ops.Op1.TheVariants as unary
use Rattle.ven_io.specs.Reader.{Reader, Begins, Follows as FollowsGrammar, run_from}
use Rattle.ven_io.proofs.Readers.{run_on, begins_iff}
use Rattle.array_syntax.specs.declared.call.Earlier.{Earlier}
use Rattle.array_syntax.specs.declared.call.Earlier.TheVariants as earlier
use Rattle.array_syntax.specs.declared.call.MapCall.{MapCall}
use Rattle.array_syntax.specs.declared.call.Number.{Number}
use Rattle.array_syntax.specs.declared.frames.Frame.{Frame}
use Rattle.array_syntax.specs.declared.frames.Frame.TheVariants as frames
use Rattle.array_syntax.specs.declared.frames.Sign.{Sign}
use Rattle.array_syntax.specs.declared.frames.Sign.TheVariants as prefixes
use Rattle.array_syntax.specs.declared.machine.Part.{Part}
use Rattle.array_syntax.specs.declared.machine.Part.TheVariants as parts
use Rattle.array_syntax.specs.declared.program.Expr.{Expr}
use Rattle.array_syntax.specs.declared.program.ExprKind.{ExprKind}
use Rattle.array_syntax.specs.declared.program.ExprKind.TheVariants as kinds
use Rattle.array_syntax.specs.declared.program.Stmt.{Stmt}
use Rattle.array_syntax.specs.declared.program.Stmt.TheVariants as stmts
use Rattle.array_syntax.specs.declared.word.Binding.{Binding}
use Rattle.array_syntax.specs.declared.word.Binding.TheVariants as bindings
use Rattle.array_syntax.specs.declared.word.Callee.{Callee}
use Rattle.array_syntax.specs.declared.word.Callee.TheVariants as callees
use Rattle.array_syntax.specs.declared.word.Operator.{Operator}
use Rattle.array_syntax.specs.declared.word.Operator.TheVariants as operators
use Rattle.array_syntax.specs.declared.word.Token.{Token}
use Rattle.array_syntax.specs.declared.word.Word.{Word}
use Rattle.array_syntax.specs.declared.word.Word.TheVariants as words
use Rattle.array_syntax.specs.Grammar as grammar
use Rattle.array_syntax.specs.Grammar.{token, expr, minus, IsNumber, count, followed, bound, IsNumberArgument, Plain, Signed, AreNumbers, Nothing, More, IsExpr, Name, Literal, Negative, Brackets, Flip, Negate, Two, Call, Map, IsBegun, Opened, Argued, AreStatements, Empty, Bound}
use Rattle.array_syntax.specs.Reading as reading
use Rattle.array_syntax.specs.Reading.{State, Begin, AfterWord, AfterName, Want, Minus, Called, Have, WantNumber, SignedNumber, HaveNumber, Stuck, room, choose, one, two, reduce, tight, reach_of, op_of, placed, made, mapped, argued, close, act_of, act, want, after_minus, called, with_value, want_number, signed_number, have_number, begin, input, after_word, after_name, step, ending, reader, run, depth_of, count_of, nodes_read, unless_number, wanted}
use Rattle.array_syntax.specs.Table.{loosest, level, left_level, right_level, operands, numbers, takes_sign, call_of, map_of}
use Rattle.array_syntax.specs.Words.{keywords, sign_words, look_up, name_word, word_of, language}
use Rattle.ven_io.specs.declared.token.TokenFault.{TokenFault}
use Rattle.ven_io.specs.declared.token.TokenFault.TheVariants as token_faults
use Rattle.ven_io.specs.declared.token.TokenKind.{TokenKind}
use Rattle.ven_io.specs.declared.token.TokenKind.TheVariants as token_kinds
use Rattle.ven_io.specs.declared.token.Token.{Token as TextToken}
use Rattle.ven_io.specs.Number.{value_of, number_limit}
use Rattle.ven_io.specs.Tokens.{Language, IsTaken, TokensTo, Here, Passed, Taken, IsKept, IsBehind, place_of}
use Rattle.ven_io.specs.Token.{NextIs, IsSpelling, StandsAt, signs, bytes_of}
use Rattle.ven_io.proofs.Reached.{tokens_on, meets, one_text, Meets, GoesOn, Same, Before, After}
use Rattle.array_syntax.proofs.Splitting.{Splits, split_at, split_behind}
use Rattle.std.specs.Prelude.{if◌then◌else◌, map, Contains, IsTrue, Result, Ok, Err, option_map, ◌||◌}
use Rattle.std.specs.List.{list_any}
use Rattle.std.specs.Str.{bytes_eq}
use Rattle.std.specs.Cmp.Lexicographic.{nat_list_eq_equiv}
use Rattle.std.proofs.lemmas.Map.Views.{list_any-from_Contains}
use Rattle.std.proofs.lemmas.Slice.Eq.{bytes_eq-Decides}
use Rattle.ven_base.specs.Name.{IsNameToken, IsName, reserved_words, name_limit}
use Rattle.array_syntax.specs.Limits.{IsFreeName, own_words}
use Rattle.array_syntax.proofs.Reducing.{some_is, none_some}

spelling : List ℕ × Word → List ℕ
spelling entry = entry.0

same_bytes : (xs ys : List ℕ) → bytes_eq xs ys ≡ true → xs ≡ ys
same_bytes xs ys h = (bytes_eq-Decides xs ys).0 h

-- what is found in a table has one of its spellings
abbrev pub AllShort : List (List ℕ × Word) → Type 0
AllShort [] = Unit {0}
AllShort (entry ∷ table) = (length entry.0 ≤ name_limit) × AllShort table

found_here : (entry : List ℕ × Word) (table : List (List ℕ × Word)) (bytes : List ℕ) (word : Word) → length entry.0 ≤ name_limit → (look_up table bytes ≡ Some word → length bytes ≤ name_limit) → (b : Bool) → bytes_eq bytes entry.0 ≡ b → (if b then Some entry.1 else look_up table bytes) ≡ Some word → length bytes ≤ name_limit
found_here entry table bytes word short ih true is found = let same = ap length (same_bytes bytes entry.0 is) in omega arith
found_here entry table bytes word short ih false is found = ih found

found_short : (table : List (List ℕ × Word)) (bytes : List ℕ) (word : Word) → AllShort table → look_up table bytes ≡ Some word → length bytes ≤ name_limit
found_short [] bytes word short found = absurd (none_some word found)
found_short (entry ∷ table) bytes word short found = found_here entry table bytes word short.0 (λ f. found_short table bytes word short.1 f) (bytes_eq bytes entry.0) refl found

-- a spelling of a table is found
abbrev pub spellings : List (List ℕ × Word) → List (List ℕ)
spellings [] = []
spellings (entry ∷ table) = entry.0 ∷ spellings table

any_found : (entry : List ℕ × Word) (table : List (List ℕ × Word)) (bytes : List ℕ) → (list_any (bytes_eq bytes) (spellings table) ≡ true → look_up table bytes ≡ None → ⊥) → (b : Bool) → (b || list_any (bytes_eq bytes) (spellings table)) ≡ true → (if b then Some entry.1 else look_up table bytes) ≡ None → ⊥
any_found entry table bytes ih true any none = none_some entry.1 (sym none)
any_found entry table bytes ih false any none = ih any none

found_any : (table : List (List ℕ × Word)) (bytes : List ℕ) → list_any (bytes_eq bytes) (spellings table) ≡ true → look_up table bytes ≡ None → ⊥
found_any [] bytes any none = let e : false ≡ true = any in cc
found_any (entry ∷ table) bytes any none = any_found entry table bytes (λ a n. found_any table bytes a n) (bytes_eq bytes entry.0) any none

or_true : (b : Bool) → (b || true) ≡ true
or_true true = refl
or_true false = refl

any_left : (test : List ℕ → Bool) (xs ys : List (List ℕ)) → list_any test xs ≡ true → list_any test (xs ++ ys) ≡ true
any_left test [] ys any = let e : false ≡ true = any in absurd (cc)
any_left test (x ∷ xs) ys any = left_of (test x) (list_any test xs) (list_any test (xs ++ ys)) any (λ a. any_left test xs ys a)
  where
    left_of : (a b c : Bool) → (a || b) ≡ true → (b ≡ true → c ≡ true) → (a || c) ≡ true
    left_of true b c any more = refl
    left_of false b c any more = more any

any_right : (test : List ℕ → Bool) (xs ys : List (List ℕ)) → list_any test ys ≡ true → list_any test (xs ++ ys) ≡ true
any_right test [] ys any = any
any_right test (x ∷ xs) ys any = ap (λ b. test x || b) (any_right test xs ys any) ∙ or_true (test x)

keyword_spellings : spellings keywords ≡ reserved_words ++ own_words
keyword_spellings = refl

sign_spellings : spellings sign_words ≡ signs
sign_spellings = refl

-- what no word is kept for is no reserved word
pub free_of_reserved : (bytes : List ℕ) → look_up keywords bytes ≡ None → ¬ Contains reserved_words bytes
free_of_reserved bytes none within =
    found_any keywords bytes (ap (list_any (bytes_eq bytes)) keyword_spellings ∙ any_left (bytes_eq bytes) reserved_words own_words (list_any-from_Contains nat_list_eq_equiv bytes reserved_words within)) none

pub free_of_own : (bytes : List ℕ) → look_up keywords bytes ≡ None → ¬ Contains own_words bytes
free_of_own bytes none within =
    found_any keywords bytes (ap (list_any (bytes_eq bytes)) keyword_spellings ∙ any_right (bytes_eq bytes) reserved_words own_words (list_any-from_Contains nat_list_eq_equiv bytes own_words within)) none

-- a sign has a word
pub sign_found : (bytes : List ℕ) → Contains signs bytes → look_up sign_words bytes ≡ None → ⊥
sign_found bytes within none = found_any sign_words bytes (ap (list_any (bytes_eq bytes)) sign_spellings ∙ list_any-from_Contains nat_list_eq_equiv bytes signs within) none

keywords_short : AllShort keywords
keywords_short = (omega arith, (omega arith, (omega arith, (omega arith, (omega arith, (omega arith, (omega arith, (omega arith, (omega arith, (omega arith, (omega arith, (omega arith, (omega arith, (omega arith, (omega arith, (omega arith, (omega arith, (omega arith, (omega arith, (omega arith, (omega arith, (omega arith, (omega arith, (omega arith, (omega arith, (omega arith, tt))))))))))))))))))))))))))

is_false : (a b : ℕ) → b < a → nat_le a b ≡ false
is_false a b lt = grind arith

-- a name that is too long has no word
long_none : (bytes : List ℕ) → name_limit < length bytes → (o : Option Word) → look_up keywords bytes ≡ o → name_word o bytes ≡ None
long_none bytes long (Some word) is = let short = found_short keywords bytes word keywords_short is in absurd (omega arith)
long_none bytes long None is = ap (λ b. if b then Some (words.Name bytes) else None) (is_false (length bytes) name_limit long)

large_none : (bytes : List ℕ) → number_limit < value_of bytes → word_of token_kinds.Number bytes ≡ None
large_none bytes large = ap (λ b. if b then Some (words.Number (value_of bytes)) else None) (is_false (value_of bytes) number_limit large)

-- which tokens have no word
abbrev pub HasNone : TokenKind → List ℕ → Type 0
HasNone token_kinds.Name bytes = name_limit < length bytes
HasNone token_kinds.Number bytes = number_limit < value_of bytes
HasNone token_kinds.Sign bytes = ⊥
HasNone _ bytes = Unit {0}

pub no_word : (kind : TokenKind) (bytes : List ℕ) → HasNone kind bytes → word_of kind bytes ≡ None
no_word token_kinds.Name bytes h = long_none bytes h (look_up keywords bytes) refl
no_word token_kinds.Number bytes h = large_none bytes h
no_word token_kinds.Sign bytes h = absurd h
no_word token_kinds.Line bytes h = refl
no_word token_kinds.End bytes h = refl

name_none : (bytes : List ℕ) (o : Option Word) → name_word o bytes ≡ None → name_limit < length bytes
name_none bytes (Some word) is = absurd (none_some word (sym is))
name_none bytes None is = long_of (length bytes) (nat_le (length bytes) name_limit) refl is
  where
    long_of : (n : ℕ) (b : Bool) → nat_le n name_limit ≡ b → (if b then Some (words.Name bytes) else None) ≡ None → name_limit < n
    long_of n true le is = absurd (none_some (words.Name bytes) (sym is))
    long_of n false le is = grind arith

number_none : (bytes : List ℕ) (b : Bool) → nat_le (value_of bytes) number_limit ≡ b → (if b then Some (words.Number (value_of bytes)) else None) ≡ None → number_limit < value_of bytes
number_none bytes true le is = absurd (none_some (words.Number (value_of bytes)) (sym is))
number_none bytes false le is = grind arith

pub none_is : (kind : TokenKind) (bytes : List ℕ) → IsSpelling kind bytes → word_of kind bytes ≡ None → HasNone kind bytes
none_is token_kinds.Name bytes spelled is = name_none bytes (look_up keywords bytes) is
none_is token_kinds.Number bytes spelled is = number_none bytes (nat_le (value_of bytes) number_limit) refl is
none_is token_kinds.Sign bytes spelled is = absurd (sign_found bytes spelled is)
none_is _ bytes spelled is = tt

-- a word that a token may say: a free name, or a number in range
abbrev pub Fits : Word → Type 0
Fits (words.Name bytes) = IsFreeName bytes
Fits (words.Number n) = n ≤ number_limit
Fits _ = Unit {0}

abbrev AllFitWords : List (List ℕ × Word) → Type 0
AllFitWords [] = Unit {0}
AllFitWords (entry ∷ table) = Fits entry.1 × AllFitWords table

found_fits : (table : List (List ℕ × Word)) (bytes : List ℕ) (word : Word) → AllFitWords table → look_up table bytes ≡ Some word → Fits word
found_fits [] bytes word fit found = absurd (none_some word found)
found_fits (entry ∷ table) bytes word fit found = fits_by (bytes_eq bytes entry.0) found (λ f. found_fits table bytes word fit.1 f)
  where
    fits_by : (b : Bool) → (if b then Some entry.1 else look_up table bytes) ≡ Some word → (look_up table bytes ≡ Some word → Fits word) → Fits word
    fits_by true is ih = subst Fits (some_is entry.1 word is) fit.0
    fits_by false is ih = ih is

keywords_fit : AllFitWords keywords
keywords_fit = (tt, (tt, (tt, (tt, (tt, (tt, (tt, (tt, (tt, (tt, (tt, (tt, (tt, (tt, (tt, (tt, (tt, (tt, (tt, (tt, (tt, (tt, (tt, (tt, (tt, (tt, tt))))))))))))))))))))))))))

signs_fit : AllFitWords sign_words
signs_fit = (tt, (tt, (tt, (tt, (tt, (tt, (tt, (tt, (tt, (tt, (tt, (tt, (tt, (tt, (tt, (tt, (tt, (tt, (tt, (tt, (tt, (tt, (tt, tt)))))))))))))))))))))))

name_fits : (bytes : List ℕ) (word : Word) → IsNameToken bytes → (o : Option Word) → look_up keywords bytes ≡ o → name_word o bytes ≡ Some word → Fits word
name_fits bytes word token (Some kept) is found = subst Fits (some_is kept word found) (found_fits keywords bytes kept keywords_fit is)
name_fits bytes word token None is found = free_by (nat_le (length bytes) name_limit) refl found
  where
    free_by : (b : Bool) → nat_le (length bytes) name_limit ≡ b → (if b then Some (words.Name bytes) else None) ≡ Some word → Fits word
    free_by true le found = subst Fits (some_is (words.Name bytes) word found) (record { name = record { token = token; short = grind arith; free = free_of_reserved bytes is }; free = free_of_own bytes is })
    free_by false le found = absurd (none_some word found)

number_fits : (bytes : List ℕ) (word : Word) (b : Bool) → nat_le (value_of bytes) number_limit ≡ b → (if b then Some (words.Number (value_of bytes)) else None) ≡ Some word → Fits word
number_fits bytes word true le found = subst Fits (some_is (words.Number (value_of bytes)) word found) (grind arith)
number_fits bytes word false le found = absurd (none_some word found)

pub word_fits : (kind : TokenKind) (bytes : List ℕ) (word : Word) → IsSpelling kind bytes → word_of kind bytes ≡ Some word → Fits word
word_fits token_kinds.Name bytes word spelled found = name_fits bytes word spelled (look_up keywords bytes) refl found
word_fits token_kinds.Number bytes word spelled found = number_fits bytes word (nat_le (value_of bytes) number_limit) refl found
word_fits token_kinds.Sign bytes word spelled found = found_fits sign_words bytes word signs_fit found
word_fits _ bytes word spelled found = absurd (none_some word found)

-- where the bytes are no name, and no word is kept for them, they are too long
pub name_refused : (bytes : List ℕ) → IsNameToken bytes → None ≡ look_up keywords bytes → ¬ IsName bytes → None ≡ name_word (look_up keywords bytes) bytes
name_refused bytes token none refused = by (nat_le (length bytes) name_limit) refl ∙ ap (λ o. name_word o bytes) none
  where
    by : (b : Bool) → nat_le (length bytes) name_limit ≡ b → None ≡ name_word None bytes
    by true le = absurd (refused (record { token = token; short = grind arith; free = free_of_reserved bytes (sym none) }))
    by false le = ap (λ b. if b then Some (words.Name bytes) else None) (sym le)
