-- Behind words without a fault, what is refused is the first fault of the text.
use Rattle.std.proofs.Common.{◌≡◌, ◌≢◌, ◌⊎◌, inl, inr, ℕ, ◌+◌, ◌<◌, ◌≤◌, List, [], ◌∷◌, ◌++◌, length, Option, Some, None, Result, Ok, Err, refl, sym, ap, subst, ◌∙◌, arith, Contains, All, length-append}
use Rattle.std.specs.Prelude.{ℤ, pos, neg_ℤ}
use Rattle.std.proofs.lemmas.List.{same_from_push}
use Rattle.ven_io.specs.declared.token.Token.{Token}
use Rattle.ven_io.specs.declared.token.TokenFault.{TokenFault}
use Rattle.ven_io.specs.declared.token.TokenKind.{TokenKind}
use Rattle.ven_io.specs.declared.token.TokenKind.TheVariants as kinds
use Rattle.ven_io.specs.Token.{bytes_of}
use Rattle.ven_io.specs.Reader.{run_from}
use Rattle.ven_io.specs.Tokens.{IsBehind, place_of}
use Rattle.ven_io.proofs.Readers.{run_on}
use Rattle.ven_io.proofs.Reached.{one_text, Meets, Same, Before, After}
use Rattle.ven_base.specs.declared.elem.Elem.{Elem}
use Rattle.ven_base.specs.Elem.{IsElement}
use Rattle.ven_base.specs.Extent.{Extent, IsExtent, elements_of}
use Rattle.ven_base.specs.First.{IsFirst}
use Rattle.ven_base.specs.Grid.{Grid, IsGrid}
use Rattle.ven_base.specs.Pairs.{Pairs, ArePairs, names_of}
use Rattle.array_file.specs.declared.fault.ArrayFault.{ArrayFault}
use Rattle.array_file.specs.declared.word.Word.{Word}
use Rattle.array_file.specs.declared.word.Word.TheVariants as words
use Rattle.array_file.specs.Faults.{BeginsArrays, BeginsWith, seen, IsUnexpected, NoToken, NoWord, NoArrays, NoEnd, NoShape, EndsWith, IsTwice, IsOutOfType, BeginsValue, IsCountWrong, Cause, Unexpected, Twice, OutOfType, CountWrong, rank_of, Holds, TextFault, rank, IsFault, answer_of, IsRefused}
use Rattle.array_file.specs.Grammar.{shape_words, IsValue, Plain, Negative, AreArrays}
use Rattle.array_file.specs.Reading.{State, Begin, AfterName, AfterType, AfterOpen, AfterRows, AfterComma, AfterCols, Values, AfterMinus, Stuck, empty_grid, with_value, step, ending, run, IsNew, IsGood}
use Rattle.array_file.specs.Words.{language, word_of}
use Rattle.array_file.proofs.Ahead.{Ahead, Within, Beyond, next_word, compare}
use Rattle.array_file.proofs.Following.{none_some, some_is, name_next, arrays_read, read_arrays_are, stuck_on, begins_goes, goes_begins}
use Rattle.array_file.proofs.Goodness.{whole_last, good_back, goods_back, good_goes, good_value}

-- ---- what stands next

pub seen_one : (text : List ℕ) (next : Result Token TokenFault) (one other : Word) → seen text next ≡ Some one → seen text next ≡ Some other → one ≡ other
seen_one text next one other h g = some_is one other (sym h ∙ g)

pub seen_none : (text : List ℕ) (next : Result Token TokenFault) (word : Word) → seen text next ≡ None → seen text next ≡ Some word → ⊥
seen_none text next word h g = none_some word (sym h ∙ g)

end_word : (kind : TokenKind) (bytes : List ℕ) → kind ≡ kinds.End → word_of kind bytes ≡ None
end_word kind bytes e = ap (λ k. word_of k bytes) e

pub end_seen : (text : List ℕ) (next : Result Token TokenFault) (token : Token) → next ≡ Ok token → token.kind ≡ kinds.End → seen text next ≡ None
end_seen text next token is kind = ap (seen text) is ∙ end_word token.kind (bytes_of text token) kind

fault_seen : (text : List ℕ) (next : Result Token TokenFault) (fault : TokenFault) → next ≡ Err fault → seen text next ≡ None
fault_seen text next fault is = ap (seen text) is

-- ---- words before the last

pub run_push : (tokens : List Word) (word : Word) → run (tokens ++ word ∷ []) ≡ step (run tokens) word
run_push tokens word = run_on step (Begin []) tokens (word ∷ [])

-- a shape or a value has begun
abbrev pub IsPending : State → Type 0
IsPending (AfterOpen done name elem) = Unit {0}
IsPending (AfterRows done name elem rows) = Unit {0}
IsPending (AfterComma done name elem rows) = Unit {0}
IsPending (AfterCols done name elem rows cols) = Unit {0}
IsPending (AfterMinus done name grid) = Unit {0}
IsPending s = ⊥

-- what stands next doesn't go on with a shape or a value that has begun
abbrev pub Stops : List ℕ → List Word → Result Token TokenFault → Type 0
Stops text tokens next = (word : Word) → seen text next ≡ Some word → IsPending (run tokens) → step (run tokens) word ≡ Stuck

-- no word has a fault
pub record IsFaultless (text : List ℕ) (tokens : List Word) : Type 0 where
  pub none : (front rest : List Word) (own : Word) (next : Result Token TokenFault) (cause : Cause) → tokens ≡ front ++ own ∷ rest
      → IsBehind language text front next → seen text next ≡ Some own → ¬ Holds text front next cause

-- a shape stands behind a type alone
pub record IsAfterType (s : State) : Type 0 where
  pub done : Pairs
  pub name : List ℕ
  pub elem : Elem
  pub is : s ≡ AfterType done name elem

opens_after : (s : State) → step s words.Open ≢ Stuck → IsAfterType s
opens_after (Begin done) goes = absurd (goes refl)
opens_after (AfterName done name) goes = absurd (goes refl)
opens_after (AfterType done name elem) goes = record { done = done; name = name; elem = elem; is = refl }
opens_after (AfterOpen done name elem) goes = absurd (goes refl)
opens_after (AfterRows done name elem rows) goes = absurd (goes refl)
opens_after (AfterComma done name elem rows) goes = absurd (goes refl)
opens_after (AfterCols done name elem rows cols) goes = absurd (goes refl)
opens_after (Values done name grid) goes = absurd (goes refl)
opens_after (AfterMinus done name grid) goes = absurd (goes refl)
opens_after Stuck goes = absurd (goes refl)

first_goes : (s : State) (word : Word) (rest : List Word) → run_from step s (word ∷ rest) ≢ Stuck → step s word ≢ Stuck
first_goes s word rest goes e = goes (ap (λ t. run_from step t rest) e ∙ stuck_on rest)

pub shape_after : (tokens rest : List Word) → run (tokens ++ words.Open ∷ rest) ≢ Stuck → IsAfterType (run tokens)
shape_after tokens rest goes = opens_after (run tokens) (first_goes (run tokens) words.Open rest (λ e. goes (run_on step (Begin []) tokens (words.Open ∷ rest) ∙ e)))

-- in the middle of a shape the next word goes on
record Middle (done : Pairs) (name : List ℕ) (elem : Elem) (xs : List Word) (word : Word) : Type 0 where
  pending : IsPending (run_from step (AfterType done name elem) xs)
  goes : step (run_from step (AfterType done name elem) xs) word ≢ Stuck

in_shape : (done : Pairs) (name : List ℕ) (elem : Elem) (shape : Extent) (own : Word) (xs : List Word) (word : Word) (rest : List Word) → shape_words shape ≡ (own ∷ xs) ++ word ∷ rest → Middle done name elem (own ∷ xs) word
in_shape done name elem shape own [] word rest e =
    let a : words.Open ≡ own = cc in
    let w : words.Number shape.rows ≡ word = cc in
    subst (λ o. Middle done name elem (o ∷ []) word) a (subst (λ v. Middle done name elem (words.Open ∷ []) v) w (record { pending = tt; goes = λ d. absurd (cc) }))
in_shape done name elem shape own (x ∷ []) word rest e =
    let a : words.Open ∷ words.Number shape.rows ∷ [] ≡ own ∷ x ∷ [] = cc in
    let w : words.Comma ≡ word = cc in
    subst (λ o. Middle done name elem o word) a (subst (λ v. Middle done name elem (words.Open ∷ words.Number shape.rows ∷ []) v) w (record { pending = tt; goes = λ d. absurd (cc) }))
in_shape done name elem shape own (x ∷ y ∷ []) word rest e =
    let a : words.Open ∷ words.Number shape.rows ∷ words.Comma ∷ [] ≡ own ∷ x ∷ y ∷ [] = cc in
    let w : words.Number shape.cols ≡ word = cc in
    subst (λ o. Middle done name elem o word) a (subst (λ v. Middle done name elem (words.Open ∷ words.Number shape.rows ∷ words.Comma ∷ []) v) w (record { pending = tt; goes = λ d. absurd (cc) }))
in_shape done name elem shape own (x ∷ y ∷ z ∷ []) word rest e =
    let a : words.Open ∷ words.Number shape.rows ∷ words.Comma ∷ words.Number shape.cols ∷ [] ≡ own ∷ x ∷ y ∷ z ∷ [] = cc in
    let w : words.Close ≡ word = cc in
    subst (λ o. Middle done name elem o word) a (subst (λ v. Middle done name elem (words.Open ∷ words.Number shape.rows ∷ words.Comma ∷ words.Number shape.cols ∷ []) v) w (record { pending = tt; goes = λ d. absurd (cc) }))
in_shape done name elem shape own (x ∷ y ∷ z ∷ u ∷ xs) word rest e = absurd (omega (arith, ap length e, length-append xs (word ∷ rest)))

-- a shape that is read has its sizes
shape_good : (text : List ℕ) (s : State) (own : Word) (rest : List Word) (next : Result Token TokenFault) (shape : Extent) → IsAfterType s → IsGood (run_from step s (own ∷ rest))
    → ((word : Word) → seen text next ≡ Some word → IsPending (run_from step s (own ∷ rest)) → step (run_from step s (own ∷ rest)) word ≡ Stuck)
    → Ahead text (own ∷ rest) next (shape_words shape) → IsExtent shape
shape_good text s own rest next shape after good stops (Within more all) =
    let start = AfterType after.done after.name after.elem in
    let here : run_from step s (own ∷ rest) ≡ run_from step (Values after.done after.name (empty_grid after.elem shape.rows shape.cols)) more =
    ap (λ t. run_from step t (own ∷ rest)) after.is ∙ ap (run_from step start) all in
    (goods_back (Values after.done after.name (empty_grid after.elem shape.rows shape.cols)) more (subst IsGood here good)).1
shape_good text s own rest next shape after good stops (Beyond word more is all) =
    let m = in_shape after.done after.name after.elem shape own rest word more all in
    let here : run_from step s (own ∷ rest) ≡ run_from step (AfterType after.done after.name after.elem) (own ∷ rest) = ap (λ t. run_from step t (own ∷ rest)) after.is in
    absurd (m.goes (ap (λ t. step t word) (sym here) ∙ stops word is (subst IsPending (sym here) m.pending)))

-- the state in which a value may begin, with the last array
pub record IsValues (s : State) (name : List ℕ) (grid : Grid) : Type 0 where
  pub done : Pairs
  pub own : List ℕ
  pub is : s ≡ Values done own grid

values_at : (s : State) (arrays : Pairs) (name : List ℕ) (grid : Grid) (word : Word) → ending s ≡ Some (arrays ++ (name, grid) ∷ []) → BeginsValue (Some word) → step s word ≢ Stuck → IsValues s name grid
values_at (Begin done) arrays name grid (words.Number n) e begins goes = absurd (goes refl)
values_at (Begin done) arrays name grid words.Minus e begins goes = absurd (goes refl)
values_at (Values done own g) arrays name grid word e begins goes =
    let pair = (same_from_push done arrays (own, g) (name, grid) (some_is (done ++ (own, g) ∷ []) (arrays ++ (name, grid) ∷ []) e)).1 in
    record { done = done; own = own; is = ap (λ x. Values done own x) (ap (λ (p : List ℕ × Grid). p.1) pair) }
values_at (Begin done) arrays name grid word e begins goes = absurd begins
values_at s arrays name grid word e begins goes = absurd (none_some (arrays ++ (name, grid) ∷ []) e)

good_plain : (s : State) (name : List ℕ) (grid : Grid) (n : ℕ) → IsValues s name grid → IsGood (step s (words.Number n)) → IsElement grid.elem (pos n)
good_plain s name grid n v good = good_value v.done v.own grid (pos n) (subst (λ t. IsGood (step t (words.Number n))) v.is good)

good_negative : (s : State) (name : List ℕ) (grid : Grid) (n : ℕ) (rest : List Word) → IsValues s name grid → IsGood (run_from step s (words.Minus ∷ words.Number n ∷ rest)) → IsElement grid.elem (neg_ℤ (pos n))
good_negative s name grid n rest v good =
    good_value v.done v.own grid (neg_ℤ (pos n)) (goods_back (Values v.done v.own (with_value grid (neg_ℤ (pos n)))) rest (subst (λ t. IsGood (run_from step t (words.Minus ∷ words.Number n ∷ rest))) v.is good))

same_head : (a b : Word) (xs ys : List Word) → a ∷ xs ≡ b ∷ ys → a ≡ b
same_head a b xs ys e = cc

same_tail : (a b : Word) (xs ys : List Word) → a ∷ xs ≡ b ∷ ys → xs ≡ ys
same_tail a b xs ys e = cc

-- a value that is read is of its type
value_good : (text : List ℕ) (s : State) (arrays : Pairs) (name : List ℕ) (grid : Grid) (own : Word) (rest : List Word) (next : Result Token TokenFault) (ys : List Word) (value : ℤ) → ending s ≡ Some (arrays ++ (name, grid) ∷ []) → IsGood (run_from step s (own ∷ rest))
    → ((word : Word) → seen text next ≡ Some word → IsPending (run_from step s (own ∷ rest)) → step (run_from step s (own ∷ rest)) word ≡ Stuck)
    → IsValue ys value → Ahead text (own ∷ rest) next ys → IsElement grid.elem value
value_good text s arrays name grid own rest next _ _ e good stops (Plain n) (Within more all) =
    let here = same_head own (words.Number n) rest more all in
    let first : IsGood (step s (words.Number n)) = subst (λ w. IsGood (step s w)) here (goods_back (step s own) rest good) in
    good_plain s name grid n (values_at s arrays name grid (words.Number n) e tt (good_goes (step s (words.Number n)) first)) first
value_good text s arrays name grid own rest next _ _ e good stops (Plain n) (Beyond word more is all) = absurd (omega (arith, ap length all, length-append rest (word ∷ more)))
value_good text s arrays name grid own rest next _ _ e good stops (Negative n) (Within more all) =
    let whole : IsGood (run_from step s (words.Minus ∷ words.Number n ∷ more)) = subst (λ ws. IsGood (run_from step s ws)) all good in
    let first : IsGood (step s words.Minus) = goods_back (step s words.Minus) (words.Number n ∷ more) whole in
    good_negative s name grid n more (values_at s arrays name grid words.Minus e tt (good_goes (step s words.Minus) first)) whole
value_good text s arrays name grid own [] next _ _ e good stops (Negative n) (Beyond word more is all) =
    let a : own ≡ words.Minus = cc in
    let w : word ≡ words.Number n = cc in
    let first : IsGood (step s words.Minus) = subst (λ o. IsGood (step s o)) a good in
    let v = values_at s arrays name grid words.Minus e tt (good_goes (step s words.Minus) first) in
    let here : step s own ≡ AfterMinus v.done v.own grid = ap (step s) a ∙ ap (λ t. step t words.Minus) v.is in
    let stuck : step (step s own) word ≡ Stuck = stops word is (subst IsPending (sym here) tt) in
    let goes : Values v.done v.own (with_value grid (neg_ℤ (pos n))) ≡ Stuck = ap (λ t. step t (words.Number n)) (sym here) ∙ ap (step (step s own)) (sym w) ∙ stuck in
    absurd (cc)
value_good text s arrays name grid own (x ∷ rest) next _ _ e good stops (Negative n) (Beyond word more is all) = absurd (omega (arith, ap length all, length-append rest (word ∷ more)))

-- arrays that something other than a value follows are whole
whole_before : (s : State) (arrays : Pairs) (word : Word) → ending s ≡ Some arrays → ¬ BeginsValue (Some word) → IsGood (step s word) → ArePairs arrays
whole_before (Begin done) arrays (words.Name next) e ends good = subst ArePairs (some_is done arrays e) good.whole
whole_before (Begin done) arrays word e ends good = absurd good
whole_before (Values done name grid) arrays (words.Name next) e ends good = subst ArePairs (some_is (done ++ (name, grid) ∷ []) arrays e) good.whole
whole_before (Values done name grid) arrays (words.Number n) e ends good = absurd (ends tt)
whole_before (Values done name grid) arrays words.Minus e ends good = absurd (ends tt)
whole_before (Values done name grid) arrays word e ends good = absurd good
whole_before s arrays word e ends good = absurd (none_some arrays e)

-- good words have no fault before the last
pub faultless : (text : List ℕ) (tokens : List Word) (next : Result Token TokenFault) → IsBehind language text tokens next → IsGood (run tokens) → Stops text tokens next → IsFaultless text tokens
faultless text tokens next behind good stops = record { none = λ front rest own there cause all at is holds. none_at front rest own there cause all at is holds }
  where
    good_from : (front rest : List Word) (own : Word) → tokens ≡ front ++ own ∷ rest → IsGood (run_from step (run front) (own ∷ rest))
    good_from front rest own all = subst IsGood (run_on step (Begin []) front (own ∷ rest)) (subst (λ ts. IsGood (run ts)) all good)

    stops_from : (front rest : List Word) (own : Word) → tokens ≡ front ++ own ∷ rest → (word : Word) → seen text next ≡ Some word → IsPending (run_from step (run front) (own ∷ rest)) → step (run_from step (run front) (own ∷ rest)) word ≡ Stuck
    stops_from front rest own all word is pending =
        let here : run tokens ≡ run_from step (run front) (own ∷ rest) = ap run all ∙ run_on step (Begin []) front (own ∷ rest) in
        ap (λ t. step t word) (sym here) ∙ stops word is (subst IsPending (sym here) pending)

    good_next : (front rest : List Word) (own : Word) → tokens ≡ front ++ own ∷ rest → IsGood (step (run front) own)
    good_next front rest own all = goods_back (step (run front) own) rest (good_from front rest own all)

    here_from : (front rest : List Word) (own : Word) → tokens ≡ front ++ own ∷ rest → IsBehind language text (front ++ own ∷ rest) next
    here_from front rest own all = subst (λ ts. IsBehind language text ts next) all behind

    goes_on : (front rest : List Word) (own : Word) → tokens ≡ front ++ own ∷ rest → BeginsArrays (front ++ own ∷ [])
    goes_on front rest own all = goes_begins (front ++ own ∷ []) (λ e. good_goes (step (run front) own) (good_next front rest own all) (sym (run_push front own) ∙ e))

    no_unexpected : (front rest : List Word) (own : Word) (there : Result Token TokenFault) → tokens ≡ front ++ own ∷ rest → seen text there ≡ Some own → IsUnexpected text front there → ⊥
    no_unexpected front rest own there all is (NoToken fault e) = seen_none text there own (fault_seen text there fault e) is
    no_unexpected front rest own there all is (NoWord token e some none) = seen_none text there own none is
    no_unexpected front rest own there all is (NoArrays word other stuck) =
        stuck (subst (λ w. BeginsArrays (front ++ w ∷ [])) (seen_one text there own word is other) (goes_on front rest own all))
    no_unexpected front rest own there all is (NoEnd token e kind none) = seen_none text there own (end_seen text there token e kind) is
    no_unexpected front rest own there all is (NoShape shape with_shape begins bad) =
        bad (shape_good text (run front) own rest next shape (shape_after front _ (begins_goes (front ++ shape_words shape) begins)) (good_from front rest own all) (stops_from front rest own all)
        (compare text front (own ∷ rest) (shape_words shape) next (here_from front rest own all) with_shape))

    no_twice : (front rest : List Word) (own : Word) (there : Result Token TokenFault) (name : List ℕ) → tokens ≡ front ++ own ∷ rest → seen text there ≡ Some own → IsTwice text front there name → ⊥
    no_twice front rest own there name all is h =
        let word : own ≡ words.Name name = seen_one text there own (words.Name name) is h.again in
        let after : step (run front) own ≡ AfterName h.arrays name = ap (step (run front)) word ∙ name_next (run front) h.arrays name (arrays_read front h.arrays h.are) in
        let new : IsNew h.arrays name = subst IsGood after (good_next front rest own all) in
        new.new h.there

    no_miscount : (front rest : List Word) (own : Word) (there : Result Token TokenFault) (name : List ℕ) (need have : ℕ) → tokens ≡ front ++ own ∷ rest → seen text there ≡ Some own → IsCountWrong text front there name need have → ⊥
    no_miscount front rest own there name need have all is h =
        let (arrays, are) = h.ends in
        let stops_there : ¬ BeginsValue (Some own) = subst (λ w. ¬ BeginsValue w) is h.no_more in
        let whole : ArePairs (arrays ++ (name, h.grid) ∷ []) = whole_before (run front) (arrays ++ (name, h.grid) ∷ []) own (arrays_read front (arrays ++ (name, h.grid) ∷ []) are) stops_there (good_next front rest own all) in
        h.differ (h.need_is ∙ sym (whole_last arrays name h.grid whole).filled ∙ sym h.have_is)

    no_outside : (front rest : List Word) (own : Word) → tokens ≡ front ++ own ∷ rest → IsOutOfType text front → ⊥
    no_outside front rest own all h =
        let (arrays, are) = h.ends in
        h.outside (value_good text (run front) arrays h.name h.grid own rest next h.own h.value (arrays_read front (arrays ++ (h.name, h.grid) ∷ []) are) (good_from front rest own all) (stops_from front rest own all) h.is
        (compare text front (own ∷ rest) h.own next (here_from front rest own all) h.behind))

    none_at : (front rest : List Word) (own : Word) (there : Result Token TokenFault) (cause : Cause) → tokens ≡ front ++ own ∷ rest → IsBehind language text front there → seen text there ≡ Some own → Holds text front there cause → ⊥
    none_at front rest own there Unexpected all at is h = no_unexpected front rest own there all is h
    none_at front rest own there (Twice name) all at is h = no_twice front rest own there name all is h
    none_at front rest own there OutOfType all at is h = no_outside front rest own all h
    none_at front rest own there (CountWrong name need have) all at is h = no_miscount front rest own there name need have all is h

-- ---- the first fault

pub first_here : (text : List ℕ) (tokens : List Word) (next : Result Token TokenFault) (cause : Cause) → IsBehind language text tokens next → IsFaultless text tokens → Holds text tokens next cause → ((other : Cause) → Holds text tokens next other → rank_of cause ≤ rank_of other) → IsFirst (IsFault text) (λ f. f.at) rank (record { cause = cause; at = place_of next })
first_here text tokens next cause behind clean holds least = record {
  here = record { words = tokens; next = next; behind = behind; place = refl; cause = holds };
  first = λ other f. later other f (one_text language text tokens f.words next f.next behind f.behind);
}
  where
    later : (other : TextFault) (f : IsFault text other) → Meets language text tokens next f.words f.next → (place_of next < other.at) ⊎ ((place_of next ≡ other.at) × (rank_of cause ≤ rank_of other.cause))
    later other f (Same all is) =
        inr (ap place_of is ∙ sym f.place, least other.cause (subst (λ n. Holds text tokens n other.cause) (sym is) (subst (λ ts. Holds text ts f.next other.cause) (sym all) f.cause)))
    later other f (Before g) = let e = f.place in let at = ap place_of g.is in inl (omega (arith, g.before))
    later other f (After g) = absurd (clean.none f.words g.rest g.own f.next other.cause g.all f.behind (ap (seen text) g.is ∙ g.takes) f.cause)

pub refused : (text : List ℕ) (tokens : List Word) (next : Result Token TokenFault) (cause : Cause) → IsBehind language text tokens next → IsFaultless text tokens → Holds text tokens next cause → ((other : Cause) → Holds text tokens next other → rank_of cause ≤ rank_of other) → IsRefused text (answer_of cause (place_of next))
refused text tokens next cause behind clean holds least =
    record { fault = record { cause = cause; at = place_of next }; first = first_here text tokens next cause behind clean holds least; is = refl }

rank_least : (cause : Cause) → 1 ≤ rank_of cause
rank_least Unexpected = omega arith
rank_least (Twice name) = omega arith
rank_least OutOfType = omega arith
rank_least (CountWrong name need have) = omega arith

pub unexpected : (text : List ℕ) (tokens : List Word) (next : Result Token TokenFault) → IsBehind language text tokens next → IsFaultless text tokens → IsUnexpected text tokens next → IsRefused text (answer_of Unexpected (place_of next))
unexpected text tokens next behind clean holds = refused text tokens next Unexpected behind clean holds (λ other h. rank_least other)

-- ---- causes that don't hold

-- a word that goes on and opens no shape isn't unexpected
pub goes_expected : (text : List ℕ) (tokens : List Word) (next : Result Token TokenFault) (word : Word) → IsBehind language text tokens next → seen text next ≡ Some word → step (run tokens) word ≢ Stuck → word ≢ words.Open → ¬ IsUnexpected text tokens next
goes_expected text tokens next word behind is goes other (NoToken fault e) = seen_none text next word (fault_seen text next fault e) is
goes_expected text tokens next word behind is goes other (NoWord token e some none) = seen_none text next word none is
goes_expected text tokens next word behind is goes other (NoArrays own there stuck) =
    stuck (subst (λ w. BeginsArrays (tokens ++ w ∷ [])) (seen_one text next word own is there) (goes_begins (tokens ++ word ∷ []) (λ e. goes (sym (run_push tokens word) ∙ e))))
goes_expected text tokens next word behind is goes other (NoEnd token e kind none) = seen_none text next word (end_seen text next token e kind) is
goes_expected text tokens next word behind is goes other (NoShape shape with_shape begins bad) = other (seen_one text next word words.Open is (next_word text tokens next words.Open _ behind with_shape))

pub end_expected : (text : List ℕ) (tokens : List Word) (token : Token) (arrays : Pairs) → IsBehind language text tokens (Ok token) → token.kind ≡ kinds.End → AreArrays tokens arrays → ¬ IsUnexpected text tokens (Ok token)
end_expected text tokens token arrays behind end are (NoToken fault e) = absurd (cc)
end_expected text tokens token arrays behind end are (NoWord other e some none) = let same : token ≡ other = ok_is token other e in some (ap (λ (t : Token). t.kind) (sym same) ∙ end)
  where
    ok_is : (t u : Token) → (let a : Result Token TokenFault = Ok t in a) ≡ Ok u → t ≡ u
    ok_is t u e = cc
end_expected text tokens token arrays behind end are (NoArrays word is stuck) = seen_none text (Ok token) word (end_seen text (Ok token) token refl end) is
end_expected text tokens token arrays behind end are (NoEnd other e kind none) = none arrays are
end_expected text tokens token arrays behind end are (NoShape shape with_shape begins bad) =
    seen_none text (Ok token) words.Open (end_seen text (Ok token) token refl end) (next_word text tokens (Ok token) words.Open _ behind with_shape)

-- a value begins with a value's word
pub outside_begins : (text : List ℕ) (tokens : List Word) (next : Result Token TokenFault) → IsBehind language text tokens next → IsOutOfType text tokens → BeginsValue (seen text next)
outside_begins text tokens next behind h = by h.own h.value h.is h.behind
  where
    by : (own : List Word) (value : ℤ) → IsValue own value → BeginsWith text (tokens ++ own) → BeginsValue (seen text next)
    by _ _ (Plain n) begins = subst BeginsValue (sym (next_word text tokens next (words.Number n) [] behind begins)) tt
    by _ _ (Negative n) begins = subst BeginsValue (sym (next_word text tokens next words.Minus (words.Number n ∷ []) behind begins)) tt
