-- What is answered at a word that isn't taken, and at the text's end.
use Rattle.std.proofs.Common.{◌≡◌, ◌≢◌, ◌⊎◌, inl, inr, ℕ, ◌+◌, ◌<◌, ◌≤◌, List, [], ◌∷◌, ◌++◌, length, Some, None, Result, Ok, Err, refl, sym, ap, subst, ◌∙◌, arith, append_assoc, Contains}
use Rattle.std.specs.Prelude.{ℤ, pos, neg_ℤ}
use Rattle.std.proofs.lemmas.List.{append-nil}
use Rattle.ven_io.specs.declared.token.Token.{Token}
use Rattle.ven_io.specs.declared.token.TokenFault.{TokenFault}
use Rattle.ven_io.specs.declared.token.TokenKind.TheVariants as kinds
use Rattle.ven_io.specs.Token.{bytes_of}
use Rattle.ven_io.specs.Reader.{run_from}
use Rattle.ven_io.specs.Tokens.{IsTaken, TokensTo, Here, Taken, IsBehind, place_of}
use Rattle.ven_io.proofs.Readers.{run_on}
use Rattle.ven_io.proofs.Reached.{tokens_on}
use Rattle.ven_base.specs.declared.elem.Elem.{Elem}
use Rattle.ven_base.specs.Elem.{IsElement}
use Rattle.ven_base.specs.Extent.{Extent, IsExtent, elements_of}
use Rattle.ven_base.specs.Grid.{Grid}
use Rattle.ven_base.specs.Pairs.{Pairs, ArePairs, names_of}
use Rattle.array_file.specs.declared.fault.ArrayFault.{ArrayFault}
use Rattle.array_file.specs.declared.fault.ArrayFault.TheVariants as answers
use Rattle.array_file.specs.declared.word.Word.{Word}
use Rattle.array_file.specs.declared.word.Word.TheVariants as words
use Rattle.array_file.specs.Faults.{DenotesArrays, BeginsArrays, BeginsWith, seen, IsUnexpected, NoToken, NoWord, NoArrays, NoEnd, NoShape, EndsWith, IsTwice, BeginsValue, IsCountWrong, Cause, Unexpected, Twice, OutOfType, CountWrong, rank_of, Holds, IsRefused, IsAnswered}
use Rattle.array_file.specs.Grammar.{shape_words, Plain, Negative, AreArrays}
use Rattle.array_file.specs.Reading.{State, Begin, AfterName, AfterType, AfterOpen, AfterRows, AfterComma, AfterCols, Values, AfterMinus, Stuck, step, ending, run, IsGood, count_in}
use Rattle.array_file.specs.Steps.{begun_words, HasBegun, IsBegun, HasRead, StandsFrom, HasBadShape, IsBadValue, ComesAgain, IsMiscounted, IsRefusal, BeginsAt, IsEndRefusal}
use Rattle.array_file.specs.Words.{language}
use Rattle.array_file.proofs.Ahead.{next_word}
use Rattle.array_file.proofs.Following.{none_some, some_is, arrays_read, read_arrays_are, begins_goes, goes_begins}
use Rattle.array_file.proofs.Goodness.{goods_back, good_goes, counts_on}
use Rattle.array_file.proofs.Texts.{seen_one, seen_none, end_seen, run_push, IsPending, Stops, IsFaultless, IsAfterType, shape_after, faultless, refused, unexpected, goes_expected, end_expected, outside_begins}

-- ---- what has been read, and what stands behind it

pub behind_of : (text : List ℕ) (from : ℕ) (s : State) (at : ℕ) (next : Result Token TokenFault) (h : HasRead text from s at) → StandsFrom text from next → IsBehind language text h.tokens next
behind_of text from s at next h stands = record {
  from = stands.place;
  read = subst (λ ts. TokensTo language text 0 ts stands.place) (append-nil h.tokens) (tokens_on language text 0 from stands.place h.tokens [] h.read stands.passed);
  next_is = stands.next_is;
  kept = stands.kept;
}

some_kind : (text : List ℕ) (raw : Token) (word : Word) → seen text (Ok raw) ≡ Some word → raw.kind ≢ kinds.End
some_kind text raw word is kind = seen_none text (Ok raw) word (end_seen text (Ok raw) raw refl kind) is

read_to : (text : List ℕ) (from : ℕ) (s : State) (at : ℕ) (raw : Token) (word : Word) (h : HasRead text from s at) → StandsFrom text from (Ok raw) → seen text (Ok raw) ≡ Some word → TokensTo language text 0 (h.tokens ++ word ∷ []) raw.end
read_to text from s at raw word h stands is =
    let taken : IsTaken language text stands.place raw word = record { next = stands.next_is; some = some_kind text raw word is; kept = stands.kept; is = is } in
    tokens_on language text 0 from raw.end h.tokens (word ∷ []) h.read
    (tokens_on language text from stands.place raw.end [] (word ∷ []) stands.passed (Taken stands.place raw.end raw word [] taken (Here raw.end)))

good_run : (text : List ℕ) (from : ℕ) (s : State) (at : ℕ) (h : HasRead text from s at) → IsGood (run h.tokens)
good_run text from s at h = subst IsGood h.state h.good

-- a state that isn't pending
calm : (text : List ℕ) (tokens : List Word) (next : Result Token TokenFault) (s : State) → s ≡ run tokens → ¬ IsPending s → Stops text tokens next
calm text tokens next s is calm_there word seen_there pending = absurd (calm_there (subst IsPending (sym is) pending))

no_next : (text : List ℕ) (tokens : List Word) (next : Result Token TokenFault) → seen text next ≡ None → Stops text tokens next
no_next text tokens next none word is pending = absurd (seen_none text next word none is)

-- ---- a byte that begins no token, and a token that is no word

pub no_token : (text : List ℕ) (from : ℕ) (s : State) (at : ℕ) (fault : TokenFault) → HasRead text from s at → StandsFrom text from (Err fault) → IsAnswered text (answers.Unexpected (place_of (Err fault)))
no_token text from s at fault h stands =
    let behind = behind_of text from s at (Err fault) h stands in
    unexpected text h.tokens (Err fault) behind (faultless text h.tokens (Err fault) behind (good_run text from s at h) (no_next text h.tokens (Err fault) refl)) (NoToken fault refl)

pub no_word : (text : List ℕ) (from : ℕ) (s : State) (at : ℕ) (raw : Token) → HasRead text from s at → StandsFrom text from (Ok raw) → raw.kind ≢ kinds.End → seen text (Ok raw) ≡ None → IsAnswered text (answers.Unexpected raw.start)
no_word text from s at raw h stands some none =
    let behind = behind_of text from s at (Ok raw) h stands in
    unexpected text h.tokens (Ok raw) behind (faultless text h.tokens (Ok raw) behind (good_run text from s at h) (no_next text h.tokens (Ok raw) none)) (NoWord raw refl some none)

-- ---- a word that isn't taken

stuck_word : (text : List ℕ) (from : ℕ) (s : State) (at : ℕ) (raw : Token) (word : Word) → HasRead text from s at → StandsFrom text from (Ok raw) → seen text (Ok raw) ≡ Some word → step s word ≡ Stuck → IsRefused text (answers.Unexpected raw.start)
stuck_word text from s at raw word h stands is stuck =
    let behind = behind_of text from s at (Ok raw) h stands in
    let here : step (run h.tokens) word ≡ Stuck = ap (λ t. step t word) (sym h.state) ∙ stuck in
    unexpected text h.tokens (Ok raw) behind
    (faultless text h.tokens (Ok raw) behind (good_run text from s at h) (λ other seen_there pending. ap (step (run h.tokens)) (seen_one text (Ok raw) other word seen_there is) ∙ here))
    (NoArrays word is (λ b. begins_goes (h.tokens ++ word ∷ []) b (run_push h.tokens word ∙ here)))

good_front : (tokens front rest : List Word) → tokens ≡ front ++ rest → IsGood (run tokens) → IsGood (run front)
good_front tokens front rest all good = goods_back (run front) rest (subst IsGood (ap run all ∙ run_on step (Begin []) front rest) good)

bad_shape : (text : List ℕ) (from : ℕ) (done : Pairs) (name : List ℕ) (elem : Elem) (rows cols at : ℕ) (raw : Token) → HasRead text from (AfterCols done name elem rows cols) at → StandsFrom text from (Ok raw) → seen text (Ok raw) ≡ Some words.Close → ¬ IsExtent (record { rows = rows; cols = cols }) → IsRefused text (answers.Unexpected at)
bad_shape text from done name elem rows cols at raw h stands is bad =
    let s = AfterCols done name elem rows cols in
    let shape : Extent = record { rows = rows; cols = cols } in
    let b = h.begun in
    let all : h.tokens ++ words.Close ∷ [] ≡ b.before ++ shape_words shape = ap (λ ts. ts ++ words.Close ∷ []) b.all ∙ append_assoc b.before (begun_words s) (words.Close ∷ []) in
    let with_shape : BeginsWith text (b.before ++ shape_words shape) = (raw.end, subst (λ ts. TokensTo language text 0 ts raw.end) all (read_to text from s at raw words.Close h stands is)) in
    let run_is : run (b.before ++ shape_words shape) ≡ step s words.Close = sym (ap run all) ∙ run_push h.tokens words.Close ∙ ap (λ t. step t words.Close) (sym h.state) in
    let goes : run (b.before ++ shape_words shape) ≢ Stuck = λ e. let x : step s words.Close ≡ Stuck = sym run_is ∙ e in absurd (cc) in
    let after = shape_after b.before _ goes in
    let clean = faultless text b.before b.next b.behind (good_front h.tokens b.before (begun_words s) b.all (good_run text from s at h)) (calm text b.before b.next (AfterType after.done after.name after.elem) (sym after.is) (λ p. p)) in
    subst (λ a. IsRefused text (answers.Unexpected a)) (sym b.place)
    (unexpected text b.before b.next b.behind clean (NoShape shape with_shape (goes_begins (b.before ++ shape_words shape) goes) bad))

ends_with : (text : List ℕ) (from : ℕ) (done : Pairs) (name : List ℕ) (grid : Grid) (at : ℕ) (h : HasRead text from (Values done name grid) at) → AreArrays h.tokens (done ++ (name, grid) ∷ [])
ends_with text from done name grid at h = read_arrays_are h.tokens (done ++ (name, grid) ∷ []) (sym (ap ending h.state))

clean_values : (text : List ℕ) (from : ℕ) (done : Pairs) (name : List ℕ) (grid : Grid) (at : ℕ) (next : Result Token TokenFault) (h : HasRead text from (Values done name grid) at) → IsBehind language text h.tokens next → IsFaultless text h.tokens
clean_values text from done name grid at next h behind =
    faultless text h.tokens next behind (good_run text from (Values done name grid) at h) (calm text h.tokens next (Values done name grid) h.state (λ p. p))

goes_values : (tokens : List Word) (done : Pairs) (name : List ℕ) (grid : Grid) (word : Word) → Values done name grid ≡ run tokens → step (Values done name grid) word ≢ Stuck → step (run tokens) word ≢ Stuck
goes_values tokens done name grid word is goes e = goes (ap (λ t. step t word) is ∙ e)

no_name : (text : List ℕ) (tokens : List Word) (next : Result Token TokenFault) (name : List ℕ) (word : Word) → seen text next ≡ Some word → (words.Name name ≡ word → ⊥) → IsTwice text tokens next name → ⊥
no_name text tokens next name word is other h = other (seen_one text next (words.Name name) word h.again is)

bad_plain : (text : List ℕ) (from : ℕ) (done : Pairs) (name : List ℕ) (grid : Grid) (at : ℕ) (raw : Token) (n : ℕ) → HasRead text from (Values done name grid) at → StandsFrom text from (Ok raw) → seen text (Ok raw) ≡ Some (words.Number n) → ¬ IsElement grid.elem (pos n) → IsRefused text (answers.OutOfType raw.start)
bad_plain text from done name grid at raw n h stands is bad =
    refused text h.tokens (Ok raw) OutOfType behind (clean_values text from done name grid at (Ok raw) h behind)
    (record {
      name = name;
      grid = grid;
      own = words.Number n ∷ [];
      value = pos n;
      ends = (done, ends_with text from done name grid at h);
      behind = (raw.end, read_to text from (Values done name grid) at raw (words.Number n) h stands is);
      is = Plain n;
      outside = bad;
    })
    least
  where
    behind : IsBehind language text h.tokens (Ok raw)
    behind = behind_of text from (Values done name grid) at (Ok raw) h stands

    least : (other : Cause) → Holds text h.tokens (Ok raw) other → 3 ≤ rank_of other
    least Unexpected g = absurd (goes_expected text h.tokens (Ok raw) (words.Number n) behind is (goes_values h.tokens done name grid (words.Number n) h.state (λ e. absurd (cc))) (λ e. absurd (cc)) g)
    least (Twice other) g = absurd (no_name text h.tokens (Ok raw) other (words.Number n) is (λ e. absurd (cc)) g)
    least OutOfType g = omega arith
    least (CountWrong other need have) g = omega arith

minus_after : (s : State) (done : Pairs) (name : List ℕ) (grid : Grid) → step s words.Minus ≡ AfterMinus done name grid → s ≡ Values done name grid
minus_after (Values d n g) done name grid e = cc
minus_after (Begin d) done name grid e = absurd (cc)
minus_after (AfterName d n) done name grid e = absurd (cc)
minus_after (AfterType d n l) done name grid e = absurd (cc)
minus_after (AfterOpen d n l) done name grid e = absurd (cc)
minus_after (AfterRows d n l r) done name grid e = absurd (cc)
minus_after (AfterComma d n l r) done name grid e = absurd (cc)
minus_after (AfterCols d n l r c) done name grid e = absurd (cc)
minus_after (AfterMinus d n g) done name grid e = absurd (cc)
minus_after Stuck done name grid e = absurd (cc)

bad_negative : (text : List ℕ) (from : ℕ) (done : Pairs) (name : List ℕ) (grid : Grid) (at : ℕ) (raw : Token) (n : ℕ) → HasRead text from (AfterMinus done name grid) at → StandsFrom text from (Ok raw) → seen text (Ok raw) ≡ Some (words.Number n) → ¬ IsElement grid.elem (neg_ℤ (pos n)) → IsRefused text (answers.OutOfType at)
bad_negative text from done name grid at raw n h stands is bad =
    subst (λ a. IsRefused text (answers.OutOfType a)) (sym b.place)
    (refused text b.before b.next OutOfType b.behind clean
    (record {
      name = name;
      grid = grid;
      own = words.Minus ∷ words.Number n ∷ [];
      value = neg_ℤ (pos n);
      ends = (done, read_arrays_are b.before (done ++ (name, grid) ∷ []) (ap ending state));
      behind = with_value_there;
      is = Negative n;
      outside = bad;
    })
    least)
  where
    b : HasBegun text h.tokens (AfterMinus done name grid) at
    b = h.begun

    state : run b.before ≡ Values done name grid
    state = minus_after (run b.before) done name grid (sym (run_push b.before words.Minus) ∙ sym (ap run b.all) ∙ sym h.state)

    clean : IsFaultless text b.before
    clean = faultless text b.before b.next b.behind (good_front h.tokens b.before (words.Minus ∷ []) b.all (good_run text from (AfterMinus done name grid) at h)) (calm text b.before b.next (Values done name grid) (sym state) (λ p. p))

    with_value_there : BeginsWith text (b.before ++ words.Minus ∷ words.Number n ∷ [])
    with_value_there =
        (raw.end, subst (λ ts. TokensTo language text 0 ts raw.end) (ap (λ ts. ts ++ words.Number n ∷ []) b.all ∙ append_assoc b.before (words.Minus ∷ []) (words.Number n ∷ [])) (read_to text from (AfterMinus done name grid) at raw (words.Number n) h stands is))

    next_is : seen text b.next ≡ Some words.Minus
    next_is = next_word text b.before b.next words.Minus (words.Number n ∷ []) b.behind with_value_there

    least : (other : Cause) → Holds text b.before b.next other → 3 ≤ rank_of other
    least Unexpected g = absurd (goes_expected text b.before b.next words.Minus b.behind next_is (goes_values b.before done name grid words.Minus (sym state) (λ e. absurd (cc))) (λ e. absurd (cc)) g)
    least (Twice other) g = absurd (no_name text b.before b.next other words.Minus next_is (λ e. absurd (cc)) g)
    least OutOfType g = omega arith
    least (CountWrong other need have) g = omega arith

twice : (text : List ℕ) (from : ℕ) (done : Pairs) (name : List ℕ) (grid : Grid) (at : ℕ) (raw : Token) (next : List ℕ) → HasRead text from (Values done name grid) at → StandsFrom text from (Ok raw) → seen text (Ok raw) ≡ Some (words.Name next) → Contains (names_of (done ++ (name, grid) ∷ [])) next → IsRefused text (answers.Twice next)
twice text from done name grid at raw next h stands is again =
    refused text h.tokens (Ok raw) (Twice next) behind (clean_values text from done name grid at (Ok raw) h behind)
    (record { arrays = done ++ (name, grid) ∷ []; are = ends_with text from done name grid at h; again = is; there = again })
    least
  where
    behind : IsBehind language text h.tokens (Ok raw)
    behind = behind_of text from (Values done name grid) at (Ok raw) h stands

    least : (other : Cause) → Holds text h.tokens (Ok raw) other → 2 ≤ rank_of other
    least Unexpected g = absurd (goes_expected text h.tokens (Ok raw) (words.Name next) behind is (goes_values h.tokens done name grid (words.Name next) h.state (λ e. absurd (cc))) (λ e. absurd (cc)) g)
    least (Twice other) g = omega arith
    least OutOfType g = omega arith
    least (CountWrong other need have) g = omega arith

-- an array with too few or too many values, with a name or the text's end behind it
miscount : (text : List ℕ) (from : ℕ) (done : Pairs) (name : List ℕ) (grid : Grid) (at : ℕ) (raw : Token) (wrong : List ℕ) (need have : ℕ) → HasRead text from (Values done name grid) at → StandsFrom text from (Ok raw) → ¬ BeginsValue (seen text (Ok raw))
    → ((tokens : List Word) → AreArrays tokens (done ++ (name, grid) ∷ []) → IsBehind language text tokens (Ok raw) → ¬ IsUnexpected text tokens (Ok raw)) → ((again : List ℕ) → seen text (Ok raw) ≡ Some (words.Name again) → ¬ Contains (names_of (done ++ (name, grid) ∷ [])) again)
    → IsMiscounted (Values done name grid) wrong need have → IsRefused text (answers.CountWrong wrong need have)
miscount text from done name grid at raw wrong need have h stands ends expected fresh (named, need_is, have_is, differ) =
    refused text h.tokens (Ok raw) (CountWrong wrong need have) behind (clean_values text from done name grid at (Ok raw) h behind)
    (record {
      grid = grid;
      ends = (done, subst (λ w. AreArrays h.tokens (done ++ (w, grid) ∷ [])) (sym named) are);
      no_more = ends;
      need_is = need_is;
      have_is = have_is;
      differ = differ;
    })
    least
  where
    behind : IsBehind language text h.tokens (Ok raw)
    behind = behind_of text from (Values done name grid) at (Ok raw) h stands

    are : AreArrays h.tokens (done ++ (name, grid) ∷ [])
    are = ends_with text from done name grid at h

    least : (other : Cause) → Holds text h.tokens (Ok raw) other → 4 ≤ rank_of other
    least Unexpected g = absurd (expected h.tokens are behind g)
    least (Twice other) g =
        let same : g.arrays ≡ done ++ (name, grid) ∷ [] = some_is g.arrays (done ++ (name, grid) ∷ []) (sym (arrays_read h.tokens g.arrays g.are) ∙ arrays_read h.tokens (done ++ (name, grid) ∷ []) are) in
        absurd (fresh other g.again (subst (λ p. Contains (names_of p) other) same g.there))
    least OutOfType g = absurd (ends (outside_begins text h.tokens (Ok raw) behind g))
    least (CountWrong other n m) g = omega arith

miscount_name : (text : List ℕ) (from : ℕ) (done : Pairs) (name : List ℕ) (grid : Grid) (at : ℕ) (raw : Token) (next wrong : List ℕ) (need have : ℕ) → HasRead text from (Values done name grid) at → StandsFrom text from (Ok raw) → seen text (Ok raw) ≡ Some (words.Name next) → ¬ Contains (names_of (done ++ (name, grid) ∷ [])) next
    → IsMiscounted (Values done name grid) wrong need have → IsRefused text (answers.CountWrong wrong need have)
miscount_name text from done name grid at raw next wrong need have h stands is new wrong_there =
    miscount text from done name grid at raw wrong need have h stands
    (subst (λ w. ¬ BeginsValue w) (sym is) (λ b. b))
    (λ tokens are behind. goes_expected text tokens (Ok raw) (words.Name next) behind is (named_goes (run tokens) (arrays_read tokens (done ++ (name, grid) ∷ []) are)) (λ e. absurd (cc)))
    (λ again seen_there there. let same : words.Name again ≡ words.Name next = seen_one text (Ok raw) (words.Name again) (words.Name next) seen_there is in
    let names : again ≡ next = cc in new (subst (Contains (names_of (done ++ (name, grid) ∷ []))) names there))
    wrong_there
  where
    named_goes : (s : State) → ending s ≡ Some (done ++ (name, grid) ∷ []) → step s (words.Name next) ≢ Stuck
    named_goes (Begin d) e = λ x. absurd (cc)
    named_goes (Values d m g) e = λ x. absurd (cc)
    named_goes s e = absurd (none_some (done ++ (name, grid) ∷ []) e)

miscount_end : (text : List ℕ) (from : ℕ) (done : Pairs) (name : List ℕ) (grid : Grid) (at : ℕ) (raw : Token) (wrong : List ℕ) (need have : ℕ) → HasRead text from (Values done name grid) at → StandsFrom text from (Ok raw) → raw.kind ≡ kinds.End
    → IsMiscounted (Values done name grid) wrong need have → IsRefused text (answers.CountWrong wrong need have)
miscount_end text from done name grid at raw wrong need have h stands end wrong_there =
    let none = end_seen text (Ok raw) raw refl end in
    miscount text from done name grid at raw wrong need have h stands
    (subst (λ w. ¬ BeginsValue w) (sym none) (λ b. b))
    (λ tokens are behind. end_expected text tokens raw (done ++ (name, grid) ∷ []) behind end are)
    (λ again seen_there there. seen_none text (Ok raw) (words.Name again) none seen_there)
    wrong_there

-- ---- all of them

pub not_taken : (text : List ℕ) (from : ℕ) (s : State) (at : ℕ) (raw : Token) (word : Word) (fault : ArrayFault) → HasRead text from s at → StandsFrom text from (Ok raw) → seen text (Ok raw) ≡ Some word → IsRefusal s at word raw.start fault → IsAnswered text fault
not_taken text from s at raw word (answers.Unexpected place) h stands is (inl (here, stuck)) =
    subst (λ p. IsRefused text (answers.Unexpected p)) (sym here) (stuck_word text from s at raw word h stands is stuck)
not_taken text from s at raw word (answers.Unexpected place) h stands is (inr (here, close, bad)) =
    subst (λ p. IsRefused text (answers.Unexpected p)) (sym here) (closed s h (is ∙ ap (λ w. Some w) close) (subst (λ w. HasBadShape (step s w)) close bad))
  where
    closed : (t : State) → HasRead text from t at → seen text (Ok raw) ≡ Some words.Close → HasBadShape (step t words.Close) → IsRefused text (answers.Unexpected at)
    closed (AfterCols done name elem rows cols) g is_close no_shape = bad_shape text from done name elem rows cols at raw g stands is_close no_shape
    closed (Begin done) g is_close no_shape = absurd no_shape
    closed (AfterName done name) g is_close no_shape = absurd no_shape
    closed (AfterType done name elem) g is_close no_shape = absurd no_shape
    closed (AfterOpen done name elem) g is_close no_shape = absurd no_shape
    closed (AfterRows done name elem rows) g is_close no_shape = absurd no_shape
    closed (AfterComma done name elem rows) g is_close no_shape = absurd no_shape
    closed (Values done name grid) g is_close no_shape = absurd no_shape
    closed (AfterMinus done name grid) g is_close no_shape = absurd no_shape
    closed Stuck g is_close no_shape = absurd no_shape
not_taken text from (Values done name grid) at raw (words.Number n) (answers.OutOfType place) h stands is (here, bad) =
    subst (λ p. IsRefused text (answers.OutOfType p)) (sym here) (bad_plain text from done name grid at raw n h stands is bad)
not_taken text from (AfterMinus done name grid) at raw (words.Number n) (answers.OutOfType place) h stands is (here, bad) =
    subst (λ p. IsRefused text (answers.OutOfType p)) (sym here) (bad_negative text from done name grid at raw n h stands is bad)
not_taken text from s at raw word (answers.OutOfType place) h stands is (here, bad) = absurd bad
not_taken text from (Values done name grid) at raw word (answers.Twice next) h stands is (named, again) =
    twice text from done name grid at raw next h stands (is ∙ ap (λ w. Some w) named) again
not_taken text from s at raw word (answers.Twice next) h stands is (named, again) = absurd again
not_taken text from (Values done name grid) at raw word (answers.CountWrong wrong need have) h stands is (next, named, new, miscounted) =
    miscount_name text from done name grid at raw next wrong need have h stands (is ∙ ap (λ w. Some w) named) new miscounted
not_taken text from s at raw word (answers.CountWrong wrong need have) h stands is (next, named, new, miscounted) = absurd miscounted
not_taken text from s at raw word answers.Memory h stands is refusal = tt

pub not_ended : (text : List ℕ) (from : ℕ) (s : State) (at : ℕ) (raw : Token) (fault : ArrayFault) → HasRead text from s at → StandsFrom text from (Ok raw) → raw.kind ≡ kinds.End → IsEndRefusal s raw.start fault → IsAnswered text fault
not_ended text from s at raw (answers.Unexpected place) h stands end (here, none) =
    let behind = behind_of text from s at (Ok raw) h stands in
    let nothing = end_seen text (Ok raw) raw refl end in
    subst (λ p. IsRefused text (answers.Unexpected p)) (sym here)
    (unexpected text h.tokens (Ok raw) behind (faultless text h.tokens (Ok raw) behind (good_run text from s at h) (no_next text h.tokens (Ok raw) nothing))
    (NoEnd raw refl end (λ arrays are. none_some arrays (sym none ∙ ap ending h.state ∙ arrays_read h.tokens arrays are))))
not_ended text from (Values done name grid) at raw (answers.CountWrong wrong need have) h stands end miscounted = miscount_end text from done name grid at raw wrong need have h stands end miscounted
not_ended text from s at raw (answers.CountWrong wrong need have) h stands end miscounted = absurd miscounted
not_ended text from s at raw answers.Memory h stands end refusal = tt
not_ended text from s at raw fault h stands end refusal = absurd refusal

-- ---- and where nothing is refused

pub ended : (text : List ℕ) (from : ℕ) (s : State) (at : ℕ) (raw : Token) (arrays : Pairs) → HasRead text from s at → StandsFrom text from (Ok raw) → raw.kind ≡ kinds.End → ending s ≡ Some arrays → ArePairs arrays → DenotesArrays text arrays
ended text from s at raw arrays h stands end is whole = record {
  words = h.tokens;
  end = raw;
  is_end = end;
  behind = behind_of text from s at (Ok raw) h stands;
  are = read_arrays_are h.tokens arrays (sym (ap ending h.state) ∙ is);
  whole = whole;
}

begun_more : (text : List ℕ) (tokens : List Word) (s t : State) (at place : ℕ) (word : Word) → begun_words t ≡ begun_words s ++ word ∷ [] → place ≡ at → HasBegun text tokens s at → HasBegun text (tokens ++ word ∷ []) t place
begun_more text tokens s t at place word same here b = record {
  before = b.before;
  next = b.next;
  all = ap (λ ts. ts ++ word ∷ []) b.all ∙ append_assoc b.before (begun_words s) (word ∷ []) ∙ ap (λ ts. b.before ++ ts) (sym same);
  behind = b.behind;
  place = here ∙ b.place;
}

begun_here : (text : List ℕ) (tokens : List Word) (t : State) (place : ℕ) (word : Word) (raw : Token) → begun_words t ≡ word ∷ [] → place ≡ raw.start → IsBehind language text tokens (Ok raw) → HasBegun text (tokens ++ word ∷ []) t place
begun_here text tokens t place word raw same here behind = record {
  before = tokens;
  next = Ok raw;
  all = ap (λ ts. tokens ++ ts) (sym same);
  behind = behind;
  place = here;
}

begun_on : (text : List ℕ) (tokens : List Word) (s : State) (word : Word) (at place : ℕ) (raw : Token) → IsBegun text tokens s at → IsBehind language text tokens (Ok raw) → BeginsAt (step s word) place at raw.start → IsBegun text (tokens ++ word ∷ []) (step s word) place
begun_on text tokens (AfterType done name elem) words.Open at place raw b behind here = begun_here text tokens _ place words.Open raw refl here behind
begun_on text tokens (AfterOpen done name elem) (words.Number rows) at place raw b behind here = begun_more text tokens _ _ at place (words.Number rows) refl here b
begun_on text tokens (AfterRows done name elem rows) words.Comma at place raw b behind here = begun_more text tokens _ _ at place words.Comma refl here b
begun_on text tokens (AfterComma done name elem rows) (words.Number cols) at place raw b behind here = begun_more text tokens _ _ at place (words.Number cols) refl here b
begun_on text tokens (Values done name grid) words.Minus at place raw b behind here = begun_here text tokens _ place words.Minus raw refl here behind
begun_on text tokens (Begin done) (words.Name name) at place raw b behind here = tt
begun_on text tokens (AfterName done name) (words.Elem elem) at place raw b behind here = tt
begun_on text tokens (AfterCols done name elem rows cols) words.Close at place raw b behind here = tt
begun_on text tokens (Values done name grid) (words.Number n) at place raw b behind here = tt
begun_on text tokens (Values done name grid) (words.Name next) at place raw b behind here = tt
begun_on text tokens (AfterMinus done name grid) (words.Number n) at place raw b behind here = tt
begun_on text tokens s word at place raw b behind here = tt

-- a word more is read
pub read_on : (text : List ℕ) (from : ℕ) (s t : State) (at place : ℕ) (raw : Token) (word : Word) → HasRead text from s at → StandsFrom text from (Ok raw) → seen text (Ok raw) ≡ Some word → t ≡ step s word → IsGood t → BeginsAt t place at raw.start → from < raw.end → raw.end ≤ length text → HasRead text raw.end t place
read_on text from s t at place raw word h stands is stepped good begins further within = record {
  tokens = h.tokens ++ word ∷ [];
  read = read_to text from s at raw word h stands is;
  within = within;
  state = stepped ∙ ap (λ u. step u word) h.state ∙ sym (run_push h.tokens word);
  good = good;
  begun = subst (λ u. IsBegun text (h.tokens ++ word ∷ []) u place) (sym stepped) (begun_on text h.tokens s word at place raw h.begun (behind_of text from s at (Ok raw) h stands) (subst (λ u. BeginsAt u place at raw.start) stepped begins));
  few = let count = counts_on s word in let more : count_in t ≡ count_in (step s word) = ap count_in stepped in omega (arith, h.few);
}
