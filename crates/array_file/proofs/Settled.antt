-- A text has one reading or one answer.
use Rattle.std.proofs.Common.{◌≡◌, ◌≢◌, ◌⊎◌, inl, inr, ℕ, ◌+◌, ◌*◌, ◌<◌, ◌≤◌, List, [], ◌∷◌, ◌++◌, length, Some, None, Result, Ok, Err, refl, sym, ap, subst, ◌∙◌, arith}
use Rattle.std.proofs.lemmas.List.{same_from_push}
use Rattle.ven_io.specs.declared.token.Token.{Token}
use Rattle.ven_io.specs.declared.token.TokenFault.{TokenFault}
use Rattle.ven_io.specs.Tokens.{IsBehind, place_of}
use Rattle.ven_io.proofs.Reached.{one_text, Meets, Same, Before, After}
use Rattle.ven_base.specs.Extent.{elements_of}
use Rattle.ven_base.specs.First.{IsFirst}
use Rattle.ven_base.specs.Grid.{Grid}
use Rattle.ven_base.specs.Pairs.{Pairs, ArePairs}
use Rattle.ven_base.proofs.Firsts.{one_first}
use Rattle.array_file.specs.declared.word.Word.{Word}
use Rattle.array_file.specs.declared.word.Word.TheVariants as words
use Rattle.array_file.specs.Faults.{DenotesArrays, seen, BeginsValue, Cause, Unexpected, Twice, OutOfType, CountWrong, rank_of, Holds, TextFault, rank, IsFault, answer_of, IsRefused}
use Rattle.array_file.specs.Grammar.{AreArrays}
use Rattle.array_file.specs.Laws.{HasOneReading, DenotesNothingAtFaults, HasOneAnswer}
use Rattle.array_file.specs.Reading.{State, Begin, Values, ending, run, IsGood}
use Rattle.array_file.specs.Words.{language}
use Rattle.array_file.proofs.Following.{none_some, some_is, arrays_read}
use Rattle.array_file.proofs.Goodness.{whole_front, whole_last, whole_new}
use Rattle.array_file.proofs.Texts.{seen_one, seen_none, end_seen, IsFaultless, faultless, end_expected, outside_begins}

same_arrays : (tokens others : List Word) (one other : Pairs) → tokens ≡ others → AreArrays tokens one → AreArrays others other → one ≡ other
same_arrays tokens others one other same h g = some_is one other (sym (arrays_read tokens one h) ∙ ap (λ ts. ending (run ts)) same ∙ arrays_read others other g)

end_none : (text : List ℕ) (arrays : Pairs) (d : DenotesArrays text arrays) → seen text (Ok d.end) ≡ None
end_none text arrays d = end_seen text (Ok d.end) d.end refl d.is_end

pub one_reading_holds : HasOneReading
one_reading_holds text one other h g = by (one_text language text h.words g.words (Ok h.end) (Ok g.end) h.behind g.behind)
  where
    by : Meets language text h.words (Ok h.end) g.words (Ok g.end) → one ≡ other
    by (Same all is) = same_arrays h.words g.words one other all h.are g.are
    by (Before b) = absurd (seen_none text (Ok h.end) b.own (end_none text one h) (ap (seen text) b.is ∙ b.takes))
    by (After b) = absurd (seen_none text (Ok g.end) b.own (end_none text other g) (ap (seen text) b.is ∙ b.takes))

good_end : (s : State) (arrays : Pairs) → ending s ≡ Some arrays → ArePairs arrays → IsGood s
good_end (Begin done) arrays e whole = subst ArePairs (sym (some_is done arrays e)) whole
good_end (Values done name grid) arrays e whole =
    let own : ArePairs (done ++ (name, grid) ∷ []) = subst ArePairs (sym (some_is (done ++ (name, grid) ∷ []) arrays e)) whole in
    let last = whole_last done name grid own in
    (record { whole = whole_front done name grid own; new = whole_new done name grid own }, last.shaped, last.typed)
good_end s arrays e whole = absurd (none_some arrays e)

pub nothing_at_faults : DenotesNothingAtFaults
nothing_at_faults text arrays fault d f = by (one_text language text d.words f.words (Ok d.end) f.next d.behind f.behind)
  where
    none : seen text (Ok d.end) ≡ None
    none = end_none text arrays d

    clean : IsFaultless text d.words
    clean = faultless text d.words (Ok d.end) d.behind (good_end (run d.words) arrays (arrays_read d.words arrays d.are) d.whole) (λ word is pending. absurd (seen_none text (Ok d.end) word none is))

    at_end : (cause : Cause) → Holds text d.words (Ok d.end) cause → ⊥
    at_end Unexpected h = end_expected text d.words d.end arrays d.behind d.is_end d.are h
    at_end (Twice name) h = seen_none text (Ok d.end) (words.Name name) none h.again
    at_end OutOfType h = subst BeginsValue none (outside_begins text d.words (Ok d.end) d.behind h)
    at_end (CountWrong name need have) h =
        let (before, are) = h.ends in
        let same : arrays ≡ before ++ (name, h.grid) ∷ [] = same_arrays d.words d.words arrays (before ++ (name, h.grid) ∷ []) refl d.are are in
        h.differ (h.need_is ∙ sym (whole_last before name h.grid (subst ArePairs same d.whole)).filled ∙ sym h.have_is)

    by : Meets language text d.words (Ok d.end) f.words f.next → ⊥
    by (Same all is) = at_end fault.cause (subst (λ n. Holds text d.words n fault.cause) (sym is) (subst (λ ts. Holds text ts f.next fault.cause) (sym all) f.cause))
    by (Before b) = seen_none text (Ok d.end) b.own none (ap (seen text) b.is ∙ b.takes)
    by (After b) = clean.none f.words b.rest b.own f.next fault.cause b.all f.behind (ap (seen text) b.is ∙ b.takes) f.cause

-- causes of one rank behind the same words are one
same_cause : (text : List ℕ) (tokens : List Word) (next : Result Token TokenFault) (one other : Cause) → Holds text tokens next one → Holds text tokens next other → rank_of one ≡ rank_of other → one ≡ other
same_cause text tokens next Unexpected Unexpected h g e = refl
same_cause text tokens next (Twice name) (Twice other) h g e =
    let same : words.Name name ≡ words.Name other = seen_one text next (words.Name name) (words.Name other) h.again g.again in
    let names : name ≡ other = cc in
    ap Twice names
same_cause text tokens next OutOfType OutOfType h g e = refl
same_cause text tokens next (CountWrong name need have) (CountWrong other n m) h g e =
    let (before, are) = h.ends in
    let (front, there) = g.ends in
    let same = (same_from_push before front (name, h.grid) (other, g.grid) (same_arrays tokens tokens (before ++ (name, h.grid) ∷ []) (front ++ (other, g.grid) ∷ []) refl are there)).1 in
    let names : name ≡ other = ap (λ (p : List ℕ × Grid). p.0) same in
    let grids : h.grid ≡ g.grid = ap (λ (p : List ℕ × Grid). p.1) same in
    let needs : need ≡ n = h.need_is ∙ ap (λ (x : Grid). elements_of x.shape) grids ∙ sym g.need_is in
    let haves : have ≡ m = h.have_is ∙ ap (λ (x : Grid). length x.values) grids ∙ sym g.have_is in
    cc
same_cause text tokens next one other h g e = absurd (omega (arith, e))

same_fault : (text : List ℕ) (one other : TextFault) → IsFault text one → IsFault text other → one.at ≡ other.at → rank one ≡ rank other → one ≡ other
same_fault text one other h g places ranks = by (one_text language text h.words g.words h.next g.next h.behind g.behind)
  where
    by : Meets language text h.words h.next g.words g.next → one ≡ other
    by (Same all is) =
        let there : Holds text h.words h.next other.cause = subst (λ n. Holds text h.words n other.cause) (sym is) (subst (λ ts. Holds text ts g.next other.cause) (sym all) g.cause) in
        let causes = same_cause text h.words h.next one.cause other.cause h.cause there ranks in
        λ i. record { cause = causes i; at = places i }
    by (Before b) = let e = h.place in let f = g.place in let at = ap place_of b.is in absurd (omega (arith, b.before, places))
    by (After b) = let e = h.place in let f = g.place in let at = ap place_of b.is in absurd (omega (arith, b.before, places))

pub one_answer : HasOneAnswer
one_answer text one other h g =
    let same : h.fault ≡ g.fault = one_first (IsFault text) (λ f. f.at) rank (same_fault text) h.fault g.fault h.first g.first in
    h.is ∙ ap (λ (f : TextFault). answer_of f.cause f.at) same ∙ sym g.is
