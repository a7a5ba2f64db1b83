-- A text without a fault has lines, and a text has one answer.
use Rattle.std.proofs.Common.{◌≡◌, ℕ, ◌<◌, List, [], ◌∷◌, ◌++◌, Some, Result, Ok, refl, sym, ap, subst, ◌∙◌, arith}
use Rattle.ven_base.specs.First.{IsFirst}
use Rattle.ven_io.specs.declared.token.Token.{Token}
use Rattle.ven_io.specs.declared.token.TokenFault.{TokenFault}
use Rattle.ven_io.specs.Token.{NextIs, bytes_of}
use Rattle.ven_io.specs.Tokens.{place_of}
use Rattle.ven_io.proofs.Reached.{one_text, Meets, Same, Before, After}
use Rattle.venice_asm.specs.declared.word.Word.{Word}
use Rattle.venice_asm.specs.declared.word.Word.TheVariants as words
use Rattle.venice_asm.specs.Faults.{BeginsLines, BeginsInRange, seen, NoToken, NoWord, NoLines, NoEnd, Cause, Unexpected, FieldRange, TooMany, Twice, rank_of, Holds, TextFault, rank, IsFault, answer_of, InText}
use Rattle.venice_asm.specs.Lines.{TextLine}
use Rattle.venice_asm.specs.Reading.{Start, step, run}
use Rattle.venice_asm.specs.Spelling.{head_word}
use Rattle.venice_asm.specs.declared.fault.AsmFault.TheVariants as answers
use Rattle.venice_asm.specs.Words.{language, word_of}
use Rattle.venice_asm.proofs.Ahead.{next_word}
use Rattle.venice_asm.proofs.Cleanness.{IsClean}
use Rattle.venice_asm.proofs.Registers.{none_some}
use Rattle.venice_asm.proofs.Sentences.{goes_begins, ranged_begins, ranged_goes, lines_at}
use Rattle.venice_asm.proofs.Opening.{seen_one, run_push, named_room, IsPending, TooManyName, TwiceName}
use Rattle.image_loader.specs.Table.{TableField, field_place}
use Rattle.ven_base.proofs.Firsts.{one_place, one_rank}
use Rattle.venice_asm.specs.Faults.{HasLines, Reads, Resolves, IsUnknown, IsWrongField, AtTarget, AtField, AtEnd}
use Rattle.venice_asm.specs.Laws.{HasOneAnswer}
use Rattle.venice_asm.specs.Meaning.{entries_of}
use Rattle.venice_asm.proofs.Cleanness.{clean_back}
use Rattle.venice_asm.proofs.Texts.{at_most_length, end_place, before}

-- ---- lines without a fault

-- where the text ends its lines, nothing is at fault
clean_end : (text : List ℕ) (lines : List TextLine) (h : Reads text lines) → IsClean (run (h.has.words ++ words.Line ∷ []))
clean_end text lines h =
    subst IsClean (sym (lines_at (h.has.words ++ words.Line ∷ []) lines h.has.are.words))
    (record { ranged = h.has.are.ranges; few = h.few; apart = h.apart })

clean_words : (text : List ℕ) (lines : List TextLine) (h : Reads text lines) → IsClean (run h.has.words)
clean_words text lines h = clean_back (run h.has.words) words.Line (subst IsClean (run_push h.has.words words.Line) (clean_end text lines h))

end_seen : (text : List ℕ) (lines : List TextLine) (h : HasLines text lines) → seen text (Ok h.end) ≡ Some words.Line
end_seen text lines h = ap (λ k. word_of k (bytes_of text h.end)) h.is_end

end_settled : (text : List ℕ) (lines : List TextLine) (h : Reads text lines) → IsPending text h.has.words → ⊥
end_settled text lines h (TooManyName ls name head is named full none) =
    let few = (subst IsClean (run_push h.has.words words.Line ∙ ap (λ s. step s words.Line) is) (clean_end text lines h)).few in
    let room = named_room ls name words.Line (λ e. absurd (cc)) few in
    absurd (omega arith)
end_settled text lines h (TwiceName ls name is again begins) =
    let e : words.Line ≡ words.Colon = seen_one text (Ok h.has.end) words.Line words.Colon (end_seen text lines h.has) (next_word text h.has.words (Ok h.has.end) words.Colon [] h.has.behind begins) in
    absurd (cc)

end_faultless : (text : List ℕ) (lines : List TextLine) (h : Reads text lines) (cause : Cause) → Holds text h.has.words (Ok h.has.end) cause → ⊥
end_faultless text lines h Unexpected (NoToken fault is) = none_some words.Line (sym (ap (seen text) is) ∙ end_seen text lines h.has)
end_faultless text lines h Unexpected (NoWord token is none) = none_some words.Line (sym none ∙ end_seen text lines h.has)
end_faultless text lines h Unexpected (NoLines word is bad) =
    bad (subst (λ w. BeginsLines (h.has.words ++ w ∷ [])) (seen_one text (Ok h.has.end) words.Line word (end_seen text lines h.has) is) (goes_begins (h.has.words ++ words.Line ∷ []) (ranged_goes (run (h.has.words ++ words.Line ∷ [])) (clean_end text lines h).ranged)))
end_faultless text lines h Unexpected (NoEnd token is end none) = none lines h.has.are.words
end_faultless text lines h FieldRange f =
    f.outside (subst (λ w. BeginsInRange (h.has.words ++ w ∷ [])) (seen_one text (Ok h.has.end) words.Line f.word (end_seen text lines h.has) f.sees) (ranged_begins (h.has.words ++ words.Line ∷ []) (clean_end text lines h).ranged))
end_faultless text lines h TooMany f = let e : words.Line ≡ words.Name (head_word f.head) = seen_one text (Ok h.has.end) words.Line (words.Name (head_word f.head)) (end_seen text lines h.has) f.sees in absurd (cc)
end_faultless text lines h Twice f = let e : words.Line ≡ words.Name f.name = seen_one text (Ok h.has.end) words.Line (words.Name f.name) (end_seen text lines h.has) f.sees in absurd (cc)

end_last : (text : List ℕ) (lines : List TextLine) (h : Reads text lines) (words_there : List Word) (later : Result Token TokenFault) (from : ℕ) → NextIs text from later → place_of (Ok h.has.end) < place_of later → ⊥
end_last text lines h words_there later from is lt =
    let most = at_most_length text from later is in
    let here = end_place text h.has.behind.from (Ok h.has.end) h.has.end refl h.has.is_end h.has.behind.next_is in
    absurd (omega arith)

pub faultless : (text : List ℕ) (lines : List TextLine) (fault : TextFault) → Reads text lines → IsFault text fault → ⊥
faultless text lines fault h f = by (one_text language text h.has.words f.words (Ok h.has.end) f.next h.has.behind f.behind)
  where
    by : Meets language text h.has.words (Ok h.has.end) f.words f.next → ⊥
    by (Same all is) = end_faultless text lines h fault.cause (subst (λ n. Holds text h.has.words n fault.cause) (sym is) (subst (λ ts. Holds text ts f.next fault.cause) (sym all) f.cause))
    by (Before b) =
        let at : place_of (Ok h.has.end) ≡ b.token.start = ap place_of b.is in
        let lt = b.before in
        end_last text lines h f.words f.next f.behind.from f.behind.next_is (omega arith)
    by (After b) =
        let at = ap place_of b.is in
        let lt = b.before in
        end_settled text lines h (before text h.has.words f.words b.own b.rest (Ok h.has.end) f.next h.has.behind (clean_words text lines h) f.behind b.all (ap (seen text) b.is ∙ b.takes) (omega arith) fault.cause f.cause)

-- ---- one answer

pub same_lines : (text : List ℕ) (one other : List TextLine) → Reads text one → Reads text other → one ≡ other
same_lines text one other h g = by (one_text language text h.has.words g.has.words (Ok h.has.end) (Ok g.has.end) h.has.behind g.has.behind)
  where
    start_is : Start one ≡ Start other → one ≡ other
    start_is e = cc

    by : Meets language text h.has.words (Ok h.has.end) g.has.words (Ok g.has.end) → one ≡ other
    by (Same all is) =
        start_is (sym (lines_at (h.has.words ++ words.Line ∷ []) one h.has.are.words) ∙ ap (λ ts. run (ts ++ words.Line ∷ [])) all ∙ lines_at (g.has.words ++ words.Line ∷ []) other g.has.are.words)
    by (Before b) =
        let at : place_of (Ok h.has.end) ≡ b.token.start = ap place_of b.is in
        let lt = b.before in
        absurd (end_last text one h g.has.words (Ok g.has.end) g.has.behind.from g.has.behind.next_is (omega arith))
    by (After b) =
        let at : place_of (Ok g.has.end) ≡ b.token.start = ap place_of b.is in
        let lt = b.before in
        absurd (end_last text other g h.has.words (Ok h.has.end) h.has.behind.from h.has.behind.next_is (omega arith))

same_answer : (one other : Cause) (at : ℕ) → rank_of one ≡ rank_of other → answer_of one at ≡ answer_of other at
same_answer Unexpected Unexpected at e = refl
same_answer FieldRange FieldRange at e = refl
same_answer FieldRange TooMany at e = refl
same_answer TooMany FieldRange at e = refl
same_answer TooMany TooMany at e = refl
same_answer Twice Twice at e = refl
same_answer one other at e = absurd (omega (arith, e))

no_text_fault : (text : List ℕ) (lines : List TextLine) (fault : TextFault) → IsFirst (IsFault text) (λ f. f.at) rank fault → Reads text lines → ⊥
no_text_fault text lines fault f h = faultless text lines fault h f.here

target_or_resolved : (text : List ℕ) (one other : List TextLine) (at : ℕ) → Reads text one → IsUnknown text one at → Resolves text other → ⊥
target_or_resolved text one other at h unknown r = r.all at (subst (λ ls. IsUnknown text ls at) (same_lines text one other h r.reads) unknown)

pub one_answer_holds : HasOneAnswer
one_answer_holds text _ _ (InText f first) (InText g second) =
    let places = one_place (IsFault text) (λ (x : TextFault). x.at) rank f g first second in
    ap (answer_of f.cause) places ∙ same_answer f.cause g.cause g.at (one_rank (IsFault text) (λ (x : TextFault). x.at) rank f g first second)
one_answer_holds text _ _ (InText f first) (AtTarget lines at h is) = absurd (no_text_fault text lines f first h)
one_answer_holds text _ _ (InText f first) (AtField lines field r is) = absurd (no_text_fault text lines f first r.reads)
one_answer_holds text _ _ (InText f first) (AtEnd lines r none open_end) = absurd (no_text_fault text lines f first r.reads)
one_answer_holds text _ _ (AtTarget lines at h is) (InText f first) = absurd (no_text_fault text lines f first h)
one_answer_holds text _ _ (AtTarget lines at h is) (AtTarget others place g this) =
    let same = same_lines text lines others h g in
    ap answers.UnknownLabel (one_place (IsUnknown text others) (λ (p : ℕ). p) (λ (p : ℕ). 0) at place (subst (λ ls. IsFirst (IsUnknown text ls) (λ (p : ℕ). p) (λ (p : ℕ). 0) at) same is) this)
one_answer_holds text _ _ (AtTarget lines at h is) (AtField others field r this) = absurd (target_or_resolved text lines others at h is.here r)
one_answer_holds text _ _ (AtTarget lines at h is) (AtEnd others r none open_end) = absurd (target_or_resolved text lines others at h is.here r)
one_answer_holds text _ _ (AtField lines field r is) (InText f first) = absurd (no_text_fault text lines f first r.reads)
one_answer_holds text _ _ (AtField lines field r is) (AtTarget others place g this) = absurd (target_or_resolved text others lines place g this.here r)
one_answer_holds text _ _ (AtField lines field r is) (AtField others second q this) =
    let same = same_lines text lines others r.reads q.reads in
    ap (λ ls. answers.Table (field_place (entries_of ls) field)) same
    ∙ ap answers.Table (one_place (IsWrongField others) (field_place (entries_of others)) (λ (x : TableField). 0) field second (subst (λ ls. IsFirst (IsWrongField ls) (field_place (entries_of ls)) (λ (x : TableField). 0) field) same is) this)
one_answer_holds text _ _ (AtField lines field r is) (AtEnd others q none open_end) =
    absurd (none field (subst (λ ls. IsWrongField ls field) (same_lines text lines others r.reads q.reads) is.here))
one_answer_holds text _ _ (AtEnd lines r none open_end) (InText f first) = absurd (no_text_fault text lines f first r.reads)
one_answer_holds text _ _ (AtEnd lines r none open_end) (AtTarget others place g this) = absurd (target_or_resolved text others lines place g this.here r)
one_answer_holds text _ _ (AtEnd lines r none open_end) (AtField others field q this) =
    absurd (none field (subst (λ ls. IsWrongField ls field) (same_lines text others lines q.reads r.reads) this.here))
one_answer_holds text _ _ (AtEnd lines r none open_end) (AtEnd others q nothing also) = refl
