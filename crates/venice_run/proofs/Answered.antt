-- Programs and inputs have one answer: a text is one program or has one first fault, and arrays fit or have one first misfit.
use Rattle.std.proofs.Common.{◌≡◌, inl, inr, ℕ, List, [], ◌∷◌, get_or, Option, Some, Result, Ok, refl, sym, ap, subst, ◌∙◌, arith}
use Rattle.std.specs.Prelude.{slice_get}
use Rattle.std.specs.Option.{option_map}
use Rattle.std.proofs.lemmas.Option.{slice_get_within, get_or_from_slice_get}
use Rattle.ven_base.specs.declared.entry.Entry.{Entry}
use Rattle.ven_base.specs.First.{IsFirst}
use Rattle.ven_base.specs.Grid.{Grid}
use Rattle.ven_base.specs.Pairs.{Pairs, names_of}
use Rattle.ven_io.specs.declared.token.Token.{Token as TextToken}
use Rattle.ven_io.specs.declared.token.TokenFault.{TokenFault}
use Rattle.ven_io.specs.declared.token.TokenKind.{TokenKind}
use Rattle.ven_io.specs.declared.token.TokenKind.TheVariants as kinds
use Rattle.ven_io.proofs.Reached.{Same, Before, After, one_text}
use Rattle.array_file.specs.declared.fitting.FitFault.{FitFault}
use Rattle.array_file.specs.declared.fitting.FitFault.TheVariants as answers
use Rattle.array_file.specs.Fitting as fitting
use Rattle.array_file.specs.Fitting.{Fits, IsUnfit, IsInput, Misfit, Missing, TypeWrong, ShapeWrong, Extra, IsMisfit, place_in}
use Rattle.array_syntax.specs.declared.fault.ParseFault.{ParseFault}
use Rattle.array_syntax.specs.declared.program.Program.{Program}
use Rattle.array_syntax.specs.declared.word.Token.{Token}
use Rattle.array_syntax.specs.Faults as syntax
use Rattle.array_syntax.specs.Faults.{Cause, NotAscii, NameTooLong, NumberTooLarge, TooHigh, Unexpected, TooManyOpen, TooManyStatements, TooManyNodes, IsAccepted, IsRefused}
use Rattle.array_syntax.specs.Grammar.{AreStatements}
use Rattle.array_syntax.specs.Laws.{HasOneReading}
use Rattle.array_syntax.specs.Words.{language, word_of}

-- two first faults have one place and one rank
pub record AreLevel {F : Type 0} (place rank : F → ℕ) (a b : F) : Type 0 where
  pub places : place a ≡ place b
  pub ranks : rank a ≡ rank b

pub level : {F : Type 0} (holds : F → Type 0) (place rank : F → ℕ) (a b : F) → IsFirst holds place rank a → IsFirst holds place rank b → AreLevel place rank a b
level holds place rank a b first other =
    elim (first.first b other.here) [
      | inl before ↦ elim (other.first a first.here) [
        | inl behind ↦ absurd (omega arith)
        | inr same ↦ absurd (omega (arith, before, same.0))
      ]
      | inr same ↦ elim (other.first a first.here) [
        | inl behind ↦ absurd (omega (arith, behind, same.0))
        | inr back ↦ record { places = same.0; ranks = omega (arith, same.1, back.1) }
      ]
    ]

-- ---- texts of programs

-- the text's end is no token of the language
end_taken : (token end : TextToken) (bytes : List ℕ) (own : Token) → ◌≡◌ {A = Result TextToken TokenFault} (Ok end) (Ok token) → end.kind ≡ kinds.End → language.token_of token bytes ≡ Some own → ⊥
end_taken token end bytes own same kind takes =
    let is : token ≡ end = cc in
    let ended : token.kind ≡ kinds.End = ap (λ (t : TextToken). t.kind) is ∙ kind in
    none_taken token.kind token.start bytes own ended takes
  where
    none_taken : (kind : TokenKind) (start : ℕ) (bytes : List ℕ) (own : Token) → kind ≡ kinds.End → option_map (λ word. record { at = start; word = word }) (word_of kind bytes) ≡ Some own → ⊥
    none_taken kinds.End start bytes own is takes = cc
    none_taken kind start bytes own is takes = absurd cc

pub one_program : HasOneReading → (text : List ℕ) (p q : Program) → IsAccepted text p → IsAccepted text q → p ≡ q
one_program reading text p q a b =
    let d = a.denotes in
    let e = b.denotes in
    elim (one_text language text d.tokens e.tokens (Ok d.end) (Ok e.end) d.behind e.behind) [
      | Same tokens next ↦
          let stmts : p.stmts ≡ q.stmts = reading d.tokens p.stmts q.stmts d.statements (subst (λ (ts : List Token). AreStatements ts q.stmts) (sym tokens) e.statements) in
          λ i. record { stmts = stmts i }
      | Before goes ↦ absurd (end_taken goes.token d.end _ goes.own goes.is d.is_end goes.takes)
      | After goes ↦ absurd (end_taken goes.token e.end _ goes.own goes.is e.is_end goes.takes)
    ]

-- the cause of each rank
cause_at : ℕ → Cause
cause_at rank = get_or (NotAscii ∷ NotAscii ∷ NameTooLong ∷ NumberTooLarge ∷ TooHigh ∷ Unexpected ∷ TooManyOpen ∷ TooManyStatements ∷ TooManyNodes ∷ []) rank NotAscii

cause_is : (cause : Cause) → cause_at (syntax.rank_of cause) ≡ cause
unfolding cause_at
cause_is NotAscii = refl
cause_is NameTooLong = refl
cause_is NumberTooLarge = refl
cause_is TooHigh = refl
cause_is Unexpected = refl
cause_is TooManyOpen = refl
cause_is TooManyStatements = refl
cause_is TooManyNodes = refl

pub one_refusal : (text : List ℕ) (a b : ParseFault) → IsRefused text a → IsRefused text b → a ≡ b
one_refusal text a b h g =
    let same = level (syntax.IsFault text) (λ (f : syntax.SyntaxFault). f.at) syntax.rank h.fault g.fault h.first g.first in
    let cause : h.fault.cause ≡ g.fault.cause = sym (cause_is h.fault.cause) ∙ ap cause_at same.ranks ∙ cause_is g.fault.cause in
    h.is ∙ ap (λ (c : Cause). syntax.answer_of c h.fault.at) cause ∙ ap (syntax.answer_of g.fault.cause) same.places ∙ sym g.is

-- ---- misfits

some_grid : (a b : Grid) → ◌≡◌ {A = Option Grid} (Some a) (Some b) → a ≡ b
some_grid a b e = cc

pub no_misfit : (arrays : Pairs) (table : List Entry) (misfit : Misfit) → Fits arrays table → ¬ IsMisfit arrays table misfit
no_misfit arrays table (Missing k entry) fits wrong = let own = fits.inputs k entry wrong.0 in let found = own.1.is in cc (found, wrong.1)
no_misfit arrays table (TypeWrong k entry) fits wrong =
    let own = fits.inputs k entry wrong.0 in
    let same : wrong.1.0 ≡ own.0 = some_grid wrong.1.0 own.0 (sym wrong.1.1.is ∙ own.1.is) in
    wrong.1.2 (ap (λ (g : Grid). g.elem) same ∙ own.2)
no_misfit arrays table (ShapeWrong k entry) fits wrong =
    let own = fits.inputs k entry wrong.0 in
    let same : wrong.1.0 ≡ own.0 = some_grid wrong.1.0 own.0 (sym wrong.1.1.is ∙ own.1.is) in
    wrong.1.2 (ap (λ (g : Grid). g.shape) same ∙ own.3)
no_misfit arrays table (Extra k name) fits wrong =
    let names = names_of arrays in
    wrong.1 (fits.only name (k, slice_get_within names k name wrong.0, get_or_from_slice_get names k name name wrong.0))

some_entry : (a b : Entry) → ◌≡◌ {A = Option Entry} (Some a) (Some b) → a ≡ b
some_entry a b e = cc

same_input : (table : List Entry) (k j : ℕ) (a b : Entry) → IsInput table k a → IsInput table j b → k ≡ j → a.name ≡ b.name
same_input table k j a b h g same = ap (λ (e : Entry). e.name) (some_entry a b (sym h.stands ∙ ap (slice_get table) same ∙ g.stands))

some_name : (a b : List ℕ) → ◌≡◌ {A = Option (List ℕ)} (Some a) (Some b) → a ≡ b
some_name a b e = cc

one_answer : (arrays : Pairs) (table : List Entry) (a b : Misfit) → IsMisfit arrays table a → IsMisfit arrays table b → place_in table a ≡ place_in table b → fitting.rank_of a ≡ fitting.rank_of b
    → fitting.answer_of a ≡ fitting.answer_of b
one_answer arrays table (Missing k a) (Missing j b) h g place rank = ap answers.Missing (same_input table k j a b h.0 g.0 place)
one_answer arrays table (TypeWrong k a) (TypeWrong j b) h g place rank = ap answers.TypeWrong (same_input table k j a b h.0 g.0 place)
one_answer arrays table (ShapeWrong k a) (ShapeWrong j b) h g place rank = ap answers.ShapeWrong (same_input table k j a b h.0 g.0 place)
one_answer arrays table (Extra k a) (Extra j b) h g place rank =
    let same : k ≡ j = omega arith in
    ap answers.Extra (some_name a b (sym h.0 ∙ ap (slice_get (names_of arrays)) same ∙ g.0))
one_answer arrays table _ _ h g place rank = absurd (omega arith)

pub one_misfit : (arrays : Pairs) (table : List Entry) (a b : FitFault) → IsUnfit arrays table a → IsUnfit arrays table b → a ≡ b
one_misfit arrays table a b h g =
    let same = level (IsMisfit arrays table) (place_in table) fitting.rank_of h.misfit g.misfit h.first g.first in
    h.is ∙ one_answer arrays table h.misfit g.misfit h.first.here g.first.here same.places same.ranks ∙ sym g.is
