-- Two lists of a text's first words: one goes on where the other stops, and with what stands next.
use Rattle.std.proofs.Common.{◌≡◌, ℕ, Bool, true, false, IsTrue, IsFalse, List, [], ◌∷◌, ◌++◌, length, Some, Result, Ok, refl, sym, ap, subst, ◌∙◌, arith, append_assoc, length-append}
use Rattle.std.proofs.lemmas.List.{append_cancel_left}
use Rattle.ven_io.specs.declared.token.Token.{Token}
use Rattle.ven_io.specs.declared.token.TokenFault.{TokenFault}
use Rattle.ven_io.specs.Token.{NextIs, bytes_of}
use Rattle.ven_io.specs.Tokens.{IsTaken, TokensTo, Here, Passed, Taken, IsKept, IsBehind}
use Rattle.ven_io.proofs.Settled.{one_next_holds}
use Rattle.venice_asm.specs.declared.word.Word.{Word}
use Rattle.venice_asm.specs.Faults.{seen, BeginsWith}
use Rattle.venice_asm.specs.Words.{language}

-- others are the first of some words, or go on behind them with the word that stands next
pub data Ahead (text : List ℕ) (tokens : List Word) (next : Result Token TokenFault) (others : List Word) : Type 0 where
  Within : (rest : List Word) → tokens ≡ others ++ rest → Ahead text tokens next others
  Beyond : (word : Word) (rest : List Word) → seen text next ≡ Some word → others ≡ tokens ++ word ∷ rest → Ahead text tokens next others

true_false : (b : Bool) → IsTrue b → IsFalse b → ⊥
true_false b t f = let e : true ≡ false = sym t ∙ f in cc

read_as : Token → Result Token TokenFault
read_as t = Ok t

same_read : (t u : Token) → read_as t ≡ read_as u → t ≡ u
unfolding read_as
same_read t u e = cc

same_next : (text : List ℕ) (from : ℕ) (t u : Token) → NextIs text from (Ok t) → NextIs text from (Ok u) → t ≡ u
unfolding read_as
same_next text from t u h g = same_read t u (one_next_holds text from (Ok t) (Ok u) h g)

passed_kept : (text : List ℕ) (from : ℕ) (token : Token) (next : Result Token TokenFault) → NextIs text from (Ok token) → IsTrue (language.passes token.kind) → NextIs text from next → IsKept language next → ⊥
passed_kept text from token next h passes g kept =
    true_false (language.passes token.kind) passes (subst (IsKept language) (one_next_holds text from next (Ok token) g h) kept)

same_word : (text : List ℕ) (from : ℕ) (token found : Token) (own other : Word) → IsTaken language text from token own → IsTaken language text from found other → own ≡ other
same_word text from token found own other h g =
    let e : Some own ≡ Some other = sym h.is ∙ ap (λ (t : Token). language.token_of t (bytes_of text t)) (same_next text from token found h.next g.next) ∙ g.is in
    cc

ahead_behind : (text : List ℕ) (one other : Word) (tokens others : List Word) (next : Result Token TokenFault) → one ≡ other → Ahead text tokens next others → Ahead text (one ∷ tokens) next (other ∷ others)
ahead_behind text one other tokens others next same (Within rest all) = Within rest (ap (λ w. w ∷ tokens) same ∙ ap (λ ts. other ∷ ts) all)
ahead_behind text one other tokens others next same (Beyond word rest is all) = Beyond word rest is (ap (λ w. w ∷ others) (sym same) ∙ ap (λ ts. one ∷ ts) all)

pub ahead : (text : List ℕ) (from to end : ℕ) (tokens others : List Word) (next : Result Token TokenFault) → TokensTo language text from tokens to → NextIs text to next → IsKept language next → TokensTo language text from others end → Ahead text tokens next others
ahead text from _ _ _ _ next (Here place) is kept (Here there) = Within [] refl
ahead text from _ end _ others next (Here place) is kept (Passed there last token rest found passes g) = absurd (passed_kept text from token next found passes is kept)
ahead text from _ end _ _ next (Here place) is kept (Taken there last token own rest taken g) =
    Beyond own rest (ap (seen text) (one_next_holds text from next (Ok token) is taken.next) ∙ taken.is) refl
ahead text from to _ tokens _ next (Passed place last token rest found passes h) is kept (Here there) = Within tokens refl
ahead text from to end tokens others next (Passed place last token rest found passes h) is kept (Passed there far other more again too g) =
    ahead text token.end to end rest more next h is kept (subst (λ (t : Token). TokensTo language text t.end more end) (same_next text from other token again found) g)
ahead text from to end tokens _ next (Passed place last token rest found passes h) is kept (Taken there far other own more taken g) =
    absurd (passed_kept text from token (Ok other) found passes taken.next taken.kept)
ahead text from to _ tokens _ next (Taken place last token own rest taken h) is kept (Here there) = Within tokens refl
ahead text from to end _ others next (Taken place last token own rest taken h) is kept (Passed there far other more again too g) =
    absurd (passed_kept text from other (Ok token) again too taken.next taken.kept)
ahead text from to end _ _ next (Taken place last token own rest taken h) is kept (Taken there far other its more again g) =
    ahead_behind text own its rest more next (same_word text from token other own its taken again)
    (ahead text token.end to end rest more next h is kept (subst (λ (t : Token). TokensTo language text t.end more end) (same_next text from other token again.next taken.next) g))

no_longer : (tokens rest : List Word) (word : Word) (more : List Word) → tokens ≡ (tokens ++ word ∷ rest) ++ more → ⊥
no_longer tokens rest word more e = absurd (omega (arith, ap length e, length-append (tokens ++ word ∷ rest) more, length-append tokens (word ∷ rest)))

head_is : (a b : Word) (xs ys : List Word) → a ∷ xs ≡ b ∷ ys → a ≡ b
head_is a b xs ys e = cc

-- the word behind the first words is what stands there
pub next_word : (text : List ℕ) (tokens : List Word) (next : Result Token TokenFault) (word : Word) (rest : List Word) → IsBehind language text tokens next → BeginsWith text (tokens ++ word ∷ rest) → seen text next ≡ Some word
next_word text tokens next word rest h (to, read) = by (ahead text 0 h.from to tokens (tokens ++ word ∷ rest) next h.read h.next_is h.kept read)
  where
    by : Ahead text tokens next (tokens ++ word ∷ rest) → seen text next ≡ Some word
    by (Within more all) = absurd (no_longer tokens rest word more all)
    by (Beyond own more is all) = is ∙ ap (λ w. Some w) (sym (head_is word own rest more (append_cancel_left tokens (word ∷ rest) (own ∷ more) all)))

-- two lists of words behind the same first words
pub compare : (text : List ℕ) (front xs ys : List Word) (next : Result Token TokenFault) → IsBehind language text (front ++ xs) next → BeginsWith text (front ++ ys) → Ahead text xs next ys
compare text front xs ys next h (to, read) = by (ahead text 0 h.from to (front ++ xs) (front ++ ys) next h.read h.next_is h.kept read)
  where
    by : Ahead text (front ++ xs) next (front ++ ys) → Ahead text xs next ys
    by (Within rest all) = Within rest (append_cancel_left front xs (ys ++ rest) (all ∙ append_assoc front ys rest))
    by (Beyond word rest is all) = Beyond word rest is (append_cancel_left front ys (xs ++ word ∷ rest) (all ∙ append_assoc front xs (word ∷ rest)))
