-- Tokens up to a place: how they go on, and that a text has them in one way.
use Rattle.std.proofs.Common.{◌≡◌, ◌≢◌, ⊎_elim, ℕ, ◌≤◌, ◌<◌, Bool, true, false, IsTrue, IsFalse, List, [], ◌∷◌, ◌++◌, Some, Result, Ok, Err, refl, sym, ap, subst, ◌∙◌, arith}
use Rattle.ven_io.specs.declared.token.TokenKind.TheVariants.{End}
use Rattle.ven_io.specs.declared.token.Token.{Token}
use Rattle.ven_io.specs.declared.token.TokenFault.{TokenFault}
use Rattle.ven_io.specs.declared.token.TokenFault.TheVariants.{NotAscii, Unexpected}
use Rattle.ven_io.specs.Token.{NextIs, bytes_of}
use Rattle.ven_io.specs.Tokens.{Language, IsTaken, TokensTo, Here, Passed, Taken, IsKept, IsBehind, place_of}
use Rattle.ven_io.proofs.Settled.{one_next_holds}

-- tokens, and more behind them
pub tokens_on : {T : Type 0} (language : Language T) (text : List ℕ) (from mid to : ℕ) (tokens more : List T) → TokensTo language text from tokens mid → TokensTo language text mid more to → TokensTo language text from (tokens ++ more) to
tokens_on language text from _ to _ more (Here place) h = h
tokens_on language text from mid to tokens more (Passed place last token rest next passes h) g = Passed from to token (rest ++ more) next passes (tokens_on language text token.end mid to rest more h g)
tokens_on language text from mid to _ more (Taken place last token own rest taken h) g = Taken from to token own (rest ++ more) taken (tokens_on language text token.end mid to rest more h g)

-- what is read next stands no earlier
pub next_after : (text : List ℕ) (from : ℕ) (next : Result Token TokenFault) → NextIs text from next → from ≤ place_of next
next_after text from (Ok token) h = h.0.after
next_after text from (Err (NotAscii at)) h = h.0.after
next_after text from (Err (Unexpected at)) h = h.0.after

token_ends : (text : List ℕ) (from : ℕ) (token : Token) → NextIs text from (Ok token) → from ≤ token.end
token_ends text from token h = ⊎_elim (λ at_end. omega (arith, h.0.after, at_end.start, at_end.end)) (λ stands. omega (arith, h.0.after, stands.some)) h.1

token_some : (text : List ℕ) (from : ℕ) (token : Token) → NextIs text from (Ok token) → token.kind ≢ End → token.start < token.end
token_some text from token h some = ⊎_elim (λ at_end. absurd (some at_end.kind)) (λ stands. stands.some) h.1

pub tokens_after : {T : Type 0} (language : Language T) (text : List ℕ) (from to : ℕ) (tokens : List T) → TokensTo language text from tokens to → from ≤ to
tokens_after language text from _ _ (Here place) = omega arith
tokens_after language text from to tokens (Passed place last token rest next passes h) = omega (arith, token_ends text from token next, tokens_after language text token.end to rest h)
tokens_after language text from to _ (Taken place last token own rest taken h) = omega (arith, token_ends text from token taken.next, tokens_after language text token.end to rest h)

-- behind the first tokens stands a token that the others have too, before what stands behind those
pub record GoesOn {T : Type 0} (language : Language T) (text : List ℕ) (tokens : List T) (next : Result Token TokenFault) (others : List T) (later : Result Token TokenFault) : Type 0 where
  pub token : Token
  pub own : T
  pub rest : List T
  pub is : next ≡ Ok token
  pub takes : language.token_of token (bytes_of text token) ≡ Some own
  pub all : others ≡ tokens ++ own ∷ rest
  pub before : token.start < place_of later

pub data Meets {T : Type 0} (language : Language T) (text : List ℕ) (tokens : List T) (next : Result Token TokenFault) (others : List T) (later : Result Token TokenFault) : Type 0 where
  Same : tokens ≡ others → next ≡ later → Meets language text tokens next others later
  Before : GoesOn language text tokens next others later → Meets language text tokens next others later
  After : GoesOn language text others later tokens next → Meets language text tokens next others later

true_false : (b : Bool) → IsTrue b → IsFalse b → ⊥
true_false b t f = let e : true ≡ false = sym t ∙ f in cc

passed_kept : {T : Type 0} (language : Language T) (text : List ℕ) (from : ℕ) (token : Token) (next : Result Token TokenFault) → NextIs text from (Ok token) → IsTrue (language.passes token.kind) → NextIs text from next → IsKept language next → ⊥
passed_kept language text from token next h passes g kept =
    true_false (language.passes token.kind) passes (subst (IsKept language) (one_next_holds text from next (Ok token) g h) kept)

read_as : Token → Result Token TokenFault
read_as t = Ok t

ok_is : (t u : Token) → read_as t ≡ read_as u → t ≡ u
unfolding read_as
ok_is t u e = cc

-- the next token from a place is one
same_next : (text : List ℕ) (from : ℕ) (t u : Token) → NextIs text from (Ok t) → NextIs text from (Ok u) → t ≡ u
unfolding read_as
same_next text from t u h g = ok_is t u (one_next_holds text from (Ok t) (Ok u) h g)

goes_first : {T : Type 0} (language : Language T) (text : List ℕ) (from to : ℕ) (token : Token) (own : T) (rest : List T) (next later : Result Token TokenFault) → IsTaken language text from token own → TokensTo language text token.end rest to → NextIs text from next → NextIs text to later → GoesOn language text [] next (own ∷ rest) later
goes_first language text from to token own rest next later taken h is then_is = record {
  token = token;
  own = own;
  rest = rest;
  is = one_next_holds text from next (Ok token) is taken.next;
  takes = taken.is;
  all = refl;
  before = omega (arith, token_some text from token taken.next taken.some, tokens_after language text token.end to rest h, next_after text to later then_is);
}

goes_behind : {T : Type 0} (language : Language T) (text : List ℕ) (one other : T) (tokens others : List T) (next later : Result Token TokenFault) → one ≡ other → GoesOn language text tokens next others later → GoesOn language text (one ∷ tokens) next (other ∷ others) later
goes_behind language text one other tokens others next later same g = record {
  token = g.token;
  own = g.own;
  rest = g.rest;
  is = g.is;
  takes = g.takes;
  before = g.before;
  all = ap (λ x. x ∷ others) (sym same) ∙ ap (λ x. one ∷ x) g.all;
}

meets_behind : {T : Type 0} (language : Language T) (text : List ℕ) (one other : T) (tokens others : List T) (next later : Result Token TokenFault) → one ≡ other → Meets language text tokens next others later → Meets language text (one ∷ tokens) next (other ∷ others) later
meets_behind language text one other tokens others next later same (Same all is) = Same (ap (λ x. x ∷ tokens) same ∙ ap (λ x. other ∷ x) all) is
meets_behind language text one other tokens others next later same (Before g) = Before (goes_behind language text one other tokens others next later same g)
meets_behind language text one other tokens others next later same (After g) = After (goes_behind language text other one others tokens later next (sym same) g)

same_own : {T : Type 0} (language : Language T) (text : List ℕ) (from : ℕ) (token found : Token) (own other : T) → IsTaken language text from token own → IsTaken language text from found other → own ≡ other
same_own language text from token found own other h g =
    let e : Some own ≡ Some other = sym h.is ∙ ap (λ (t : Token). language.token_of t (bytes_of text t)) (same_next text from token found h.next g.next) ∙ g.is in
    cc

taken_passed : {T : Type 0} (language : Language T) (text : List ℕ) (from : ℕ) (token found : Token) (own : T) → IsTaken language text from token own → NextIs text from (Ok found) → IsTrue (language.passes found.kind) → ⊥
taken_passed language text from token found own taken next passes = passed_kept language text from found (Ok token) next passes taken.next taken.kept

-- from one place, two lists of tokens are one, or one goes on where the other stops
pub meets : {T : Type 0} (language : Language T) (text : List ℕ) (from to end : ℕ) (tokens others : List T) (next later : Result Token TokenFault) → TokensTo language text from tokens to → NextIs text to next → IsKept language next → TokensTo language text from others end → NextIs text end later → IsKept language later → Meets language text tokens next others later
meets language text from _ _ _ _ next later (Here place) is kept (Here there) then_is then_kept = Same refl (one_next_holds text from next later is then_is)
meets language text from _ end _ others next later (Here place) is kept (Passed there last token rest found passes g) then_is then_kept = absurd (passed_kept language text from token next found passes is kept)
meets language text from _ end _ _ next later (Here place) is kept (Taken there last token own rest taken g) then_is then_kept = Before (goes_first language text from end token own rest next later taken g is then_is)
meets language text from to _ tokens _ next later (Passed place last token rest found passes h) is kept (Here there) then_is then_kept = absurd (passed_kept language text from token later found passes then_is then_kept)
meets language text from to end tokens others next later (Passed place last token rest found passes h) is kept (Passed there far other more again too g) then_is then_kept =
    meets language text token.end to end rest more next later h is kept (subst (λ (t : Token). TokensTo language text t.end more end) (same_next text from other token again found) g) then_is then_kept
meets language text from to end tokens _ next later (Passed place last token rest found passes h) is kept (Taken there far other own more taken g) then_is then_kept = absurd (taken_passed language text from other token own taken found passes)
meets language text from to _ _ _ next later (Taken place last token own rest taken h) is kept (Here there) then_is then_kept = After (goes_first language text from to token own rest later next taken h then_is is)
meets language text from to end _ others next later (Taken place last token own rest taken h) is kept (Passed there far other more again too g) then_is then_kept = absurd (taken_passed language text from token other own taken again too)
meets language text from to end _ _ next later (Taken place last token own rest taken h) is kept (Taken there far other its more again g) then_is then_kept =
    meets_behind language text own its rest more next later (same_own language text from token other own its taken again)
    (meets language text token.end to end rest more next later h is kept (subst (λ (t : Token). TokensTo language text t.end more end) (same_next text from other token again.next taken.next) g) then_is then_kept)

-- two places behind first tokens of a text
pub one_text : {T : Type 0} (language : Language T) (text : List ℕ) (tokens others : List T) (next later : Result Token TokenFault) → IsBehind language text tokens next → IsBehind language text others later → Meets language text tokens next others later
one_text language text tokens others next later h g = meets language text 0 h.from g.from tokens others next later h.read h.next_is h.kept g.read g.next_is g.kept
