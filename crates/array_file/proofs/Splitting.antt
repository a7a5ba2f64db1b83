-- The tokens of a text, one of them apart.
use Rattle.std.proofs.Common.{◌≡◌, ◌⊎◌, ⊎_elim, ℕ, ◌≤◌, ◌<◌, List, [], ◌∷◌, ◌++◌, Ok, arith, subst}
use Rattle.ven_io.specs.declared.token.Token.{Token}
use Rattle.ven_io.specs.Token.{NextIs}
use Rattle.ven_io.specs.Tokens.{Language, IsTaken, TokensTo, Here, Passed, Taken, IsBehind}

pub token_ends : (text : List ℕ) (from : ℕ) (token : Token) → NextIs text from (Ok token) → from ≤ token.end
token_ends text from token h = ⊎_elim (λ at_end. omega (arith, h.0.after, at_end.start, at_end.end)) (λ stands. omega (arith, h.0.after, stands.some)) h.1

head_of : {T : Type 0} (a b : T) (xs ys : List T) → a ∷ xs ≡ b ∷ ys → a ≡ b
head_of a b xs ys e = cc

tail_of : {T : Type 0} (a b : T) (xs ys : List T) → a ∷ xs ≡ b ∷ ys → xs ≡ ys
tail_of a b xs ys e = cc

none_split : {T : Type 0} (front rest : List T) (own : T) → [] ≡ front ++ own ∷ rest → ⊥
none_split [] rest own e = cc
none_split (t ∷ front) rest own e = cc

-- one of the tokens of a text, with those before and behind it
pub record Splits {T : Type 0} (language : Language T) (text : List ℕ) (from : ℕ) (front : List T) (own : T) (rest : List T) (to : ℕ) : Type 0 where
  pub place : ℕ
  pub token : Token
  pub read : TokensTo language text from front place
  pub taken : IsTaken language text place token own
  pub behind : TokensTo language text token.end rest to

pub split_at : {T : Type 0} (language : Language T) (text : List ℕ) (from to : ℕ) (tokens front : List T) (own : T) (rest : List T) → tokens ≡ front ++ own ∷ rest → TokensTo language text from tokens to → Splits language text from front own rest to
split_at language text from _ _ front own rest is (Here place) = absurd (none_split front rest own is)
split_at language text from to tokens front own rest is (Passed place last token more next passes h) =
    let s = split_at language text token.end to tokens front own rest is h in
    record { place = s.place; token = s.token; read = Passed from s.place token front next passes s.read; taken = s.taken; behind = s.behind }
split_at language text from to _ [] own rest is (Taken place last token first more taken h) =
    record {
      place = from;
      token = token;
      read = Here from;
      taken = subst (λ t. IsTaken language text from token t) (head_of first own more rest is) taken;
      behind = subst (λ ts. TokensTo language text token.end ts to) (tail_of first own more rest is) h;
    }
split_at language text from to _ (x ∷ front) own rest is (Taken place last token first more taken h) =
    let s = split_at language text token.end to more front own rest (tail_of first x more (front ++ own ∷ rest) is) h in
    record {
      place = s.place;
      token = s.token;
      taken = s.taken;
      behind = s.behind;
      read = Taken from s.place token x front (subst (λ t. IsTaken language text from token t) (head_of first x more (front ++ own ∷ rest) is) taken) s.read;
    }

-- what stands behind the tokens before it is that token
pub split_behind : {T : Type 0} (language : Language T) (text : List ℕ) (front rest : List T) (own : T) (to : ℕ) (s : Splits language text 0 front own rest to) → IsBehind language text front (Ok s.token)
split_behind language text front rest own to s = record { from = s.place; read = s.read; next_is = s.taken.next; kept = s.taken.kept }
