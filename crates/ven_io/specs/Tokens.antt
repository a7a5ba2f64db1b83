-- The tokens of a text up to a place, as a language takes them.
use Rattle.std.specs.Prelude.{◌≡◌, ◌≢◌, ℕ, Bool, List, [], ◌∷◌, IsTrue, IsFalse, Option, Some, Result, Ok, Err}
use Rattle.ven_io.specs.declared.token.TokenKind.{TokenKind}
use Rattle.ven_io.specs.declared.token.TokenKind.TheVariants.{End}
use Rattle.ven_io.specs.declared.token.Token.{Token}
use Rattle.ven_io.specs.declared.token.TokenFault.{TokenFault}
use Rattle.ven_io.specs.declared.token.TokenFault.TheVariants.{NotAscii, Unexpected}
use Rattle.ven_io.specs.Token.{NextIs, bytes_of}

-- how a language takes tokens: the kinds that it passes over, and what a token with its bytes is in it, if it is
-- anything
pub record Language (T : Type 0) : Type 0 where
  pub passes : TokenKind → Bool
  pub token_of : Token → List ℕ → Option T

-- the token is read next, isn't passed over, and is the language's own token
pub record IsTaken {T : Type 0} (language : Language T) (text : List ℕ) (from : ℕ) (token : Token)
    (own : T) : Type 0 where
  pub next : NextIs text from (Ok token)
  pub some : token.kind ≢ End
  pub kept : IsFalse (language.passes token.kind)
  pub is : language.token_of token (bytes_of text token) ≡ Some own

-- the language's tokens from a place up to another
pub data TokensTo {T : Type 0} (language : Language T) (text : List ℕ) : ℕ → List T → ℕ → Type 0 where
  Here : (from : ℕ) → TokensTo language text from [] from
  Passed : (from to : ℕ) (token : Token) (tokens : List T) → NextIs text from (Ok token)
      → IsTrue (language.passes token.kind) → TokensTo language text token.end tokens to
      → TokensTo language text from tokens to
  Taken : (from to : ℕ) (token : Token) (own : T) (tokens : List T) → IsTaken language text from token own
      → TokensTo language text token.end tokens to → TokensTo language text from (own ∷ tokens) to

-- what is read isn't passed over
abbrev pub IsKept : {T : Type 0} → Language T → Result Token TokenFault → Type 0
IsKept language (Ok token) = IsFalse (language.passes token.kind)
IsKept language (Err fault) = Unit {0}

-- these are the text's first tokens, and this stands behind them: a token, the text's end, or a byte that begins none
pub record IsBehind {T : Type 0} (language : Language T) (text : List ℕ) (tokens : List T)
    (next : Result Token TokenFault) : Type 0 where
  pub from : ℕ
  pub read : TokensTo language text 0 tokens from
  pub next_is : NextIs text from next
  pub kept : IsKept language next

-- the place at which it stands
abbrev pub place_of : Result Token TokenFault → ℕ
place_of (Ok token) = token.start
place_of (Err (NotAscii at)) = at
place_of (Err (Unexpected at)) = at
