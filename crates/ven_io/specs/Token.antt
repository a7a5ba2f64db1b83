-- Tokens: what is passed over, how each kind is spelled, and which one comes next.
use Rattle.std.specs.Prelude.{◌≡◌, ◌≢◌, ◌⊎◌, ℕ, ◌<◌, ◌≤◌, Bool, ◌||◌, ◌&&◌, nat_le, ◌==◌, List, [], ◌∷◌, ◌++◌, length, slice_index, slice_range, IsTrue, Contains, codes, Result, Ok, Err}
use Rattle.std.specs.List.{list_all}
use Rattle.ven_base.specs.Name.{is_digit, IsNameToken}
use Rattle.ven_io.specs.declared.token.TokenKind.{TokenKind}
use Rattle.ven_io.specs.declared.token.TokenKind.TheVariants.{Name, Number, Sign, Line, End}
use Rattle.ven_io.specs.declared.token.Token.{Token}
use Rattle.ven_io.specs.declared.token.TokenFault.{TokenFault}
use Rattle.ven_io.specs.declared.token.TokenFault.TheVariants.{NotAscii, Unexpected}

-- a token's bytes
abbrev pub bytes_of : List ℕ → Token → List ℕ
bytes_of text token = slice_range text token.start token.end

-- a space, a tab or a carriage return
abbrev pub is_blank : ℕ → Bool
is_blank b = (b == 32) || (b == 9) || (b == 13)

-- the byte that ends a line
abbrev pub line_end : ℕ
line_end = 10

-- the byte that begins a comment, `#`
abbrev pub comment_sign : ℕ
comment_sign = 35

-- the place is in a comment: the comment's sign is at it or before it, and no line ends from there up to it
pub record IsInComment (text : List ℕ) (from place : ℕ) : Type 0 where
  pub hash : ℕ
  pub after : from ≤ hash
  pub before : hash ≤ place
  pub sign : slice_index text hash ≡ comment_sign
  pub unended : (k : ℕ) → hash ≤ k → k ≤ place → slice_index text k ≢ line_end

-- the byte there is ASCII, and is a blank or in a comment
pub record IsSkipped (text : List ℕ) (from place : ℕ) : Type 0 where
  pub ascii : slice_index text place < 128
  pub passed : IsTrue (is_blank (slice_index text place)) ⊎ IsInComment text from place

-- the next place to read: all before it is skipped, and it isn't
pub record IsStop (text : List ℕ) (from place : ℕ) : Type 0 where
  pub after : from ≤ place
  pub in_text : place ≤ length text
  pub before : (k : ℕ) → from ≤ k → k < place → IsSkipped text from k
  pub unskipped : place < length text → ¬ IsSkipped text from place

-- a digit, or a letter from `a` to `f` of either case
abbrev pub is_hex_digit : ℕ → Bool
is_hex_digit b = is_digit b || (nat_le 97 b && nat_le b 102) || (nat_le 65 b && nat_le b 70)

-- one or more bytes, all of which pass the test
abbrev pub AreSome : (ℕ → Bool) → List ℕ → Type 0
AreSome test bytes = (0 < length bytes) × IsTrue (list_all test bytes)

-- a number token: digits, or `0x` and hexadecimal digits
abbrev pub IsNumberToken : List ℕ → Type 0
IsNumberToken bytes =
    AreSome is_digit bytes ⊎ ((digits : List ℕ) × (bytes ≡ codes "0x" ++ digits) × AreSome is_hex_digit digits)

-- the signs
abbrev pub signs : List (List ℕ)
signs =
    codes "<<" ∷ codes ">>" ∷ codes "==" ∷ codes "!=" ∷ codes "<=" ∷ codes ">="
    ∷ codes "+" ∷ codes "-" ∷ codes "*" ∷ codes "&" ∷ codes "|" ∷ codes "^" ∷ codes "~"
    ∷ codes "(" ∷ codes ")" ∷ codes "[" ∷ codes "]" ∷ codes "," ∷ codes ";" ∷ codes "=" ∷ codes "<" ∷ codes ">"
    ∷ codes ":"
    ∷ []

-- the bytes spell a token of the kind; the text's end has no bytes, and so no spelling
abbrev pub IsSpelling : TokenKind → List ℕ → Type 0
IsSpelling Name bytes = IsNameToken bytes
IsSpelling Number bytes = IsNumberToken bytes
IsSpelling Sign bytes = Contains signs bytes
IsSpelling Line bytes = bytes ≡ line_end ∷ []
IsSpelling End bytes = ⊥

-- no token of more bytes than up to the end is spelled from the start
abbrev pub NoneBeyond : List ℕ → ℕ → ℕ → Type 0
NoneBeyond text start end =
    (kind : TokenKind) (further : ℕ) → end < further → further ≤ length text
    → ¬ IsSpelling kind (slice_range text start further)

-- no token begins there
abbrev pub NoneAt : List ℕ → ℕ → Type 0
NoneAt text at = NoneBeyond text at at

-- the token stands in the text: its bytes spell one of its kind, and no longer token begins where it does
pub record StandsAt (text : List ℕ) (token : Token) : Type 0 where
  pub some : token.start < token.end
  pub in_text : token.end ≤ length text
  pub spelled : IsSpelling token.kind (slice_range text token.start token.end)
  pub longest : NoneBeyond text token.start token.end

-- the token stands at the text's end
pub record IsEnd (text : List ℕ) (token : Token) : Type 0 where
  pub kind : token.kind ≡ End
  pub start : token.start ≡ length text
  pub end : token.end ≡ length text

-- what is read next from a place on: the token that stands at the next place to read, or why none does
abbrev pub NextIs : List ℕ → ℕ → Result Token TokenFault → Type 0
NextIs text from (Ok token) = IsStop text from token.start × (IsEnd text token ⊎ StandsAt text token)
NextIs text from (Err (NotAscii at)) = IsStop text from at × (at < length text) × (128 ≤ slice_index text at)
NextIs text from (Err (Unexpected at)) =
    IsStop text from at × (at < length text) × (slice_index text at < 128) × NoneAt text at

-- one answer only is next: each text and place settles it
abbrev pub HasOneNext : Type 0
HasOneNext =
    (text : List ℕ) (from : ℕ) (one other : Result Token TokenFault) → NextIs text from one → NextIs text from other
    → one ≡ other
