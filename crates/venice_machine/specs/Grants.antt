-- The text of a grant list: pairs of hexadecimal digits, and blanks and line ends between them.
use Rattle.std.specs.Prelude.{◌≡◌, ℕ, ◌+◌, ◌*◌, ◌≤◌, Bool, ◌||◌, ◌==◌, List, [], ◌∷◌, ◌++◌, length, All, IsTrue, IsFalse}
use Rattle.std.specs.List.{flat_map}
use Rattle.ven_base.specs.First.{IsFirst}
use Rattle.ven_io.specs.Token.{is_blank, line_end, is_hex_digit}
use Rattle.ven_io.specs.Number.{digit_value}
use Rattle.venice_machine.specs.declared.grants.GrantFault.{GrantFault}
use Rattle.venice_machine.specs.declared.grants.GrantFault.TheVariants as answers

-- the most grants of a list
abbrev pub grant_limit : ℕ
grant_limit = 1048576

-- ---- the texts

-- a blank or line end, or the two digits of a grant
pub data Piece : Type 0 where
  Space : (byte : ℕ) → Piece
  Pair : (high low : ℕ) → Piece

-- a space, a tab, a carriage return or a line end
abbrev pub is_space : ℕ → Bool
is_space byte = is_blank byte || (byte == line_end)

abbrev pub IsPiece : Piece → Type 0
IsPiece (Space byte) = IsTrue (is_space byte)
IsPiece (Pair high low) = IsTrue (is_hex_digit high) × IsTrue (is_hex_digit low)

abbrev pub piece_text : Piece → List ℕ
piece_text (Space byte) = byte ∷ []
piece_text (Pair high low) = high ∷ low ∷ []

abbrev pub piece_grants : Piece → List ℕ
piece_grants (Space byte) = []
piece_grants (Pair high low) = (16 * digit_value high + digit_value low) ∷ []

abbrev pub grants_of : List Piece → List ℕ
grants_of pieces = flat_map piece_grants pieces

-- the text is made of pieces, whose pairs are the list
pub record DenotesGrants (text grants : List ℕ) : Type 0 where
  pub pieces : List Piece
  pub are : All IsPiece pieces
  pub text_is : text ≡ flat_map piece_text pieces
  pub grants_are : grants ≡ grants_of pieces
  pub few : length grants ≤ grant_limit

-- ---- faults

-- why a text is at fault behind its first pieces: a byte is no digit and no space; a digit has none behind it; or a
-- pair begins that is one too many
pub data Cause : Type 0 where
  Strange : Cause
  Alone : Cause
  TooMany : Cause

-- no pair's second digit begins what is left
abbrev pub HasNoDigit : List ℕ → Type 0
HasNoDigit [] = Unit {0}
HasNoDigit (byte ∷ rest) = IsFalse (is_hex_digit byte)

-- the cause holds of what is left behind these pieces
abbrev pub Holds : Cause → List Piece → List ℕ → Type 0
Holds Strange pieces (byte ∷ rest) = IsFalse (is_space byte) × IsFalse (is_hex_digit byte)
Holds Alone pieces (byte ∷ rest) = IsTrue (is_hex_digit byte) × HasNoDigit rest
Holds TooMany pieces (byte ∷ rest) = IsTrue (is_hex_digit byte) × (length (grants_of pieces) ≡ grant_limit)
Holds cause pieces [] = ⊥

-- a lone digit's fault is where the second one is wanted
abbrev pub place_behind : Cause → List Piece → ℕ
place_behind Alone pieces = length (flat_map piece_text pieces) + 1
place_behind cause pieces = length (flat_map piece_text pieces)

-- a fault: why, and at which byte
pub record TextFault : Type 0 where
  pub cause : Cause
  pub at : ℕ

pub record IsFault (text : List ℕ) (fault : TextFault) : Type 0 where
  pub pieces : List Piece
  pub rest : List ℕ
  pub are : All IsPiece pieces
  pub text_is : text ≡ flat_map piece_text pieces ++ rest
  pub holds : Holds fault.cause pieces rest
  pub place : fault.at ≡ place_behind fault.cause pieces

abbrev pub answer_of : Cause → ℕ → GrantFault
answer_of Strange at = answers.Bad at
answer_of Alone at = answers.Bad at
answer_of TooMany at = answers.TooLong

-- the answer is that of the text's first fault; no two of them stand at one place
pub record IsRefused (text : List ℕ) (answer : GrantFault) : Type 0 where
  pub fault : TextFault
  pub first : IsFirst (IsFault text) (λ f. f.at) (λ f. 0) fault
  pub is : answer ≡ answer_of fault.cause fault.at

-- out of memory is no fault of the text
abbrev pub IsAnswered : List ℕ → GrantFault → Type 0
IsAnswered text answers.Memory = Unit {0}
IsAnswered text answer = IsRefused text answer
