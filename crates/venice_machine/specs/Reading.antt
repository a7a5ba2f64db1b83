-- Inner: how far the text of a grant list is read.
use Rattle.std.specs.Prelude.{◌≡◌, ℕ, ◌<◌, ◌≤◌, List, ◌++◌, length, drop, All, IsTrue, IsFalse, Option, Some, None}
use Rattle.std.specs.List.{flat_map}
use Rattle.ven_io.specs.Token.{is_hex_digit}
use Rattle.ven_io.specs.Number.{digit_value}
use Rattle.venice_machine.specs.Grants.{Piece, IsPiece, piece_text, grants_of, grant_limit}

-- the text is read up to a place, and these are the grants so far
pub record HasRead (text : List ℕ) (at : ℕ) (grants : List ℕ) : Type 0 where
  pub pieces : List Piece
  pub are : All IsPiece pieces
  pub text_is : text ≡ flat_map piece_text pieces ++ drop at text
  pub place : at ≡ length (flat_map piece_text pieces)
  pub grants_are : grants ≡ grants_of pieces
  pub few : length grants ≤ grant_limit

-- the value of the digit that a byte is, if it is there and is one
abbrev pub IsDigitOf : (byte value : Option ℕ) → Type 0
IsDigitOf None value = value ≡ None
IsDigitOf (Some byte) None = IsFalse (is_hex_digit byte)
IsDigitOf (Some byte) (Some value) = IsTrue (is_hex_digit byte) × (value ≡ digit_value byte) × (value < 16)
