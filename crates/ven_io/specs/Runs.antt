-- Runs of bytes of one sort, as the scan passes over them.
use Rattle.std.specs.Prelude.{◌≡◌, ℕ, ◌+◌, ◌<◌, ◌≤◌, Bool, not, ◌&&◌, nat_lt, ◌==◌, if◌then◌else◌, List, length, slice_index, slice_range, IsTrue, IsFalse}
use Rattle.ven_base.specs.Name.{is_digit, is_name_byte}
use Rattle.ven_io.specs.Token.{is_blank, is_hex_digit, line_end, IsSpelling}
use Rattle.ven_io.specs.Number.{is_hexadecimal}
use Rattle.ven_io.specs.Signs.{is_double_sign}
use Rattle.ven_io.specs.declared.token.TokenKind.TheVariants.{Sign}
use Rattle.ven_io.specs.declared.runs.Run.{Run}
use Rattle.ven_io.specs.declared.runs.Run.TheVariants.{Blanks, Comment, NameBytes, Digits, HexDigits}

-- the byte may stand in the run; a comment goes on over ASCII bytes that end no line
abbrev pub is_in_run : Run → ℕ → Bool
is_in_run Blanks b = is_blank b
is_in_run Comment b = nat_lt b 128 && not (b == line_end)
is_in_run NameBytes b = is_name_byte b
is_in_run Digits b = is_digit b
is_in_run HexDigits b = is_hex_digit b

-- the digits of a number's text
abbrev pub digits_run : List ℕ → Run
digits_run text = if is_hexadecimal text then HexDigits else Digits

-- the bytes from a place up to another pass the test
abbrev pub AllBetween : (ℕ → Bool) → List ℕ → ℕ → ℕ → Type 0
AllBetween test text from to = (k : ℕ) → from ≤ k → k < to → IsTrue (test (slice_index text k))

-- the longest run of bytes that pass the test ends there
pub record IsRun (test : ℕ → Bool) (text : List ℕ) (from to : ℕ) : Type 0 where
  pub after : from ≤ to
  pub in_text : to ≤ length text
  pub same : AllBetween test text from to
  pub stops : to < length text → IsFalse (test (slice_index text to))

-- `0x` and a hexadecimal digit stand there
pub record IsHexadecimalAt (text : List ℕ) (start : ℕ) : Type 0 where
  pub room : start + 2 < length text
  pub zero_digit : slice_index text start ≡ 48
  pub letter : slice_index text (start + 1) ≡ 120
  pub digit : IsTrue (is_hex_digit (slice_index text (start + 2)))

-- a sign of two bytes stands there
pub record IsDoubleSignAt (text : List ℕ) (start : ℕ) : Type 0 where
  pub room : start + 1 < length text
  pub bytes : IsTrue (is_double_sign (slice_index text start) (slice_index text (start + 1)))

-- no sign is spelled from the start
abbrev pub NoSign : List ℕ → ℕ → Type 0
NoSign text start = (end : ℕ) → start < end → end ≤ length text → ¬ IsSpelling Sign (slice_range text start end)
