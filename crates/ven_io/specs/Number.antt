-- Numbers: the value of digits, and what the bytes of a number denote.
use Rattle.std.specs.Prelude.{◌≡◌, ℕ, ◌+◌, ◌-◌, ◌*◌, ◌^◌, ◌<◌, ◌≤◌, Bool, nat_le, nat_eq, ◌==◌, if◌then◌else◌, List, [], ◌∷◌, length, drop, slice_index, IsTrue, IsFalse, ℤ, pos, codes, Result, Ok, Err}
use Rattle.std.specs.List.{list_all, starts_with}
use Rattle.ven_base.specs.Name.{is_digit}
use Rattle.ven_io.specs.Token.{is_hex_digit, IsNumberToken}
use Rattle.ven_io.specs.declared.numbers.NumberFault.{NumberFault}
use Rattle.ven_io.specs.declared.numbers.NumberFault.TheVariants.{Empty, NotDigit, TooLarge}

-- the byte is a digit of the base, which is 10 or 16
abbrev pub is_digit_of : ℕ → ℕ → Bool
is_digit_of base b = if base == 16 then is_hex_digit b else is_digit b

-- the value of one digit; letters of either case go on from 10
abbrev pub digit_value : ℕ → ℕ
digit_value b = if nat_le b 57 then b - 48 else (if nat_le b 70 then b - 55 else b - 87)

-- the value of digits by their places: each counts as often as the base's power to the number of digits after it
abbrev pub digits_value : ℕ → List ℕ → ℕ
digits_value base [] = 0
digits_value base (digit ∷ digits) = digit_value digit * base ^ length digits + digits_value base digits

-- the text begins with `0x`
abbrev pub is_hexadecimal : List ℕ → Bool
is_hexadecimal text = starts_with nat_eq text (codes "0x")

-- the base of a number's text: 16 after `0x`, else 10
abbrev pub base_of : List ℕ → ℕ
base_of text = if is_hexadecimal text then 16 else 10

-- where the places of the digits begin: behind `0x`, else at once
abbrev pub digits_start : List ℕ → ℕ
digits_start text = if is_hexadecimal text then 2 else 0

-- the bytes in the places of digits
abbrev pub digits_of : List ℕ → List ℕ
digits_of text = drop (digits_start text) text

-- the value of the bytes in the places of digits
abbrev pub value_of : List ℕ → ℕ
value_of text = digits_value (base_of text) (digits_of text)

-- the text is a number's: at least one digit, and all in the places of digits are digits of the base
pub record IsNumeral (text : List ℕ) : Type 0 where
  pub some : 0 < length (digits_of text)
  pub each : IsTrue (list_all (is_digit_of (base_of text)) (digits_of text))

-- the first byte in a digit's place that isn't a digit of the base
pub record IsFirstOther (text : List ℕ) (at : ℕ) : Type 0 where
  pub after : digits_start text ≤ at
  pub in_text : at < length text
  pub before : (k : ℕ) → digits_start text ≤ k → k < at → IsTrue (is_digit_of (base_of text) (slice_index text k))
  pub other : IsFalse (is_digit_of (base_of text) (slice_index text at))

-- the greatest number that a text may have
abbrev pub number_limit : ℕ
number_limit = 4294967295

-- what the text of a number denotes: its value, or why it has none
abbrev pub NumberIs : List ℕ → Result ℤ NumberFault → Type 0
NumberIs text (Ok n) = IsNumeral text × (n ≡ pos (value_of text)) × (value_of text ≤ number_limit)
NumberIs text (Err Empty) = digits_of text ≡ []
NumberIs text (Err (NotDigit at)) = IsFirstOther text at
NumberIs text (Err TooLarge) = IsNumeral text × (number_limit < value_of text)

-- the bytes are a number token, and n is its value, however great
abbrev pub ValueOf : List ℕ → ℕ → Type 0
ValueOf bytes n = IsNumberToken bytes × (n ≡ value_of bytes)

-- a text denotes one number, or has one fault
abbrev pub HasOneNumber : Type 0
HasOneNumber =
    (text : List ℕ) (one other : Result ℤ NumberFault) → NumberIs text one → NumberIs text other → one ≡ other

-- what number answers at a number token: its value, or that it is too large
abbrev pub IsTokensNumber : List ℕ → Result ℤ NumberFault → Type 0
IsTokensNumber bytes (Ok n) = (value : ℕ) × ValueOf bytes value × (n ≡ pos value) × (value ≤ number_limit)
IsTokensNumber bytes (Err Empty) = ⊥
IsTokensNumber bytes (Err (NotDigit at)) = ⊥
IsTokensNumber bytes (Err TooLarge) = (value : ℕ) × ValueOf bytes value × (number_limit < value)

-- at a number token, what the text denotes is a value, small or too large, and never another fault
abbrev pub ReadsTokens : Type 0
ReadsTokens =
    (bytes : List ℕ) (result : Result ℤ NumberFault) → IsNumberToken bytes → NumberIs bytes result
    → IsTokensNumber bytes result
