-- Names: what may be one, and the words that are taken.
use Rattle.std.specs.Prelude.{ℕ, ◌≤◌, Bool, ◌||◌, ◌&&◌, nat_le, ◌==◌, List, [], ◌∷◌, length, IsTrue, Contains, codes}
use Rattle.std.specs.List.{list_all}

-- a letter or `_`
abbrev pub is_name_start : ℕ → Bool
is_name_start b = (nat_le 65 b && nat_le b 90) || (nat_le 97 b && nat_le b 122) || (b == 95)

-- a decimal digit
abbrev pub is_digit : ℕ → Bool
is_digit b = nat_le 48 b && nat_le b 57

-- a letter, a digit or `_`
abbrev pub is_name_byte : ℕ → Bool
is_name_byte b = is_name_start b || is_digit b

-- a name token: a letter or `_`, and then letters, digits and `_`
abbrev pub IsNameToken : List ℕ → Type 0
IsNameToken [] = ⊥
IsNameToken (b ∷ bytes) = IsTrue (is_name_start b) × IsTrue (list_all is_name_byte bytes)

-- the words that the array language keeps for itself: statements, element types and functions
abbrev pub reserved_words : List (List ℕ)
reserved_words =
    codes "input" ∷ codes "let" ∷ codes "output"
    ∷ codes "u8" ∷ codes "i8" ∷ codes "u16" ∷ codes "i16" ∷ codes "u32" ∷ codes "i32"
    ∷ codes "abs" ∷ codes "rowsum" ∷ codes "rowmin" ∷ codes "rowmax" ∷ codes "sum" ∷ codes "minval" ∷ codes "maxval"
    ∷ codes "min" ∷ codes "max" ∷ codes "select" ∷ codes "shift" ∷ codes "rotate" ∷ codes "section" ∷ codes "stretch"
    ∷ []

abbrev pub IsReserved : List ℕ → Type 0
IsReserved bytes = Contains reserved_words bytes

-- the most bytes that a name may have
abbrev pub name_limit : ℕ
name_limit = 31

-- the bytes of a name: a name token of at most 31 bytes that isn't reserved
pub record IsName (bytes : List ℕ) : Type 0 where
  pub token : IsNameToken bytes
  pub short : length bytes ≤ name_limit
  pub free : ¬ IsReserved bytes
