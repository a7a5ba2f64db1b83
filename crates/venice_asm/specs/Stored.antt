-- Inner: how a label lies in its 31 bytes: its own bytes first, and then zeros.
use Rattle.std.specs.Prelude.{◌≡◌, ℕ, ◌-◌, List, ◌++◌, length, take, replicate}
use Rattle.ven_base.specs.Name.{name_limit}
use Rattle.venice_asm.specs.Label.{IsLabel}

-- the bytes that the first len places hold
abbrev pub stored_bytes : List ℕ → ℕ → List ℕ
stored_bytes bytes len = take len bytes

-- the label's bytes, with zeros up to 31
abbrev pub padded : List ℕ → List ℕ
padded label = label ++ replicate (name_limit - length label) 0

-- these places hold a label of this length
pub record IsStored (bytes : List ℕ) (len : ℕ) : Type 0 where
  pub is_padded : padded (stored_bytes bytes len) ≡ bytes
  pub len_is : length (stored_bytes bytes len) ≡ len
  pub is_label : IsLabel (stored_bytes bytes len)
