-- The names of a text.
use Rattle.std.specs.Prelude.{ℕ, ◌≤◌, List, length}
use Rattle.ven_base.specs.Name.{IsNameToken, name_limit}

-- the bytes of a name in a text: a name token of at most 31 bytes, whatever it spells
pub record IsLabel (bytes : List ℕ) : Type 0 where
  pub token : IsNameToken bytes
  pub short : length bytes ≤ name_limit
