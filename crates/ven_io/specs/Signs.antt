-- Signs by their bytes.
use Rattle.std.specs.Prelude.{ℕ, Bool, ◌||◌, ◌&&◌, ◌==◌, codes}
use Rattle.std.specs.List.{list_any}

-- the byte is a sign by itself
abbrev pub is_single_sign : ℕ → Bool
is_single_sign b = list_any (λ sign. sign == b) (codes "+-*&|^~()[],;=<>:")

-- the two bytes are a sign together
abbrev pub is_double_sign : ℕ → ℕ → Bool
is_double_sign b c =
    (b == 60 && c == 60) || (b == 62 && c == 62) || (c == 61 && (b == 61 || b == 33 || b == 60 || b == 62))
