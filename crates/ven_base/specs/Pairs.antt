-- Lists of pairs of a name and an array, the names distinct.
use Rattle.std.specs.Prelude.{ℕ, ◌<◌, ◌^◌, ◌≢◌, List, length, All, Option, map}
use Rattle.std.specs.Map.{keys_of, lookup}
use Rattle.std.specs.List.{AllPairs}
use Rattle.std.specs.Str.{bytes_eq}
use Rattle.ven_base.specs.Name.{IsName}
use Rattle.ven_base.specs.Grid.{Grid, IsGrid}

abbrev pub Pairs : Type 0
Pairs = List (List ℕ × Grid)

-- the names, in the list's order
abbrev pub names_of : Pairs → List (List ℕ)
names_of pairs = keys_of pairs

-- the arrays, in the list's order
abbrev pub arrays_of : Pairs → List Grid
arrays_of pairs = map (λ p. p.1) pairs

-- the array with this name
abbrev pub array_named : Pairs → List ℕ → Option Grid
array_named pairs name = lookup (bytes_eq name) pairs

-- no name comes twice, and all that are there are names and arrays
pub record ArePairs (pairs : Pairs) : Type 0 where
  pub distinct : AllPairs (λ x y. x ≢ y) (names_of pairs)
  pub named : All IsName (names_of pairs)
  pub arrays : All IsGrid (arrays_of pairs)
  pub counted : length pairs < 2 ^ 32
