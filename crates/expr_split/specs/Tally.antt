-- Inner: counting the occurrences of names.
use Rattle.std.specs.Prelude.{◌≡◌, ℕ, ◌+◌, ◌<◌, min, List, [], Option, None, Some, length, get_or, slice_set, ◌==◌}
use Rattle.std.specs.List.{count_by}
use Rattle.shape_check.specs.Node.{Node}
use Rattle.shape_check.specs.Statement.{Statement, Input, Let, Output, in_value}
use Rattle.shape_check.specs.Occurrences as occurrences

-- the expression of a statement
abbrev pub value_in : Statement → Option Node
value_in (Input name elem shape) = None
value_in (Let name value) = Some value
value_in (Output name value) = Some value

abbrev pub names_of : Statement → List ℕ
names_of s = in_value [] occurrences.names_in s

abbrev pub mapped_of : Statement → List ℕ
mapped_of s = in_value [] occurrences.names_under_maps s

-- one occurrence more, up to 2
abbrev pub bumped : List ℕ → ℕ → List ℕ
bumped uses k = slice_set uses k (min (get_or uses k 0) 1 + 1)

-- how often each of the first names occurs, up to 2
pub record IsTally (uses names : List ℕ) (count : ℕ) : Type 0 where
  pub counted : length uses ≡ count
  pub each : (k : ℕ) → k < count → get_or uses k 0 ≡ min 2 (count_by (λ j. j == k) names)
