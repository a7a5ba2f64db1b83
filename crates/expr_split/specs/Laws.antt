-- What holds of the split of every checked program.
use Rattle.std.specs.Prelude.{◌≡◌, ◌*◌, ◌≤◌, List, length}
use Rattle.std.specs.List.{range_with_len, sum_by}
use Rattle.ven_base.specs.Pairs.{Pairs}
use Rattle.shape_check.specs.Statement.{Statement, in_value}
use Rattle.shape_check.specs.Checked as checked
use Rattle.shape_check.specs.Checked.{IsCheckedProgram}
use Rattle.shape_check.specs.Meaning.{meaning_of, FitInputs}
use Rattle.pass_plan.specs.Need.{need_of, bound_of, AreSmall}
use Rattle.pass_plan.specs.Sound.{Split, IsSound, destinations_of}
use Rattle.pass_plan.specs.Sizes.{nodes_in, mapped_in}
use Rattle.expr_split.specs.Places.{input_types, IsSplitOf, left_of}
use Rattle.expr_split.specs.Maps.{maps_of}

-- done in order on whole arrays, the passes leave each output's meaning
abbrev pub KeepsMeaning : Type 0
KeepsMeaning =
    (program : List Statement) (split : Split) (inputs : Pairs)
    → IsCheckedProgram program → FitInputs program inputs → IsSplitOf program split
    → left_of program split inputs ≡ meaning_of program inputs

-- the passes make one array after another, behind the inputs
abbrev pub MakesArraysInOrder : Type 0
MakesArraysInOrder =
    (program : List Statement) (split : Split) → IsSplitOf program split
    → destinations_of split.passes ≡ range_with_len (length (input_types program)) (length split.passes)

-- a program has one split
abbrev pub SplitsAreOne : Type 0
SplitsAreOne = (program : List Statement) (a b : Split) → IsSplitOf program a → IsSplitOf program b → a ≡ b

-- the split is sound
abbrev pub SplitsAreSound : Type 0
SplitsAreSound =
    (program : List Statement) (split : Split) → IsCheckedProgram program → IsSplitOf program split → IsSound split

-- the bound is a lawful budget of steps
abbrev pub BoundsAreLawful : Type 0
BoundsAreLawful =
    (program : List Statement) (split : Split) → IsCheckedProgram program → IsSplitOf program split
    → bound_of split.passes ≤ 1099511627776

-- the need is at least 5 bytes
abbrev pub NeedsAreSome : Type 0
NeedsAreSome =
    (program : List Statement) (split : Split) → IsCheckedProgram program → IsSplitOf program split
    → 5 ≤ need_of split.passes

-- all trees together have at most four times the program's nodes
abbrev pub TreesAreFew : Type 0
TreesAreFew =
    (program : List Statement) (split : Split) → IsCheckedProgram program → IsSplitOf program split
    → nodes_in split ≤ 4 * sum_by (in_value 0 checked.nodes_of) program

-- the leaves that are read under a map are no more than the program's map nodes: each of these is a leaf of one tree
-- alone, since a name that isn't cut is put in its place at most once
abbrev pub MapsAreFew : Type 0
MapsAreFew =
    (program : List Statement) (split : Split) → IsSplitOf program split
    → mapped_in split ≤ sum_by (in_value 0 maps_of) program

-- so few nodes and leaves under maps that the code of the split's passes fits an image: the first number is four times
-- the most nodes of a program, the second the most nodes
pub record HasFewNodes (split : Split) : Type 0 where
  pub nodes : nodes_in split ≤ 16384
  pub maps : mapped_in split ≤ 4096

abbrev pub SplitsHaveFewNodes : Type 0
SplitsHaveFewNodes =
    (program : List Statement) (split : Split) → IsCheckedProgram program → IsSplitOf program split → HasFewNodes split

-- no pass has many leaves or nodes, and there are few passes
abbrev pub SplitsAreSmall : Type 0
SplitsAreSmall =
    (program : List Statement) (split : Split) → IsCheckedProgram program → IsSplitOf program split
    → AreSmall split.passes
