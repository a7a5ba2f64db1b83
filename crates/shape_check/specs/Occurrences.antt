-- Where names occur in a checked program. A name is the number of the statement that declares it.
use Rattle.std.specs.Prelude.{ℕ, List, [], ◌∷◌, ◌++◌, Bool, ◌==◌}
use Rattle.std.specs.List.{flat_map, count_by, list_any}
use Rattle.shape_check.specs.Node.{Node, Name, Literal, One, Two, Cast, Select, Map, RowFold, Fold}
use Rattle.shape_check.specs.Statement.{Statement, in_value}

-- the names in an expression, from left to right, each as often as it occurs
abbrev pub names_in : Node → List ℕ
names_in (Name elem shape k) = k ∷ []
names_in (Literal elem shape value) = []
names_in (One elem shape op a) = names_in a
names_in (Two elem shape op a b) = names_in a ++ names_in b
names_in (Cast elem shape a) = names_in a
names_in (Select elem shape c x y) = names_in c ++ (names_in x ++ names_in y)
names_in (Map elem shape mapping a) = names_in a
names_in (RowFold elem shape fold a) = names_in a
names_in (Fold elem shape fold a) = names_in a

-- the name that an expression is
abbrev pub own_name : Node → List ℕ
own_name (Name elem shape k) = k ∷ []
own_name _ = []

-- the names that stand themselves as the operand of a map
abbrev pub names_under_maps : Node → List ℕ
names_under_maps (Name elem shape k) = []
names_under_maps (Literal elem shape value) = []
names_under_maps (One elem shape op a) = names_under_maps a
names_under_maps (Two elem shape op a b) = names_under_maps a ++ names_under_maps b
names_under_maps (Cast elem shape a) = names_under_maps a
names_under_maps (Select elem shape c x y) = names_under_maps c ++ (names_under_maps x ++ names_under_maps y)
names_under_maps (Map elem shape mapping a) = own_name a ++ names_under_maps a
names_under_maps (RowFold elem shape fold a) = names_under_maps a
names_under_maps (Fold elem shape fold a) = names_under_maps a

-- the same of a program's statements
abbrev pub all_names : List Statement → List ℕ
all_names program = flat_map (in_value [] names_in) program

abbrev pub all_mapped : List Statement → List ℕ
all_mapped program = flat_map (in_value [] names_under_maps) program

-- how often a name occurs in all statements, and whether it stands itself as the operand of a map
abbrev pub uses_of : List Statement → ℕ → ℕ
uses_of program k = count_by (λ j. j == k) (all_names program)

abbrev pub is_mapped : List Statement → ℕ → Bool
is_mapped program k = list_any (λ j. j == k) (all_mapped program)
