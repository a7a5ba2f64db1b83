-- How many maps a program has.
use Rattle.std.specs.Prelude.{ℕ, ◌+◌}
use Rattle.shape_check.specs.Node.{Node, Name, Literal, One, Two, Cast, Select, Map, RowFold, Fold}

-- the map nodes of an expression
abbrev pub maps_of : Node → ℕ
maps_of (Name elem shape k) = 0
maps_of (Literal elem shape value) = 0
maps_of (One elem shape op a) = maps_of a
maps_of (Two elem shape op a b) = maps_of a + maps_of b
maps_of (Cast elem shape a) = maps_of a
maps_of (Select elem shape c x y) = maps_of c + maps_of x + maps_of y
maps_of (Map elem shape mapping a) = 1 + maps_of a
maps_of (RowFold elem shape fold a) = maps_of a
maps_of (Fold elem shape fold a) = maps_of a
