-- A cell of the scratchpad.
use Rattle.std.specs.Prelude.{ℕ, Bool}

-- a byte, and the flag beside it
abbrev pub Cell : Type 0
Cell = ℕ × Bool
