-- Limits that several crates speak of, each one number.
use Rattle.std.specs.Prelude.{ℕ}

-- the most cells of a scratchpad
abbrev pub cell_limit : ℕ
cell_limit = 1048576

-- the most bytes of a machine's memory
abbrev pub memory_limit : ℕ
memory_limit = 134217728
