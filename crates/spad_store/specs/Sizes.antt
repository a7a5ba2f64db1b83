-- How many cells a scratchpad has.
use Rattle.std.specs.Prelude.{ℕ, ◌<◌, ◌≤◌}
use Rattle.ven_base.specs.Limits.{cell_limit}

-- a scratchpad has a cell, and not too many
abbrev pub IsSpadSize : ℕ → Type 0
IsSpadSize cells = (0 < cells) × (cells ≤ cell_limit)
