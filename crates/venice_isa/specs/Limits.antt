-- The machine's limits.
use Rattle.std.specs.Prelude.{ℕ}

-- how many vector instructions the lanes' queue has places for, the current one among them
abbrev pub vector_places : ℕ
vector_places = 4

-- how many transfers a channel's queue has places for, the current one among them
abbrev pub transfer_places : ℕ
transfer_places = 8

-- how many instructions an image's code has at the most
abbrev pub instruction_limit : ℕ
instruction_limit = 8000000
