-- What a writer holds after a write that failed on the way.
use Rattle.std.specs.Prelude.{ℕ, ◌≤◌, List, length, take, Option}
use Rattle.std.specs.Io.KnownBytes.{Appends}

-- a prefix of the piece was written, from nothing of it to the whole
pub record AppendsPart (before after : Option (List ℕ)) (piece : List ℕ) : Type 0 where
  pub count : ℕ
  pub within : count ≤ length piece
  pub written : Appends before after (take count piece)
