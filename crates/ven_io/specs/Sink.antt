-- What a sink has taken, piece by piece, and what a put adds to it.
use Rattle.std.specs.Prelude.{ℕ, ◌≤◌, List, [], ◌∷◌, ◌++◌, take, length, Result, Ok, Err}
use Rattle.ven_io.specs.declared.sink.OutFault.{OutFault}
use Rattle.ven_io.specs.declared.sink.OutFault.TheVariants as out

-- A sink at a moment: which pieces it may have taken in its time, whether a put may fail, and how many have failed.
pub record SinkState : Type 1 where
  pub has_taken : List (List ℕ) → Type 0
  pub may_fail : Type 0
  pub failed_puts : ℕ

-- Between two moments the sink took these pieces, each whole and in their order. No put makes a sink one that may fail.
pub record Takes (before after : SinkState) (pieces : List (List ℕ)) : Type 0 where
  pub behind : (earlier : List (List ℕ)) → before.has_taken earlier → after.has_taken (earlier ++ pieces)
  pub no_worse : after.may_fail → before.may_fail

-- the sink took a prefix of this piece, from nothing of it to the whole
pub record TakesPart (before after : SinkState) (pieces : List (List ℕ)) (piece : List ℕ) : Type 0 where
  pub count : ℕ
  pub within : count ≤ length piece
  pub taken : Takes before after (pieces ++ take count piece ∷ [])

-- a put: the piece was taken, or a prefix of it where the put failed, or nothing where memory ran out
abbrev pub Puts : SinkState → SinkState → List ℕ → Result (Unit {0}) OutFault → Type 0
Puts before after piece (Ok _) = Takes before after (piece ∷ [])
Puts before after piece (Err out.Failed) = before.may_fail × TakesPart before after [] piece
Puts before after piece (Err out.Memory) = Takes before after []
