-- A sink in memory, whose puts fail by a list of numbers.
use Rattle.std.specs.Prelude.{◌≡◌, ℕ, List}
use Rattle.std.specs.List.{concat}
use Rattle.ven_io.specs.Sink.{SinkState}
use Rattle.ven_io.specs.Numbers.{Numbers, FailsSometime}

-- the bytes that it has taken, which puts fail, and how many have failed
pub record MemSinkState : Type 0 where
  pub bytes : List ℕ
  pub numbers : Numbers
  pub failed_puts : ℕ

-- it at a moment, as all sinks are seen: its bytes are the pieces one after another
abbrev pub sink_state : MemSinkState → SinkState
sink_state s = record {
  has_taken = λ pieces. s.bytes ≡ concat pieces;
  may_fail = FailsSometime s.numbers.fails;
  failed_puts = s.failed_puts;
}
