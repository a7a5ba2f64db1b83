-- The real files and the standard output, of which nothing is known but how many calls have failed.
use Rattle.std.specs.Prelude.{ℕ, List, Option, Some, None}
use Rattle.ven_io.specs.Files.{Behaviour, FilesState}
use Rattle.ven_io.specs.Sink.{SinkState}

pub record HostFilesState : Type 0 where
  pub failed_loads : ℕ
  pub failed_saves : ℕ

-- a load may show any bytes, and never that a file isn't there
abbrev pub AnyBytes : Option (List ℕ) → Type 0
AnyBytes (Some bytes) = Unit {0}
AnyBytes None = ⊥

-- any load may show any bytes, and any load or save may fail
abbrev pub host_behaviour : Behaviour
host_behaviour = record {
  shows = λ name shown. AnyBytes shown;
  load_may_fail = λ name. Unit {0};
  save_may_fail = λ name. Unit {0};
}

abbrev pub files_state : HostFilesState → FilesState (Unit {0})
files_state s = record { content = tt; failed_loads = s.failed_loads; failed_saves = s.failed_saves }

-- the standard output may have taken anything, and any put may fail
abbrev pub sink_state : ℕ → SinkState
sink_state failed_puts = record { has_taken = λ pieces. Unit {0}; may_fail = Unit {0}; failed_puts = failed_puts }
