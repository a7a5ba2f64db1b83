-- Puts into memory, and into a sink of which nothing is known.
use Rattle.std.proofs.Common.{◌≡◌, ℕ, List, [], ◌∷◌, ◌++◌, Result, Ok, Err, sym, ap, subst, ◌∙◌, rules}
use Rattle.std.specs.List.{concat}
use Rattle.std.proofs.lemmas.List.{append-nil}
use Rattle.std.proofs.lemmas.List.Folds.{concat-append}
use Rattle.ven_io.specs.declared.sink.OutFault.{OutFault}
use Rattle.ven_io.specs.declared.sink.OutFault.TheVariants as out
use Rattle.ven_io.specs.Sink.{SinkState, Takes, Puts}
use Rattle.ven_io.specs.Numbers.{FailsSometime}
use Rattle.ven_io.specs.Host as host

-- bytes that are the pieces, and one more piece behind
more : (bytes now piece : List ℕ) (earlier : List (List ℕ)) → now ≡ bytes ++ piece → bytes ≡ concat earlier → now ≡ concat (earlier ++ piece ∷ [])
more bytes now piece earlier put is =
    put ∙ ap (λ (l : List ℕ). l ++ piece) is ∙ sym (concat-append earlier (piece ∷ []) ∙ ap (λ (l : List ℕ). concat earlier ++ l) (append-nil piece))

abbrev pub at : List ℕ → List ℕ → ℕ → SinkState
at bytes fails failed_puts = record { has_taken = λ pieces. bytes ≡ concat pieces; may_fail = FailsSometime fails; failed_puts = failed_puts }

pub takes : (bytes bytes_now fails fails_now : List ℕ) (count count_now : ℕ) (piece : List ℕ) → bytes_now ≡ bytes ++ piece → fails_now ≡ fails
    → Takes (at bytes fails count) (at bytes_now fails_now count_now) (piece ∷ [])
takes bytes bytes_now fails fails_now count count_now piece put same = record {
  behind = λ earlier is. more bytes bytes_now piece earlier put is;
  no_worse = λ may. subst (λ (f : List ℕ). FailsSometime f) same may;
}

-- where nothing is known, any put is right
pub host_puts : (before after : ℕ) (piece : List ℕ) (r : Result (Unit {0}) OutFault) → Puts (host.sink_state before) (host.sink_state after) piece r
host_puts before after piece (Ok u) = record { behind = λ earlier is. tt; no_worse = λ f. f }
host_puts before after piece (Err out.Failed) = (tt, record { count = 0; within = search rules; taken = record { behind = λ earlier is. tt; no_worse = λ f. f } })
host_puts before after piece (Err out.Memory) = record { behind = λ earlier is. tt; no_worse = λ f. f }
