use Rattle.std.proofs.Common.{◌≡◌, ◌++◌, List, ℕ, length}
use Rattle.ven_io.specs.Sink.{Takes}
use Rattle.venice_run.specs.Lines.{text_lines}
use Rattle.venice_run.proofs.lines.put_text.Given as goal

abbrev pub invariant-loop-rest : goal.invariant-loop-rest
invariant-loop-rest g l = record {
  front : List (List ℕ);
  split : text_lines l.text ≡ front ++ text_lines l.rest;
  taken : Takes (g.S.Sink.state l.initial.out) (g.S.Sink.state l.out) front;
  kept : (g.S.Sink.state l.out).failed_puts ≡ (g.S.Sink.state l.initial.out).failed_puts;
}

abbrev pub decreases-loop-rest : goal.decreases-loop-rest
decreases-loop-rest g l = length l.rest
