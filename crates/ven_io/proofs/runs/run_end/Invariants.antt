use Rattle.std.proofs.Common.{◌-◌, ◌≤◌, length}
use Rattle.ven_io.specs.Runs.{is_in_run, AllBetween}
use Rattle.ven_io.proofs.runs.run_end.Given as goal

abbrev pub invariant-loop-place : goal.invariant-loop-place
invariant-loop-place l = record { after : l.from ≤ l.place; in_text : l.place ≤ length l.text; same : AllBetween (is_in_run l.run) l.text l.from l.place }

abbrev pub decreases-loop-place : goal.decreases-loop-place
decreases-loop-place l = length l.text - l.place
