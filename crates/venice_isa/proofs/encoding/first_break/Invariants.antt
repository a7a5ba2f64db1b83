use Rattle.std.proofs.Common.{◌≡◌, ℕ, ◌<◌, ◌≤◌}
use Rattle.std.specs.Prelude.{IsTrue, slice_index}
use Rattle.venice_isa.specs.Form.{row_at, allows_at}
use Rattle.venice_isa.proofs.encoding.first_break.Given as goal

abbrev pub invariant-loop-k : goal.invariant-loop-k
invariant-loop-k l = record {
  form : l.form ≡ row_at (slice_index l.bytes 0);
  earlier : (j : ℕ) → 1 ≤ j → j < l.k → IsTrue (allows_at l.version l.bytes j);
}
