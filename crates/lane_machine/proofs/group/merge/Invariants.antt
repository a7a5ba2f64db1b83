use Rattle.std.proofs.Common.{◌≡◌, ◌<◌, ◌≤◌, ℕ, length}
use Rattle.std.specs.Prelude.{slice_index_or, if◌then◌else◌}
use Rattle.spad_store.specs.Packed.{has_bit}
use Rattle.lane_machine.proofs.group.merge.Given as goal

abbrev pub invariant-loop-j : goal.invariant-loop-j
invariant-loop-j l = record {
  long : length l.bytes ≡ 16;
  done : (j : ℕ) → j < l.j → slice_index_or l.bytes j 0 ≡ (if has_bit l.fn.moved j then slice_index_or l.new j 0 else slice_index_or l.initial.bytes j 0);
  left : (j : ℕ) → l.j ≤ j → slice_index_or l.bytes j 0 ≡ slice_index_or l.initial.bytes j 0;
}
