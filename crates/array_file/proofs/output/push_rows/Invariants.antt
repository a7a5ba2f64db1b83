use Rattle.std.proofs.Common.{◌≡◌, ◌++◌, ◌*◌, length}
use Rattle.array_file.specs.Output.{rows_text}
use Rattle.array_file.proofs.output.push_rows.Given as goal

abbrev pub invariant-loop-left : goal.invariant-loop-left
invariant-loop-left l = record {
  text : l.text.items ++ rows_text l.left l.cols l.rest ≡ l.initial.text.items ++ rows_text l.rows l.cols l.values;
  left : length l.rest ≡ l.left * l.cols;
}

abbrev pub decreases-loop-left : goal.decreases-loop-left
decreases-loop-left l = l.left
