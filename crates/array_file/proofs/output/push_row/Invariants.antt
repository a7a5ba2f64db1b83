use Rattle.std.proofs.Common.{◌≡◌, ◌++◌, take}
use Rattle.array_file.specs.Output.{values_text}
use Rattle.array_file.proofs.output.push_row.Given as goal

abbrev pub invariant-loop-j : goal.invariant-loop-j
invariant-loop-j l = l.text.items ≡ l.initial.text.items ++ values_text (take l.j l.row)
