use Rattle.std.proofs.Common.{◌≡◌, ◌++◌, take, map}
use Rattle.venice_asm.specs.Canonical.{array_statement, statements_text}
use Rattle.venice_asm.proofs.output.push_arrays.Given as goal

abbrev pub invariant-loop-entry : goal.invariant-loop-entry
invariant-loop-entry l = l.text.items ≡ l.initial.text.items ++ statements_text (map array_statement (take l.entry-index l.entries))
