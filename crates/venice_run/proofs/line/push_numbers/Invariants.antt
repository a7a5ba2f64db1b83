use Rattle.std.proofs.Common.{◌≡◌, ◌++◌, map, take}
use Rattle.venice_run.specs.Line.{Number, parts_text}
use Rattle.venice_run.proofs.line.push_numbers.Given as goal

abbrev pub invariant-loop-number : goal.invariant-loop-number
invariant-loop-number l = l.text.items ≡ l.initial.text.items ++ parts_text (map Number (take l.number-index l.numbers))
