use Rattle.std.proofs.Common.{◌≡◌, ◌++◌, take}
use Rattle.array_syntax.specs.Printed.{numbers_text}
use Rattle.array_syntax.proofs.printing.print_numbers.Given as goal

abbrev pub invariant-loop-n : goal.invariant-loop-n
invariant-loop-n l = l.text.items ≡ l.initial.text.items ++ numbers_text (take l.n-index l.numbers)
