use Rattle.std.proofs.Common.{◌≡◌, take}
use Rattle.array_syntax.specs.Printed.{lines_of}
use Rattle.array_syntax.proofs.printing.print.Given as goal

abbrev pub invariant-loop-stmt : goal.invariant-loop-stmt
invariant-loop-stmt l = l.text.items ≡ lines_of (take l.stmt-index l.program.stmts)
