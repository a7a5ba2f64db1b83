use Rattle.std.proofs.Common.{◌≡◌, ◌++◌, take}
use Rattle.venice_asm.specs.Canonical.{operands_text}
use Rattle.venice_asm.proofs.output.push_line.Given as goal

abbrev pub invariant-loop-operand : goal.invariant-loop-operand
invariant-loop-operand l = l.text.items ≡ l.initial.text.items ++ operands_text (take l.operand-index l.operands)
