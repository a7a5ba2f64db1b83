use Rattle.std.proofs.Common.{◌≡◌, ◌++◌, take, map}
use Rattle.venice_asm.specs.Canonical.{statement_of, statements_text}
use Rattle.venice_asm.proofs.output.push_code.Given as goal

abbrev pub invariant-loop-instr : goal.invariant-loop-instr
invariant-loop-instr l = l.text.items ≡ l.initial.text.items ++ statements_text (map statement_of (take l.instr-index l.code.instrs))
