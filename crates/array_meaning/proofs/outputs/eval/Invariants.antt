use Rattle.array_meaning.specs.Store.{AreWorkedOut}
use Rattle.array_meaning.proofs.outputs.eval.Given as goal

-- the arrays so far
abbrev pub invariant-loop-stmt : goal.invariant-loop-stmt
invariant-loop-stmt l = AreWorkedOut l.inputs l.stmts l.stmt-index l.arrays.items
