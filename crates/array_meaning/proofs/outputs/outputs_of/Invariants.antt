use Rattle.std.proofs.Common.{◌≡◌, length}
use Rattle.std.specs.Vec.Iter.{into_iter_items, into_iter_len}
use Rattle.array_meaning.specs.Store.{AreOutputs}
use Rattle.array_meaning.proofs.outputs.outputs_of.Given as goal

-- the outputs so far
abbrev pub invariant-loop-stmt : goal.invariant-loop-stmt
invariant-loop-stmt l = record {
  so_far : AreOutputs l.stmts l.fn.arrays.items l.stmt-index l.outputs (into_iter_items l.rest);
  counted : into_iter_len l.rest ≡ length (into_iter_items l.rest);
}
