use Rattle.std.proofs.Common.{◌≡◌, ◌∷◌, List, length, ap, subst, arith}
use Rattle.std.specs.Vec.Iter.{into_iter_items}
use Rattle.array_meaning.specs.declared.store.Stored.{Stored}
use Rattle.array_meaning.specs.Store.{AreOutputs}
use Rattle.array_meaning.proofs.Statements.{name_absent, put_more}
use Rattle.array_meaning.proofs.outputs.outputs_of.Goals as goal

pub put_output-requires-clause-is_new : goal.put_output-requires-clause-is_new
put_output-requires-clause-is_new c =
    name_absent c.args.stmts.now c.args.arrays.items c.loop-stmt.stmt-index c.loop-stmt.outputs (into_iter_items c.loop-stmt.rest) c.stmt-item.result c.loop-stmt.invariant.so_far c.requires.checked.program.distinct c.loop-stmt-test.true c.stmt-item.is

pub loop-stmt-preserved : goal.loop-stmt-preserved
loop-stmt-preserved c =
    let rest = into_iter_items c.next.new.self in
    let left : into_iter_items c.loop-stmt.rest ≡ c.in-Some.stored ∷ rest = c.in-Some.ensures.cases.0 in
    let so_far = subst (λ (xs : List Stored). AreOutputs c.args.stmts.now c.args.arrays.items c.loop-stmt.stmt-index c.loop-stmt.outputs xs) left c.loop-stmt.invariant.so_far in
    record {
      so_far = put_more c.args.stmts.now c.args.arrays.items c.loop-stmt.stmt-index c.loop-stmt.outputs c.put_output.new.outputs rest c.stmt-item.result c.in-Some.stored so_far c.loop-stmt-test.true c.stmt-item.is c.in_ok-put_output.ensures;
      counted = omega (arith, c.in-Some.ensures.cases.1, c.loop-stmt.invariant.counted, ap length left);
    }
