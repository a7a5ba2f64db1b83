use Rattle.std.proofs.Common.{◌≡◌, ◌∷◌, [], ◌++◌, ◌+◌, length, drop, sym, ap, ◌∙◌, arith, length-append}
use Rattle.std.proofs.lemmas.List.{map-append}
use Rattle.std.proofs.lemmas.List.Elements.{All-push}
use Rattle.shape_check.specs.Statement.{Statement}
use Rattle.shape_check.specs.Scope.{entry_of, scope_of}
use Rattle.shape_check.specs.Checked.{statement_of, program_of, IsWhole}
use Rattle.shape_check.specs.Judge.{chain, judge_statement, judge_all}
use Rattle.shape_check.proofs.Arms.{exit_chain, same_verdict}
use Rattle.shape_check.proofs.Loops.{name_with, step_verdict, push_verdict}
use Rattle.shape_check.proofs.checking.statements.Goals as goal

pub returns-in_err-next-clause-verdict : goal.returns-in_err-next-clause-verdict
returns-in_err-next-clause-verdict c =
    let stmts = c.args.stmts.now in
    let earlier = program_of c.loop-stmt.checked.items in
    let i = c.loop-stmt.stmt-index in
    let v = judge_statement c.loop-stmt.names c.stmt-item.result in
    let f = λ (s : Statement). judge_all (earlier ++ s ∷ []) (drop (i + 1) stmts) in
    same_verdict (λ v. program_of v.items) (judge_all [] stmts) (chain v f) c.from_residual.result
    (step_verdict stmts earlier i c.stmt-item.result c.loop-stmt.names c.loop-stmt-test.true c.stmt-item.is c.loop-stmt.invariant.verdict c.loop-stmt.invariant.names)
    (exit_chain (λ v. program_of v.items) v f c.from_residual.result c.in_err-next.field-0.0 c.from_residual.ensures.1 c.in_err-next.ensures.verdict)

pub loop-stmt-preserved : goal.loop-stmt-preserved
loop-stmt-preserved c =
    let stmts = c.args.stmts.now in
    let before = c.loop-stmt.checked.items in
    let earlier = program_of before in
    let i = c.loop-stmt.stmt-index in
    let next = c.in_ok-next.next in
    let s = statement_of next in
    let after : program_of c.push.new.stmts.items ≡ earlier ++ s ∷ [] = ap program_of c.in_ok-push.ensures ∙ map-append statement_of before (next ∷ []) in
    let name = name_with next.kind next.name next.elem next.shape next.value in
    let entry : (next.name, c.array_type.result) ≡ entry_of s = λ k. (sym name k, c.array_type.ensures k) in
    let names : c.add.new.self ≡ scope_of earlier ++ entry_of s ∷ [] = c.in_ok-add.ensures ∙ (λ k. c.loop-stmt.invariant.names k ++ entry k ∷ []) in
    record {
      counted = omega (arith, ap length c.in_ok-add.ensures, length-append c.loop-stmt.names ((next.name, c.array_type.result) ∷ []), c.loop-stmt.invariant.counted);
      names = names ∙ sym (ap scope_of after ∙ map-append entry_of earlier (s ∷ []));
      verdict =
          push_verdict stmts earlier (program_of c.push.new.stmts.items) i c.stmt-item.result s c.loop-stmt.names
          (step_verdict stmts earlier i c.stmt-item.result c.loop-stmt.names c.loop-stmt-test.true c.stmt-item.is c.loop-stmt.invariant.verdict c.loop-stmt.invariant.names)
          c.in_ok-next.ensures.verdict after;
      whole = rw c.in_ok-push.ensures (All-push IsWhole before next c.loop-stmt.invariant.whole c.in_ok-next.ensures.whole);
    }
