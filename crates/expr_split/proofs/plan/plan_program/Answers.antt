use Rattle.std.proofs.Common.{◌≡◌, ◌++◌, [], ◌∷◌, ◌+◌, ap, refl, arith, rules, subst, map, List}
use Rattle.shape_check.specs.Checked.{program_of, statement_of}
use Rattle.expr_split.specs.declared.term.Term.{Term}
use Rattle.expr_split.specs.Terms.{term_of}
use Rattle.expr_split.specs.Asks.{statement_asked, IsStatement}
use Rattle.expr_split.proofs.Planning.{planning-few, planning-more}
use Rattle.expr_split.proofs.plan.plan_program.Goals as goal

pub statement_tree-requires : goal.statement_tree-requires
statement_tree-requires c =
    let l = c.loop-stmt in
    let few = planning-few (program_of c.args.stmts.now) c.args.stmts.now l.stmt-index l.taken l.names.items l.plan c.stmt-item.result refl l.invariant c.loop-stmt-test.true c.stmt-item.is in
    omega arith

pub loop-stmt-preserved : goal.loop-stmt-preserved
loop-stmt-preserved c =
    let l = c.loop-stmt in
    let pushed : c.push.new.self.items ≡ l.names.items ++ c.in_ok-term.term ∷ [] = search rules in
    let s = statement_of c.stmt-item.result in
    let made = subst (λ (ns : List Term). IsStatement l.plan c.statement_tree.new.plan s c.in_ok-term.term (statement_asked c.in_ok-asks.asks l.taken (map term_of ns) l.plan.next s)) c.deref.ensures.value c.in_ok-term.ensures in
    planning-more (program_of c.args.stmts.now) c.args.stmts.now c.in_ok-asks.asks l.stmt-index l.taken (l.taken + c.inputs_in-taken.result) l.names.items c.push.new.self.items l.plan c.statement_tree.new.plan c.stmt-item.result c.in_ok-term.term
    refl c.in_ok-asks.ensures l.invariant c.loop-stmt-test.true c.stmt-item.is made pushed (ap (λ n. l.taken + n) c.inputs_in-taken.ensures)
