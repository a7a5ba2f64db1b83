use Rattle.std.proofs.Common.{◌≡◌, ◌<◌, arith, subst, sym, get_or, length, map, ℕ}
use Rattle.shape_check.specs.Checked.{program_of}
use Rattle.expr_split.specs.Places.{table_from}
use Rattle.expr_split.specs.Terms.{term_of}
use Rattle.expr_split.proofs.Placement.{table_step}
use Rattle.expr_split.proofs.splitting.table_of.Goals as goal

pub loop-stmt-preserved : goal.loop-stmt-preserved
loop-stmt-preserved c =
    let l = c.loop-stmt in
    let stmts = c.args.stmts.now in
    let all = table_from c.args.arrays.now (program_of stmts) (map term_of c.args.names.now) in
    let low : l.k < length stmts = subst (λ (n : ℕ). n < length stmts) (sym l.invariant.counted) c.loop-stmt-test.true in
    let is : c.stmt-item.result ≡ get_or stmts l.k c.stmt-item.result = subst (λ (n : ℕ). c.stmt-item.result ≡ get_or stmts n c.stmt-item.result) (sym l.invariant.counted) c.stmt-item.is in
    record {
      counted = omega arith;
      table = table_step c.args.arrays.now stmts c.args.names.now l.k c.stmt-item.result all l.table.items c.push_entry_at.new.table.items low is l.invariant.table c.in_ok-push_entry_at.ensures.there c.in_ok-push_entry_at.ensures.none;
    }
