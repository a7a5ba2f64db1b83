use Rattle.std.proofs.Common.{ℕ, refl}
use Rattle.shape_check.specs.Checked.{statement_of}
use Rattle.venice_run.specs.Check.{output_line}
use Rattle.venice_run.proofs.Listing.{next_lines, last_lines}
use Rattle.venice_run.proofs.check.push_outputs.Goals as goal

pub loop-stmt-init : goal.loop-stmt-init
loop-stmt-init c = refl

pub loop-stmt-preserved : goal.loop-stmt-preserved
loop-stmt-preserved c =
    next_lines statement_of (λ (k : ℕ). output_line) c.stmt-item.result c.loop-stmt.text.items c.push_output.new.text.items _ c.args.stmts.now c.loop-stmt.stmt-index c.loop-stmt.stmt-index
    c.stmt-item.is c.loop-stmt-test.true c.loop-stmt.invariant c.in_ok-push_output.ensures

pub returns : goal.returns
returns c =
    last_lines statement_of (λ (k : ℕ). output_line) c.loop-stmt.text.items _ c.args.stmts.now c.loop-stmt.stmt-index c.loop-stmt.stmt-index c.loop-stmt-test.false c.loop-stmt.invariant
