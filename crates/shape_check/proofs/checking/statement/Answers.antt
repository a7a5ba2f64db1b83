use Rattle.std.proofs.Common.{◌≡◌, sym, ap, ◌∙◌, false, Err}
use Rattle.std.specs.Prelude.{is_some}
use Rattle.shape_check.specs.declared.fault.CheckFault.TheVariants.{Twice}
use Rattle.shape_check.specs.Checked.{statement_of}
use Rattle.shape_check.specs.Judge.{find, stmt_name, stmt_place, judge_new, judge_statement}
use Rattle.shape_check.proofs.Arms.{same_verdict, if_false}
use Rattle.shape_check.proofs.checking.statement.Goals as goal

pub returns-clause-verdict : goal.returns-clause-verdict
returns-clause-verdict c =
    let scope = c.args.names.now in
    let stmt = c.args.stmt.now in
    let off : is_some (find scope (stmt_name stmt)) ≡ false = ap (λ n. is_some (find scope n)) (sym c.name_of-name.ensures) ∙ ap is_some (sym c.find.ensures) ∙ sym c.is_some.ensures ∙ c.if-is_some.false in
    same_verdict statement_of (judge_statement scope stmt) (judge_new scope stmt) c.new_statement.result (if_false (is_some (find scope (stmt_name stmt))) (Err (Twice (stmt_place stmt))) (judge_new scope stmt) off) c.new_statement.ensures.verdict
