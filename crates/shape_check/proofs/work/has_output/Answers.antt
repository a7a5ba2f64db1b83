use Rattle.std.proofs.Common.{◌≡◌, sym, ap, ◌∙◌, true}
use Rattle.std.specs.Prelude.{Bool}
use Rattle.std.specs.List.{list_any}
use Rattle.std.proofs.lemmas.List.{take_all}
use Rattle.std.proofs.lemmas.List.Folds.{list_any-from_Any}
use Rattle.shape_check.specs.declared.checked.CheckedStmt.{CheckedStmt}
use Rattle.shape_check.specs.Statement.{is_output}
use Rattle.shape_check.specs.Checked.{statement_of}
use Rattle.shape_check.proofs.Loops.{any_statement}
use Rattle.shape_check.proofs.work.has_output.Goals as goal

is_output_of : CheckedStmt → Bool
is_output_of stmt = is_output (statement_of stmt)

pub returns-then-is_output : goal.returns-then-is_output
unfolding is_output_of
returns-then-is_output c =
    let stmts = c.args.stmts.now in
    let here : is_output_of c.stmt-item.result ≡ true = sym c.is_output.ensures ∙ c.if-is_output.true in
    sym (any_statement stmts ∙ list_any-from_Any is_output_of stmts (c.loop-stmt.stmt-index, c.stmt-item.result, c.loop-stmt-test.true, sym c.stmt-item.is, here))

pub returns : goal.returns
returns c =
    let stmts = c.args.stmts.now in
    sym (any_statement stmts ∙ ap (list_any (λ s. is_output (statement_of s))) (sym (take_all c.loop-stmt.stmt-index stmts c.loop-stmt-test.false)) ∙ c.loop-stmt.invariant)
