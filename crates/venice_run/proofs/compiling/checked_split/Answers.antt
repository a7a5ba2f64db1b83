use Rattle.std.proofs.Common.{List, subst}
use Rattle.std.proofs.lemmas.Result.{IfOk-weaker}
use Rattle.shape_check.specs.declared.checked.CheckedStmt.{CheckedStmt}
use Rattle.shape_check.specs.Checked.{program_of, IsCheckedProgram}
use Rattle.pass_plan.specs.declared.split.Split.{Split}
use Rattle.pass_plan.specs.Need.{AreSmall}
use Rattle.pass_plan.specs.Shown.{split_of, passes_of}
use Rattle.expr_split.specs.Places.{IsSplitOf}
use Rattle.venice_run.proofs.compiling.checked_split.Goals as goal

pub returns-clause-is_checked : goal.returns-clause-is_checked
returns-clause-is_checked c = subst (λ (stmts : List CheckedStmt). IsCheckedProgram (program_of stmts)) c.program.view_is c.program.invariant.program

pub returns-clause-small : goal.returns-clause-small
returns-clause-small c =
    let program = program_of c.args.program.now in
    let checked = subst (λ (stmts : List CheckedStmt). IsCheckedProgram (program_of stmts)) c.program.view_is c.program.invariant.program in
    IfOk-weaker c.split.result (λ (split : Split). IsSplitOf program (split_of split)) (λ split. AreSmall (passes_of split.passes.items))
    (λ split is. c.size_laws.ensures.small program (split_of split) checked is)
    c.split.ensures.is_split
