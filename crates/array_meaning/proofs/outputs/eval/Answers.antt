use Rattle.std.proofs.Common.{◌≡◌, ◌∙◌, List, sym, ap, subst}
use Rattle.shape_check.specs.declared.checked.CheckedStmt.{CheckedStmt}
use Rattle.shape_check.specs.Checked.{statement_of, program_of, IsCheckedProgram}
use Rattle.shape_check.specs.Meaning.{outputs_of, meaning_of, FitInputs}
use Rattle.array_meaning.specs.declared.store.Stored.{Stored}
use Rattle.array_meaning.specs.Operand.{IsStatementReady}
use Rattle.array_meaning.specs.Store.{grids_of, IsArrayFor}
use Rattle.array_meaning.proofs.Statements.{statement_ready, statement_fits, worked_out_more, all_worked_out, ok_same}
use Rattle.array_meaning.proofs.outputs.eval.Goals as goal

pub array_of-requires-clause-fits : goal.array_of-requires-clause-fits
array_of-requires-clause-fits c =
    let stmts = c.as_slice-stmts.result.now in
    let same : stmts ≡ c.args.program.now = c.as_slice-stmts.ensures.value ∙ c.program.view_is in
    let fit = subst (λ (xs : List CheckedStmt). FitInputs (program_of xs) c.args.inputs.now) (sym same) c.requires in
    statement_fits c.args.inputs.now stmts c.loop-stmt.stmt-index c.stmt-item.result fit c.loop-stmt-test.true c.stmt-item.is

pub array_of-requires-clause-ready : goal.array_of-requires-clause-ready
array_of-requires-clause-ready c =
    let stmts = c.as_slice-stmts.result.now in
    let same : stmts ≡ c.args.program.now = c.as_slice-stmts.ensures.value ∙ c.program.view_is in
    let fit = subst (λ (xs : List CheckedStmt). FitInputs (program_of xs) c.args.inputs.now) (sym same) c.requires in
    let checked = subst (λ (xs : List CheckedStmt). IsCheckedProgram (program_of xs)) (sym c.as_slice-stmts.ensures.value) c.program.invariant.program in
    subst (λ (xs : List Stored). IsStatementReady (grids_of xs) (statement_of c.stmt-item.result)) (sym c.deref.ensures.value)
    (statement_ready c.args.inputs.now stmts c.loop-stmt.stmt-index c.loop-stmt.arrays.items c.stmt-item.result checked fit c.loop-stmt.invariant c.loop-stmt-test.true c.stmt-item.is)

pub loop-stmt-preserved : goal.loop-stmt-preserved
loop-stmt-preserved c =
    let here = subst (λ (xs : List Stored). IsArrayFor c.args.inputs.now (grids_of xs) c.stmt-item.result c.in_ok-array.array) c.deref.ensures.value c.in_ok-array.ensures in
    worked_out_more c.args.inputs.now c.as_slice-stmts.result.now c.loop-stmt.stmt-index c.loop-stmt.arrays.items c.push.new.self.items c.stmt-item.result c.in_ok-array.array c.loop-stmt.invariant c.loop-stmt-test.true c.stmt-item.is here
    c.in_ok-push.ensures.items

pub outputs_of-requires-clause-own : goal.outputs_of-requires-clause-own
outputs_of-requires-clause-own c = (all_worked_out c.args.inputs.now c.as_slice-stmts.result.now c.loop-stmt.stmt-index c.loop-stmt.arrays.items c.loop-stmt.invariant c.loop-stmt-test.false).1

pub returns : goal.returns
returns c =
    let stmts = c.as_slice-stmts.result.now in
    let same : stmts ≡ c.args.program.now = c.as_slice-stmts.ensures.value ∙ c.program.view_is in
    let all = all_worked_out c.args.inputs.now stmts c.loop-stmt.stmt-index c.loop-stmt.arrays.items c.loop-stmt.invariant c.loop-stmt-test.false in
    ok_same c.outputs_of.result (outputs_of (program_of stmts) (grids_of c.loop-stmt.arrays.items)) (meaning_of (program_of c.args.program.now) c.args.inputs.now)
    (ap (outputs_of (program_of stmts)) all.0 ∙ ap (λ (xs : List CheckedStmt). meaning_of (program_of xs) c.args.inputs.now) same) c.outputs_of.ensures
