use Rattle.std.proofs.Common.{◌≤◌, List, subst, arith}
use Rattle.shape_check.specs.declared.checked.CheckedStmt.{CheckedStmt}
use Rattle.shape_check.specs.Checked.{program_of, IsCheckedProgram}
use Rattle.pass_plan.specs.Shown.{split_of}
use Rattle.pass_plan.specs.Sizes.{nodes_in}
use Rattle.list_tests.proofs.tests.split_of_program.Goals as goal

pub returns-clause-small : goal.returns-clause-small
returns-clause-small c =
    let checked = subst (λ (stmts : List CheckedStmt). IsCheckedProgram (program_of stmts)) c.program.view_is c.program.invariant.program in
    c.size_laws.ensures.small (program_of c.args.program.now) (split_of c.in_ok-split.field-0) checked c.in_ok-split.ensures.is_split

pub returns-clause-few : goal.returns-clause-few
returns-clause-few c =
    let checked = subst (λ (stmts : List CheckedStmt). IsCheckedProgram (program_of stmts)) c.program.view_is c.program.invariant.program in
    let split = split_of c.in_ok-split.field-0 in
    let few = c.size_laws.ensures.few (program_of c.args.program.now) split checked c.in_ok-split.ensures.is_split in
    let nodes : nodes_in split ≤ 16384 = few.nodes in
    omega (arith, nodes)
