use Rattle.std.proofs.Common.{◌≡◌, ◌≤◌, arith, subst, sym}
use Rattle.std.proofs.lemmas.Result.{IfOk-weaker}
use Rattle.pass_plan.specs.Tree.{nodes_of}
use Rattle.pass_plan.specs.Need.{pass_need}
use Rattle.pass_plan.specs.Pass.{Pass, node_limit}
use Rattle.pass_plan.specs.Shown.{pass_of}
use Rattle.plan_tests.specs.Examples.{addition}
use Rattle.plan_tests.proofs.tiles.small_addition.Goals as goal

pub returns-clause-small : goal.returns-clause-small
returns-clause-small c =
    IfOk-weaker c.addition.result (λ pass. pass_of pass ≡ addition c.args.shape) _
    (λ pass is. subst (λ (p : Pass). nodes_of p.tree ≤ node_limit) (sym is) (omega arith)) c.addition.ensures

pub returns-clause-need : goal.returns-clause-need
returns-clause-need c =
    IfOk-weaker c.addition.result (λ pass. pass_of pass ≡ addition c.args.shape) _
    (λ pass is. subst (λ (p : Pass). pass_need p ≤ 7) (sym is) (omega arith)) c.addition.ensures
