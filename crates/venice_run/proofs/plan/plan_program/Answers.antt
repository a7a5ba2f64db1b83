use Rattle.std.proofs.Common.{List, refl, subst}
use Rattle.pass_plan.specs.Shown.{split_of}
use Rattle.shape_check.specs.declared.checked.CheckedStmt.{CheckedStmt}
use Rattle.shape_check.specs.Checked.{program_of, IsCheckedProgram}
use Rattle.venice_run.specs.Plan.{plan_of}
use Rattle.venice_run.specs.Plans.{planned}
use Rattle.venice_run.specs.Stage.{Goes}
use Rattle.venice_run.proofs.Stages.{ends}
use Rattle.venice_run.proofs.plan.plan_program.Goals as goal

pub returns-in_err-split-clause-planned : goal.returns-in_err-split-clause-planned
unfolding plan_of
returns-in_err-split-clause-planned c = ends planned _ _ c.from_residual.ensures.1 c.in_err-split.ensures.splits

pub returns-in_err-need_room-clause-planned : goal.returns-in_err-need_room-clause-planned
unfolding plan_of
returns-in_err-need_room-clause-planned c =
    Goes (split_of c.in_ok-split.split) c.in_ok-split.ensures.splits
    (ends planned _ _ c.from_residual-in_err-need_room.ensures.1 (rw (c.need.ensures, c.deref.ensures.value) at c.in_err-need_room.ensures))

pub returns-clause-planned : goal.returns-clause-planned
unfolding plan_of
returns-clause-planned c =
    Goes (split_of c.in_ok-split.split) c.in_ok-split.ensures.splits
    (Goes tt (rw (c.need.ensures, c.deref.ensures.value) at c.in_ok-need_room.ensures) refl)

pub returns-clause-ready : goal.returns-clause-ready
returns-clause-ready c = record {
  checked = subst (λ (stmts : List CheckedStmt). IsCheckedProgram (program_of stmts)) c.program.view_is c.program.invariant.program;
  is_split = c.in_ok-split.ensures.splits;
  holds = rw (c.need.ensures, c.deref.ensures.value) at c.in_ok-need_room.ensures;
  small = c.in_ok-split.ensures.small;
}
