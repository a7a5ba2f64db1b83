use Rattle.shape_check.specs.Checked.{program_of}
use Rattle.pass_plan.specs.declared.split.Split.{Split}
use Rattle.pass_plan.specs.Sound.{IsSound}
use Rattle.pass_plan.specs.Shown.{split_of}
use Rattle.expr_split.specs.Places.{IsSplitOf}
use Rattle.expr_split.proofs.Seen.{ok_same}
use Rattle.expr_split.proofs.Soundness.{split_sound}
use Rattle.expr_split.proofs.splitting.split_checked.Goals as goal

pub returns-clause-sound : goal.returns-clause-sound
returns-clause-sound c =
    let program = program_of c.args.stmts.now in
    ok_same c.split_stmts.result (λ (s : Split). IsSplitOf program (split_of s)) (λ (s : Split). IsSound (split_of s)) (λ s h. split_sound program (split_of s) c.requires.program h) c.split_stmts.ensures
