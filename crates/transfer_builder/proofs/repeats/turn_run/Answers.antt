use Rattle.std.proofs.Common.{◌≡◌, ◌+◌, ap, ◌∙◌}
use Rattle.std.proofs.lemmas.Result.{IfOk-weaker}
use Rattle.host_programs.specs.Expr as plain
use Rattle.transfer_programs.specs.Axis as axes
use Rattle.transfer_programs.specs.ReadProgram as reads
use Rattle.transfer_builder.specs.Shown.{small_of, run_of}
use Rattle.transfer_builder.proofs.repeats.turn_run.Goals as goal

pub returns : goal.returns
returns c =
    let flag = plain.Variable (c.args.d + 2) in
    let start = small_of c.args.span.start in
    let n = small_of c.args.span.n in
    let phase = reads.phase_expr c.args.times start n (plain.Variable (c.args.d + 4)) in
    IfOk-weaker c.pick_run.result (λ run. run_of run ≡ axes.pick_run flag (run_of c.in_ok-x.x) (run_of c.in_ok-y.y)) _
    (λ run is. is ∙ ap (λ x. axes.pick_run flag x (run_of c.in_ok-y.y)) c.in_ok-x.ensures
    ∙ ap (λ y. axes.pick_run flag phase y) (c.in_ok-y.ensures ∙ ap (λ q. reads.block_expr c.args.times start n q) c.in_ok-q.ensures))
    c.pick_run.ensures
