use Rattle.std.proofs.Common.{◌≡◌, ◌++◌, ◌+◌, drop, map}
use Rattle.pass_plan.specs.Shown.{pass_of}
use Rattle.venice_run.specs.Check.{pass_line}
use Rattle.venice_run.specs.Lines.{lines_from}
use Rattle.venice_run.proofs.check.push_passes.Given as goal

abbrev pub invariant-loop-pass : goal.invariant-loop-pass
invariant-loop-pass l = record {
  counted : l.k ≡ l.pass-index;
  made : l.text.items ++ lines_from (pass_line l.spad) (l.k + 1) (map pass_of (drop l.pass-index l.passes))
      ≡ l.initial.text.items ++ lines_from (pass_line l.spad) 1 (map pass_of l.passes);
}
