use Rattle.std.proofs.Common.{◌≡◌, ◌++◌, ◌+◌, drop, map}
use Rattle.pass_plan.specs.Shown.{pass_of}
use Rattle.venice_run.specs.Explain.{pass_lines}
use Rattle.venice_run.specs.Lines.{lines_from}
use Rattle.venice_run.proofs.explain.orders_text.Given as goal

abbrev pub invariant-loop-pass : goal.invariant-loop-pass
invariant-loop-pass l = record {
  counted : l.k ≡ l.pass-index;
  made : l.text.items ++ lines_from pass_lines (l.k + 1) (map pass_of (drop l.pass-index l.passes))
      ≡ lines_from pass_lines 1 (map pass_of l.passes);
}
