use Rattle.std.proofs.Common.{◌≡◌, ◌+◌, take, map}
use Rattle.pass_plan.specs.Shown.{passes_of}
use Rattle.expr_split.specs.Places.{ArePassesOf}
use Rattle.expr_split.specs.Terms.{plain_draft}
use Rattle.expr_split.proofs.splitting.number_passes.Given as goal

abbrev pub invariant-loop-draft : goal.invariant-loop-draft
invariant-loop-draft l = record {
  counted : l.dest ≡ l.first + l.draft-index;
  passes : ArePassesOf l.first (take l.draft-index (map plain_draft l.drafts)) (passes_of l.passes.items);
}
