use Rattle.std.proofs.Common.{◌≡◌, ◌++◌, take, map}
use Rattle.expr_split.specs.Places.{draft_type}
use Rattle.expr_split.specs.Terms.{plain_draft}
use Rattle.expr_split.proofs.splitting.push_draft_types.Given as goal

abbrev pub invariant-loop-draft : goal.invariant-loop-draft
invariant-loop-draft l = l.types.items ≡ l.initial.types.items ++ map draft_type (take l.draft-index (map plain_draft l.drafts))
