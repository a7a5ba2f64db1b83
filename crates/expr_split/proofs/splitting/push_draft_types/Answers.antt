use Rattle.std.proofs.Common.{◌≡◌, ◌++◌, [], ◌∷◌, rules}
use Rattle.expr_split.proofs.Placement.{types_more}
use Rattle.expr_split.proofs.splitting.push_draft_types.Goals as goal

pub loop-draft-preserved : goal.loop-draft-preserved
loop-draft-preserved c =
    let l = c.loop-draft in
    let pushed : c.push.new.self.items ≡ l.types.items ++ c.draft_type-made.result ∷ [] = search rules in
    types_more c.args.drafts.now l.draft-index c.draft-item.result c.args.types.now.items l.types.items c.push.new.self.items c.draft_type-made.result c.loop-draft-test.true c.draft-item.is l.invariant c.draft_type-made.ensures pushed
