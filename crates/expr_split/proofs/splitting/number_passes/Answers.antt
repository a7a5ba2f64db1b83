use Rattle.std.proofs.Common.{◌≡◌, ◌++◌, [], ◌∷◌, rules, arith}
use Rattle.expr_split.proofs.Placement.{passes_more, small_at}
use Rattle.expr_split.proofs.splitting.number_passes.Goals as goal

pub number_pass-requires : goal.number_pass-requires
number_pass-requires c = small_at c.args.drafts.now c.loop-draft.draft-index c.draft-item.result c.requires.small c.loop-draft-test.true c.draft-item.is

pub loop-draft-preserved : goal.loop-draft-preserved
loop-draft-preserved c =
    let l = c.loop-draft in
    let pushed : c.push.new.self.items ≡ l.passes.items ++ c.in_ok-pass.pass ∷ [] = search rules in
    record {
      counted = omega arith;
      passes = passes_more c.args.first l.dest c.args.drafts.now l.draft-index c.draft-item.result l.passes.items c.push.new.self.items c.in_ok-pass.pass c.loop-draft-test.true c.draft-item.is l.invariant.counted l.invariant.passes c.in_ok-pass.ensures pushed;
    }
