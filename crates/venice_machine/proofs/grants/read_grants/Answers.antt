use Rattle.std.proofs.Common.{◌∙◌, sym, drop, ◌+◌}
use Rattle.std.proofs.lemmas.List.{drop_more}
use Rattle.venice_machine.proofs.Pieces.{space_read, all_read}
use Rattle.venice_machine.proofs.grants.read_grants.Goals as goal

pub loop-at-preserved-then-is_space : goal.loop-at-preserved-then-is_space
loop-at-preserved-then-is_space c =
    let text = c.args.text.now in
    space_read text c.loop-at.at c.loop-at.grants c.loop-at.invariant _ (drop (c.loop-at.at + 1) text) (sym c.is_space.ensures ∙ c.if-is_space.true) (drop_more text c.loop-at.at 0 c.loop-at-test.true)

pub returns : goal.returns
returns c = all_read c.args.text.now c.loop-at.at c.loop-at.grants c.loop-at.invariant c.loop-at-test.false
