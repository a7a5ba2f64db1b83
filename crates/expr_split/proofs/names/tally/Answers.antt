use Rattle.std.proofs.Common.{subst, sym, take, get_or, ◌+◌, List, ℕ}
use Rattle.std.proofs.lemmas.List.{get_or_default}
use Rattle.expr_split.specs.Tally.{IsTally}
use Rattle.expr_split.proofs.Loops.{tally_more}
use Rattle.expr_split.proofs.names.tally.Goals as goal

pub loop-name-preserved : goal.loop-name-preserved
loop-name-preserved c =
    let names = c.args.names.now in
    let i = c.loop-name.name-index in
    let name = get_or names i 0 in
    subst (λ (us : List ℕ). IsTally us (take (i + 1) names) c.args.count) (sym c.bump.ensures)
    (tally_more c.loop-name.uses.items names c.args.count i name c.loop-name.invariant c.loop-name-test.true (get_or_default names i 0 name c.loop-name-test.true))
