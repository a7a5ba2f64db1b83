use Rattle.std.proofs.Common.{subst, IsTrue, ◌↔◌}
use Rattle.venice_isa.specs.Region.{LiesBelow}
use Rattle.venice_isa.proofs.work.VecWork.has_b_below.Goals as goal

pub returns-else-not-has_b_in_cells : goal.returns-else-not-has_b_in_cells
returns-else-not-has_b_in_cells c =
    let test = subst (λ region. IsTrue c.lies_below.result ↔ LiesBelow region c.args.cells) c.source_b.ensures c.lies_below.ensures in
    let in_cells = c.has_b_in_cells.ensures.0 c.if-not-has_b_in_cells.false in
    (λ yes uses vector. test.0 yes, λ below. test.1 (below in_cells.0 in_cells.1))
