use Rattle.std.proofs.Common.{subst, IsTrue, ◌↔◌}
use Rattle.venice_isa.specs.Region.{LiesBelow}
use Rattle.venice_isa.proofs.work.VecWork.has_a_below.Goals as goal

pub returns-else-self : goal.returns-else-self
returns-else-self c =
    let test = subst (λ region. IsTrue c.lies_below.result ↔ LiesBelow region c.args.cells) c.source_a.ensures c.lies_below.ensures in
    (λ yes vector. test.0 yes, λ below. test.1 (below c.if-self.false))
