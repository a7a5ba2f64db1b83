use Rattle.venice_isa.proofs.work.VecWork.has_sources_below.Goals as goal

pub returns-then-has_a_below : goal.returns-then-has_a_below
returns-then-has_a_below c =
    let below_a = c.has_a_below.ensures.0 c.if-has_a_below.true in
    (λ yes. (below_a, c.has_b_below.ensures.0 yes), λ both. c.has_b_below.ensures.1 both.1)
