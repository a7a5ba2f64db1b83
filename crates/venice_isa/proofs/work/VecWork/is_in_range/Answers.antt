use Rattle.std.proofs.Common.{subst, sym, ◌∙◌, IsTrue, ◌↔◌}
use Rattle.std.proofs.lemmas.Bool.{true≢false}
use Rattle.venice_isa.specs.Region.{LiesBelow}
use Rattle.venice_isa.proofs.Ranges.{vector_in_range, a_below, b_below, destination_below}
use Rattle.venice_isa.proofs.work.VecWork.is_in_range.Goals as goal

pub returns-then-has_sources_below : goal.returns-then-has_sources_below
returns-then-has_sources_below c =
    let test = subst (λ region. IsTrue c.lies_below.result ↔ LiesBelow region c.args.cells) c.destination.ensures c.lies_below.ensures in
    let sources = c.has_sources_below.ensures.0 c.if-has_sources_below.true in
    (λ yes. vector_in_range c.args.self.now _ sources.0 sources.1 (test.0 yes), λ in_range. test.1 (destination_below c.args.self.now _ in_range))

pub returns-else-has_sources_below : goal.returns-else-has_sources_below
returns-else-has_sources_below c =
    let no : IsTrue c.has_sources_below.result → ⊥ = λ yes. true≢false (sym yes ∙ c.if-has_sources_below.false) in
    let sources = c.has_sources_below.ensures in
    (λ yes. absurd (no yes), λ in_range. sources.1 (a_below c.args.self.now _ in_range, b_below c.args.self.now _ in_range))
