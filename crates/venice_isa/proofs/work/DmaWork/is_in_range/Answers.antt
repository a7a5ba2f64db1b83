use Rattle.std.proofs.Common.{subst, sym, ◌∙◌, IsTrue, ◌↔◌}
use Rattle.std.proofs.lemmas.Bool.{true≢false}
use Rattle.ven_base.specs.Store.{in_cells, in_memory}
use Rattle.venice_isa.specs.Region.{LiesBelow}
use Rattle.venice_isa.proofs.Ranges.{read_in_range, write_in_range}
use Rattle.venice_isa.proofs.work.DmaWork.is_in_range.Goals as goal

pub returns-then-lies_below-clause-read : goal.returns-then-lies_below-clause-read
returns-then-lies_below-clause-read c =
    let cells = subst (λ region. IsTrue c.lies_below.result ↔ LiesBelow region c.args.cells) c.cells.ensures c.lies_below.ensures in
    let memory = subst (λ region. IsTrue c.lies_below-then-lies_below.result ↔ LiesBelow region c.args.memory) c.memory.ensures c.lies_below-then-lies_below.ensures in
    (λ yes. read_in_range c.args.self.now _ (memory.0 yes) (cells.0 c.if-lies_below.true), λ in_range. memory.1 (λ p. in_range.has_reads (in_memory p)))

pub returns-then-lies_below-clause-write : goal.returns-then-lies_below-clause-write
returns-then-lies_below-clause-write c =
    let cells = subst (λ region. IsTrue c.lies_below.result ↔ LiesBelow region c.args.cells) c.cells.ensures c.lies_below.ensures in
    let memory = subst (λ region. IsTrue c.lies_below-then-lies_below.result ↔ LiesBelow region c.args.memory) c.memory.ensures c.lies_below-then-lies_below.ensures in
    (λ yes. write_in_range c.args.self.now _ (memory.0 yes) (cells.0 c.if-lies_below.true), λ in_range. memory.1 (λ p. in_range.has_writes (in_memory p)))

pub returns-else-lies_below-clause-read : goal.returns-else-lies_below-clause-read
returns-else-lies_below-clause-read c =
    let cells = subst (λ region. IsTrue c.lies_below.result ↔ LiesBelow region c.args.cells) c.cells.ensures c.lies_below.ensures in
    (λ yes. absurd (true≢false (sym yes ∙ c.if-lies_below.false)), λ in_range. cells.1 (λ p. in_range.has_writes (in_cells p)))

pub returns-else-lies_below-clause-write : goal.returns-else-lies_below-clause-write
returns-else-lies_below-clause-write c =
    let cells = subst (λ region. IsTrue c.lies_below.result ↔ LiesBelow region c.args.cells) c.cells.ensures c.lies_below.ensures in
    (λ yes. absurd (true≢false (sym yes ∙ c.if-lies_below.false)), λ in_range. cells.1 (λ p. in_range.has_reads (in_cells p)))
