use Rattle.std.proofs.Common.{sym, subst, map}
use Rattle.std.specs.Prelude.{All, slice_get}
use Rattle.std.proofs.lemmas.List.Elements.{All-head}
use Rattle.ven_base.specs.Store.{store_of, store_size, IsInRange}
use Rattle.venice_isa.specs.Footprint.{Reads, Writes}
use Rattle.dma_engine.specs.Direction.{issue_of}
use Rattle.dma_engine.specs.Current.{job_of}
use Rattle.dma_engine.specs.Channel.{jobs_of, IsChannel}
use Rattle.dma_engine.proofs.Kept.{first_on, first_left}
use Rattle.dma_engine.proofs.channel.ChannelUnit.beat.Goals as goal

pub beat-requires-clause-inside : goal.beat-requires-clause-inside
beat-requires-clause-inside g c =
    let issue = issue_of g.D.Directed.DIRECTION in
    let size = store_size (store_of c.args.cells.now c.args.memory.now) in
    let others = c.self.inside.others.items in
    All-head (λ job. IsInRange (Reads (issue job.work)) (Writes (issue job.work)) size) (job_of c.in-Some.first) (map job_of others)
    (subst (λ first. All (λ job. IsInRange (Reads (issue job.work)) (Writes (issue job.work)) size) (jobs_of first others)) c.in-Some.is
    (subst (All (λ job. IsInRange (Reads (issue job.work)) (Writes (issue job.work)) size)) (sym c.self.view_is) c.requires))

pub invariant_of-self-then-not-beat : goal.invariant_of-self-then-not-beat
invariant_of-self-then-not-beat g c =
    let others = c.self.inside.others in
    let keeps = subst (λ first. IsChannel first others) c.in-Some.is c.self.invariant in
    subst (λ first. IsChannel first c.pop_front-self-inside.new.self) (sym c.pop_front-self-inside.ensures.value)
    (subst (IsChannel (slice_get others.items 0)) (sym c.pop_front-self-inside.ensures.items) (first_left c.in-Some.first others keeps))

pub invariant_of-self-else-not-beat : goal.invariant_of-self-else-not-beat
invariant_of-self-else-not-beat g c =
    let others = c.self.inside.others in
    let keeps = subst (λ first. IsChannel first others) c.in-Some.is c.self.invariant in
    first_on c.in-Some.first others keeps c.beat.new.self (c.beat.ensures.under_way c.if-not-beat.false)
