use Rattle.std.proofs.Common.{◌∙◌, ap, sym, subst}
use Rattle.std.specs.Prelude.{All}
use Rattle.circular_buffer.specs.Buffer.{Buffer}
use Rattle.ven_base.specs.Store.{store_of, store_size, IsInRange}
use Rattle.ven_base.specs.Job.{jobs_beaten, store_beaten}
use Rattle.venice_isa.specs.Footprint.{Reads, Writes}
use Rattle.dma_engine.specs.declared.current.Current.{Current}
use Rattle.dma_engine.specs.Direction.{issue_of, channel_course}
use Rattle.dma_engine.specs.Channel.{jobs_of, IsChannel}
use Rattle.dma_engine.proofs.Kept.{of_second, second_under_way, second_on, second_left, jobs_second_on, jobs_second_left, store_second, no_second_store, no_second_jobs}
use Rattle.dma_engine.proofs.channel.ChannelOvertaking.beat_second.Goals as goal

pub returns-in_default-clause-store : goal.returns-in_default-clause-store
returns-in_default-clause-store g c =
    let course = channel_course g.D.Directed.DIRECTION in
    let store = store_of c.args.cells.now c.args.memory.now in
    no_second_store g.D.Directed.DIRECTION store c.self.inside.first c.self.inside.others.items (sym c.in_default.ensures.value)
    ∙ ap (λ jobs. store_beaten course 1 jobs store) c.self.view_is

pub returns-in_default-clause-jobs : goal.returns-in_default-clause-jobs
returns-in_default-clause-jobs g c =
    let course = channel_course g.D.Directed.DIRECTION in
    let store = store_of c.args.cells.now c.args.memory.now in
    no_second_jobs g.D.Directed.DIRECTION store c.self.inside.first c.self.inside.others.items (sym c.in_default.ensures.value)
    ∙ ap (λ jobs. jobs_beaten course 1 jobs store) c.self.view_is

pub beat-requires-clause-under_way : goal.beat-requires-clause-under_way
beat-requires-clause-under_way g c =
    second_under_way c.in-Some.second.now c.self.inside.first c.self.inside.others.items c.self.invariant.front (sym c.in-Some.ensures.value) c.self.invariant.under_way

pub beat-requires-clause-inside : goal.beat-requires-clause-inside
beat-requires-clause-inside g c =
    let issue = issue_of g.D.Directed.DIRECTION in
    let size = store_size (store_of c.args.cells.now c.args.memory.now) in
    of_second c.in-Some.second.now (λ job. IsInRange (Reads (issue job.work)) (Writes (issue job.work)) size) c.self.inside.first c.self.inside.others.items c.self.invariant.front (sym c.in-Some.ensures.value)
    (subst (All (λ job. IsInRange (Reads (issue job.work)) (Writes (issue job.work)) size)) (sym c.self.view_is) c.requires)

pub invariant_of-self-then-not-beat : goal.invariant_of-self-then-not-beat
invariant_of-self-then-not-beat g c =
    subst (IsChannel c.self.inside.first) (sym c.pop_front.ensures.items)
    (second_left c.in-Some.second.now c.self.inside.first c.self.inside.others c.beat.new.self c.self.invariant (sym c.in-Some.ensures.value))

pub invariant_of-self-else-not-beat : goal.invariant_of-self-else-not-beat
invariant_of-self-else-not-beat g c =
    second_on c.in-Some.second.now c.self.inside.first c.self.inside.others c.beat.new.self c.self.invariant (sym c.in-Some.ensures.value) (c.beat.ensures.under_way c.if-not-beat.false)

pub returns-then-not-beat-clause-store : goal.returns-then-not-beat-clause-store
returns-then-not-beat-clause-store g c =
    let course = channel_course g.D.Directed.DIRECTION in
    let store = store_of c.args.cells.now c.args.memory.now in
    c.beat.ensures.store
    ∙ store_second c.in-Some.second.now g.D.Directed.DIRECTION store c.self.inside.first c.self.inside.others.items c.self.invariant.front (sym c.in-Some.ensures.value)
    ∙ ap (λ jobs. store_beaten course 1 jobs store) c.self.view_is

pub returns-else-not-beat-clause-store : goal.returns-else-not-beat-clause-store
returns-else-not-beat-clause-store g c =
    let course = channel_course g.D.Directed.DIRECTION in
    let store = store_of c.args.cells.now c.args.memory.now in
    c.beat.ensures.store
    ∙ store_second c.in-Some.second.now g.D.Directed.DIRECTION store c.self.inside.first c.self.inside.others.items c.self.invariant.front (sym c.in-Some.ensures.value)
    ∙ ap (λ jobs. store_beaten course 1 jobs store) c.self.view_is

pub returns-then-not-beat-clause-jobs : goal.returns-then-not-beat-clause-jobs
returns-then-not-beat-clause-jobs g c =
    let course = channel_course g.D.Directed.DIRECTION in
    let store = store_of c.args.cells.now c.args.memory.now in
    let left = rw c.if-not-beat.true at c.beat.ensures.left in
    ap (λ (q : Buffer Current). jobs_of c.self.inside.first q.items) c.pop_front.ensures.items
    ∙ jobs_second_left c.in-Some.second.now g.D.Directed.DIRECTION store c.self.inside.first c.self.inside.others.items c.beat.new.self c.self.invariant.front (sym c.in-Some.ensures.value) left
    ∙ ap (λ jobs. jobs_beaten course 1 jobs store) c.self.view_is

pub returns-else-not-beat-clause-jobs : goal.returns-else-not-beat-clause-jobs
returns-else-not-beat-clause-jobs g c =
    let course = channel_course g.D.Directed.DIRECTION in
    let store = store_of c.args.cells.now c.args.memory.now in
    let left = rw c.if-not-beat.false at c.beat.ensures.left in
    jobs_second_on c.in-Some.second.now g.D.Directed.DIRECTION store c.self.inside.first c.self.inside.others.items c.beat.new.self c.self.invariant.front (sym c.in-Some.ensures.value) left
    ∙ ap (λ jobs. jobs_beaten course 1 jobs store) c.self.view_is
