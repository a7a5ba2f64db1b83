use Rattle.std.proofs.Common.{◌∙◌, ap, sym, subst, map}
use Rattle.std.specs.Prelude.{All}
use Rattle.std.proofs.lemmas.List.Elements.{All-head}
use Rattle.ven_base.specs.Store.{store_of, store_size, IsInRange}
use Rattle.ven_base.specs.Beats.{jobs_after_beats, store_after_beats, HasMore}
use Rattle.venice_isa.specs.Footprint.{Reads, Writes}
use Rattle.dma_engine.specs.Direction.{issue_of, channel_course}
use Rattle.dma_engine.specs.Current.{job_of, done_of, IsUnderWay}
use Rattle.dma_engine.specs.Channel.{queue_of, jobs_of, IsChannel}
use Rattle.dma_engine.proofs.Kept.{first_on}
use Rattle.dma_engine.proofs.Rows.{more_left, first_on_many, store_on_many, none_are, none_on_many}
use Rattle.dma_engine.proofs.channel.ChannelUnit.beats.Goals as goal

pub returns-in_default-clause-store : goal.returns-in_default-clause-store
returns-in_default-clause-store g c =
    let direction = g.D.Directed.DIRECTION in
    let store = store_of c.args.cells.now c.args.memory.now in
    let empty = sym c.self.view_is ∙ none_are c.self.inside.first c.self.inside.others.items c.in_default.is c.self.invariant.front in
    sym (ap (λ jobs. store_after_beats (channel_course direction) c.args.count jobs store) empty ∙ (none_on_many direction c.args.count store).1)

pub returns-in_default-clause-jobs : goal.returns-in_default-clause-jobs
returns-in_default-clause-jobs g c =
    let direction = g.D.Directed.DIRECTION in
    let store = store_of c.args.cells.now c.args.memory.now in
    let empty = none_are c.self.inside.first c.self.inside.others.items c.in_default.is c.self.invariant.front in
    empty ∙ sym (ap (λ jobs. jobs_after_beats (channel_course direction) c.args.count jobs store) (sym c.self.view_is ∙ empty) ∙ (none_on_many direction c.args.count store).0)

pub beats-requires-clause-under_way : goal.beats-requires-clause-under_way
beats-requires-clause-under_way g c =
    let others = c.self.inside.others.items in
    All-head IsUnderWay c.in-Some.first others (subst (λ first. All IsUnderWay (queue_of first others)) c.in-Some.is c.self.invariant.under_way)

pub beats-requires-clause-inside : goal.beats-requires-clause-inside
beats-requires-clause-inside g c =
    let issue = issue_of g.D.Directed.DIRECTION in
    let size = store_size (store_of c.args.cells.now c.args.memory.now) in
    let others = c.self.inside.others.items in
    All-head (λ job. IsInRange (Reads (issue job.work)) (Writes (issue job.work)) size) (job_of c.in-Some.first) (map job_of others)
    (subst (λ first. All (λ job. IsInRange (Reads (issue job.work)) (Writes (issue job.work)) size) (jobs_of first others)) c.in-Some.is
    (subst (All (λ job. IsInRange (Reads (issue job.work)) (Writes (issue job.work)) size)) (sym c.self.view_is) c.requires.inside))

pub invariant_of-self-2 : goal.invariant_of-self-2
invariant_of-self-2 g c =
    let others = c.self.inside.others in
    first_on c.in-Some.first others (subst (λ first. IsChannel first others) c.in-Some.is c.self.invariant) c.beats.new.self c.beats.ensures.on.under_way

pub returns-clause-store : goal.returns-clause-store
returns-clause-store g c =
    let direction = g.D.Directed.DIRECTION in
    let store = store_of c.args.cells.now c.args.memory.now in
    let first = c.in-Some.first in
    let others = c.self.inside.others.items in
    let jobs = sym (ap (λ first. jobs_of first others) c.in-Some.is) ∙ c.self.view_is in
    let more = more_left direction first others c.args.count (subst (HasMore (channel_course direction) c.args.count) (sym jobs) c.requires.more) in
    c.beats.ensures.store ∙ sym (store_on_many direction (map job_of others) c.args.count first.work (done_of first) store more)
    ∙ ap (λ jobs. store_after_beats (channel_course direction) c.args.count jobs store) jobs

pub returns-clause-jobs : goal.returns-clause-jobs
returns-clause-jobs g c =
    let direction = g.D.Directed.DIRECTION in
    let store = store_of c.args.cells.now c.args.memory.now in
    let first = c.in-Some.first in
    let others = c.self.inside.others.items in
    let jobs = sym (ap (λ first. jobs_of first others) c.in-Some.is) ∙ c.self.view_is in
    let more = more_left direction first others c.args.count (subst (HasMore (channel_course direction) c.args.count) (sym jobs) c.requires.more) in
    first_on_many direction others c.args.count first c.beats.new.self store more c.beats.ensures.on
    ∙ ap (λ jobs. jobs_after_beats (channel_course direction) c.args.count jobs store) jobs
