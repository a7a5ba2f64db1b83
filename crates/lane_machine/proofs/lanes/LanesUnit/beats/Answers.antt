use Rattle.std.proofs.Common.{◌≡◌, ◌∙◌, ap, sym, subst, drop, map, length, Some}
use Rattle.std.specs.Prelude.{slice_get}
use Rattle.ven_base.specs.Store.{Size, store_of, IsInRange}
use Rattle.ven_base.specs.Job.{new_job}
use Rattle.ven_base.specs.Beats.{HasMore, jobs_after_beats, store_after_beats}
use Rattle.spad_store.specs.Queue.{IsQueue}
use Rattle.venice_isa.specs.declared.issue.Issue.TheVariants.{Vector}
use Rattle.venice_isa.specs.Footprint.{Reads, Writes}
use Rattle.venice_isa.specs.Whole.{HasCounts}
use Rattle.lane_machine.specs.State.{State, lane_course}
use Rattle.lane_machine.specs.Lanes.{jobs_of}
use Rattle.lane_machine.proofs.Kept.{inside_of_cells, of_first, first_under_way, jobs_first, at_front}
use Rattle.lane_machine.proofs.ToGo.{no_first, nothing_on, queue_on}
use Rattle.lane_machine.proofs.lanes.LanesUnit.beats.Goals as goal

pub beats-requires-clause-under_way : goal.beats-requires-clause-under_way
beats-requires-clause-under_way c =
    first_under_way c.self.inside.lanes c.self.inside.queue c.self.inside.current c.in-Some-current.current c.in-Some.work.now c.self.invariant c.in-Some-current.is (sym c.in-Some.ensures)

pub beats-requires-clause-counts : goal.beats-requires-clause-counts
beats-requires-clause-counts c =
    of_first c.self.inside.lanes HasCounts c.self.inside.queue.items c.in-Some.work.now c.self.inside.current (sym c.in-Some.ensures) c.self.invariant.queue.counts

pub beats-requires-clause-inside : goal.beats-requires-clause-inside
beats-requires-clause-inside c =
    let size : Size = record { cells = length c.args.cells.now; memory = length c.args._memory.now } in
    let all = rw (← c.self.view_is) at c.requires.inside in
    inside_of_cells c.in-Some.work.now size
    (of_first c.self.inside.lanes (λ work. IsInRange (Reads (Vector work)) (Writes (Vector work)) size) c.self.inside.queue.items c.in-Some.work.now c.self.inside.current (sym c.in-Some.ensures) all)

pub beats-requires-clause-more : goal.beats-requires-clause-more
beats-requires-clause-more c =
    let lanes = c.self.inside.lanes in
    let items = c.self.inside.queue.items in
    let mine = ap (jobs_of lanes items) c.in-Some-current.is ∙ jobs_first lanes items c.in-Some.work.now (Some c.in-Some-current.current) (sym c.in-Some.ensures) in
    subst (HasMore (lane_course lanes) c.args.count) mine (subst (λ (s : State). HasMore (lane_course s.lanes) c.args.count s.jobs) (sym c.self.view_is) c.requires.more)

pub invariant_of-self-2 : goal.invariant_of-self-2
invariant_of-self-2 c =
    let lanes = c.self.inside.lanes in
    let items = c.self.inside.queue.items in
    let work = c.in-Some.work.now in
    let current = c.in-Some-current.current in
    let next = c.beats.new.current in
    let first : slice_get items 0 ≡ Some work = sym c.in-Some.ensures in
    let rest = map (new_job (lane_course lanes)) (drop 1 items) in
    let keeps = c.self.invariant in
    let come = c.beats.ensures c.args._memory.now in
    let mine = ap (jobs_of lanes items) c.in-Some-current.is ∙ jobs_first lanes items work (Some current) first in
    record {
      some = keeps.some;
      few = keeps.few;
      capacity = keeps.capacity;
      queue = subst (IsQueue (lane_course lanes) HasCounts 4) (sym (jobs_first lanes items work (Some next) first))
          (queue_on lanes work current next rest come.under_way (subst (IsQueue (lane_course lanes) HasCounts 4) mine keeps.queue));
      front = at_front lanes items work next first come.under_way;
    }

pub returns-clause-store : goal.returns-clause-store
returns-clause-store c =
    let lanes = c.self.inside.lanes in
    let items = c.self.inside.queue.items in
    let work = c.in-Some.work.now in
    let store = store_of c.args.cells.now c.args._memory.now in
    let rest = map (new_job (lane_course lanes)) (drop 1 items) in
    let mine = ap (jobs_of lanes items) c.in-Some-current.is ∙ jobs_first lanes items work (Some c.in-Some-current.current) (sym c.in-Some.ensures) in
    let come = c.beats.ensures c.args._memory.now in
    come.store_is rest
    ∙ ap (λ jobs. store_after_beats (lane_course lanes) c.args.count jobs store) (sym mine)
    ∙ ap (λ (s : State). store_after_beats (lane_course s.lanes) c.args.count s.jobs store) c.self.view_is

pub returns-clause-jobs : goal.returns-clause-jobs
returns-clause-jobs c =
    let lanes = c.self.inside.lanes in
    let items = c.self.inside.queue.items in
    let work = c.in-Some.work.now in
    let store = store_of c.args.cells.now c.args._memory.now in
    let rest = map (new_job (lane_course lanes)) (drop 1 items) in
    let first : slice_get items 0 ≡ Some work = sym c.in-Some.ensures in
    let mine = ap (jobs_of lanes items) c.in-Some-current.is ∙ jobs_first lanes items work (Some c.in-Some-current.current) first in
    let come = c.beats.ensures c.args._memory.now in
    jobs_first lanes items work (Some c.beats.new.current) first ∙ come.jobs_are rest
    ∙ ap (λ jobs. jobs_after_beats (lane_course lanes) c.args.count jobs store) (sym mine)
    ∙ ap (λ (s : State). jobs_after_beats (lane_course s.lanes) c.args.count s.jobs store) c.self.view_is

pub returns-in_default-clause-store : goal.returns-in_default-clause-store
returns-in_default-clause-store c =
    let inside = c.self.inside in
    let self = c.args.self.now in
    let empty = sym (ap (λ (s : State). s.jobs) c.self.view_is) ∙ no_first inside.lanes inside.queue.items inside.current (sym c.in_default.ensures) in
    (nothing_on self.lanes c.args.count self.jobs (store_of c.args.cells.now c.args._memory.now) empty).1

pub returns-in_default-clause-jobs : goal.returns-in_default-clause-jobs
returns-in_default-clause-jobs c =
    let inside = c.self.inside in
    let self = c.args.self.now in
    let empty = sym (ap (λ (s : State). s.jobs) c.self.view_is) ∙ no_first inside.lanes inside.queue.items inside.current (sym c.in_default.ensures) in
    (nothing_on self.lanes c.args.count self.jobs (store_of c.args.cells.now c.args._memory.now) empty).0
