use Rattle.std.proofs.Common.{◌≡◌, ◌∙◌, sym, ap, refl, subst, arith, length, Some}
use Rattle.std.specs.Prelude.{All, slice_get}
use Rattle.std.specs.Int.{w128}
use Rattle.std.proofs.lemmas.Int.{to_z-of_z}
use Rattle.std.proofs.lemmas.List.Elements.{All-drop}
use Rattle.circular_buffer.specs.Buffer.{Buffer}
use Rattle.ven_base.specs.Store.{Size, store_of, IsInRange}
use Rattle.ven_base.specs.Job.{store_beaten, jobs_beaten}
use Rattle.venice_isa.specs.declared.work.VecWork.{VecWork}
use Rattle.venice_isa.specs.declared.issue.Issue.TheVariants.{Vector}
use Rattle.venice_isa.specs.Footprint.{Reads, Writes}
use Rattle.venice_isa.specs.Whole.{HasCounts}
use Rattle.lane_machine.specs.State.{lane_course}
use Rattle.lane_machine.specs.Lanes.{jobs_of}
use Rattle.lane_machine.proofs.Kept.{inside_of_cells, inside_of_32_bits, of_works, of_first, first_under_way, jobs_first, jobs_on, jobs_left, at_front, lanes_beaten}
use Rattle.lane_machine.proofs.Beats.{progress_on}
use Rattle.lane_machine.proofs.lanes.LanesUnit.beat.Goals as goal

pub count-count-requires : goal.count-count-requires
count-count-requires c =
    let under_way = first_under_way c.self.inside.lanes c.self.inside.queue c.self.inside.current c.in-Some-current.current c.in-Some.work.now c.self.invariant c.in-Some-current.is (sym c.in-Some.ensures) in
    under_way.at

pub beat-sum-requires-clause-at : goal.beat-sum-requires-clause-at
beat-sum-requires-clause-at c =
    let under_way = first_under_way c.self.inside.lanes c.self.inside.queue c.self.inside.current c.in-Some-current.current c.in-Some.work.now c.self.invariant c.in-Some-current.is (sym c.in-Some.ensures) in
    under_way.at

pub beat-sum-requires-clause-inside : goal.beat-sum-requires-clause-inside
beat-sum-requires-clause-inside c =
    let size : Size = record { cells = length c.args.cells.now; memory = length c.args._memory.now } in
    let all = rw (← c.self.view_is) at c.requires in
    inside_of_cells c.in-Some.work.now size
    (of_first c.self.inside.lanes (λ work. IsInRange (Reads (Vector work)) (Writes (Vector work)) size) c.self.inside.queue.items c.in-Some.work.now c.self.inside.current (sym c.in-Some.ensures) all)

pub advance-requires-clause-at : goal.advance-requires-clause-at
advance-requires-clause-at c =
    let under_way = first_under_way c.self.inside.lanes c.self.inside.queue c.self.inside.current c.in-Some-current.current c.in-Some.work.now c.self.invariant c.in-Some-current.is (sym c.in-Some.ensures) in
    under_way.at

pub advance-requires-clause-inside : goal.advance-requires-clause-inside
advance-requires-clause-inside c =
    let size : Size = record { cells = length c.args.cells.now; memory = length c.args._memory.now } in
    let all = rw (← c.self.view_is) at c.requires in
    inside_of_32_bits c.in-Some.work.now (length c.args.cells.now)
    (inside_of_cells c.in-Some.work.now size
    (of_first c.self.inside.lanes (λ work. IsInRange (Reads (Vector work)) (Writes (Vector work)) size) c.self.inside.queue.items c.in-Some.work.now c.self.inside.current (sym c.in-Some.ensures) all))
    (omega arith)

pub begin_first-self-inside-requires-clause-counts :
    goal.begin_first-self-inside-requires-clause-counts
begin_first-self-inside-requires-clause-counts c =
    let counts = of_works c.self.inside.lanes HasCounts c.self.inside.queue.items c.self.inside.current c.self.invariant.queue.counts in
    subst (All HasCounts) (sym (ap (λ (q : Buffer VecWork). q.items) c.pop_front.ensures.items)) (All-drop HasCounts 1 c.self.inside.queue.items counts)

pub invariant_of-self-then-not-advance : goal.invariant_of-self-then-not-advance
invariant_of-self-then-not-advance c =
    let lanes = c.self.inside.lanes in
    let queue = c.self.inside.queue in
    let current = c.in-Some-current.current in
    let next = c.begin_first-self-inside.result in
    let first : slice_get queue.items 0 ≡ Some c.in-Some.work.now = sym c.in-Some.ensures in
    let store = store_of c.args.cells.now c.args._memory.now in
    let under_way = first_under_way lanes queue c.self.inside.current current c.in-Some.work.now c.self.invariant c.in-Some-current.is first in
    let last = rw under_way.group_items_is at c.advance.ensures.ends c.if-not-advance.true in
    lanes_beaten lanes queue c.pop_front.new.self c.self.inside.current next store c.self.invariant (ap (λ (q : Buffer VecWork). q.capacity) c.pop_front.ensures.items)
    (ap (λ (q : Buffer VecWork). jobs_of lanes q.items next) c.pop_front.ensures.items
    ∙ jobs_left lanes queue.items c.in-Some.work.now current first store next last c.begin_first-self-inside.ensures.begins
    ∙ ap (λ kept. jobs_beaten (lane_course lanes) 0 (jobs_of lanes queue.items kept) store) (sym c.in-Some-current.is))
    c.begin_first-self-inside.ensures.first

pub returns-then-not-advance-clause-jobs : goal.returns-then-not-advance-clause-jobs
returns-then-not-advance-clause-jobs c =
    let lanes = c.self.inside.lanes in
    let queue = c.self.inside.queue in
    let current = c.in-Some-current.current in
    let next = c.begin_first-self-inside.result in
    let first : slice_get queue.items 0 ≡ Some c.in-Some.work.now = sym c.in-Some.ensures in
    let store = store_of c.args.cells.now c.args._memory.now in
    let under_way = first_under_way lanes queue c.self.inside.current current c.in-Some.work.now c.self.invariant c.in-Some-current.is first in
    let last = rw under_way.group_items_is at c.advance.ensures.ends c.if-not-advance.true in
    ap (λ (q : Buffer VecWork). jobs_of lanes q.items next) c.pop_front.ensures.items
    ∙ jobs_left lanes queue.items c.in-Some.work.now current first store next last c.begin_first-self-inside.ensures.begins
    ∙ ap (λ kept. jobs_beaten (lane_course lanes) 0 (jobs_of lanes queue.items kept) store) (sym c.in-Some-current.is)
    ∙ ap (λ s. jobs_beaten (lane_course s.lanes) 0 s.jobs store) c.self.view_is

pub invariant_of-self-else-not-advance : goal.invariant_of-self-else-not-advance
invariant_of-self-else-not-advance c =
    let lanes = c.self.inside.lanes in
    let queue = c.self.inside.queue in
    let work = c.in-Some.work.now in
    let current = c.in-Some-current.current in
    let next = c.advance.new.self in
    let first : slice_get queue.items 0 ≡ Some work = sym c.in-Some.ensures in
    let store = store_of c.args.cells.now c.args._memory.now in
    let under_way = first_under_way lanes queue c.self.inside.current current work c.self.invariant c.in-Some-current.is first in
    let is_next = c.advance.ensures.goes_on c.if-not-advance.false in
    let sum = to_z-of_z w128 c.beat-sum.result (record { sfits = c.beat-sum.type_inv }) ∙ c.beat-sum.ensures.sum lanes under_way.group_items_is in
    let on = progress_on lanes work current next c.args.cells.now _ under_way.at under_way.group_items_is sum is_next in
    let more = rw (is_next.group_items_is ∙ under_way.group_items_is, is_next.done_is) at is_next.at.come.more in
    lanes_beaten lanes queue queue c.self.inside.current (Some next) store c.self.invariant refl
    (jobs_on lanes queue.items work current first store next more on
    ∙ ap (λ kept. jobs_beaten (lane_course lanes) 0 (jobs_of lanes queue.items kept) store) (sym c.in-Some-current.is))
    (at_front lanes queue.items work next first (record { at = is_next.at; group_items_is = is_next.group_items_is ∙ under_way.group_items_is }))

pub returns-then-not-advance-clause-store : goal.returns-then-not-advance-clause-store
returns-then-not-advance-clause-store c =
    let lanes = c.self.inside.lanes in
    let queue = c.self.inside.queue in
    let work = c.in-Some.work.now in
    let current = c.in-Some-current.current in
    let first : slice_get queue.items 0 ≡ Some work = sym c.in-Some.ensures in
    let under_way = first_under_way lanes queue c.self.inside.current current work c.self.invariant c.in-Some-current.is first in
    let store = store_of c.args.cells.now c.args._memory.now in
    ap (λ cells. store_of cells c.args._memory.now) (c.beat-sum.ensures.cells lanes under_way.group_items_is)
    ∙ ap (λ jobs. store_beaten (lane_course lanes) 0 jobs store) (sym (jobs_first lanes queue.items work (Some current) first))
    ∙ ap (λ kept. store_beaten (lane_course lanes) 0 (jobs_of lanes queue.items kept) store) (sym c.in-Some-current.is)
    ∙ ap (λ s. store_beaten (lane_course s.lanes) 0 s.jobs store) c.self.view_is

pub returns-else-not-advance-clause-jobs : goal.returns-else-not-advance-clause-jobs
returns-else-not-advance-clause-jobs c =
    let lanes = c.self.inside.lanes in
    let queue = c.self.inside.queue in
    let work = c.in-Some.work.now in
    let current = c.in-Some-current.current in
    let next = c.advance.new.self in
    let first : slice_get queue.items 0 ≡ Some work = sym c.in-Some.ensures in
    let store = store_of c.args.cells.now c.args._memory.now in
    let under_way = first_under_way lanes queue c.self.inside.current current work c.self.invariant c.in-Some-current.is first in
    let is_next = c.advance.ensures.goes_on c.if-not-advance.false in
    let sum = to_z-of_z w128 c.beat-sum.result (record { sfits = c.beat-sum.type_inv }) ∙ c.beat-sum.ensures.sum lanes under_way.group_items_is in
    let on = progress_on lanes work current next c.args.cells.now _ under_way.at under_way.group_items_is sum is_next in
    let more = rw (is_next.group_items_is ∙ under_way.group_items_is, is_next.done_is) at is_next.at.come.more in
    jobs_on lanes queue.items work current first store next more on
    ∙ ap (λ kept. jobs_beaten (lane_course lanes) 0 (jobs_of lanes queue.items kept) store) (sym c.in-Some-current.is)
    ∙ ap (λ s. jobs_beaten (lane_course s.lanes) 0 s.jobs store) c.self.view_is
