use Rattle.std.proofs.Common.{◌≡◌, ◌<◌, ◌∙◌, ap, subst, arith, drop, List, ℕ, Some}
use Rattle.std.specs.Prelude.{All, slice_get}
use Rattle.std.proofs.lemmas.List.Elements.{All-head, All-tail}
use Rattle.ven_base.specs.Store.{store_size, Store, store_of}
use Rattle.ven_base.specs.Job.{Job, HasBeatsLeft, beats_left}
use Rattle.venice_isa.specs.declared.work.VecWork.{VecWork}
use Rattle.venice_isa.specs.Beat.{Progress}
use Rattle.venice_isa.specs.Footprint.{HasFootprint}
use Rattle.venice_isa.specs.declared.issue.Issue.TheVariants.{Vector}
use Rattle.lane_machine.specs.State.{State, lane_course}
use Rattle.lane_machine.proofs.Finishing.{first_and_rest, begins_finishing, goes_on_finishing, finishing_inside, jobs_in_the_end, store_in_the_end, finished_memory, finished_whole}
use Rattle.lane_machine.proofs.lanes.Lanes.finish.Goals as goal

pub loop-k-init : goal.loop-k-init
loop-k-init c =
    let self = c.args.self.now in
    let first = first_and_rest self.jobs c.requires.some in
    let at_front : slice_get self.jobs 0 ≡ Some first.0 = ap (λ jobs. slice_get jobs 0) first.1 in
    let left = subst (All (HasBeatsLeft (lane_course self.lanes))) first.1 c.first_beats-beats.ensures.queue.left in
    rw at_front (begins_finishing self (store_of c.args.cells.now c.args.memory.now) first.0 (drop 1 self.jobs) first.1 (All-head (HasBeatsLeft (lane_course self.lanes)) first.0 (drop 1 self.jobs) left))

pub beat-requires : goal.beat-requires
beat-requires c =
    let self = c.args.self.now in
    let store = store_of c.args.cells.now c.args.memory.now in
    let first = first_and_rest self.jobs c.requires.some in
    let at_front : slice_get self.jobs 0 ≡ Some first.0 = ap (λ jobs. slice_get jobs 0) first.1 in
    let so_far = rw at_front at c.loop-k.invariant in
    let inside = subst (All (λ (each : Job VecWork Progress). HasFootprint (store_size store) (Vector each.work))) first.1 c.requires.inside in
    finishing_inside self store first.0 (drop 1 self.jobs) c.loop-k._k c.loop-k.self (store_of c.loop-k.cells c.loop-k.memory) so_far (All-head (λ (each : Job VecWork Progress). HasFootprint (store_size store) (Vector each.work)) first.0 (drop 1 self.jobs) inside) (All-tail (λ (each : Job VecWork Progress). HasFootprint (store_size store) (Vector each.work)) first.0 (drop 1 self.jobs) inside)

pub loop-k-preserved : goal.loop-k-preserved
loop-k-preserved c =
    let self = c.args.self.now in
    let store = store_of c.args.cells.now c.args.memory.now in
    let first = first_and_rest self.jobs c.requires.some in
    let at_front : slice_get self.jobs 0 ≡ Some first.0 = ap (λ jobs. slice_get jobs 0) first.1 in
    let so_far = rw at_front at c.loop-k.invariant in
    let inside = subst (All (λ (each : Job VecWork Progress). HasFootprint (store_size store) (Vector each.work))) first.1 c.requires.inside in
    let counted = rw at_front at c.first_beats-beats.ensures.first in
    let more : c.loop-k._k < beats_left (lane_course self.lanes) first.0 = omega (arith, counted) in
    rw at_front (goes_on_finishing self store first.0 (drop 1 self.jobs) c.loop-k._k c.loop-k.self (store_of c.loop-k.cells c.loop-k.memory) so_far c.first_beats-beats.ensures.some_lanes (All-head (λ (each : Job VecWork Progress). HasFootprint (store_size store) (Vector each.work)) first.0 (drop 1 self.jobs) inside) more
    c.beat.new.self (store_of c.beat.new.cells c.beat.new._memory) c.beat.ensures.same_setting c.beat.ensures.jobs c.beat.ensures.store)

pub returns-clause-store : goal.returns-clause-store
returns-clause-store c =
    let self = c.args.self.now in
    let store = store_of c.args.cells.now c.args.memory.now in
    let first = first_and_rest self.jobs c.requires.some in
    let at_front : slice_get self.jobs 0 ≡ Some first.0 = ap (λ jobs. slice_get jobs 0) first.1 in
    let so_far = rw at_front at c.loop-k.invariant in
    let counted = rw at_front at c.first_beats-beats.ensures.first in
    rw at_front (store_in_the_end self store first.0 (drop 1 self.jobs) _ c.loop-k.self (store_of c.loop-k.cells c.loop-k.memory) so_far (omega (arith, counted)))

pub returns-clause-whole : goal.returns-clause-whole
returns-clause-whole c =
    let self = c.args.self.now in
    let store = store_of c.args.cells.now c.args.memory.now in
    let first = first_and_rest self.jobs c.requires.some in
    let at_front : slice_get self.jobs 0 ≡ Some first.0 = ap (λ jobs. slice_get jobs 0) first.1 in
    let so_far = rw at_front at c.loop-k.invariant in
    let counted = rw at_front at c.first_beats-beats.ensures.first in
    let inside = subst (All (λ (each : Job VecWork Progress). HasFootprint (store_size store) (Vector each.work))) first.1 c.requires.inside in
    let end = store_in_the_end self store first.0 (drop 1 self.jobs) _ c.loop-k.self (store_of c.loop-k.cells c.loop-k.memory) so_far (omega (arith, counted)) in
    rw (at_front, ap (λ (s : Store). s.cells) end) (finished_whole self.lanes first.0 store c.first_beats-beats.ensures.some_lanes (All-head (λ (each : Job VecWork Progress). HasFootprint (store_size store) (Vector each.work)) first.0 (drop 1 self.jobs) inside))

pub returns-clause-length : goal.returns-clause-length
returns-clause-length c =
    let first = first_and_rest c.args.self.now.jobs c.requires.some in
    let at_front : slice_get c.args.self.now.jobs 0 ≡ Some first.0 = ap (λ jobs. slice_get jobs 0) first.1 in
    let so_far = rw at_front at c.loop-k.invariant in
    ap (λ size. size.cells) so_far.same_size

pub returns-clause-memory : goal.returns-clause-memory
returns-clause-memory c =
    let self = c.args.self.now in
    let store = store_of c.args.cells.now c.args.memory.now in
    let first = first_and_rest self.jobs c.requires.some in
    let at_front : slice_get self.jobs 0 ≡ Some first.0 = ap (λ jobs. slice_get jobs 0) first.1 in
    let so_far = rw at_front at c.loop-k.invariant in
    let counted = rw at_front at c.first_beats-beats.ensures.first in
    let end = store_in_the_end self store first.0 (drop 1 self.jobs) _ c.loop-k.self (store_of c.loop-k.cells c.loop-k.memory) so_far (omega (arith, counted)) in
    ap (λ (s : Store). s.memory) end ∙ finished_memory self.lanes first.0 store

pub returns-clause-jobs : goal.returns-clause-jobs
returns-clause-jobs c =
    let self = c.args.self.now in
    let store = store_of c.args.cells.now c.args.memory.now in
    let first = first_and_rest self.jobs c.requires.some in
    let at_front : slice_get self.jobs 0 ≡ Some first.0 = ap (λ jobs. slice_get jobs 0) first.1 in
    let so_far = rw at_front at c.loop-k.invariant in
    let counted = rw at_front at c.first_beats-beats.ensures.first in
    let jobs = jobs_in_the_end self store first.0 (drop 1 self.jobs) _ c.loop-k.self (store_of c.loop-k.cells c.loop-k.memory) so_far (omega (arith, counted)) in
    let made : List (Job VecWork Progress) → ℕ → State = λ jobs lanes. record { jobs = jobs; lanes = lanes } in
    ap (λ jobs. made jobs c.loop-k.self.lanes) jobs ∙ ap (made (drop 1 self.jobs)) so_far.lanes_are
