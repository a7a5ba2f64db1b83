-- Cycles in which the host waits and no work ends, one by one and all at once.
use Rattle.std.proofs.Common.{◌≡◌, ◌∙◌, ℕ, zero, suc, ◌+◌, ◌-◌, ◌*◌, ◌/◌, ◌%◌, ◌<◌, ◌≤◌, ◌&&◌, not, min, arith, sym, refl, ap, subst, List, [], ◌∷◌, length, replicate, Option, Some, None, Bool, true, false, cond, is_none}
use Rattle.std.specs.Prelude.{slice_get}
use Rattle.std.proofs.lemmas.Bool.{true≢false}
use Rattle.std.proofs.lemmas.Option.{same_Some}
use Rattle.std.proofs.lemmas.Nat.{div-add-mod'}
use Rattle.ven_base.specs.Store.{store_of, store_size}
use Rattle.ven_base.specs.Job.{Job, Course, works_of as works_in, jobs_beaten}
use Rattle.ven_base.specs.Beats.{HasMore}
use Rattle.ven_base.specs.Exchange.{HasMoreIn, FirstsApart}
use Rattle.ven_base.proofs.Exchange.{has_fewer, size_kept}
use Rattle.spad_store.specs.Tagged.{tagged_among}
use Rattle.spad_store.proofs.Rounds.{Trio, CanRun, one_more_round, can_go_on}
use Rattle.venice_isa.specs.declared.issue.Issue.{Issue}
use Rattle.venice_isa.specs.declared.issue.Issue.TheVariants.{Vector, Read, Write}
use Rattle.venice_isa.specs.declared.host.Deed.{Deed}
use Rattle.venice_isa.specs.declared.work.DmaWork.{DmaWork}
use Rattle.venice_isa.specs.Beat.{Progress}
use Rattle.venice_isa.specs.Footprint.{writes_what_is_read, reads_what_is_written, both_write}
use Rattle.venice_isa.specs.Host.{deed}
use Rattle.venice_isa.specs.HostState.{host_of}
use Rattle.venice_isa.specs.Units.{Unit, Lanes, ReadChannel, WriteChannel}
use Rattle.venice_isa.specs.Tests.{are_in_conflict}
use Rattle.venice_isa.proofs.TestsRight.{conflict_decided}
use Rattle.host_core.specs.declared.waiting.Waiting.{Waiting}
use Rattle.host_core.specs.Pass.{lets_go_on}
use Rattle.host_core.specs.Step.{wanted_by}
use Rattle.venice_machine.specs.declared.stop.End.{End}
use Rattle.venice_machine.specs.State.{Setup, State}
use Rattle.venice_machine.specs.Step.{TheHost, TheUnit, can_step, after_step}
use Rattle.venice_machine.specs.Run.{all_units, in_order, after_turn, after_turns, after_cycle, after_cycles}
use Rattle.venice_machine.specs.Machine.{Queues, MachineContents, Shows}
use Rattle.venice_machine.specs.Kept.{AllNumbered, unit_course, waiting_in, tagged_in, after_chance}
use Rattle.venice_machine.specs.AtOnce.{WorksAndStore, lanes_on, reads_on, all_on, busy_units, works_of, with_works, after_many, FirstsAgree, HaveMore, HostWaits, CyclesAtOnce}
use Rattle.venice_machine.proofs.Shown.{host_may}
use Rattle.venice_machine.proofs.Cycling.{turn_idle, cycle_shown}
use Rattle.venice_machine.proofs.Beaten.{unit_kind, unit_keeps, more_of, same_length, tagged_stay, plus_none, lanes_turn_shown, reads_turn_shown, writes_turn_shown}

-- ---- the three units

-- works that don't conflict are apart
apart_firsts : {A B : Type 0} (as_issue : A → Issue) (as_other : B → Issue) (lane_count : ℕ) (jobs : List (Job A Progress)) (others : List (Job B Progress)) → FirstsAgree as_issue as_other jobs others
    → FirstsApart (unit_kind as_issue lane_count) (unit_kind as_other lane_count) jobs others
apart_firsts as_issue as_other lane_count [] others agree = tt
apart_firsts as_issue as_other lane_count (job ∷ jobs) [] agree = tt
apart_firsts as_issue as_other lane_count (job ∷ jobs) (other ∷ others) agree = record {
  unread = λ place written read. agree (writes_what_is_read place written read);
  unwritten = λ place read written. agree (reads_what_is_written place read written);
  not_both = λ place mine others. agree (both_write place mine others);
}

turn_is : (setup : Setup) (most : ℕ) (unit : Unit) (state : State) → state.end ≡ None → after_turn setup most all_units (TheUnit unit) state ≡ after_chance setup most false (TheUnit unit) state
turn_is setup most Lanes state going = ap (λ (end : Option End). cond (is_none end && can_step setup (TheUnit Lanes) state) (after_step setup most false (TheUnit Lanes) state) state) going
turn_is setup most ReadChannel state going = ap (λ (end : Option End). cond (is_none end && can_step setup (TheUnit ReadChannel) state) (after_step setup most false (TheUnit ReadChannel) state) state) going
turn_is setup most WriteChannel state going = ap (λ (end : Option End). cond (is_none end && can_step setup (TheUnit WriteChannel) state) (after_step setup most false (TheUnit WriteChannel) state) state) going

module _ (lane_count : ℕ) (some_lanes : 0 < lane_count) where
  -- the three queues, with cells and memory
  abbrev Queued : Type 0
  Queued = Trio (unit_kind Vector lane_count) (unit_kind Read lane_count) (unit_kind Write lane_count) (unit_keeps Vector lane_count some_lanes) (unit_keeps Read lane_count some_lanes) (unit_keeps Write lane_count some_lanes)

  abbrev trio_of : WorksAndStore → Queued
  trio_of now = record { a = now.queues.lanes.jobs; b = now.queues.reads.jobs; c = now.queues.writes.jobs; store = now.store }

  abbrev with_trio : Queues → Queued → WorksAndStore
  with_trio queues trio = record {
    queues = record queues { lanes = record queues.lanes { jobs = trio.a }; reads = record queues.reads { jobs = trio.b }; writes = record queues.writes { jobs = trio.c } };
    store = trio.store;
  }

  abbrev Runs : (count : ℕ) → WorksAndStore → Type 0
  Runs count now = CanRun (unit_kind Vector lane_count) (unit_kind Read lane_count) (unit_kind Write lane_count) (unit_keeps Vector lane_count some_lanes) (unit_keeps Read lane_count some_lanes) (unit_keeps Write lane_count some_lanes) count (trio_of now)

  one_more : (count : ℕ) (now : WorksAndStore) → Runs (suc count) now → all_on lane_count (suc count) now ≡ all_on lane_count count (all_on lane_count 1 now)
  one_more count now can = ap (with_trio now.queues)
      (one_more_round (unit_kind Vector lane_count) (unit_kind Read lane_count) (unit_kind Write lane_count) (unit_keeps Vector lane_count some_lanes) (unit_keeps Read lane_count some_lanes) (unit_keeps Write lane_count some_lanes) count (trio_of now) can)

  goes_on : (count : ℕ) (now : WorksAndStore) → Runs (suc count) now → Runs count (all_on lane_count 1 now)
  goes_on count now can =
      can_go_on (unit_kind Vector lane_count) (unit_kind Read lane_count) (unit_kind Write lane_count) (unit_keeps Vector lane_count some_lanes) (unit_keeps Read lane_count some_lanes) (unit_keeps Write lane_count some_lanes) count (trio_of now) can

  has_one : {Work : Type 0} (as_issue : Work → Issue) (count : ℕ) (now : WorksAndStore) (jobs : List (Job Work Progress)) → HasMoreIn (unit_kind as_issue lane_count) (store_size now.store) (suc count) jobs
      → HasMoreIn (unit_kind as_issue lane_count) (store_size now.store) 1 jobs
  has_one as_issue count now [] more = tt
  has_one as_issue count now (job ∷ jobs) more = (omega (arith, more.0), more.1)

  module _ (count : ℕ) (now : WorksAndStore) (can : Runs (suc count) now) where
    lanes_one : HasMoreIn (unit_kind Vector lane_count) (store_size now.store) 1 now.queues.lanes.jobs
    lanes_one = has_one Vector count now now.queues.lanes.jobs can.more_a

    reads_one : HasMoreIn (unit_kind Read lane_count) (store_size now.store) 1 now.queues.reads.jobs
    reads_one = has_one Read count now now.queues.reads.jobs can.more_b

    writes_one : HasMoreIn (unit_kind Write lane_count) (store_size now.store) 1 now.queues.writes.jobs
    writes_one = has_one Write count now now.queues.writes.jobs can.more_c

    abbrev after_l : WorksAndStore
    after_l = lanes_on lane_count 1 now

    abbrev after_r : WorksAndStore
    after_r = reads_on lane_count 1 after_l

    size_l : store_size after_l.store ≡ store_size now.store
    size_l = size_kept (unit_kind Vector lane_count) (unit_keeps Vector lane_count some_lanes) now.queues.lanes.jobs now.store (has_fewer (unit_kind Vector lane_count) (store_size now.store) 1 now.queues.lanes.jobs lanes_one)

    reads_one_l : HasMoreIn (unit_kind Read lane_count) (store_size after_l.store) 1 now.queues.reads.jobs
    reads_one_l = subst (λ size. HasMoreIn (unit_kind Read lane_count) size 1 now.queues.reads.jobs) (sym size_l) reads_one

    size_r : store_size after_r.store ≡ store_size now.store
    size_r =
        size_kept (unit_kind Read lane_count) (unit_keeps Read lane_count some_lanes) now.queues.reads.jobs after_l.store (has_fewer (unit_kind Read lane_count) (store_size after_l.store) 1 now.queues.reads.jobs reads_one_l) ∙ size_l

    writes_one_r : HasMoreIn (unit_kind Write lane_count) (store_size after_r.store) 1 now.queues.writes.jobs
    writes_one_r = subst (λ size. HasMoreIn (unit_kind Write lane_count) size 1 now.queues.writes.jobs) (sym size_r) writes_one

    length_l : length (jobs_beaten (unit_course Vector lane_count) 0 now.queues.lanes.jobs now.store) ≡ length now.queues.lanes.jobs
    length_l = same_length Vector lane_count some_lanes now.queues.lanes.jobs (store_size now.store) now.store lanes_one

    length_r : length (jobs_beaten (unit_course Read lane_count) 0 now.queues.reads.jobs after_l.store) ≡ length now.queues.reads.jobs
    length_r = same_length Read lane_count some_lanes now.queues.reads.jobs (store_size now.store) after_l.store reads_one

    length_w : length (jobs_beaten (unit_course Write lane_count) 0 now.queues.writes.jobs after_r.store) ≡ length now.queues.writes.jobs
    length_w = same_length Write lane_count some_lanes now.queues.writes.jobs (store_size now.store) after_r.store writes_one

    -- nothing that the host waits for has changed
    tagged_same : (wanted : Option ℕ) → tagged_in wanted (all_on lane_count 1 now).queues ≡ tagged_in wanted now.queues
    tagged_same None = refl
    tagged_same (Some tag) =
        ap (λ k. k + tagged_among (λ (work : DmaWork). work.tag) tag (jobs_beaten (unit_course Write lane_count) 0 now.queues.writes.jobs after_r.store))
        (tagged_stay Read lane_count some_lanes tag now.queues.reads.jobs (store_size now.store) after_l.store reads_one)
        ∙ ap (λ k. tagged_among (λ (work : DmaWork). work.tag) tag now.queues.reads.jobs + k)
        (tagged_stay Write lane_count some_lanes tag now.queues.writes.jobs (store_size now.store) after_r.store writes_one)

    waiting_same : (wanted : Option ℕ) → waiting_in wanted (all_on lane_count 1 now).queues ≡ waiting_in wanted now.queues
    waiting_same wanted =
        let v = length_l in let r = length_r in let w = length_w in let t = tagged_same wanted in
        λ i. record { vector = v i; read = r i; write = w i; tagged = t i }

    busy_same : busy_units (all_on lane_count 1 now).queues ≡ busy_units now.queues
    busy_same = omega (arith, length_l, length_r, length_w)

    numbered_l : AllNumbered now.queues → AllNumbered after_l.queues
    numbered_l numbered = record { of_lanes = numbered.of_lanes ∙ sym length_l; of_reads = numbered.of_reads; of_writes = numbered.of_writes }

    numbered_r : AllNumbered now.queues → AllNumbered after_r.queues
    numbered_r numbered = record { of_lanes = numbered.of_lanes ∙ sym length_l; of_reads = numbered.of_reads ∙ sym length_r; of_writes = numbered.of_writes }

    numbered_all : AllNumbered now.queues → AllNumbered (all_on lane_count 1 now).queues
    numbered_all numbered = record { of_lanes = numbered.of_lanes ∙ sym length_l; of_reads = numbered.of_reads ∙ sym length_r; of_writes = numbered.of_writes ∙ sym length_w }

-- ---- one cycle

module _ (most : ℕ) where
  module _ (count : ℕ) (machine : MachineContents) (some_lanes : 0 < machine.setup.lane_count) (numbered : AllNumbered machine.queues) (can : Runs machine.setup.lane_count some_lanes (suc count) (works_of machine))
      (going : machine.end ≡ None) (waits : HostWaits machine) (room : machine.steps + busy_units machine.queues < most) where
    abbrev lanes : ℕ
    lanes = machine.setup.lane_count

    abbrev now : WorksAndStore
    now = works_of machine

    abbrev counting : MachineContents
    counting = record machine { cycles = machine.cycles + 1 }

    abbrev bl : ℕ
    bl = min 1 (length machine.queues.lanes.jobs)

    abbrev br : ℕ
    br = min 1 (length machine.queues.reads.jobs)

    abbrev bw : ℕ
    bw = min 1 (length machine.queues.writes.jobs)

    abbrev lanes_done : MachineContents
    lanes_done = with_works (lanes_on lanes 1 now) (machine.steps + bl) (machine.cycles + 1) machine

    abbrev reads_done : MachineContents
    reads_done = with_works (reads_on lanes 1 (lanes_on lanes 1 now)) (machine.steps + bl + br) (machine.cycles + 1) machine

    abbrev writes_done : MachineContents
    writes_done = with_works (all_on lanes 1 now) (machine.steps + bl + br + bw) (machine.cycles + 1) machine

    host_stays : (state : State) → Shows counting state → after_turn machine.setup most all_units TheHost state ≡ state
    host_stays state shows =
        let what = deed machine.setup.code.instrs (host_of machine.host) in
        turn_idle machine.setup most TheHost state
        (ap (λ host. can_step machine.setup TheHost (record state { host = host })) shows.host ∙ sym (host_may machine.queues state.jobs shows.jobs numbered what) ∙ waits)

    turns : (state : State) → Shows counting state → Shows (with_works (all_on lanes 1 now) (machine.steps + busy_units machine.queues) (machine.cycles + 1) machine) (after_turns machine.setup most all_units in_order state)
    turns state shows =
        let after = after_turn machine.setup most all_units in
        let h = subst (Shows counting) (sym (host_stays state shows)) shows in
        let state_h = after TheHost state in
        let l : Shows lanes_done (after (TheUnit Lanes) state_h) =
        subst (Shows lanes_done) (sym (turn_is machine.setup most Lanes state_h (h.end ∙ going)))
        (lanes_turn_shown most counting numbered going some_lanes (lanes_one lanes some_lanes count now can) (omega (arith, room)) state_h h) in
        let state_l = after (TheUnit Lanes) state_h in
        let r : Shows reads_done (after (TheUnit ReadChannel) state_l) =
        subst (Shows reads_done) (sym (turn_is machine.setup most ReadChannel state_l (l.end ∙ going)))
        (reads_turn_shown most lanes_done (numbered_l lanes some_lanes count now can numbered) going some_lanes (reads_one_l lanes some_lanes count now can) (omega (arith, room)) state_l l) in
        let state_r = after (TheUnit ReadChannel) state_l in
        let w : Shows writes_done (after (TheUnit WriteChannel) state_r) =
        subst (Shows writes_done) (sym (turn_is machine.setup most WriteChannel state_r (r.end ∙ going)))
        (writes_turn_shown most reads_done (numbered_r lanes some_lanes count now can numbered) going some_lanes (writes_one_r lanes some_lanes count now can) (omega (arith, room)) state_r r) in
        let sum : machine.steps + bl + br + bw ≡ machine.steps + busy_units machine.queues = omega arith in
        subst (λ steps. Shows (with_works (all_on lanes 1 now) steps (machine.cycles + 1) machine) (after (TheUnit WriteChannel) state_r)) sum w

    one_cycle : (state : State) → Shows machine state → Shows (with_works (all_on lanes 1 now) (machine.steps + busy_units machine.queues) (machine.cycles + 1) machine) (after_cycle machine.setup most all_units state)
    one_cycle state shows =
        cycle_shown machine most all_units going (omega (arith, room)) state shows (with_works (all_on lanes 1 now) (machine.steps + busy_units machine.queues) (machine.cycles + 1) machine) turns

  -- ---- many

  many_cycles : (count : ℕ) (machine : MachineContents) (some_lanes : 0 < machine.setup.lane_count) → AllNumbered machine.queues → Runs machine.setup.lane_count some_lanes count (works_of machine)
      → machine.end ≡ None → HostWaits machine → machine.steps + count * busy_units machine.queues < most → (state : State) → Shows machine state
      → Shows (after_many count machine) (after_cycles machine.setup most (replicate count all_units) state)
  many_cycles zero machine some_lanes numbered can going waits room state shows =
      let steps : machine.steps + 0 * busy_units machine.queues ≡ machine.steps = omega arith in
      subst (λ m. Shows m state)
      (sym (ap (λ steps. with_works (works_of machine) steps (machine.cycles + 0) machine) steps
      ∙ ap (λ cycles. with_works (works_of machine) machine.steps cycles machine) (plus_none machine.cycles))) shows
  many_cycles (suc count) machine some_lanes numbered can going waits room state shows =
      let lanes = machine.setup.lane_count in
      let now = works_of machine in
      let busy = busy_units machine.queues in
      let what = deed machine.setup.code.instrs (host_of machine.host) in
      let split : suc count * busy ≡ busy + count * busy = omega arith in
      let next : MachineContents = with_works (all_on lanes 1 now) (machine.steps + busy) (machine.cycles + 1) machine in
      let shown : Shows next (after_cycle machine.setup most all_units state) = one_cycle count machine some_lanes numbered can going waits (omega (arith, room, split)) state shows in
      let same : count * busy_units next.queues ≡ count * busy = ap (λ k. count * k) (busy_same lanes some_lanes count now can) in
      let rest = many_cycles count next some_lanes (numbered_all lanes some_lanes count now can numbered) (goes_on lanes some_lanes count now can) going
      (ap (λ w. lets_go_on w what) (waiting_same lanes some_lanes count now can (wanted_by what)) ∙ waits) (omega (arith, room, split, same)) (after_cycle machine.setup most all_units state) shown in
      let steps : machine.steps + busy + count * busy_units next.queues ≡ machine.steps + suc count * busy = omega (arith, split, same) in
      let cycles : machine.cycles + 1 + count ≡ machine.cycles + suc count = omega arith in
      subst (λ m. Shows m (after_cycles machine.setup most (replicate (suc count) all_units) state))
      (ap (λ now. with_works now (machine.steps + busy + count * busy_units next.queues) (machine.cycles + 1 + count) machine) (sym (one_more lanes some_lanes count now can))
      ∙ ap (λ steps. with_works (all_on lanes (suc count) now) steps (machine.cycles + 1 + count) machine) steps
      ∙ ap (λ cycles. with_works (all_on lanes (suc count) now) (machine.steps + suc count * busy) cycles machine) cycles) rest

-- ---- the law

pub many_shown : CyclesAtOnce
many_shown most count machine some numbered lie may =
    let n = machine.setup.lane_count in
    let size = store_size (store_of machine.cells machine.memory) in
    many_cycles most count machine some numbered
    (record {
      more_a = more_of Vector n count machine.queues.lanes size may.more.lanes lie.of_lanes;
      more_b = more_of Read n count machine.queues.reads size may.more.reads lie.of_reads;
      more_c = more_of Write n count machine.queues.writes size may.more.writes lie.of_writes;
      apart_ab = apart_firsts Vector Read n machine.queues.lanes.jobs machine.queues.reads.jobs may.agree.lanes_reads;
      apart_ac = apart_firsts Vector Write n machine.queues.lanes.jobs machine.queues.writes.jobs may.agree.lanes_writes;
      apart_bc = apart_firsts Read Write n machine.queues.reads.jobs machine.queues.writes.jobs may.agree.reads_writes;
    })
    may.going may.waits may.room

-- ---- the tests

pub firsts_agree : {A B : Type 0} (as_issue : A → Issue) (as_other : B → Issue) (jobs : List (Job A Progress)) (others : List (Job B Progress)) (a : A) (b : B)
    → slice_get (works_in jobs) 0 ≡ Some a → slice_get (works_in others) 0 ≡ Some b → are_in_conflict (as_issue a) (as_other b) ≡ false → FirstsAgree as_issue as_other jobs others
firsts_agree as_issue as_other [] others a b first other apart = tt
firsts_agree as_issue as_other (job ∷ jobs) [] a b first other apart = tt
firsts_agree as_issue as_other (job ∷ jobs) (x ∷ others) a b first other apart = λ conflicts.
    let same : are_in_conflict (as_issue job.work) (as_other x.work) ≡ are_in_conflict (as_issue a) (as_other b) =
    ap (λ a. are_in_conflict (as_issue a) (as_other x.work)) (same_Some job.work a first) ∙ ap (λ b. are_in_conflict (as_issue a) (as_other b)) (same_Some x.work b other) in
    true≢false (sym ((conflict_decided (as_issue job.work) (as_other x.work)).1 conflicts) ∙ same ∙ apart)

pub host_waits : (waiting : Waiting) (what : Deed) → true ≡ not (lets_go_on waiting what) → lets_go_on waiting what ≡ false
host_waits waiting what is = go (lets_go_on waiting what) is
  where
    go : (may : Bool) → true ≡ not may → may ≡ false
    go true is = cc
    go false is = refl

has_fewer_than : {Work : Type 0} (course : Course Work Progress) (count fewer : ℕ) (jobs : List (Job Work Progress)) → fewer ≤ count → HasMore course count jobs → HasMore course fewer jobs
has_fewer_than course count fewer [] less more = tt
has_fewer_than course count fewer (job ∷ jobs) less more = omega (arith, less, more)

pub have_fewer : (lane_count count fewer : ℕ) (queues : Queues) → fewer ≤ count → HaveMore lane_count count queues → HaveMore lane_count fewer queues
have_fewer n count fewer queues less more = record {
  lanes = has_fewer_than (unit_course Vector n) count fewer queues.lanes.jobs less more.lanes;
  reads = has_fewer_than (unit_course Read n) count fewer queues.reads.jobs less more.reads;
  writes = has_fewer_than (unit_course Write n) count fewer queues.writes.jobs less more.writes;
}

-- as many steps as there is room for
pub steps_fit : (most steps busy count : ℕ) → steps < most → count ≤ (most - steps - 1) / busy → steps + count * busy < most
steps_fit most steps busy count more few =
    let room = (most - steps - 1) / busy in
    let split : room * busy + (most - steps - 1) % busy ≡ most - steps - 1 = div-add-mod' (most - steps - 1) busy in
    let fit : count * busy ≤ room * busy = mul-mono count room busy few in
    omega (arith, split, fit, more)
  where
    mul-mono : (a b c : ℕ) → a ≤ b → a * c ≤ b * c
    mul-mono a b c le = let sum : b ≡ a + (b - a) = omega (arith, le) in omega (arith, ap (λ n. n * c) sum)

-- each cycle makes a step at least
pub steps_at_least : (count busy : ℕ) → 0 < busy → count ≤ count * busy
steps_at_least count busy some = let one : busy ≡ 1 + (busy - 1) = omega (arith, some) in omega (arith, ap (λ n. count * n) one)
