-- The machine shows, after each turn, the state after it.
use Rattle.std.proofs.Common.{◌≡◌, ◌⊎◌, inl, inr, ℕ, ◌+◌, ◌<◌, ◌≤◌, ◌&&◌, ◌==◌, arith, sym, refl, ap, ◌∙◌, subst, List, [], ◌∷◌, length, Option, Some, None, Bool, true, false, cond, not, nat_lt, nat_le, IsTrue}
use Rattle.std.proofs.lemmas.Bool.{cases_lt, lt-ltb, le-ltb}
use Rattle.ven_base.specs.Cell.{Cell}
use Rattle.ven_base.specs.Store.{Store, store_of, store_size}
use Rattle.ven_base.specs.Job.{Job, Course, store_beaten}
use Rattle.venice_isa.specs.Beat.{Progress}
use Rattle.venice_isa.specs.declared.instr.Version.{Version}
use Rattle.venice_isa.specs.declared.instr.Version.TheVariants.{One, Two}
use Rattle.venice_isa.specs.declared.issue.Issue.{Issue}
use Rattle.venice_isa.specs.declared.issue.Issue.TheVariants.{Vector, Read, Write}
use Rattle.venice_isa.specs.Tests.{has_counts, is_in_range}
use Rattle.venice_isa.specs.Units.{Unit, Lanes, ReadChannel, WriteChannel, is_work, overtakes}
use Rattle.venice_machine.specs.declared.stop.Stop.TheVariants.{Budget}
use Rattle.venice_machine.specs.declared.stop.End.TheVariants.{Stopped}
use Rattle.venice_machine.specs.State.{Setup, State, Jobs, unfinished_count, number_at, unit_numbered}
use Rattle.venice_machine.specs.Step.{TheUnit, is_hazard, stop_before, with_step, chosen_place, after_beat}
use Rattle.venice_machine.specs.Machine.{Queues, MachineContents, ShowsJobs, Shows}
use Rattle.venice_machine.specs.Kept.{AllNumbered, AllLieIn, place_chosen, beat_of, first_bit, second_bits, unit_bits, unit_course, works_after_beat, number_in, hazard_of, stop_of, counted, after_chance}
use Rattle.venice_machine.specs.declared.beat.Beat.{Beat}
use Rattle.venice_machine.specs.declared.beat.Beat.TheVariants.{Nothing, First, Second}
use Rattle.venice_machine.specs.Inside.{IsOfImage, IsMachine}
use Rattle.venice_machine.proofs.Shown.{lanes_lie, reads_lie, writes_lie, lanes_numbered, reads_numbered, writes_numbered, lanes_count, reads_count, writes_count, hazard_among, number_shown, lanes_beaten, lanes_store, reads_beaten, reads_store, writes_beaten, writes_store}
use Rattle.venice_machine.proofs.Hazards.{hazard_is}

-- ---- what it shows

pub number_answer : (machine : MachineContents) → AllNumbered machine.queues → (unit k : ℕ) (answer : Option ℕ) → answer ≡ number_in unit k machine.queues
    → (state : State) → Shows machine state → answer ≡ number_at (unit_numbered unit) k state.jobs
number_answer machine numbered unit k answer is state shows = is ∙ sym (number_shown machine.queues state.jobs shows.jobs numbered unit k)

-- ---- stops

pub stop_shown : (machine : MachineContents) → AllNumbered machine.queues → (issue : Issue) → IsTrue (is_work issue) → (state : State) → Shows machine state
    → stop_before machine.setup issue state
    ≡ stop_of machine.host.place machine.cycles (has_counts issue) (is_in_range (store_size (store_of machine.cells machine.memory)) issue) (hazard_of machine.setup.code.version issue machine.queues)
stop_shown machine numbered issue is state shows =
    let counts = has_counts issue in
    let range : Store → Bool = λ store. is_in_range (store_size store) issue in
    let here = store_of machine.cells machine.memory in
    let hazard : Bool = hazard_of machine.setup.code.version issue machine.queues in
    let hazard_same = hazard_among machine.queues state.jobs shows.jobs numbered machine.setup.code.version issue ∙ sym (hazard_is machine.setup.code.version issue machine.queues is) in
    ap (λ work. cond (not work) None (stop_of state.host.place state.cycles counts (range state.store) (is_hazard machine.setup.code.version issue state.jobs))) is
    ∙ ap (λ hazard. stop_of state.host.place state.cycles counts (range state.store) hazard) hazard_same
    ∙ ap (λ store. stop_of state.host.place state.cycles counts (range store) hazard) shows.store
    ∙ ap (λ cycles. stop_of state.host.place cycles counts (range here) hazard) shows.cycles
    ∙ ap (λ place. stop_of place machine.cycles counts (range here) hazard) (ap (λ host. host.place) shows.host)

pub none_in_range : (place cycles : ℕ) (counts range hazard : Bool) → stop_of place cycles counts range hazard ≡ None → range ≡ true
none_in_range place cycles true true hazard is = refl
none_in_range place cycles true false hazard is = cc
none_in_range place cycles false range hazard is = cc

-- ---- steps

pub step_shown : (most : ℕ) (machine : MachineContents) (state : State) → Shows machine state → Shows (counted most machine) (with_step most state)
step_shown most machine state shows = record {
  host = shows.host;
  jobs = shows.jobs;
  store = shows.store;
  issues = shows.issues;
  steps = ap (λ n. n + 1) shows.steps;
  cycles = shows.cycles;
  end = ap (λ n. cond (nat_le most (n + 1)) (Some (Stopped (Budget (n + 1)))) None) shows.steps;
}

-- ---- beats

lanes_first : (version : Version) (second : Bool) (jobs : Jobs) → chosen_place version Lanes second jobs ≡ 0
lanes_first One second jobs = refl
lanes_first Two second jobs = refl

pub lanes_turn : (setup : Setup) (most : ℕ) (second : Bool) (state : State) → nat_lt 0 (unfinished_count Lanes state.jobs) ≡ true
    → after_chance setup most second (TheUnit Lanes) state ≡ with_step most (after_beat setup Lanes 0 state)
lanes_turn setup most second state can =
    ap (λ b. cond b (with_step most (after_beat setup Lanes (chosen_place setup.code.version Lanes second state.jobs) state)) state) can
    ∙ ap (λ k. with_step most (after_beat setup Lanes k state)) (lanes_first setup.code.version second state.jobs)

pub unit_turn : (unit : Unit) (k : ℕ) (setup : Setup) (most : ℕ) (second : Bool) (state : State) → nat_lt 0 (unfinished_count unit state.jobs) ≡ true → chosen_place setup.code.version unit second state.jobs ≡ k
    → after_chance setup most second (TheUnit unit) state ≡ with_step most (after_beat setup unit k state)
unit_turn unit k setup most second state can chosen =
    ap (λ b. cond b (with_step most (after_beat setup unit (chosen_place setup.code.version unit second state.jobs) state)) state) can
    ∙ ap (λ k. with_step most (after_beat setup unit k state)) chosen

pub idle_turn : (unit : Unit) (setup : Setup) (most : ℕ) (second : Bool) (state : State) → nat_lt 0 (unfinished_count unit state.jobs) ≡ false
    → after_chance setup most second (TheUnit unit) state ≡ state
idle_turn unit setup most second state idle =
    ap (λ b. cond b (with_step most (after_beat setup unit (chosen_place setup.code.version unit second state.jobs) state)) state) idle

-- ---- which work a channel goes on with

chosen_one : (version : Version) (unit : Unit) (second : Bool) (jobs : Jobs) (count : ℕ) → overtakes version unit ≡ overtakes version ReadChannel → unfinished_count unit jobs ≡ count
    → chosen_place version unit second jobs ≡ place_chosen (overtakes version ReadChannel && second) count
chosen_one version unit second jobs count same counts =
    ap (λ may. cond (may && (second && nat_lt 1 (unfinished_count unit jobs))) 1 0) same
    ∙ ap (λ n. cond (overtakes version ReadChannel && (second && nat_lt 1 n)) 1 0) counts
    ∙ ap (λ b. cond b 1 0) (and_assoc (overtakes version ReadChannel) second (nat_lt 1 count))
  where
    and_assoc : (a b c : Bool) → (a && (b && c)) ≡ ((a && b) && c)
    and_assoc true b c = refl
    and_assoc false b c = refl

channels_alike : (version : Version) → overtakes version WriteChannel ≡ overtakes version ReadChannel
channels_alike One = refl
channels_alike Two = refl

pub chosen_below : (second : Bool) (count : ℕ) → 0 < count → place_chosen second count < count
chosen_below second count some = go (cases_lt 1 count)
  where
    go : (1 < count) ⊎ (count ≤ 1) → place_chosen second count < count
    go (inl more) = two second
      where
        two : (second : Bool) → place_chosen second count < count
        two true = rw (lt-ltb 1 count more) more
        two false = some
    go (inr few) = one second
      where
        one : (second : Bool) → place_chosen second count < count
        one true = rw (le-ltb 1 count few) some
        one false = some

pub some_first : (second : Bool) (count : ℕ) → beat_of second count ≡ First → 0 < count
some_first second count is = grind (arith, is)

pub some_second : (second : Bool) (count : ℕ) → beat_of second count ≡ Second → 0 < count
some_second second count is = grind (arith, is)

pub none_beaten : (second : Bool) (count : ℕ) → beat_of second count ≡ Nothing → count ≡ 0
none_beaten second count is = grind (arith, is)

-- the bits of what was done
abbrev pub bits_of_beat : Unit → Beat → ℕ
bits_of_beat unit Nothing = 0
bits_of_beat unit First = first_bit unit
bits_of_beat unit Second = second_bits unit

bits_same : (unit : Unit) (none more : Bool) → cond none 0 (cond (cond more 1 0 == 1) (second_bits unit) (first_bit unit)) ≡ bits_of_beat unit (cond none Nothing (cond more Second First))
bits_same unit true more = refl
bits_same unit false true = refl
bits_same unit false false = refl

module _ (machine : MachineContents) (numbered : AllNumbered machine.queues) (second : Bool) (state : State) (shows : Shows machine state) where
  abbrev may : Bool
  may = overtakes machine.setup.code.version ReadChannel && second

  pub read_bits : unit_bits machine.setup second ReadChannel state ≡ bits_of_beat ReadChannel (beat_of may (length machine.queues.reads.jobs))
  read_bits =
      let count = reads_count machine.queues state.jobs shows.jobs numbered in
      ap (λ k. cond (unfinished_count ReadChannel state.jobs == 0) 0 (cond (k == 1) (second_bits ReadChannel) (first_bit ReadChannel)))
      (chosen_one machine.setup.code.version ReadChannel second state.jobs (length machine.queues.reads.jobs) refl count)
      ∙ ap (λ n. cond (n == 0) 0 (cond (place_chosen may (length machine.queues.reads.jobs) == 1) (second_bits ReadChannel) (first_bit ReadChannel))) count
      ∙ bits_same ReadChannel (length machine.queues.reads.jobs == 0) (may && nat_lt 1 (length machine.queues.reads.jobs))

  pub write_bits : unit_bits machine.setup second WriteChannel state ≡ bits_of_beat WriteChannel (beat_of may (length machine.queues.writes.jobs))
  write_bits =
      let count = writes_count machine.queues state.jobs shows.jobs numbered in
      ap (λ k. cond (unfinished_count WriteChannel state.jobs == 0) 0 (cond (k == 1) (second_bits WriteChannel) (first_bit WriteChannel)))
      (chosen_one machine.setup.code.version WriteChannel second state.jobs (length machine.queues.writes.jobs) (channels_alike machine.setup.code.version) count)
      ∙ ap (λ n. cond (n == 0) 0 (cond (place_chosen may (length machine.queues.writes.jobs) == 1) (second_bits WriteChannel) (first_bit WriteChannel))) count
      ∙ bits_same WriteChannel (length machine.queues.writes.jobs == 0) (may && nat_lt 1 (length machine.queues.writes.jobs))

module _ (machine : MachineContents) (numbered : AllNumbered machine.queues) (k : ℕ) (cells : List Cell) (memory : List ℕ) (state : State) (shows : Shows machine state) where
  abbrev here : Store
  here = store_of machine.cells machine.memory

  abbrev n : ℕ
  n = machine.setup.lane_count

  pub lanes_shown : store_of cells memory ≡ store_beaten (unit_course Vector n) k machine.queues.lanes.jobs here → k < length machine.queues.lanes.jobs
      → Shows (record machine { queues = record machine.queues { lanes = works_after_beat (unit_course Vector n) k machine.queues.lanes here }; cells = cells; memory = memory }) (after_beat machine.setup Lanes k state)
  lanes_shown after some = record {
    host = shows.host;
    jobs = subst (λ store. ShowsJobs (record machine.queues { lanes = works_after_beat (unit_course Vector n) k machine.queues.lanes store }) (after_beat machine.setup Lanes k state).jobs) shows.store
        (lanes_beaten machine.queues state.jobs shows.jobs numbered n k state.store some);
    store = lanes_store machine.queues state.jobs shows.jobs numbered n k state.store ∙ ap (store_beaten (unit_course Vector n) k machine.queues.lanes.jobs) shows.store ∙ sym after;
    issues = shows.issues;
    steps = shows.steps;
    cycles = shows.cycles;
    end = shows.end;
  }

  pub reads_shown : store_of cells memory ≡ store_beaten (unit_course Read n) k machine.queues.reads.jobs here → k < length machine.queues.reads.jobs
      → Shows (record machine { queues = record machine.queues { reads = works_after_beat (unit_course Read n) k machine.queues.reads here }; cells = cells; memory = memory }) (after_beat machine.setup ReadChannel k state)
  reads_shown after some = record {
    host = shows.host;
    jobs = subst (λ store. ShowsJobs (record machine.queues { reads = works_after_beat (unit_course Read n) k machine.queues.reads store }) (after_beat machine.setup ReadChannel k state).jobs) shows.store
        (reads_beaten machine.queues state.jobs shows.jobs numbered n k state.store some);
    store = reads_store machine.queues state.jobs shows.jobs numbered n k state.store ∙ ap (store_beaten (unit_course Read n) k machine.queues.reads.jobs) shows.store ∙ sym after;
    issues = shows.issues;
    steps = shows.steps;
    cycles = shows.cycles;
    end = shows.end;
  }

  pub writes_shown : store_of cells memory ≡ store_beaten (unit_course Write n) k machine.queues.writes.jobs here → k < length machine.queues.writes.jobs
      → Shows (record machine { queues = record machine.queues { writes = works_after_beat (unit_course Write n) k machine.queues.writes here }; cells = cells; memory = memory }) (after_beat machine.setup WriteChannel k state)
  writes_shown after some = record {
    host = shows.host;
    jobs = subst (λ store. ShowsJobs (record machine.queues { writes = works_after_beat (unit_course Write n) k machine.queues.writes store }) (after_beat machine.setup WriteChannel k state).jobs) shows.store
        (writes_beaten machine.queues state.jobs shows.jobs numbered n k state.store some);
    store = writes_store machine.queues state.jobs shows.jobs numbered n k state.store ∙ ap (store_beaten (unit_course Write n) k machine.queues.writes.jobs) shows.store ∙ sym after;
    issues = shows.issues;
    steps = shows.steps;
    cycles = shows.cycles;
    end = shows.end;
  }

-- ---- a queue without works

pub none_left : {Work : Type 0} (course : Course Work Progress) (k : ℕ) (numbers : List ℕ) (jobs : List (Job Work Progress)) (store : Store) → length jobs ≡ 0 → length numbers ≡ length jobs
    → (works_after_beat course k (record { jobs = jobs; numbers = numbers }) store ≡ record { jobs = jobs; numbers = numbers }) × (store_beaten course k jobs store ≡ store)
none_left course k [] [] store none same = (refl, refl)
none_left course k (n ∷ numbers) [] store none same = absurd (omega (arith, same))
none_left course k numbers (job ∷ jobs) store none same = absurd (omega (arith, none))

-- ---- a channel's turn

module _ (machine : MachineContents) (numbered : AllNumbered machine.queues) (second : Bool) (most : ℕ) (cells : List Cell) (memory : List ℕ) where
  abbrev second_read : ℕ
  second_read = place_chosen (overtakes machine.setup.code.version ReadChannel && second) (length machine.queues.reads.jobs)

  abbrev second_write : ℕ
  second_write = place_chosen (overtakes machine.setup.code.version ReadChannel && second) (length machine.queues.writes.jobs)

  abbrev store_here : Store
  store_here = store_of machine.cells machine.memory

  abbrev read_machine : MachineContents
  read_machine = record machine { queues = record machine.queues { reads = works_after_beat (unit_course Read machine.setup.lane_count) second_read machine.queues.reads store_here }; cells = cells; memory = memory }

  abbrev write_machine : MachineContents
  write_machine = record machine { queues = record machine.queues { writes = works_after_beat (unit_course Write machine.setup.lane_count) second_write machine.queues.writes store_here }; cells = cells; memory = memory }

  abbrev lane_machine : MachineContents
  lane_machine = record machine { queues = record machine.queues { lanes = works_after_beat (unit_course Vector machine.setup.lane_count) 0 machine.queues.lanes store_here }; cells = cells; memory = memory }

  pub lane_turned : (new : MachineContents) → store_of cells memory ≡ store_beaten (unit_course Vector machine.setup.lane_count) 0 machine.queues.lanes.jobs store_here → 0 < length machine.queues.lanes.jobs
      → new ≡ counted most lane_machine → (state : State) → Shows machine state → Shows new (after_chance machine.setup most second (TheUnit Lanes) state)
  lane_turned new after some is state shows =
      let can : nat_lt 0 (unfinished_count Lanes state.jobs) ≡ true = rw (lanes_count machine.queues state.jobs shows.jobs numbered) (lt-ltb 0 (length machine.queues.lanes.jobs) some) in
      subst (λ new. Shows new (after_chance machine.setup most second (TheUnit Lanes) state)) (sym is)
      (subst (Shows (counted most lane_machine)) (sym (lanes_turn machine.setup most second state can))
      (step_shown most lane_machine (after_beat machine.setup Lanes 0 state) (lanes_shown machine numbered 0 cells memory state shows after some)))

  pub read_turned : (new : MachineContents) → store_of cells memory ≡ store_beaten (unit_course Read machine.setup.lane_count) second_read machine.queues.reads.jobs store_here → 0 < length machine.queues.reads.jobs
      → new ≡ counted most read_machine → (state : State) → Shows machine state → Shows new (after_chance machine.setup most second (TheUnit ReadChannel) state)
  read_turned new after some is state shows =
      let count = reads_count machine.queues state.jobs shows.jobs numbered in
      let can : nat_lt 0 (unfinished_count ReadChannel state.jobs) ≡ true = rw count (lt-ltb 0 (length machine.queues.reads.jobs) some) in
      let chosen = chosen_one machine.setup.code.version ReadChannel second state.jobs (length machine.queues.reads.jobs) refl count in
      subst (λ new. Shows new (after_chance machine.setup most second (TheUnit ReadChannel) state)) (sym is)
      (subst (Shows (counted most read_machine)) (sym (unit_turn ReadChannel second_read machine.setup most second state can chosen))
      (step_shown most read_machine (after_beat machine.setup ReadChannel second_read state)
      (reads_shown machine numbered second_read cells memory state shows after (chosen_below (overtakes machine.setup.code.version ReadChannel && second) (length machine.queues.reads.jobs) some))))

  pub write_turned : (new : MachineContents) → store_of cells memory ≡ store_beaten (unit_course Write machine.setup.lane_count) second_write machine.queues.writes.jobs store_here → 0 < length machine.queues.writes.jobs
      → new ≡ counted most write_machine → (state : State) → Shows machine state → Shows new (after_chance machine.setup most second (TheUnit WriteChannel) state)
  write_turned new after some is state shows =
      let count = writes_count machine.queues state.jobs shows.jobs numbered in
      let can : nat_lt 0 (unfinished_count WriteChannel state.jobs) ≡ true = rw count (lt-ltb 0 (length machine.queues.writes.jobs) some) in
      let chosen = chosen_one machine.setup.code.version WriteChannel second state.jobs (length machine.queues.writes.jobs) (channels_alike machine.setup.code.version) count in
      subst (λ new. Shows new (after_chance machine.setup most second (TheUnit WriteChannel) state)) (sym is)
      (subst (Shows (counted most write_machine)) (sym (unit_turn WriteChannel second_write machine.setup most second state can chosen))
      (step_shown most write_machine (after_beat machine.setup WriteChannel second_write state)
      (writes_shown machine numbered second_write cells memory state shows after (chosen_below (overtakes machine.setup.code.version ReadChannel && second) (length machine.queues.writes.jobs) some))))

  pub read_idle : store_of cells memory ≡ store_beaten (unit_course Read machine.setup.lane_count) second_read machine.queues.reads.jobs store_here → length machine.queues.reads.jobs ≡ 0
      → (state : State) → Shows machine state → Shows read_machine (after_chance machine.setup most second (TheUnit ReadChannel) state)
  read_idle after none state shows =
      let count = reads_count machine.queues state.jobs shows.jobs numbered in
      let idle : nat_lt 0 (unfinished_count ReadChannel state.jobs) ≡ false = rw count (rw none refl) in
      let same = none_left (unit_course Read machine.setup.lane_count) second_read machine.queues.reads.numbers machine.queues.reads.jobs store_here none numbered.of_reads in
      subst (Shows read_machine) (sym (idle_turn ReadChannel machine.setup most second state idle))
      (record {
        host = shows.host;
        jobs = subst (λ reads. ShowsJobs (record machine.queues { reads = reads }) state.jobs) (sym same.0) shows.jobs;
        store = shows.store ∙ sym (after ∙ same.1);
        issues = shows.issues;
        steps = shows.steps;
        cycles = shows.cycles;
        end = shows.end;
      })

  pub write_idle : store_of cells memory ≡ store_beaten (unit_course Write machine.setup.lane_count) second_write machine.queues.writes.jobs store_here → length machine.queues.writes.jobs ≡ 0
      → (state : State) → Shows machine state → Shows write_machine (after_chance machine.setup most second (TheUnit WriteChannel) state)
  write_idle after none state shows =
      let count = writes_count machine.queues state.jobs shows.jobs numbered in
      let idle : nat_lt 0 (unfinished_count WriteChannel state.jobs) ≡ false = rw count (rw none refl) in
      let same = none_left (unit_course Write machine.setup.lane_count) second_write machine.queues.writes.numbers machine.queues.writes.jobs store_here none numbered.of_writes in
      subst (Shows write_machine) (sym (idle_turn WriteChannel machine.setup most second state idle))
      (record {
        host = shows.host;
        jobs = subst (λ writes. ShowsJobs (record machine.queues { writes = writes }) state.jobs) (sym same.0) shows.jobs;
        store = shows.store ∙ sym (after ∙ same.1);
        issues = shows.issues;
        steps = shows.steps;
        cycles = shows.cycles;
        end = shows.end;
      })

-- ---- the same of what the code has chosen

module _ (machine : MachineContents) (numbered : AllNumbered machine.queues) (second : Bool) (most : ℕ) where
  abbrev read_with : (chosen : Bool) → List Cell → List ℕ → MachineContents
  read_with chosen cells memory = record machine { queues = record machine.queues { reads = works_after_beat (unit_course Read machine.setup.lane_count) (place_chosen chosen (length machine.queues.reads.jobs)) machine.queues.reads (store_of machine.cells machine.memory) }; cells = cells; memory = memory }

  abbrev read_store : (chosen : Bool) → Store
  read_store chosen = store_beaten (unit_course Read machine.setup.lane_count) (place_chosen chosen (length machine.queues.reads.jobs)) machine.queues.reads.jobs (store_of machine.cells machine.memory)

  pub read_idle_by : (chosen : Bool) → chosen ≡ (overtakes machine.setup.code.version ReadChannel && second) → (beaten : MachineContents) → beaten ≡ read_with chosen beaten.cells beaten.memory
      → store_of beaten.cells beaten.memory ≡ read_store chosen → beat_of chosen (length machine.queues.reads.jobs) ≡ Nothing
      → (state : State) → Shows machine state → Shows beaten (after_chance machine.setup most second (TheUnit ReadChannel) state)
  read_idle_by chosen e =
      subst (λ chosen. (beaten : MachineContents) → beaten ≡ read_with chosen beaten.cells beaten.memory
      → store_of beaten.cells beaten.memory ≡ read_store chosen → beat_of chosen (length machine.queues.reads.jobs) ≡ Nothing
      → (state : State) → Shows machine state → Shows beaten (after_chance machine.setup most second (TheUnit ReadChannel) state)) (sym e)
      (λ beaten works after nothing state shows.
      subst (λ beaten. Shows beaten (after_chance machine.setup most second (TheUnit ReadChannel) state)) (sym works)
      (read_idle machine numbered second most beaten.cells beaten.memory after
      (none_beaten (overtakes machine.setup.code.version ReadChannel && second) (length machine.queues.reads.jobs) nothing) state shows))

  pub read_turned_by : (chosen : Bool) → chosen ≡ (overtakes machine.setup.code.version ReadChannel && second) → (beaten : MachineContents) → beaten ≡ read_with chosen beaten.cells beaten.memory
      → store_of beaten.cells beaten.memory ≡ read_store chosen → 0 < length machine.queues.reads.jobs → (new : MachineContents) → new ≡ counted most beaten
      → (state : State) → Shows machine state → Shows new (after_chance machine.setup most second (TheUnit ReadChannel) state)
  read_turned_by chosen e =
      subst (λ chosen. (beaten : MachineContents) → beaten ≡ read_with chosen beaten.cells beaten.memory
      → store_of beaten.cells beaten.memory ≡ read_store chosen → 0 < length machine.queues.reads.jobs → (new : MachineContents) → new ≡ counted most beaten
      → (state : State) → Shows machine state → Shows new (after_chance machine.setup most second (TheUnit ReadChannel) state)) (sym e)
      (λ beaten works after some new is state shows.
      read_turned machine numbered second most beaten.cells beaten.memory new after some (is ∙ ap (counted most) works) state shows)

  pub read_bits_by : (chosen : Bool) → chosen ≡ (overtakes machine.setup.code.version ReadChannel && second) → (beat : Beat) → beat ≡ beat_of chosen (length machine.queues.reads.jobs)
      → (state : State) → Shows machine state → bits_of_beat ReadChannel beat ≡ unit_bits machine.setup second ReadChannel state
  read_bits_by chosen e beat is state shows =
      ap (bits_of_beat ReadChannel) (is ∙ ap (λ chosen. beat_of chosen (length machine.queues.reads.jobs)) e) ∙ sym (read_bits machine numbered second state shows)

  abbrev write_with : (chosen : Bool) → List Cell → List ℕ → MachineContents
  write_with chosen cells memory = record machine { queues = record machine.queues { writes = works_after_beat (unit_course Write machine.setup.lane_count) (place_chosen chosen (length machine.queues.writes.jobs)) machine.queues.writes (store_of machine.cells machine.memory) }; cells = cells; memory = memory }

  abbrev write_store : (chosen : Bool) → Store
  write_store chosen = store_beaten (unit_course Write machine.setup.lane_count) (place_chosen chosen (length machine.queues.writes.jobs)) machine.queues.writes.jobs (store_of machine.cells machine.memory)

  pub write_idle_by : (chosen : Bool) → chosen ≡ (overtakes machine.setup.code.version ReadChannel && second) → (beaten : MachineContents) → beaten ≡ write_with chosen beaten.cells beaten.memory
      → store_of beaten.cells beaten.memory ≡ write_store chosen → beat_of chosen (length machine.queues.writes.jobs) ≡ Nothing
      → (state : State) → Shows machine state → Shows beaten (after_chance machine.setup most second (TheUnit WriteChannel) state)
  write_idle_by chosen e =
      subst (λ chosen. (beaten : MachineContents) → beaten ≡ write_with chosen beaten.cells beaten.memory
      → store_of beaten.cells beaten.memory ≡ write_store chosen → beat_of chosen (length machine.queues.writes.jobs) ≡ Nothing
      → (state : State) → Shows machine state → Shows beaten (after_chance machine.setup most second (TheUnit WriteChannel) state)) (sym e)
      (λ beaten works after nothing state shows.
      subst (λ beaten. Shows beaten (after_chance machine.setup most second (TheUnit WriteChannel) state)) (sym works)
      (write_idle machine numbered second most beaten.cells beaten.memory after
      (none_beaten (overtakes machine.setup.code.version ReadChannel && second) (length machine.queues.writes.jobs) nothing) state shows))

  pub write_turned_by : (chosen : Bool) → chosen ≡ (overtakes machine.setup.code.version ReadChannel && second) → (beaten : MachineContents) → beaten ≡ write_with chosen beaten.cells beaten.memory
      → store_of beaten.cells beaten.memory ≡ write_store chosen → 0 < length machine.queues.writes.jobs → (new : MachineContents) → new ≡ counted most beaten
      → (state : State) → Shows machine state → Shows new (after_chance machine.setup most second (TheUnit WriteChannel) state)
  write_turned_by chosen e =
      subst (λ chosen. (beaten : MachineContents) → beaten ≡ write_with chosen beaten.cells beaten.memory
      → store_of beaten.cells beaten.memory ≡ write_store chosen → 0 < length machine.queues.writes.jobs → (new : MachineContents) → new ≡ counted most beaten
      → (state : State) → Shows machine state → Shows new (after_chance machine.setup most second (TheUnit WriteChannel) state)) (sym e)
      (λ beaten works after some new is state shows.
      write_turned machine numbered second most beaten.cells beaten.memory new after some (is ∙ ap (counted most) works) state shows)

  pub write_bits_by : (chosen : Bool) → chosen ≡ (overtakes machine.setup.code.version ReadChannel && second) → (beat : Beat) → beat ≡ beat_of chosen (length machine.queues.writes.jobs)
      → (state : State) → Shows machine state → bits_of_beat WriteChannel beat ≡ unit_bits machine.setup second WriteChannel state
  write_bits_by chosen e beat is state shows =
      ap (bits_of_beat WriteChannel) (is ∙ ap (λ chosen. beat_of chosen (length machine.queues.writes.jobs)) e) ∙ sym (write_bits machine numbered second state shows)

-- ---- what it keeps

module _ (machine : MachineContents) (second : Bool) (cells : List Cell) (memory : List ℕ) (kept : IsMachine machine)
    (same : store_size (store_of cells memory) ≡ store_size (store_of machine.cells machine.memory)) where
  abbrev lanes_beaten_here : MachineContents
  lanes_beaten_here = record machine { queues = record machine.queues { lanes = works_after_beat (unit_course Vector machine.setup.lane_count) 0 machine.queues.lanes (store_of machine.cells machine.memory) }; cells = cells; memory = memory }

  abbrev reads_beaten_here : MachineContents
  reads_beaten_here = record machine { queues = record machine.queues { reads = works_after_beat (unit_course Read machine.setup.lane_count) (place_chosen second (length machine.queues.reads.jobs)) machine.queues.reads (store_of machine.cells machine.memory) }; cells = cells; memory = memory }

  abbrev writes_beaten_here : MachineContents
  writes_beaten_here = record machine { queues = record machine.queues { writes = works_after_beat (unit_course Write machine.setup.lane_count) (place_chosen second (length machine.queues.writes.jobs)) machine.queues.writes (store_of machine.cells machine.memory) }; cells = cells; memory = memory }

  of_image_still : (image : IsOfImage machine) → length memory ≡ image.image.memory
  of_image_still image = ap (λ size. size.memory) same ∙ image.memory_is

  in_machine_still : (queues : Queues) → AllLieIn (store_size (store_of machine.cells machine.memory)) queues → AllLieIn (store_size (store_of cells memory)) queues
  in_machine_still queues inside = subst (λ size. AllLieIn size queues) (sym same) inside

  pub lane_keeps : IsMachine lanes_beaten_here
  lane_keeps = record {
    of_image = record { image = kept.of_image.image; is_image = kept.of_image.is_image; code_is = kept.of_image.code_is; table_is = kept.of_image.table_is; memory_is = of_image_still kept.of_image };
    numbered = lanes_numbered machine.setup.lane_count 0 machine.queues (store_of machine.cells machine.memory) kept.numbered;
    in_range = in_machine_still lanes_beaten_here.queues (lanes_lie machine.setup.lane_count 0 (store_size (store_of machine.cells machine.memory)) machine.queues (store_of machine.cells machine.memory) kept.in_range);
    in_code = kept.in_code;
    few_steps = kept.few_steps;
    few_issues = kept.few_issues;
  }

  pub read_keeps : IsMachine reads_beaten_here
  read_keeps = record {
    of_image = record { image = kept.of_image.image; is_image = kept.of_image.is_image; code_is = kept.of_image.code_is; table_is = kept.of_image.table_is; memory_is = of_image_still kept.of_image };
    numbered = reads_numbered machine.setup.lane_count (place_chosen second (length machine.queues.reads.jobs)) machine.queues (store_of machine.cells machine.memory) kept.numbered;
    in_range = in_machine_still reads_beaten_here.queues (reads_lie machine.setup.lane_count (place_chosen second (length machine.queues.reads.jobs)) (store_size (store_of machine.cells machine.memory)) machine.queues (store_of machine.cells machine.memory) kept.in_range);
    in_code = kept.in_code;
    few_steps = kept.few_steps;
    few_issues = kept.few_issues;
  }

  pub write_keeps : IsMachine writes_beaten_here
  write_keeps = record {
    of_image = record { image = kept.of_image.image; is_image = kept.of_image.is_image; code_is = kept.of_image.code_is; table_is = kept.of_image.table_is; memory_is = of_image_still kept.of_image };
    numbered = writes_numbered machine.setup.lane_count (place_chosen second (length machine.queues.writes.jobs)) machine.queues (store_of machine.cells machine.memory) kept.numbered;
    in_range = in_machine_still writes_beaten_here.queues (writes_lie machine.setup.lane_count (place_chosen second (length machine.queues.writes.jobs)) (store_size (store_of machine.cells machine.memory)) machine.queues (store_of machine.cells machine.memory) kept.in_range);
    in_code = kept.in_code;
    few_steps = kept.few_steps;
    few_issues = kept.few_issues;
  }
