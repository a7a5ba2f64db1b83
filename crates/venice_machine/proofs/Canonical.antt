-- Every machine shows a state: that in which the works of each queue stand together.
use Rattle.std.proofs.Common.{◌≡◌, inl, inr, ℕ, ◌<◌, refl, ap, ◌∙◌, subst, List, [], ◌∷◌, ◌++◌, None, true, false, cond, IsTrue, append-nil}
use Rattle.std.proofs.lemmas.List.Elements.{All-append, All-cons, All-nil, filter-append}
use Rattle.ven_base.specs.Store.{store_of}
use Rattle.ven_base.specs.Job.{Job}
use Rattle.venice_isa.specs.declared.issue.Issue.{Issue}
use Rattle.venice_isa.specs.declared.issue.Issue.TheVariants.{Vector, Read, Write}
use Rattle.venice_isa.specs.Beat.{Progress}
use Rattle.venice_isa.specs.HostState.{host_of}
use Rattle.venice_isa.specs.Units.{Unit, Lanes, ReadChannel, WriteChannel, is_of, is_work}
use Rattle.venice_machine.specs.State.{Jobs, State, queue, is_job_of}
use Rattle.venice_machine.specs.Run.{all_units, after_cycle}
use Rattle.venice_machine.specs.Machine.{Queues, MachineContents, numbered_job, jobs_in, ShowsJobs, Shows}
use Rattle.venice_machine.proofs.Divided.{IsWork, AreWorks}
use Rattle.venice_machine.proofs.Cycling.{full_cycle_advances}

module _ {Work : Type 0} (as_issue : Work → Issue) where
  abbrev listed : List ℕ → List (Job Work Progress) → Jobs
  listed numbers jobs = jobs_in as_issue (record { jobs = jobs; numbers = numbers })

  all_are : ((work : Work) → IsTrue (is_work (as_issue work))) → (numbers : List ℕ) (jobs : List (Job Work Progress)) → AreWorks (listed numbers jobs)
  all_are are [] jobs = All-nil IsWork
  all_are are (n ∷ numbers) [] = All-nil IsWork
  all_are are (n ∷ numbers) (job ∷ jobs) = All-cons IsWork (numbered_job as_issue (n, job)) (listed numbers jobs) (are job.work) (all_are are numbers jobs)

  own_queue : (unit : Unit) → ((work : Work) → is_of unit (as_issue work) ≡ true) → (numbers : List ℕ) (jobs : List (Job Work Progress)) → queue unit (listed numbers jobs) ≡ listed numbers jobs
  own_queue unit is [] jobs = refl
  own_queue unit is (n ∷ numbers) [] = refl
  own_queue unit is (n ∷ numbers) (job ∷ jobs) =
      ap (λ b. cond b (numbered_job as_issue (n, job) ∷ queue unit (listed numbers jobs)) (queue unit (listed numbers jobs))) (is job.work)
      ∙ ap (λ (more : Jobs). numbered_job as_issue (n, job) ∷ more) (own_queue unit is numbers jobs)

  no_queue : (unit : Unit) → ((work : Work) → is_of unit (as_issue work) ≡ false) → (numbers : List ℕ) (jobs : List (Job Work Progress)) → queue unit (listed numbers jobs) ≡ []
  no_queue unit isnt [] jobs = refl
  no_queue unit isnt (n ∷ numbers) [] = refl
  no_queue unit isnt (n ∷ numbers) (job ∷ jobs) =
      ap (λ b. cond b (numbered_job as_issue (n, job) ∷ queue unit (listed numbers jobs)) (queue unit (listed numbers jobs))) (isnt job.work)
      ∙ no_queue unit isnt numbers jobs

module _ (queues : Queues) where
  l : Jobs
  l = jobs_in Vector queues.lanes

  r : Jobs
  r = jobs_in Read queues.reads

  w : Jobs
  w = jobs_in Write queues.writes

  abbrev pub all_jobs : Jobs
  all_jobs = jobs_in Vector queues.lanes ++ (jobs_in Read queues.reads ++ jobs_in Write queues.writes)

  parts : (unit : Unit) → queue unit all_jobs ≡ queue unit (jobs_in Vector queues.lanes) ++ (queue unit (jobs_in Read queues.reads) ++ queue unit (jobs_in Write queues.writes))
  parts unit =
      filter-append (is_job_of unit) (jobs_in Vector queues.lanes) (jobs_in Read queues.reads ++ jobs_in Write queues.writes)
      ∙ ap (λ (more : Jobs). queue unit (jobs_in Vector queues.lanes) ++ more) (filter-append (is_job_of unit) (jobs_in Read queues.reads) (jobs_in Write queues.writes))

  three : (a b c x y z : Jobs) → a ≡ x → b ≡ y → c ≡ z → a ++ (b ++ c) ≡ x ++ (y ++ z)
  three a b c x y z same_a same_b same_c = ap (λ (a : Jobs). a ++ (b ++ c)) same_a ∙ ap (λ (b : Jobs). x ++ (b ++ c)) same_b ∙ ap (λ (c : Jobs). x ++ (y ++ c)) same_c

  pub all_shown : ShowsJobs queues all_jobs
  all_shown = record {
    are_works = All-append IsWork (jobs_in Vector queues.lanes) (jobs_in Read queues.reads ++ jobs_in Write queues.writes) (all_are Vector (λ _. refl) queues.lanes.numbers queues.lanes.jobs)
        (All-append IsWork (jobs_in Read queues.reads) (jobs_in Write queues.writes) (all_are Read (λ _. refl) queues.reads.numbers queues.reads.jobs) (all_are Write (λ _. refl) queues.writes.numbers queues.writes.jobs));
    of_lanes = parts Lanes ∙ three _ _ _ (jobs_in Vector queues.lanes) [] []
        (own_queue Vector Lanes (λ _. refl) queues.lanes.numbers queues.lanes.jobs) (no_queue Read Lanes (λ _. refl) queues.reads.numbers queues.reads.jobs) (no_queue Write Lanes (λ _. refl) queues.writes.numbers queues.writes.jobs)
        ∙ append-nil (jobs_in Vector queues.lanes);
    of_reads = parts ReadChannel ∙ three _ _ _ [] (jobs_in Read queues.reads) []
        (no_queue Vector ReadChannel (λ _. refl) queues.lanes.numbers queues.lanes.jobs) (own_queue Read ReadChannel (λ _. refl) queues.reads.numbers queues.reads.jobs) (no_queue Write ReadChannel (λ _. refl) queues.writes.numbers queues.writes.jobs)
        ∙ append-nil (jobs_in Read queues.reads);
    of_writes = parts WriteChannel ∙ three _ _ _ [] [] (jobs_in Write queues.writes)
        (no_queue Vector WriteChannel (λ _. refl) queues.lanes.numbers queues.lanes.jobs) (no_queue Read WriteChannel (λ _. refl) queues.reads.numbers queues.reads.jobs) (own_queue Write WriteChannel (λ _. refl) queues.writes.numbers queues.writes.jobs);
  }

abbrev pub state_in : MachineContents → State
state_in machine = record {
  host = host_of machine.host;
  jobs = all_jobs machine.queues;
  store = store_of machine.cells machine.memory;
  issues = machine.issues;
  steps = machine.steps;
  cycles = machine.cycles;
  end = machine.end;
}

pub state_shown : (machine : MachineContents) → Shows machine (state_in machine)
state_shown machine = record { host = refl; jobs = all_shown machine.queues; store = refl; issues = refl; steps = refl; cycles = refl; end = refl }

-- a cycle in which all may step makes a step, or ends the run
pub cycle_advances : (machine : MachineContents) (most : ℕ) → machine.end ≡ None → (new : MachineContents) → ((state : State) → Shows machine state → Shows new (after_cycle machine.setup most all_units state))
    → new.end ≡ None → machine.steps < new.steps
cycle_advances machine most going new after still =
    let shown = after (state_in machine) (state_shown machine) in
    elim (full_cycle_advances machine.setup most (state_in machine) (all_shown machine.queues).are_works going) [
      | inl ended ↦ absurd (ended (shown.end ∙ still))
      | inr more ↦ subst (λ n. machine.steps < n) shown.steps more
    ]
