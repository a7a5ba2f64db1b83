-- The machine in a run: what stays as it is, and the state, which steps change.
use Rattle.std.specs.Prelude.{ℕ, zero, suc, Bool, false, ◌==◌, List, [], ◌∷◌, length, if◌then◌else◌, Option, slice_get}
use Rattle.std.specs.List.{filter, count_by}
use Rattle.std.specs.Option.{option_map}
use Rattle.ven_base.specs.declared.entry.Entry.{Entry}
use Rattle.ven_base.specs.Store.{Store}
use Rattle.ven_base.specs.Job.{Job, Course, course_as}
use Rattle.venice_isa.specs.declared.issue.Issue.{Issue}
use Rattle.venice_isa.specs.declared.issue.Issue.TheVariants.{Read, Write}
use Rattle.venice_isa.specs.Beat.{Progress, course_of}
use Rattle.venice_isa.specs.Code.{Listing}
use Rattle.venice_isa.specs.Host.{Host}
use Rattle.venice_isa.specs.Units.{Unit, Lanes, ReadChannel, WriteChannel, is_of}
use Rattle.venice_machine.specs.declared.stop.End.{End}

-- what stays as it is: the code with its version, the table of the arrays in memory, and the number of lanes
pub record Setup : Type 0 where
  pub code : Listing
  pub table : List Entry
  pub lane_count : ℕ

-- ---- unfinished works

-- a work, and its issue number, which counts all works from 1
pub record IssuedWork : Type 0 where
  pub number : ℕ
  pub issue : Issue

abbrev pub issue_of : IssuedWork → Issue
issue_of issued = issued.issue

-- how they go on so many lanes
abbrev pub issued_course : ℕ → Course IssuedWork Progress
issued_course lane_count = course_as issue_of (course_of lane_count)

-- works that are issued and have beats left, in the order of their issue
abbrev pub Jobs : Type 0
Jobs = List (Job IssuedWork Progress)

-- a unit's queue: its works among these, in their order
abbrev pub is_job_of : Unit → Job IssuedWork Progress → Bool
is_job_of unit job = is_of unit job.work.issue

abbrev pub queue : Unit → Jobs → Jobs
queue unit jobs = filter (is_job_of unit) jobs

abbrev pub unfinished_count : Unit → Jobs → ℕ
unfinished_count unit jobs = length (queue unit jobs)

-- the units' numbers: 1 the lanes, 2 the read channel, 3 the write channel
abbrev pub unit_numbered : ℕ → Unit
unit_numbered n = if n == 1 then Lanes else if n == 2 then ReadChannel else WriteChannel

-- the place, among all these, of the work at place k of a unit's queue; both count from 0
abbrev pub place_of : Unit → (k : ℕ) → Jobs → ℕ
place_of unit k [] = 0
place_of unit zero (job ∷ jobs) = if is_job_of unit job then 0 else suc (place_of unit zero jobs)
place_of unit (suc k) (job ∷ jobs) =
    if is_job_of unit job then suc (place_of unit k jobs) else suc (place_of unit (suc k) jobs)

-- the issue number of the work at place k of a unit's queue, if there is one
abbrev pub number_at : Unit → (k : ℕ) → Jobs → Option ℕ
number_at unit k jobs = option_map (λ job. job.work.number) (slice_get (queue unit jobs) k)

-- how many of the transfers have this tag
abbrev pub has_tag : ℕ → Issue → Bool
has_tag tag (Read work) = work.tag == tag
has_tag tag (Write work) = work.tag == tag
has_tag tag issue = false

abbrev pub tagged_count : ℕ → Jobs → ℕ
tagged_count tag jobs = count_by (λ job. has_tag tag job.work.issue) jobs

-- ---- the state

-- the host; the unfinished works; cells and memory; how many works were issued, and how many steps and cycles were
-- made; and how the run has ended, if it has
pub record State : Type 0 where
  pub host : Host
  pub jobs : Jobs
  pub store : Store
  pub issues : ℕ
  pub steps : ℕ
  pub cycles : ℕ
  pub end : Option End
