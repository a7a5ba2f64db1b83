-- Beats of two issued works that don't conflict may change places: they are works of one kind.
use Rattle.std.proofs.Common.{◌≡◌, ◌+◌, ◌<◌, ℕ}
use Rattle.ven_base.specs.Store.{Store, store_size}
use Rattle.ven_base.specs.Job.{Job, next_job, next_store, job_as}
use Rattle.ven_base.specs.Exchange.{WorkKind, KeepToFootprints, AreApart, BeatsExchange}
use Rattle.ven_base.proofs.Exchange as any
use Rattle.ven_base.proofs.Jobs.{ready_as, keeps_as}
use Rattle.venice_isa.specs.Beat.{Progress, course_of}
use Rattle.venice_isa.specs.Footprint.{Reads, Writes, Conflicts, writes_what_is_read, reads_what_is_written, both_write}
use Rattle.venice_isa.proofs.Footprints.{beats_keep}
use Rattle.venice_machine.specs.State.{IssuedWork, issue_of, issued_course}
use Rattle.overlap_law.specs.Kept.{ReadsOf, WritesOf, IsReadyOn}

abbrev pub IssuedJob : Type 0
IssuedJob = Job IssuedWork Progress

-- issued works, as a kind of works
abbrev pub issued : (lane_count : ℕ) → WorkKind IssuedWork Progress
issued lane_count = record { course = issued_course lane_count; reads = ReadsOf; writes = WritesOf }

module _ (lane_count : ℕ) (some_lanes : 0 < lane_count) where
  keep : KeepToFootprints (issued lane_count)
  keep job first second ready second_ready agree =
      keeps_as issue_of (course_of lane_count) Writes job first second
      (beats_keep lane_count (job_as issue_of job) first second some_lanes
      (ready_as issue_of (course_of lane_count) Reads Writes job (store_size first) ready)
      (ready_as issue_of (course_of lane_count) Reads Writes job (store_size second) second_ready) agree)

  pub size_kept : (job : IssuedJob) (store : Store) → IsReadyOn lane_count (store_size store) job
      → store_size (next_store (issued_course lane_count) job store) ≡ store_size store
  size_kept job store ready = (any.alone (issued lane_count) keep job store ready).same_size

  pub comes_nearer : (job : IssuedJob) (store : Store) → IsReadyOn lane_count (store_size store) job
      → (next_job (issued_course lane_count) job store).progress.done ≡ job.progress.done + 1
  comes_nearer job store ready = (any.alone (issued lane_count) keep job store ready).comes_nearer

  -- works that don't conflict are apart
  are_apart : (a b : IssuedWork) → ¬ Conflicts a.issue b.issue → AreApart (issued lane_count) (issued lane_count) a b
  are_apart a b apart = record {
    unread = λ place w r. apart (writes_what_is_read place w r);
    unwritten = λ place r w. apart (reads_what_is_written place r w);
    not_both = λ place w v. apart (both_write place w v);
  }

  pub beats_exchange : (a b : IssuedJob) (store : Store) → ¬ Conflicts a.work.issue b.work.issue
      → IsReadyOn lane_count (store_size store) a → IsReadyOn lane_count (store_size store) b
      → BeatsExchange (issued lane_count) (issued lane_count) a b store
  beats_exchange a b store apart a_ready b_ready =
      any.beats_exchange (issued lane_count) (issued lane_count) keep keep a b store a_ready b_ready (are_apart a.work b.work apart)
