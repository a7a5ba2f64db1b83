-- Inner: that a beat of the lanes keeps to its work's footprint, as any unit's does.
use Rattle.std.specs.Prelude.{◌≡◌, ℕ, ◌<◌, ◌≤◌, refl}
use Rattle.ven_base.specs.Store.{Store, Size, store_size, IsInRange, AgreeOn}
use Rattle.ven_base.specs.Job.{Job, IsReady, KeepsToFootprint, job_as}
use Rattle.ven_base.proofs.Jobs.{ready_as, keeps_as}
use Rattle.venice_isa.specs.declared.work.VecWork.{VecWork}
use Rattle.venice_isa.specs.declared.issue.Issue.TheVariants.{Vector}
use Rattle.venice_isa.specs.Footprint.{Reads, Writes}
use Rattle.venice_isa.specs.Whole.{HasCounts}
use Rattle.venice_isa.specs.Beat.{Progress, vector_beats, course_of}
use Rattle.venice_isa.proofs.OneBeat.{vector_end, vector_ends, some_vector_beat}
use Rattle.venice_isa.proofs.Footprints.{beats_keep}
use Rattle.lane_machine.specs.State.{lane_course}

pub work_begins : (lanes : ℕ) (work : VecWork) → (0 < lanes) × (lanes ≤ 4) → HasCounts work
    → ((lane_course lanes).done (lane_course lanes).not_begun ≡ 0) × (0 < vector_beats work lanes)
work_begins lanes work can_have counts = (refl, some_vector_beat work lanes can_have.0 counts)

pub work_has_an_end : (work : VecWork) → (size : Size) × IsInRange (Reads (Vector work)) (Writes (Vector work)) size
work_has_an_end work = (record { cells = vector_end work; memory = 0 }, vector_ends work)

pub next_beat_keeps : (lanes : ℕ) (job : Job VecWork Progress) (first second : Store) → 0 < lanes
    → IsReady (lane_course lanes) (λ work. Reads (Vector work)) (λ work. Writes (Vector work)) job (store_size first)
    → IsReady (lane_course lanes) (λ work. Reads (Vector work)) (λ work. Writes (Vector work)) job (store_size second)
    → AgreeOn (Reads (Vector job.work)) first second
    → KeepsToFootprint (lane_course lanes) (λ work. Writes (Vector work)) job first second
next_beat_keeps lanes job first second some ready ready' agree =
    keeps_as Vector (course_of lanes) Writes job first second
    (beats_keep lanes (job_as Vector job) first second some
    (ready_as Vector (course_of lanes) Reads Writes job (store_size first) ready)
    (ready_as Vector (course_of lanes) Reads Writes job (store_size second) ready') agree)

pub beat_keeps_to_footprint : (lanes : ℕ) (job : Job VecWork Progress) (first second : Store)
    → (0 < lanes) × (lanes ≤ 4)
    → IsReady (lane_course lanes) (λ work. Reads (Vector work)) (λ work. Writes (Vector work)) job (store_size first)
    → IsReady (lane_course lanes) (λ work. Reads (Vector work)) (λ work. Writes (Vector work)) job (store_size second)
    → AgreeOn (Reads (Vector job.work)) first second
    → KeepsToFootprint (lane_course lanes) (λ work. Writes (Vector work)) job first second
beat_keeps_to_footprint lanes job first second can_have = next_beat_keeps lanes job first second can_have.0
