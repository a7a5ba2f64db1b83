-- Inner: that a beat of a channel keeps to its work's footprint, as any unit's does.
use Rattle.std.proofs.Common.{arith}
use Rattle.std.specs.Prelude.{◌≡◌, ◌<◌, refl}
use Rattle.std.proofs.Math.Nat.{mul-pos}
use Rattle.ven_base.specs.Store.{Store, Size, store_size, IsInRange, AgreeOn}
use Rattle.ven_base.specs.Job.{Job, IsReady, KeepsToFootprint, job_as}
use Rattle.ven_base.proofs.Jobs.{ready_as, keeps_as}
use Rattle.venice_isa.specs.declared.work.DmaWork.{DmaWork}
use Rattle.venice_isa.specs.Footprint.{Reads, Writes, cells_of, memory_of}
use Rattle.venice_isa.specs.Beat.{Progress, beats_of, course_of}
use Rattle.venice_isa.proofs.Counts.{some_beats}
use Rattle.venice_isa.proofs.Regions.{end_of, covered_below_end}
use Rattle.venice_isa.proofs.Ranges.{read_in_range, write_in_range}
use Rattle.venice_isa.proofs.Footprints.{beats_keep}
use Rattle.dma_engine.specs.declared.direction.Direction.{Direction}
use Rattle.dma_engine.specs.declared.direction.Direction.TheVariants.{IntoCells, IntoMemory}
use Rattle.dma_engine.specs.Direction.{HasBytes, issue_of, channel_course}

some_transfer_beat : (direction : Direction) (work : DmaWork) → HasBytes work
    → 0 < beats_of (issue_of direction work) 1
some_transfer_beat IntoCells work has = mul-pos has.rows (some_beats work.bytes 16 has.bytes (omega arith))
some_transfer_beat IntoMemory work has = mul-pos has.rows (some_beats work.bytes 16 has.bytes (omega arith))

pub transfer_begins : (direction : Direction) (work : DmaWork) → HasBytes work
    → ((channel_course direction).done (channel_course direction).not_begun ≡ 0)
    × (0 < (channel_course direction).beats work)
transfer_begins direction work has = (refl, some_transfer_beat direction work has)

-- all bytes of a transfer lie in stores of this size
transfer_end : DmaWork → Size
transfer_end work = record { cells = end_of (cells_of work); memory = end_of (memory_of work) }

transfer_ends : (direction : Direction) (work : DmaWork)
    → IsInRange (Reads (issue_of direction work)) (Writes (issue_of direction work)) (transfer_end work)
unfolding transfer_end
transfer_ends IntoCells work =
    read_in_range work (transfer_end work) (covered_below_end (memory_of work)) (covered_below_end (cells_of work))
transfer_ends IntoMemory work =
    write_in_range work (transfer_end work) (covered_below_end (memory_of work)) (covered_below_end (cells_of work))

pub transfer_has_an_end : (direction : Direction) (work : DmaWork)
    → (size : Size) × IsInRange (Reads (issue_of direction work)) (Writes (issue_of direction work)) size
transfer_has_an_end direction work = (transfer_end work, transfer_ends direction work)

pub beat_keeps_to_footprint : (direction : Direction) (job : Job DmaWork Progress) (first second : Store)
    → IsReady (channel_course direction) (λ work. Reads (issue_of direction work))
    (λ work. Writes (issue_of direction work)) job (store_size first)
    → IsReady (channel_course direction) (λ work. Reads (issue_of direction work))
    (λ work. Writes (issue_of direction work)) job (store_size second)
    → AgreeOn (Reads (issue_of direction job.work)) first second
    → KeepsToFootprint (channel_course direction) (λ work. Writes (issue_of direction work)) job first second
beat_keeps_to_footprint direction job first second ready ready' agree =
    let issue = issue_of direction in
    keeps_as issue (course_of 1) Writes job first second
    (beats_keep 1 (job_as issue job) first second (omega arith)
    (ready_as issue (course_of 1) Reads Writes job (store_size first) ready)
    (ready_as issue (course_of 1) Reads Writes job (store_size second) ready') agree)
