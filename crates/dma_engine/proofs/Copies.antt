-- The beats of a transfer together are its copy.
use Rattle.std.proofs.Common.{◌≡◌, ◌-◌, ap, sym, ◌∙◌, subst, arith}
use Rattle.ven_base.specs.Store.{Store, store_size, IsInRange}
use Rattle.ven_base.specs.Job.{beats_on, finished}
use Rattle.ven_base.proofs.Jobs.{beats_on_as}
use Rattle.venice_isa.specs.declared.work.DmaWork.{DmaWork}
use Rattle.venice_isa.specs.Footprint.{Reads, Writes}
use Rattle.venice_isa.specs.Beat.{not_begun, beats_of, course_of, after_all_beats}
use Rattle.venice_isa.specs.Does.{DoesOne}
use Rattle.venice_isa.proofs.Transfers.{read_beats, write_beats}
use Rattle.dma_engine.specs.declared.direction.Direction.{Direction}
use Rattle.dma_engine.specs.declared.direction.Direction.TheVariants.{IntoCells, IntoMemory}
use Rattle.dma_engine.specs.Direction.{issue_of, channel_course}
use Rattle.dma_engine.specs.Transfers.{BeatsAreTheCopy}

all_beats : (direction : Direction) (work : DmaWork) (store : Store) → IsInRange (Reads (issue_of direction work)) (Writes (issue_of direction work)) (store_size store) → DoesOne (issue_of direction work) store (after_all_beats (issue_of direction work) 1 store)
all_beats IntoCells work store inside = read_beats work 1 store inside
all_beats IntoMemory work store inside = write_beats work 1 store inside

pub beats_copy : BeatsAreTheCopy
unfolding after_all_beats
beats_copy direction job store begins inside =
    let issue = issue_of direction in
    let count = beats_of (issue job.work) 1 in
    let all : count - 0 ≡ count = omega arith in
    let same : finished (channel_course direction) job store ≡ after_all_beats (issue job.work) 1 store =
    ap (λ progress. finished (channel_course direction) (record { work = job.work; progress = progress }) store) begins
    ∙ beats_on_as issue (course_of 1) (count - 0) (record { work = job.work; progress = not_begun }) store
    ∙ ap (λ n. beats_on (course_of 1) n (record { work = issue job.work; progress = not_begun }) store) all in
    subst (DoesOne (issue job.work) store) (sym same) (all_beats direction job.work store inside)
