-- What all beats of a transfer are together.
use Rattle.std.specs.Prelude.{◌≡◌}
use Rattle.ven_base.specs.Store.{Store, store_size}
use Rattle.ven_base.specs.Job.{Job, finished}
use Rattle.venice_isa.specs.declared.work.DmaWork.{DmaWork}
use Rattle.venice_isa.specs.Footprint.{HasFootprint}
use Rattle.venice_isa.specs.Beat.{Progress, not_begun}
use Rattle.venice_isa.specs.Does.{DoesOne}
use Rattle.dma_engine.specs.declared.direction.Direction.{Direction}
use Rattle.dma_engine.specs.Direction.{issue_of, channel_course}

-- the beats of a job that has not begun, one after another, are its transfer's copy
abbrev pub BeatsAreTheCopy : Type 0
BeatsAreTheCopy =
    (direction : Direction) (job : Job DmaWork Progress) (store : Store)
    → job.progress ≡ not_begun → HasFootprint (store_size store) (issue_of direction job.work)
    → DoesOne (issue_of direction job.work) store (finished (channel_course direction) job store)
