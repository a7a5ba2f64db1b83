-- Inner: what a channel keeps.
use Rattle.std.specs.Prelude.{◌≡◌, ◌≤◌, ◌-◌, List, [], ◌∷◌, map, length, All, Option, None, Some, ⊤}
use Rattle.circular_buffer.specs.Buffer.{Buffer}
use Rattle.ven_base.specs.Job.{Job}
use Rattle.venice_isa.specs.declared.work.DmaWork.{DmaWork}
use Rattle.venice_isa.specs.Limits.{transfer_places}
use Rattle.venice_isa.specs.Beat.{Progress}
use Rattle.dma_engine.specs.declared.current.Current.{Current}
use Rattle.dma_engine.specs.Current.{job_of, IsUnderWay}

-- the transfers of the queue: the first, and the others behind it
abbrev pub queue_of : Option Current → List Current → List Current
queue_of None others = others
queue_of (Some first) others = first ∷ others

-- what callers see
abbrev pub jobs_of : Option Current → List Current → List (Job DmaWork Progress)
jobs_of first others = map job_of (queue_of first others)

-- there are others only behind a first one
abbrev pub IsFront : Option Current → List Current → Type 0
IsFront None others = others ≡ []
IsFront (Some first) others = ⊤

-- all places but one are behind the first transfer; each transfer of the queue has a next byte
pub record IsChannel (first : Option Current) (others : Buffer Current) : Type 0 where
  pub capacity : others.capacity ≡ transfer_places - 1
  pub within : length others.items ≤ transfer_places - 1
  pub front : IsFront first others.items
  pub under_way : All IsUnderWay (queue_of first others.items)
