-- Inner: what the lanes keep.
use Rattle.std.specs.Prelude.{◌≡◌, ℕ, ◌<◌, ◌≤◌, List, [], ◌∷◌, map, Option, None, Some}
use Rattle.ven_base.specs.Job.{Job, new_job}
use Rattle.spad_store.specs.Queue.{IsQueue}
use Rattle.venice_isa.specs.declared.work.VecWork.{VecWork}
use Rattle.venice_isa.specs.Limits.{vector_places}
use Rattle.venice_isa.specs.Whole.{HasCounts}
use Rattle.venice_isa.specs.Beat.{Progress, not_begun}
use Rattle.lane_machine.specs.declared.current.Current.{Current}
use Rattle.lane_machine.specs.declared.lanes.Lanes.TheInside.{Inside}
use Rattle.lane_machine.specs.Current.{progress_of, IsUnderWay}
use Rattle.lane_machine.specs.State.{State, lane_course}

-- how far the first work has come
abbrev pub progress_in : Option Current → Progress
progress_in None = not_begun
progress_in (Some current) = progress_of current

-- the works of the queue as jobs: the first is under way, and no other has begun
abbrev pub jobs_of : ℕ → List VecWork → Option Current → List (Job VecWork Progress)
jobs_of lanes [] current = []
jobs_of lanes (work ∷ works) current =
    record { work = work; progress = progress_in current } ∷ map (new_job (lane_course lanes)) works

-- of the queue's first work the lanes keep how far it has come, and of an empty queue nothing
abbrev pub IsFront : ℕ → List VecWork → Option Current → Type 0
IsFront lanes [] None = Unit {0}
IsFront lanes (work ∷ works) (Some current) = IsUnderWay lanes work current
IsFront lanes _ _ = ⊥

-- what callers see
abbrev pub state_of : Inside → State
state_of lanes = record { jobs = jobs_of lanes.lanes lanes.queue.items lanes.current; lanes = lanes.lanes }

-- 1 to 4 lanes with a queue, whose first work is under way
pub record IsLanes (lanes : Inside) : Type 0 where
  pub some : 0 < lanes.lanes
  pub few : lanes.lanes ≤ 4
  pub capacity : lanes.queue.capacity ≡ vector_places
  pub queue : IsQueue (lane_course lanes.lanes) HasCounts vector_places
      (jobs_of lanes.lanes lanes.queue.items lanes.current)
  pub front : IsFront lanes.lanes lanes.queue.items lanes.current
