-- Inner: several beats of the queue's first work, one after another.
use Rattle.std.specs.Prelude.{◌≡◌, ℕ, ◌+◌, List, ◌∷◌, length}
use Rattle.ven_base.specs.Store.{Store}
use Rattle.ven_base.specs.Job.{Job}
use Rattle.ven_base.specs.Beats.{jobs_after_beats, store_after_beats}
use Rattle.venice_isa.specs.declared.work.VecWork.{VecWork}
use Rattle.venice_isa.specs.Beat.{Progress}
use Rattle.lane_machine.specs.declared.current.Current.{Current}
use Rattle.lane_machine.specs.Current.{progress_of, IsUnderWay}
use Rattle.lane_machine.specs.State.{lane_course}

-- a work, as far as it has come
abbrev pub job_at : VecWork → Current → Job VecWork Progress
job_at work current = record { work = work; progress = progress_of current }

module _ (lanes : ℕ) (work : VecWork) where
  -- the work has come on by so many beats, whatever works stand behind it
  pub record HasComeOn (count : ℕ) (first : Current) (before : Store) (next : Current) (after : Store) : Type 0 where
    pub under_way : IsUnderWay lanes work next
    pub jobs_are : (rest : List (Job VecWork Progress)) → job_at work next ∷ rest
        ≡ jobs_after_beats (lane_course lanes) count (job_at work first ∷ rest) before
    pub store_is : (rest : List (Job VecWork Progress)) → after
        ≡ store_after_beats (lane_course lanes) count (job_at work first ∷ rest) before

  -- with the beats that are left it comes where all so many take it from the first
  pub record BeatsToGo (count : ℕ) (first : Current) (before : Store) (left : ℕ) (now : Current) (store : Store)
      : Type 0 where
    pub under_way : IsUnderWay lanes work now
    pub counted : now.done + left ≡ first.done + count
    pub same_length : length store.cells ≡ length before.cells
    pub jobs_end : (rest : List (Job VecWork Progress))
        → jobs_after_beats (lane_course lanes) left (job_at work now ∷ rest) store
        ≡ jobs_after_beats (lane_course lanes) count (job_at work first ∷ rest) before
    pub store_end : (rest : List (Job VecWork Progress))
        → store_after_beats (lane_course lanes) left (job_at work now ∷ rest) store
        ≡ store_after_beats (lane_course lanes) count (job_at work first ∷ rest) before
