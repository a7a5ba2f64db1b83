-- Beats of works that share no place which one of them writes: they may change places.
use Rattle.std.specs.Prelude.{◌≡◌, ℕ, List, [], ◌∷◌, ⊤}
use Rattle.ven_base.specs.Store.{Place, Store, Size, store_size, IsInRange, AgreeOn}
use Rattle.ven_base.specs.Job.{Job, Course, IsReady, KeepsToFootprint, next_job, next_store, jobs_beaten, store_beaten}
use Rattle.ven_base.specs.Beats.{HasMore, jobs_after_beats, store_after_beats}

-- what a unit does: how its works go, and which places each of them reads and writes
pub record WorkKind (Work Progress : Type 0) : Type 1 where
  pub course : Course Work Progress
  pub reads : Work → Place → Type 0
  pub writes : Work → Place → Type 0

module _ {Work Progress : Type 0} (kind : WorkKind Work Progress) where
  -- the job has a beat left, and stores of this size have what its work reads and writes
  abbrev pub IsReadyIn : Size → Job Work Progress → Type 0
  IsReadyIn size job = IsReady kind.course kind.reads kind.writes job size

  -- each beat keeps to its work's footprint, in any two stores that have it
  abbrev pub KeepToFootprints : Type 0
  KeepToFootprints =
      (job : Job Work Progress) (first second : Store)
      → IsReadyIn (store_size first) job → IsReadyIn (store_size second) job
      → AgreeOn (kind.reads job.work) first second
      → KeepsToFootprint kind.course kind.writes job first second

  -- the first job has more beats left than so many, and stores of this size have what its work reads and writes; of an
  -- empty queue this says nothing
  abbrev pub HasMoreIn : Size → (count : ℕ) → List (Job Work Progress) → Type 0
  HasMoreIn size count [] = ⊤
  HasMoreIn size count (job ∷ jobs) =
      HasMore kind.course count (job ∷ jobs) × IsInRange (kind.reads job.work) (kind.writes job.work) size

module _ {A B P Q : Type 0} (kind : WorkKind A P) (other : WorkKind B Q) where
  -- no place that one of the works writes is one that the other reads or writes
  pub record AreApart (a : A) (b : B) : Type 0 where
    pub unread : (place : Place) → kind.writes a place → ¬ other.reads b place
    pub unwritten : (place : Place) → kind.reads a place → ¬ other.writes b place
    pub not_both : (place : Place) → kind.writes a place → ¬ other.writes b place

  -- the first works of two queues are apart, where both have one
  abbrev pub FirstsApart : List (Job A P) → List (Job B Q) → Type 0
  FirstsApart [] others = ⊤
  FirstsApart (a ∷ jobs) [] = ⊤
  FirstsApart (a ∷ jobs) (b ∷ others) = AreApart a.work b.work

  -- whichever of two next beats comes first, both leave the same cells and memory, and either job comes as far
  pub record BeatsExchange (a : Job A P) (b : Job B Q) (store : Store) : Type 0 where
    pub stores : next_store kind.course a (next_store other.course b store)
        ≡ next_store other.course b (next_store kind.course a store)
    pub same : next_job kind.course a (next_store other.course b store) ≡ next_job kind.course a store
    pub same_other : next_job other.course b (next_store kind.course a store) ≡ next_job other.course b store

  -- so do many beats of the first queue, and one of the other
  pub record ManyPastOne (count : ℕ) (jobs : List (Job A P)) (others : List (Job B Q)) (store : Store) : Type 0 where
    pub stores : store_after_beats kind.course count jobs (store_beaten other.course 0 others store)
        ≡ store_beaten other.course 0 others (store_after_beats kind.course count jobs store)
    pub same : jobs_after_beats kind.course count jobs (store_beaten other.course 0 others store)
        ≡ jobs_after_beats kind.course count jobs store
    pub same_others : jobs_beaten other.course 0 others (store_after_beats kind.course count jobs store)
        ≡ jobs_beaten other.course 0 others store

  -- ---- the laws of two units: they hold where both keep to footprints

  -- two beats of works that are apart may change places
  abbrev pub ExchangeBeats : Type 0
  ExchangeBeats =
      (a : Job A P) (b : Job B Q) (store : Store)
      → IsReadyIn kind (store_size store) a → IsReadyIn other (store_size store) b → AreApart a.work b.work
      → BeatsExchange a b store

  -- and so may many beats of a queue's first work, none of them its last, and one of the other queue's
  abbrev pub MoveManyPastOne : Type 0
  MoveManyPastOne =
      (count : ℕ) (jobs : List (Job A P)) (others : List (Job B Q)) (store : Store)
      → HasMoreIn kind (store_size store) count jobs → HasMoreIn other (store_size store) 0 others
      → FirstsApart jobs others
      → ManyPastOne count jobs others store
