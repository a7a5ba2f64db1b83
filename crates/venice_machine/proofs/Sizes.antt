-- A beat keeps the sizes of cells and memory.
use Rattle.std.proofs.Common.{◌≡◌, ℕ, zero, suc, refl, List, [], ◌∷◌, All}
use Rattle.std.proofs.lemmas.List.Elements.{All-head, All-tail}
use Rattle.ven_base.specs.Store.{Place, Store, store_size, IsInRange}
use Rattle.ven_base.specs.Job.{Job, Course, HasBeatsLeft, IsReady, next_store, store_beaten}

module _ {Work Progress : Type 0} (course : Course Work Progress) (reads writes : Work → Place → Type 0)
    (law : (job : Job Work Progress) (store : Store) → IsReady course reads writes job (store_size store) → store_size (next_store course job store) ≡ store_size store) where
  abbrev IsInside : Store → Job Work Progress → Type 0
  IsInside store job = IsInRange (reads job.work) (writes job.work) (store_size store)

  pub size_kept : (k : ℕ) (jobs : List (Job Work Progress)) (store : Store) → All (HasBeatsLeft course) jobs → All (IsInside store) jobs → store_size (store_beaten course k jobs store) ≡ store_size store
  size_kept k [] store left inside = refl
  size_kept zero (job ∷ jobs) store left inside = law job store (record { more = All-head (HasBeatsLeft course) job jobs left; in_range = All-head (IsInside store) job jobs inside })
  size_kept (suc k) (job ∷ jobs) store left inside = size_kept k jobs store (All-tail (HasBeatsLeft course) job jobs left) (All-tail (IsInside store) job jobs inside)
