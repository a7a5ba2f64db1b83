-- What lies in the stores still does after a beat of one of the jobs.
use Rattle.std.proofs.Common.{◌≡◌, ℕ, ap, sym, ◌∙◌, subst, List, [], ◌∷◌, ◌++◌}
use Rattle.std.specs.Prelude.{All, OnOk, OnErr, Ok, Err, ⊤}
use Rattle.std.specs.declared.result.Result.{Result}
use Rattle.std.proofs.lemmas.List.Elements.{All-push}
use Rattle.ven_base.specs.Store.{Place, Store, store_size, IsInRange}
use Rattle.ven_base.specs.Job.{Job, Course, HasBeatsLeft, IsReady, next_store, jobs_beaten, store_beaten}
use Rattle.ven_base.proofs.Jobs.{works_beaten, size_beaten}

module _ {Work Progress : Type 0} (course : Course Work Progress) (reads writes : Work → Place → Type 0) (place : ℕ) (jobs beaten : List (Job Work Progress)) (store after : Store)
    (left : All (HasBeatsLeft course) jobs) (inside : All (λ job. IsInRange (reads job.work) (writes job.work) (store_size store)) jobs)
    (keeps : (job : Job Work Progress) → IsReady course reads writes job (store_size store) → store_size (next_store course job store) ≡ store_size store)
    (jobs_are : beaten ≡ jobs_beaten course place jobs store) (store_is : after ≡ store_beaten course place jobs store) where
  pub same_size : store_size after ≡ store_size store
  same_size = ap store_size store_is ∙ size_beaten course reads writes place jobs store left inside keeps

  pub still_inside : All (λ job. IsInRange (reads job.work) (writes job.work) (store_size after)) beaten
  still_inside =
      subst (All (λ job. IsInRange (reads job.work) (writes job.work) (store_size after))) (sym jobs_are)
      (subst (λ size. All (λ job. IsInRange (reads job.work) (writes job.work) size) (jobs_beaten course place jobs store)) (sym same_size)
      (works_beaten course (λ work. IsInRange (reads work) (writes work) (store_size store)) place jobs store inside))

-- an offered transfer joins the others, or all stays as it was
pub offered : {X E : Type 0} (P : X → Type 0) (result : Result ⊤ E) (old new : List X) (x : X) → OnErr result (new ≡ old) → OnOk result (new ≡ old ++ x ∷ []) → P x → All P old → All P new
offered P (Ok done) old new x unchanged joined mine all = subst (All P) (sym joined) (All-push P old x all mine)
offered P (Err back) old new x unchanged joined mine all = subst (All P) (sym unchanged) all
