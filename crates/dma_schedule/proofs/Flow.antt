-- What a block leaves alone.
use Rattle.std.proofs.Common.{◌≡◌, ℕ, zero, suc, ◌+◌, ◌≤◌, ◌<◌, sym, refl, subst, ap, ◌∙◌, arith, List, [], ◌∷◌, ◌++◌, All, inl, inr, length}
use Rattle.std.proofs.lemmas.List.Elements.{All-head, All-tail}
use Rattle.ven_base.specs.Store.{Place, in_cells, in_memory, Store, Size, store_size, content_at, HasPlace}
use Rattle.ven_base.specs.Job.{Job, IsReady, KeepsToFootprint, beats_on, next_job, next_store}
use Rattle.venice_isa.specs.declared.issue.Issue.{Issue}
use Rattle.venice_isa.specs.Footprint.{Reads, Writes, HasFootprint}
use Rattle.venice_isa.specs.Units.{Unit}
use Rattle.venice_isa.specs.Beat.{Progress, not_begun, beats_of, course_of, after_all_beats, sequential}
use Rattle.venice_isa.proofs.Footprints.{beats_keep}
use Rattle.dma_schedule.specs.Zone.{Zone, KeepsTo}

-- the store has at least so many cells and bytes
pub record HasSize (size : Size) (store : Store) : Type 0 where
  pub cells : size.cells ≤ length store.cells
  pub memory : size.memory ≤ length store.memory

-- beats keep the size, and what their work doesn't write
pub record Kept (work : Issue) (before after : Store) : Type 0 where
  pub same_size : store_size after ≡ store_size before
  pub others : (place : Place) → ¬ Writes work place → content_at after place ≡ content_at before place

-- a block keeps the size, and changes places of its zones alone
pub record BlockKept (zone : Place → Zone) (size : Size) (Written : Zone → Type 0) (before after : Store) : Type 0 where
  pub same_size : HasSize size after
  pub others : (place : Place) → ¬ Written (zone place) → content_at after place ≡ content_at before place

place_there : (size : Size) (store : Store) (place : Place) → HasSize size store → HasPlace size place → HasPlace (store_size store) place
place_there size store (in_cells p) has below = omega (arith, below, has.cells)
place_there size store (in_memory p) has below = omega (arith, below, has.memory)

pub footprint_there : (size : Size) (store : Store) (issue : Issue) → HasSize size store → HasFootprint size issue → HasFootprint (store_size store) issue
footprint_there size store issue has inside = record {
  has_reads = λ place read. place_there size store place has (inside.has_reads place read);
  has_writes = λ place written. place_there size store place has (inside.has_writes place written);
}

module _ (lanes : ℕ) where
  pub sequential_append : (first second : List Issue) (store : Store) → sequential (first ++ second) lanes store ≡ sequential second lanes (sequential first lanes store)
  sequential_append [] second store = refl
  sequential_append (issue ∷ first) second store = sequential_append first second (after_all_beats issue lanes store)

module _ (lanes : ℕ) (some : 0 < lanes) where
  kept_after : (n : ℕ) (job : Job Issue Progress) (store : Store) → job.progress.done + n ≤ beats_of job.work lanes → HasFootprint (store_size store) job.work
      → Kept job.work store (beats_on (course_of lanes) n job store)
  kept_after zero job store more in_range = record { same_size = refl; others = λ place not_written. refl }
  kept_after (suc n) job store more in_range =
      let ready : IsReady (course_of lanes) Reads Writes job (store_size store) = record { more = omega arith; in_range = in_range } in
      let keeps : KeepsToFootprint (course_of lanes) Writes job store store = beats_keep lanes job store store some ready ready (λ other reads. refl) in
      let rest : Kept job.work (next_store (course_of lanes) job store) (beats_on (course_of lanes) n (next_job (course_of lanes) job store) (next_store (course_of lanes) job store)) =
      kept_after n (next_job (course_of lanes) job store) (next_store (course_of lanes) job store) (omega (arith, keeps.comes_nearer)) (subst (λ size. HasFootprint size job.work) (sym keeps.same_size) in_range) in
      record {
        same_size = rest.same_size ∙ keeps.same_size;
        others = λ place not_written. rest.others place not_written ∙ elim (keeps.alike place) [ inl written ↦ absurd (not_written written.0) | inr left ↦ left.0 ];
      }

  pub one_kept : (issue : Issue) (store : Store) → HasFootprint (store_size store) issue → Kept issue store (after_all_beats issue lanes store)
  unfolding after_all_beats
  one_kept issue store in_range = kept_after (beats_of issue lanes) (record { work = issue; progress = not_begun }) store (omega arith) in_range

  same_has : (size : Size) (before after : Store) → store_size after ≡ store_size before → HasSize size before → HasSize size after
  same_has size before after same has =
      record { cells = omega (arith, ap (λ (s : Size). s.cells) same, has.cells); memory = omega (arith, ap (λ (s : Size). s.memory) same, has.memory) }

  module _ {zone : Place → Zone} {size : Size} {unit : Unit} {tag : ℕ} {Read Written : Zone → Type 0} where
    pub block_kept : (block : List Issue) (store : Store) → All (KeepsTo zone size unit tag Read Written) block → HasSize size store → BlockKept zone size Written store (sequential block lanes store)
    block_kept [] store all has = record { same_size = has; others = λ place out. refl }
    block_kept (issue ∷ rest) store all has =
        let keeps : KeepsTo zone size unit tag Read Written issue = All-head (KeepsTo zone size unit tag Read Written) issue rest all in
        let one : Kept issue store (after_all_beats issue lanes store) = one_kept issue store (footprint_there size store issue has keeps.in_range) in
        let later : BlockKept zone size Written (after_all_beats issue lanes store) (sequential rest lanes (after_all_beats issue lanes store)) =
        block_kept rest (after_all_beats issue lanes store) (All-tail (KeepsTo zone size unit tag Read Written) issue rest all) (same_has size store (after_all_beats issue lanes store) one.same_size has) in
        record {
          same_size = later.same_size;
          others = λ place out. later.others place out ∙ one.others place (λ written. out (keeps.writes place written));
        }
