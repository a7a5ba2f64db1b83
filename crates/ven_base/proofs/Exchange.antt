-- Beats of works that are apart may change places, and so may many of them.
use Rattle.std.proofs.Common.{◌≡◌, ℕ, zero, suc, ◌+◌, ◌<◌, sym, refl, subst, ap, ◌∙◌, arith, List, [], ◌∷◌, ◌++◌, slice_get, inl, inr, Some, None, Option, option_map, cond, nat_lt, false}
use Rattle.std.specs.Prelude.{All}
use Rattle.std.proofs.lemmas.List.Elements.{All-head}
use Rattle.std.proofs.lemmas.Option.{same_Some, none-some}
use Rattle.ven_base.specs.Cell.{Cell}
use Rattle.ven_base.specs.Store.{Place, in_cells, in_memory, content_at, Store, Size, store_size, AgreeOn, IsInRange}
use Rattle.ven_base.specs.Job.{Job, KeepsToFootprint, next_job, next_store, jobs_beaten, store_beaten}
use Rattle.ven_base.specs.Beats.{jobs_after_beats, store_after_beats, HasMore}
use Rattle.ven_base.specs.Exchange.{WorkKind, IsReadyIn, KeepToFootprints, HasMoreIn, AreApart, FirstsApart, BeatsExchange, ManyPastOne}
use Rattle.ven_base.proofs.Jobs.{comes_on}

-- ---- what stands at its places makes a store

same_items : {A : Type 0} (xs ys : List A) → ((p : ℕ) → slice_get xs p ≡ slice_get ys p) → xs ≡ ys
same_items [] [] same = refl
same_items [] (y ∷ ys) same = absurd (none-some y (same zero))
same_items (x ∷ xs) [] same = absurd (none-some x (sym (same zero)))
same_items (x ∷ xs) (y ∷ ys) same =
    let head : x ≡ y = same_Some x y (same zero) in
    let rest : xs ≡ ys = same_items xs ys (λ p. same (suc p)) in
    cc

-- a byte of memory stands at its place as a cell without a flag
abbrev bare : ℕ → Cell
bare byte = (byte, false)

same_byte : (x y : Option ℕ) → option_map bare x ≡ option_map bare y → x ≡ y
same_byte None None same = refl
same_byte None (Some y) same = absurd (none-some (bare y) same)
same_byte (Some x) None same = absurd (none-some (bare x) (sym same))
same_byte (Some x) (Some y) same = ap (λ (cell : Cell). Some cell.0) (same_Some (bare x) (bare y) same)

pub same_store : (first second : Store) → ((place : Place) → content_at first place ≡ content_at second place) → first ≡ second
same_store first second same =
    let cells : first.cells ≡ second.cells = same_items first.cells second.cells (λ p. same (in_cells p)) in
    let memory : first.memory ≡ second.memory = same_items first.memory second.memory (λ p. same_byte _ _ (same (in_memory p))) in
    λ i. record { cells = cells i; memory = memory i }

-- ---- the beats of one unit

module _ {Work Progress : Type 0} (kind : WorkKind Work Progress) where
  pub has_fewer : (size : Size) (count : ℕ) (jobs : List (Job Work Progress)) → HasMoreIn kind size count jobs → HasMoreIn kind size 0 jobs
  has_fewer size count [] more = tt
  has_fewer size count (job ∷ jobs) more = (omega (arith, more.0), more.1)

  ready : (size : Size) (job : Job Work Progress) (jobs : List (Job Work Progress)) → HasMoreIn kind size 0 (job ∷ jobs) → IsReadyIn kind size job
  ready size job jobs more = record { more = omega (arith, more.0); in_range = more.1 }

  abbrev AllInside : Size → List (Job Work Progress) → Type 0
  AllInside size jobs = All (λ job. IsInRange (kind.reads job.work) (kind.writes job.work) size) jobs

  pub more_in : (size : Size) (count : ℕ) (jobs : List (Job Work Progress)) → HasMore kind.course count jobs → AllInside size jobs
      → HasMoreIn kind size count jobs
  more_in size count [] more inside = tt
  more_in size count (job ∷ jobs) more inside =
      (more, All-head (λ job. IsInRange (kind.reads job.work) (kind.writes job.work) size) job jobs inside)

  pub more_of : (size : Size) (count : ℕ) (jobs : List (Job Work Progress)) → HasMoreIn kind size count jobs → HasMore kind.course count jobs
  more_of size count [] more = tt
  more_of size count (job ∷ jobs) more = more.0

  module _ (keep : KeepToFootprints kind) where
    pub alone : (job : Job Work Progress) (store : Store) → IsReadyIn kind (store_size store) job → KeepsToFootprint kind.course kind.writes job store store
    alone job store is = keep job store store is is (λ place reads. refl)

    -- cells and memory are as many after a beat
    pub size_kept : (jobs : List (Job Work Progress)) (store : Store) → HasMoreIn kind (store_size store) 0 jobs
        → store_size (store_beaten kind.course 0 jobs store) ≡ store_size store
    size_kept [] store more = refl
    size_kept (job ∷ jobs) store more = (alone job store (ready (store_size store) job jobs more)).same_size

    -- the first job comes on, and has one beat less
    pub stays_first : (job : Job Work Progress) (jobs : List (Job Work Progress)) (store : Store)
        → kind.course.done job.progress + 1 < kind.course.beats job.work → jobs_beaten kind.course 0 (job ∷ jobs) store ≡ next_job kind.course job store ∷ jobs
    stays_first job jobs store more = ap (λ left. left ++ jobs) (comes_on kind.course job store more)

    pub more_after : (count : ℕ) (jobs : List (Job Work Progress)) (store : Store) → HasMoreIn kind (store_size store) (suc count) jobs
        → HasMoreIn kind (store_size store) count (jobs_beaten kind.course 0 jobs store)
    more_after count [] store more = tt
    more_after count (job ∷ jobs) store more =
        let now = ready (store_size store) job jobs (has_fewer (store_size store) (suc count) (job ∷ jobs) more) in
        let left : kind.course.done (next_job kind.course job store).progress + count < kind.course.beats job.work =
        omega (arith, (alone job store now).comes_nearer, more.0) in
        subst (HasMoreIn kind (store_size store) count) (sym (stays_first job jobs store (omega (arith, more.0)))) (left, more.1)

    pub still_more : (count : ℕ) (jobs : List (Job Work Progress)) (store : Store) → HasMoreIn kind (store_size store) (suc count) jobs
        → HasMoreIn kind (store_size (store_beaten kind.course 0 jobs store)) count (jobs_beaten kind.course 0 jobs store)
    still_more count jobs store more =
        subst (λ size. HasMoreIn kind size count (jobs_beaten kind.course 0 jobs store))
        (sym (size_kept jobs store (has_fewer (store_size store) (suc count) jobs more)))
        (more_after count jobs store more)

    pub size_after : (count : ℕ) (jobs : List (Job Work Progress)) (store : Store) → HasMoreIn kind (store_size store) count jobs
        → store_size (store_after_beats kind.course count jobs store) ≡ store_size store
    size_after zero jobs store more = refl
    size_after (suc count) jobs store more =
        size_after count (jobs_beaten kind.course 0 jobs store) (store_beaten kind.course 0 jobs store) (still_more count jobs store more)
        ∙ size_kept jobs store (has_fewer (store_size store) (suc count) jobs more)

-- ---- the beats of two units

module _ {A B P Q : Type 0} (kind : WorkKind A P) (other : WorkKind B Q) (keep : KeepToFootprints kind) (keep_other : KeepToFootprints other) where
  module _ (a : Job A P) (b : Job B Q) (store : Store)
      (a_ready : IsReadyIn kind (store_size store) a) (b_ready : IsReadyIn other (store_size store) b) (apart : AreApart kind other a.work b.work) where
    alone_a : KeepsToFootprint kind.course kind.writes a store store
    alone_a = alone kind keep a store a_ready

    alone_b : KeepsToFootprint other.course other.writes b store store
    alone_b = alone other keep_other b store b_ready

    -- a beat of one work changes nothing that the other reads
    kept_for_a : AgreeOn (kind.reads a.work) store (next_store other.course b store)
    kept_for_a place read = elim (alone_b.alike place) [ inl written ↦ absurd (apart.unwritten place read written.0) | inr left ↦ left.0 ]

    kept_for_b : AgreeOn (other.reads b.work) store (next_store kind.course a store)
    kept_for_b place read = elim (alone_a.alike place) [ inl written ↦ absurd (apart.unread place written.0 read) | inr left ↦ left.0 ]

    -- so each does the same after the other's
    a_after : KeepsToFootprint kind.course kind.writes a store (next_store other.course b store)
    a_after = keep a store (next_store other.course b store) a_ready (subst (λ size. IsReadyIn kind size a) (sym alone_b.same_size) a_ready) kept_for_a

    b_after : KeepsToFootprint other.course other.writes b store (next_store kind.course a store)
    b_after = keep_other b store (next_store kind.course a store) b_ready (subst (λ size. IsReadyIn other size b) (sym alone_a.same_size) b_ready) kept_for_b

    stores_exchange : next_store kind.course a (next_store other.course b store) ≡ next_store other.course b (next_store kind.course a store)
    stores_exchange = same_store _ _ (λ place.
        elim (a_after.alike place) [
          | inl mine ↦ elim (b_after.alike place) [
            | inl its ↦ absurd (apart.not_both place mine.0 its.0)
            | inr its ↦ mine.1 ∙ sym its.1
          ]
          | inr mine ↦ elim (b_after.alike place) [
            | inl its ↦ mine.1 ∙ sym its.1
            | inr its ↦ mine.1 ∙ its.0 ∙ sym mine.0 ∙ sym its.1
          ]
        ])

    pub beats_exchange : BeatsExchange kind other a b store
    beats_exchange = record {
      stores = stores_exchange;
      same = ap (λ (progress : P). record a { progress = progress }) a_after.same_progress;
      same_other = ap (λ (progress : Q). record b { progress = progress }) b_after.same_progress;
    }

  -- a beat of each queue
  pub exchange : (jobs : List (Job A P)) (others : List (Job B Q)) (store : Store)
      → HasMoreIn kind (store_size store) 0 jobs → HasMoreIn other (store_size store) 0 others
      → FirstsApart kind other jobs others → ManyPastOne kind other 1 jobs others store
  exchange [] others store more more_others apart = record { stores = refl; same = refl; same_others = refl }
  exchange (a ∷ jobs) [] store more more_others apart = record { stores = refl; same = refl; same_others = refl }
  exchange (a ∷ jobs) (b ∷ others) store more more_others apart =
      let beats = beats_exchange a b store (ready kind (store_size store) a jobs more) (ready other (store_size store) b others more_others) apart in
      record {
        stores = beats.stores;
        same = ap (λ next. cond (nat_lt (kind.course.done a.progress + 1) (kind.course.beats a.work)) (next ∷ []) [] ++ jobs) beats.same;
        same_others = ap (λ next. cond (nat_lt (other.course.done b.progress + 1) (other.course.beats b.work)) (next ∷ []) [] ++ others) beats.same_other;
      }

  -- the first works stay first, and apart
  pub apart_after : (jobs : List (Job A P)) (others : List (Job B Q)) (count : ℕ) (store : Store)
      → HasMoreIn kind (store_size store) (suc count) jobs → FirstsApart kind other jobs others
      → FirstsApart kind other (jobs_beaten kind.course 0 jobs store) others
  apart_after [] others count store more apart = tt
  apart_after (a ∷ jobs) [] count store more apart =
      subst (λ jobs. FirstsApart kind other jobs []) (sym (stays_first kind keep a jobs store (omega (arith, more.0)))) tt
  apart_after (a ∷ jobs) (b ∷ others) count store more apart =
      subst (λ jobs. FirstsApart kind other jobs (b ∷ others)) (sym (stays_first kind keep a jobs store (omega (arith, more.0)))) apart

  pub apart_after_other : (jobs : List (Job A P)) (others : List (Job B Q)) (count : ℕ) (store : Store)
      → HasMoreIn other (store_size store) (suc count) others → FirstsApart kind other jobs others
      → FirstsApart kind other jobs (jobs_beaten other.course 0 others store)
  apart_after_other [] others count store more apart = tt
  apart_after_other (a ∷ jobs) [] count store more apart = tt
  apart_after_other (a ∷ jobs) (b ∷ others) count store more apart =
      subst (FirstsApart kind other (a ∷ jobs)) (sym (stays_first other keep_other b others store (omega (arith, more.0)))) apart

  -- many beats of the first, and one of the second
  pub many_past_one : (count : ℕ) (jobs : List (Job A P)) (others : List (Job B Q)) (store : Store)
      → HasMoreIn kind (store_size store) count jobs → HasMoreIn other (store_size store) 0 others
      → FirstsApart kind other jobs others → ManyPastOne kind other count jobs others store
  many_past_one zero jobs others store more more_others apart = record { stores = refl; same = refl; same_others = refl }
  many_past_one (suc count) jobs others store more more_others apart =
      let first = has_fewer kind (store_size store) (suc count) jobs more in
      let one = exchange jobs others store first more_others apart in
      let next = jobs_beaten kind.course 0 jobs store in
      let then = store_beaten kind.course 0 jobs store in
      let rest = many_past_one count next others then (still_more kind keep count jobs store more)
      (subst (λ size. HasMoreIn other size 0 others) (sym (size_kept kind keep jobs store first)) more_others)
      (apart_after jobs others count store more apart) in
      record {
        stores =
            ap (λ queue. store_after_beats kind.course count queue (store_beaten kind.course 0 jobs (store_beaten other.course 0 others store))) one.same
            ∙ ap (store_after_beats kind.course count next) one.stores
            ∙ rest.stores;
        same =
            ap (λ queue. jobs_after_beats kind.course count queue (store_beaten kind.course 0 jobs (store_beaten other.course 0 others store))) one.same
            ∙ ap (jobs_after_beats kind.course count next) one.stores
            ∙ rest.same;
        same_others = rest.same_others ∙ one.same_others;
      }
