-- Which works of the queues are hazards to an issue of each kind.
use Rattle.std.proofs.Common.{◌≡◌, ◌↔◌, ℕ, zero, suc, refl, sym, ap, ◌∙◌, Option, Some, slice_get, unwrap_or, List, [], ◌∷◌, Bool, true, false, not, ◌&&◌, ◌||◌, IsTrue}
use Rattle.std.specs.List.{list_any}
use Rattle.ven_base.specs.Job.{Job, works_of}
use Rattle.venice_isa.specs.declared.instr.Version.{Version}
use Rattle.venice_isa.specs.declared.instr.Version.TheVariants.{One, Two}
use Rattle.venice_isa.specs.declared.issue.Issue.{Issue}
use Rattle.venice_isa.specs.declared.issue.Issue.TheVariants.{Vector, Read, Write, RWait, WWait, VWait, TWait}
use Rattle.venice_isa.specs.declared.work.VecWork.{VecWork}
use Rattle.venice_isa.specs.declared.work.DmaWork.{DmaWork}
use Rattle.venice_isa.specs.Beat.{Progress}
use Rattle.venice_isa.specs.Tests.{are_in_conflict}
use Rattle.venice_isa.specs.Units.{ReadChannel, is_work, overtakes, keep_their_order}
use Rattle.venice_machine.specs.Machine.{UnitWorks, Queues}
use Rattle.venice_machine.specs.Kept.{conflicts_with, is_against, is_hazard_among, hazard_of}

-- two truth values that decide one fact
pub same_truth : {P : Type 0} (a b : Bool) → (IsTrue a ↔ P) → (IsTrue b ↔ P) → a ≡ b
same_truth true true first second = refl
same_truth false false first second = refl
same_truth true false first second = sym (second.1 (first.0 refl))
same_truth false true first second = first.1 (second.0 refl)

same_tests : {A : Type 0} (p q : A → Bool) → ((x : A) → p x ≡ q x) → (xs : List A) → list_any p xs ≡ list_any q xs
same_tests p q same [] = refl
same_tests p q same (x ∷ xs) = ap (λ b. b || list_any p xs) (same x) ∙ ap (λ b. q x || b) (same_tests p q same xs)

none_passes : {A : Type 0} (xs : List A) → list_any (λ (x : A). false) xs ≡ false
none_passes [] = refl
none_passes (x ∷ xs) = none_passes xs

module _ {Work : Type 0} (as_issue : Work → Issue) (version : Version) (issue : Issue) (works : UnitWorks Work) where
  -- works that don't keep their order with the issue
  against_some : ((work : Work) → keep_their_order version (as_issue work) issue ≡ false) → is_against as_issue version issue works ≡ conflicts_with as_issue issue works
  against_some apart =
      same_tests (λ (job : Job Work Progress). not (keep_their_order version (as_issue job.work) issue) && are_in_conflict (as_issue job.work) issue)
      (λ job. are_in_conflict (as_issue job.work) issue) (λ job. ap (λ keep. not keep && are_in_conflict (as_issue job.work) issue) (apart job.work)) works.jobs

  -- works that do
  against_none : ((work : Work) → keep_their_order version (as_issue work) issue ≡ true) → is_against as_issue version issue works ≡ false
  against_none together =
      same_tests (λ (job : Job Work Progress). not (keep_their_order version (as_issue job.work) issue) && are_in_conflict (as_issue job.work) issue)
      (λ job. false) (λ job. ap (λ keep. not keep && are_in_conflict (as_issue job.work) issue) (together job.work)) works.jobs
      ∙ none_passes works.jobs

or_three : (a b c d e f : Bool) → a ≡ d → b ≡ e → c ≡ f → (a || (b || c)) ≡ (d || (e || f))
or_three a b c d e f same_a same_b same_c = ap (λ a. a || (b || c)) same_a ∙ ap (λ b. d || (b || c)) same_b ∙ ap (λ c. d || (e || c)) same_c

pub of_vector : (version : Version) (work : VecWork) (queues : Queues)
    → is_hazard_among version (Vector work) queues ≡ (conflicts_with Read (Vector work) queues.reads || conflicts_with Write (Vector work) queues.writes)
of_vector One work queues =
    or_three _ _ _ false (conflicts_with Read (Vector work) queues.reads) (conflicts_with Write (Vector work) queues.writes)
    (against_none Vector One (Vector work) queues.lanes (λ _. refl)) (against_some Read One (Vector work) queues.reads (λ _. refl)) (against_some Write One (Vector work) queues.writes (λ _. refl))
of_vector Two work queues =
    or_three _ _ _ false (conflicts_with Read (Vector work) queues.reads) (conflicts_with Write (Vector work) queues.writes)
    (against_none Vector Two (Vector work) queues.lanes (λ _. refl)) (against_some Read Two (Vector work) queues.reads (λ _. refl)) (against_some Write Two (Vector work) queues.writes (λ _. refl))

pub of_read : (version : Version) (work : DmaWork) (queues : Queues)
    → is_hazard_among version (Read work) queues
    ≡ (conflicts_with Vector (Read work) queues.lanes || ((overtakes version ReadChannel && conflicts_with Read (Read work) queues.reads) || conflicts_with Write (Read work) queues.writes))
of_read One work queues =
    or_three _ _ _ (conflicts_with Vector (Read work) queues.lanes) false (conflicts_with Write (Read work) queues.writes)
    (against_some Vector One (Read work) queues.lanes (λ _. refl)) (against_none Read One (Read work) queues.reads (λ _. refl)) (against_some Write One (Read work) queues.writes (λ _. refl))
of_read Two work queues =
    or_three _ _ _ (conflicts_with Vector (Read work) queues.lanes) (conflicts_with Read (Read work) queues.reads) (conflicts_with Write (Read work) queues.writes)
    (against_some Vector Two (Read work) queues.lanes (λ _. refl)) (against_some Read Two (Read work) queues.reads (λ _. refl)) (against_some Write Two (Read work) queues.writes (λ _. refl))

pub of_write : (version : Version) (work : DmaWork) (queues : Queues)
    → is_hazard_among version (Write work) queues
    ≡ (conflicts_with Vector (Write work) queues.lanes || (conflicts_with Read (Write work) queues.reads || (overtakes version ReadChannel && conflicts_with Write (Write work) queues.writes)))
of_write One work queues =
    or_three _ _ _ (conflicts_with Vector (Write work) queues.lanes) (conflicts_with Read (Write work) queues.reads) false
    (against_some Vector One (Write work) queues.lanes (λ _. refl)) (against_some Read One (Write work) queues.reads (λ _. refl)) (against_none Write One (Write work) queues.writes (λ _. refl))
of_write Two work queues =
    or_three _ _ _ (conflicts_with Vector (Write work) queues.lanes) (conflicts_with Read (Write work) queues.reads) (conflicts_with Write (Write work) queues.writes)
    (against_some Vector Two (Write work) queues.lanes (λ _. refl)) (against_some Read Two (Write work) queues.reads (λ _. refl)) (against_some Write Two (Write work) queues.writes (λ _. refl))

pub hazard_is : (version : Version) (issue : Issue) (queues : Queues) → IsTrue (is_work issue) → hazard_of version issue queues ≡ is_hazard_among version issue queues
hazard_is version (Vector work) queues is = sym (of_vector version work queues)
hazard_is version (Read work) queues is = sym (of_read version work queues)
hazard_is version (Write work) queues is = sym (of_write version work queues)
hazard_is version (RWait most) queues is = cc
hazard_is version (WWait most) queues is = cc
hazard_is version VWait queues is = cc
hazard_is version (TWait tag) queues is = cc

-- one conflict is enough
pub any_here : {Work : Type 0} (as_issue : Work → Issue) (issue : Issue) (jobs : List (Job Work Progress)) (k : ℕ) (work : Work) → slice_get (works_of jobs) k ≡ Some work
    → are_in_conflict (as_issue work) issue ≡ true → list_any (λ job. are_in_conflict (as_issue job.work) issue) jobs ≡ true
any_here as_issue issue [] k work stands conflict = cc
any_here {Work} as_issue issue (job ∷ jobs) zero work stands conflict = go (ap (λ (o : Option Work). unwrap_or o job.work) stands)
  where
    go : job.work ≡ work → (are_in_conflict (as_issue job.work) issue || list_any (λ job. are_in_conflict (as_issue job.work) issue) jobs) ≡ true
    go same = ap (λ b. b || list_any (λ (job : Job Work Progress). are_in_conflict (as_issue job.work) issue) jobs) (ap (λ work. are_in_conflict (as_issue work) issue) same ∙ conflict)
any_here as_issue issue (job ∷ jobs) (suc k) work stands conflict =
    ap (λ b. are_in_conflict (as_issue job.work) issue || b) (any_here as_issue issue jobs k work stands conflict) ∙ or_true (are_in_conflict (as_issue job.work) issue)
  where
    or_true : (b : Bool) → (b || true) ≡ true
    or_true true = refl
    or_true false = refl
