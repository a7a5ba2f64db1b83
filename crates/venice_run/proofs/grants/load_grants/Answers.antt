use Rattle.std.proofs.Common.{◌≡◌, List, [], ℕ, Result, Ok, refl, sym, subst}
use Rattle.venice_run.specs.declared.ending.Ending.{Ending}
use Rattle.venice_run.specs.Grants.{grants_in, grants_under}
use Rattle.venice_run.specs.Stage.{Goes, as_stage}
use Rattle.venice_run.proofs.NoFile.{counts_none, grants_no_file}
use Rattle.venice_run.proofs.Stages.{ends}
use Rattle.venice_run.proofs.grants.load_grants.Goals as goal

empty_is : (grants : List ℕ) → grants ≡ [] → ◌≡◌ {A = Result (List ℕ) Ending} (Ok grants) (Ok [])
empty_is grants e = subst (λ (g : List ℕ). ◌≡◌ {A = Result (List ℕ) Ending} (Ok g) (Ok [])) (sym e) refl

pub returns-in-None-clause-read : goal.returns-in-None-clause-read
unfolding grants_under
returns-in-None-clause-read g c = rw c.in-None.is (empty_is c.new.result c.new.ensures)

pub returns-in_err-text-in-Some-clause-read : goal.returns-in_err-text-in-Some-clause-read
unfolding grants_under
returns-in_err-text-in-Some-clause-read g c = rw c.in-Some.is (ends (λ (grants : List ℕ). grants) _ _ c.from_residual.ensures.1 c.in_err-text-in-Some.ensures.read)

pub returns-in_ok-text-in-Some-clause-read : goal.returns-in_ok-text-in-Some-clause-read
unfolding grants_under
returns-in_ok-text-in-Some-clause-read g c = rw c.in-Some.is (Goes _ c.in_ok-text-in-Some.ensures.read (rw c.deref.ensures.value at c.grants_of_text.ensures))

pub returns-in_ok-text-in-Some-clause-only : goal.returns-in_ok-text-in-Some-clause-only
returns-in_ok-text-in-Some-clause-only g c = record {
  content = c.in_ok-text-in-Some.ensures.only.content;
  loads = counts_none _ _ (λ e. absurd cc)
      (λ e. grants_no_file c.deref.result.now (subst (λ r. grants_in c.deref.result.now (as_stage (λ (grants : List ℕ). grants) r)) e c.grants_of_text.ensures))
      c.in_ok-text-in-Some.ensures.only.loads;
  saves = c.in_ok-text-in-Some.ensures.only.saves;
}
