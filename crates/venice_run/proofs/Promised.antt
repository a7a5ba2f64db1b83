-- From what the words come to, and what was made of it, to the promise.
use Rattle.std.proofs.Common.{◌≡◌, Result, ℕ, sym, subst, ◌∙◌}
use Rattle.ven_io.specs.Faults.{CountsFaults}
use Rattle.ven_io.specs.Files.{Behaviour}
use Rattle.venice_run.specs.declared.ending.Ending.{Ending}
use Rattle.venice_run.specs.Answer.{Answer}
use Rattle.venice_run.specs.Promise.{Outcome, SaveMade, SaveFailed, Comes, Does, FailsToSave, LacksMemory, Stops}

pub counts_same : {P Q : Type 0} (before now : ℕ) → (P → Q) → (Q → P) → CountsFaults before now P → CountsFaults before now Q
counts_same before now to from counts = record { failed = λ q. counts.failed (from q); kept = λ none. counts.kept (λ p. none (to p)) }

module _ {Content : Type 0} (behaviour : Content → Behaviour) (before between after : Content) (same : between ≡ before)
    (stages : Result Answer Ending → Type 0) (answer : Result Answer Ending) (is : stages answer) where
  at : (r : Result Answer Ending) → r ≡ answer → stages r
  at r e = subst stages (sym e) is

  pub comes : (outcome : Outcome) → Comes behaviour between after (λ r. r ≡ answer) outcome → Comes behaviour before after stages outcome
  comes outcome (Does a e made o) = Does a (at _ e) (subst (λ (c : Content). SaveMade behaviour c after a.save) same made) o
  comes outcome (FailsToSave a e failed o) = FailsToSave a (at _ e) (subst (λ (c : Content). SaveFailed behaviour c after a.save) same failed) o
  comes outcome (LacksMemory a e kept o) = LacksMemory a (at _ e) (kept ∙ same) o
  comes outcome (Stops ending e kept o) = Stops ending (at _ e) (kept ∙ same) o
