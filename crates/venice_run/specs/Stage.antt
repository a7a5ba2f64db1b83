-- Stages: each passes with a value or ends the command, and one stands behind the other.
use Rattle.std.specs.Prelude.{◌≡◌, Result, Ok, Err}
use Rattle.venice_run.specs.declared.ending.Ending.{Ending}
use Rattle.venice_run.specs.declared.ending.Ending.TheVariants.{Refused, Failed}
use Rattle.venice_run.specs.declared.ending.Fault.TheVariants.{Memory}
use Rattle.venice_run.specs.declared.refusal.Refusal.{Refusal}

-- what a stage may come to: a value with which it passes, or the command's end
abbrev pub Stage : Type 0 → Type 1
Stage A = Result A Ending → Type 0

-- the first stage ends the command, or it passes with a value and the rest goes on from there
pub data Then {A B : Type 0} (first : Result A Ending → Type 0) (next : A → Result B Ending → Type 0)
    (result : Result B Ending) : Type 0 where
  Ends : (ending : Ending) → first (Err ending) → result ≡ Err ending → Then first next result
  Goes : (value : A) → first (Ok value) → next value result → Then first next result

infixl 10 ◌>>=◌
abbrev pub ◌>>=◌ : {A B : Type 0} → Stage A → (A → Stage B) → Stage B
first >>= next = Then first next

infixl 10 ◌>>◌
abbrev pub ◌>>◌ : {A B : Type 0} → Stage A → Stage B → Stage B
first >> next = Then first (λ _. next)

-- a call of a layer below: its fault stands for this end
abbrev pub step : {A E : Type 0} → (E → Ending) → (Result A E → Type 0) → Stage A
step ending_of is (Ok value) = is (Ok value)
step ending_of is (Err ending) = (fault : _) × is (Err fault) × (ending ≡ ending_of fault)

-- some value of this kind, unless memory runs out
abbrev pub gives : {A : Type 0} → (A → Type 0) → Stage A
gives is (Ok value) = is value
gives is (Err ending) = ending ≡ Failed Memory

-- this refusal
abbrev pub refuses : {A : Type 0} → Refusal → Stage A
refuses refusal result = result ≡ Err (Refused refusal)

-- what a call of the code answers, with its value as the stage has it
abbrev pub as_stage : {A B : Type 0} → (A → B) → Result A Ending → Result B Ending
as_stage view (Ok value) = Ok (view value)
as_stage view (Err ending) = Err ending
