-- The grants under a name: the text of a grant list, read.
use Rattle.std.specs.Prelude.{◌≡◌, ℕ, List, [], Option, Some, None, Result, Ok, Err}
use Rattle.ven_io.specs.Files.{Behaviour}
use Rattle.venice_machine.specs.declared.grants.GrantFault.{GrantFault}
use Rattle.venice_machine.specs.Grants.{DenotesGrants, IsAnswered}
use Rattle.venice_run.specs.declared.refusal.Kind.TheVariants as kind
use Rattle.venice_run.specs.Endings.{grant_ending}
use Rattle.venice_run.specs.Reading.{loads}
use Rattle.venice_run.specs.Stage.{Stage, ◌>>=◌, step}

-- the grants that the text denotes, or its first fault
abbrev pub ReadsGrants : List ℕ → Result (List ℕ) GrantFault → Type 0
ReadsGrants text (Ok grants) = DenotesGrants text grants
ReadsGrants text (Err fault) = IsAnswered text fault

unfoldable pub grants_in : List ℕ → Stage (List ℕ)
grants_in text = step grant_ending (ReadsGrants text)

-- the grants under the name; none where no name is given
unfoldable pub grants_under : Behaviour → Option (List ℕ) → Stage (List ℕ)
grants_under files None = λ result. result ≡ Ok []
grants_under files (Some name) = do
  text ← loads files name kind.Grants
  grants_in text
