-- The inputs under a name: an array file whose arrays fit the inputs of a table, as a program or an image has one.
use Rattle.std.specs.Prelude.{◌≡◌, ℕ, List, Result, Ok, Err}
use Rattle.ven_base.specs.declared.entry.Entry.{Entry}
use Rattle.ven_base.specs.Pairs.{Pairs}
use Rattle.ven_io.specs.Files.{Behaviour}
use Rattle.array_file.specs.declared.fault.ArrayFault.{ArrayFault}
use Rattle.array_file.specs.declared.fitting.FitFault.{FitFault}
use Rattle.array_file.specs.Faults.{DenotesArrays, IsAnswered}
use Rattle.array_file.specs.Fitting.{Fits, IsUnfit}
use Rattle.venice_run.specs.declared.ending.Ending.TheVariants.{Refused, Failed}
use Rattle.venice_run.specs.declared.ending.Fault.TheVariants.{Memory}
use Rattle.venice_run.specs.declared.refusal.Kind.TheVariants as kind
use Rattle.venice_run.specs.declared.refusal.Refusal.TheVariants.{Fit}
use Rattle.venice_run.specs.Endings.{array_ending}
use Rattle.venice_run.specs.Reading.{loads}
use Rattle.venice_run.specs.Stage.{Stage, ◌>>=◌, step}

-- the arrays that the text denotes, or its first fault
abbrev pub Reads : List ℕ → Result Pairs ArrayFault → Type 0
Reads text (Ok arrays) = DenotesArrays text arrays
Reads text (Err fault) = IsAnswered text fault

-- these arrays, where they fit the table, or their first misfit
abbrev pub fitting : List Entry → Pairs → Stage Pairs
fitting table arrays (Ok fitted) = (fitted ≡ arrays) × Fits arrays table
fitting table arrays (Err (Refused refusal)) = (fault : FitFault) × IsUnfit arrays table fault × (refusal ≡ Fit fault)
fitting table arrays (Err (Failed fault)) = fault ≡ Memory

-- the arrays of the text
unfoldable pub arrays_in : List ℕ → Stage Pairs
arrays_in text = step array_ending (Reads text)

-- the arrays of the file under the name
unfoldable pub arrays_under : Behaviour → List ℕ → Stage Pairs
arrays_under files name = do
  text ← loads files name kind.Inputs
  arrays_in text

-- the inputs of the table under the name
unfoldable pub inputs_under : Behaviour → List ℕ → List Entry → Stage Pairs
inputs_under files name table = do
  arrays ← arrays_under files name
  fitting table arrays
