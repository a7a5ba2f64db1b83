-- What the machine answers.
use Rattle.std.specs.Prelude.{◌≡◌, ℕ, ◌<◌, ◌≤◌, Some, Result, Ok, Err}
use Rattle.ven_base.specs.Pairs.{Pairs}
use Rattle.array_file.specs.Fitting.{IsUnfit}
use Rattle.image_loader.specs.Image.{ImageContents}
use Rattle.venice_machine.specs.declared.stop.Stop.{Stop}
use Rattle.venice_machine.specs.declared.stop.Counts.{Counts}
use Rattle.venice_machine.specs.declared.stop.MakeFault.{MakeFault}
use Rattle.venice_machine.specs.declared.stop.MakeFault.TheVariants.{SpadTooSmall, Fit, Memory}
use Rattle.venice_machine.specs.declared.stop.End.TheVariants.{Halted, Stopped}
use Rattle.venice_machine.specs.State.{State}

abbrev pub counts_of : State → Counts
counts_of state = record { steps = state.steps; cycles = state.cycles }

-- a run that has ended so: its counts at HALT, and else its stop
abbrev pub RunEnds : State → Result Counts Stop → Type 0
RunEnds state (Ok counts) = (state.end ≡ Some Halted) × (counts ≡ counts_of state)
RunEnds state (Err stop) = state.end ≡ Some (Stopped stop)

-- why there is no machine of an image: the scratchpad is too small; or it isn't, and the inputs don't fit; or memory
-- ran out
abbrev pub IsNoMachine : ImageContents → (spad : ℕ) → (inputs : Pairs) → MakeFault → Type 0
IsNoMachine image spad inputs (SpadTooSmall need have) =
    (spad < image.spad) × (need ≡ image.spad) × (have ≡ spad)
IsNoMachine image spad inputs (Fit fault) = (image.spad ≤ spad) × IsUnfit inputs image.arrays fault
IsNoMachine image spad inputs Memory = Unit {0}
