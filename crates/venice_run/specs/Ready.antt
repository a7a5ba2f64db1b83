-- Inner: machines that are made for a run.
use Rattle.std.specs.Prelude.{◌≡◌, ℕ, ◌≤◌, List, Some, Ok, Err}
use Rattle.ven_io.specs.Files.{Behaviour}
use Rattle.ven_base.specs.Pairs.{Pairs}
use Rattle.array_file.specs.Fitting.{Fits}
use Rattle.image_loader.specs.Image.{ImageContents}
use Rattle.venice_machine.specs.declared.stop.End.TheVariants.{Halted}
use Rattle.venice_machine.specs.Machine.{MachineContents, Shows}
use Rattle.venice_machine.specs.Start.{setup_of, start_state}
use Rattle.venice_run.specs.declared.request.Resources.{Resources}
use Rattle.venice_run.specs.Exec.{Fed, end_of_run, fed_image}
use Rattle.venice_run.specs.Stage.{Stage}

-- the machine stands at the start of the image's run on the arrays
pub record IsReady (resources : Resources) (fed : Fed) (machine : MachineContents) : Type 0 where
  pub setup : machine.setup ≡ setup_of fed.image resources.lanes
  pub shows : Shows machine (start_state fed.image fed.arrays resources.spad)

-- such a machine for the image and the arrays under the names, or why there is none
abbrev pub readies : Behaviour → (image inputs : List ℕ) → Resources → Stage MachineContents
readies files image inputs resources (Ok machine) =
    (fed : Fed) × fed_image files image inputs resources.spad (Ok fed) × IsReady resources fed machine
readies files image inputs resources (Err ending) = fed_image files image inputs resources.spad (Err ending)

-- a scratchpad of so many bytes holds the image, the arrays fit its table, and its run on them comes to HALT
pub record HaltsOn (image : ImageContents) (resources : Resources) (arrays : Pairs) : Type 0 where
  pub room : image.spad ≤ resources.spad
  pub fits : Fits arrays image.arrays
  pub halts : (grants : List ℕ) → (end_of_run image resources arrays grants).end ≡ Some Halted
