-- The command `exec`: it runs an image, and prints the outputs as memory holds them at `halt`, and the counts.
use Rattle.std.specs.Prelude.{◌≡◌, ℕ, List, [], ◌∷◌, ◌++◌, Option, codes}
use Rattle.ven_base.specs.declared.entry.Entry.{Entry}
use Rattle.ven_base.specs.Pairs.{Pairs}
use Rattle.ven_io.specs.Files.{Behaviour}
use Rattle.array_file.specs.Output.{arrays_text}
use Rattle.image_loader.specs.Image.{ImageContents}
use Rattle.venice_machine.specs.declared.stop.Counts.{Counts}
use Rattle.venice_machine.specs.Answers.{counts_of, RunEnds}
use Rattle.venice_machine.specs.Run.{run}
use Rattle.venice_machine.specs.Start.{setup_of, start_state, outputs_in}
use Rattle.venice_machine.specs.State.{State}
use Rattle.venice_run.specs.declared.request.Resources.{Resources}
use Rattle.venice_run.specs.Answer.{Answer, prints}
use Rattle.venice_run.specs.Endings.{machine_ending}
use Rattle.venice_run.specs.Grants.{grants_under}
use Rattle.venice_run.specs.Images.{image_under}
use Rattle.venice_run.specs.Inputs.{inputs_under}
use Rattle.venice_run.specs.Line.{Number, spaced}
use Rattle.venice_run.specs.Plan.{has_room}
use Rattle.venice_run.specs.Stage.{Stage, ◌>>=◌, ◌>>◌, step, gives}

-- the state in which the run of an image on these arrays ends, under these grants
abbrev pub end_of_run : ImageContents → Resources → (arrays : Pairs) → (grants : List ℕ) → State
end_of_run image resources arrays grants =
    run (setup_of image resources.lanes) resources.budget grants (start_state image arrays resources.spad)

-- the lines of the steps and the cycles
abbrev pub counts_text : Counts → List ℕ
counts_text counts =
    spaced (codes "steps") (Number counts.steps ∷ []) ++ spaced (codes "cycles") (Number counts.cycles ∷ [])

-- the outputs of the table as memory holds them, and the counts
abbrev pub run_text : List Entry → State → List ℕ
run_text table state = arrays_text (outputs_in state.store.memory table) ++ counts_text (counts_of state)

-- a run that has ended so is printed where it came to `halt`; else the machine's stop is the refusal
unfoldable pub prints_run : List Entry → State → Stage Answer
prints_run table state = do
  counts ← step machine_ending (RunEnds state)
  prints (run_text table state)

-- an image, and arrays that fit its inputs
pub record Fed : Type 0 where
  pub image : ImageContents
  pub arrays : Pairs

-- those under the names, where a scratchpad of so many bytes holds what the image needs
unfoldable pub fed_image : Behaviour → (image inputs : List ℕ) → ℕ → Stage Fed
fed_image files image inputs spad = do
  loaded ← image_under files image
  has_room loaded.spad spad
  arrays ← inputs_under files inputs loaded.arrays
  gives (λ fed. fed ≡ record { image = loaded; arrays = arrays })

unfoldable pub exec : Behaviour → (image inputs : List ℕ) → Resources → (grants : Option (List ℕ)) → Stage Answer
exec files image inputs resources grants = do
  fed ← fed_image files image inputs resources.spad
  list ← grants_under files grants
  prints_run fed.image.arrays (end_of_run fed.image resources fed.arrays list)
