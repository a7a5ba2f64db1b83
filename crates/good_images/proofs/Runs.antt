-- Runs of code with a list that is in order end well, whatever the list.
use Rattle.std.proofs.Common.{◌≡◌, ℕ, ◌+◌, ◌<◌, ◌≤◌, ap, ◌∙◌, refl, arith, List, ◌++◌, replicate, Some}
use Rattle.std.specs.Prelude.{All}
use Rattle.ven_base.specs.Store.{Store, store_size}
use Rattle.venice_isa.specs.declared.issue.Issue.{Issue}
use Rattle.venice_isa.specs.Beat.{beats_of_all, sequential}
use Rattle.image_loader.specs.Image.{ImageContents}
use Rattle.venice_machine.specs.declared.stop.End.TheVariants.{Halted}
use Rattle.venice_machine.specs.Run.{all_units}
use Rattle.venice_machine.specs.Start.{start_state, outputs_in}
use Rattle.shape_check.specs.Meaning.{meaning_of}
use Rattle.shape_check.specs.Statement.{Statement}
use Rattle.overlap_law.specs.Laws.{HasDisciplinedList, IsInOrder, DisciplinedRunsHalt, SameSteps}
use Rattle.overlap_law.specs.Runs.{Setting, Moment, Between}
use Rattle.good_images.specs.Good.{Given, end_of, EndsWell}

-- the run of an image that may make so many steps
abbrev pub setting_of : ImageContents → (most : ℕ) → Given → Setting
setting_of image most given = record { image = image; inputs = given.inputs; lane_count = given.lanes; spad = given.spad; most = most }

-- cells and memory before it
abbrev pub first_of : ImageContents → Given → Store
first_of image given = (start_state image given.inputs given.spad).store

-- its moment when it has ended
abbrev last_of : (most : ℕ) → (grants : List ℕ) → Moment
last_of most grants = Between (grants ++ replicate (most + 1) all_units)

pub ends_well : DisciplinedRunsHalt
    → (program : List Statement) (image : ImageContents) (most : ℕ) (given : Given) (grants : List ℕ) (host_steps : ℕ) (list : List Issue) → 0 < given.lanes
    → HasDisciplinedList image.code host_steps list → All (IsInOrder (store_size (first_of image given))) list
    → host_steps + beats_of_all list given.lanes ≤ most
    → outputs_in (sequential list given.lanes (first_of image given)).memory image.arrays ≡ meaning_of program given.inputs
    → EndsWell program image most given grants
ends_well halts program image most given grants host_steps list some has in_order enough outputs =
    let through = halts (setting_of image most given) grants host_steps list some has in_order enough in
    record {
      halts = through.halts;
      steps = omega (arith, through.steps, enough);
      cycles = through.cycles;
      outputs = ap (λ (store : Store). outputs_in store.memory image.arrays) through.leaves ∙ outputs;
    }

pub as_many_steps : SameSteps → (image : ImageContents) (most : ℕ) (one other : Given) (grants other_grants : List ℕ) → 0 < one.lanes
    → other.lanes ≡ one.lanes
    → (end_of image most one grants).end ≡ Some Halted → (end_of image most other other_grants).end ≡ Some Halted
    → (end_of image most other other_grants).steps ≡ (end_of image most one grants).steps
as_many_steps same image most one other grants other_grants some lanes ended other_ended =
    same (setting_of image most one) (setting_of image most other) (last_of most grants) (last_of most other_grants) some lanes refl ended other_ended
