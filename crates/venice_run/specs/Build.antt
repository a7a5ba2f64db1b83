-- The command `build`: it saves the image of a program, and prints nothing.
use Rattle.std.specs.Prelude.{ℕ, List, []}
use Rattle.ven_io.specs.Files.{Behaviour}
use Rattle.image_loader.specs.Image.{spelling}
use Rattle.venice_run.specs.Answer.{Answer, saves_and_prints}
use Rattle.venice_run.specs.Compiled.{compiled}
use Rattle.venice_run.specs.Plan.{Planned, plan_under}
use Rattle.venice_run.specs.Stage.{Stage, ◌>>=◌}

-- the program's image is saved, and nothing is printed
abbrev pub saves_image : (image : List ℕ) → Planned → ℕ → Stage Answer
saves_image image planned spad = do
  made ← compiled planned spad
  saves_and_prints image (spelling made) []

unfoldable pub build : Behaviour → (program image : List ℕ) → ℕ → Stage Answer
build files program image spad = do
  planned ← plan_under files program spad
  saves_image image planned spad
