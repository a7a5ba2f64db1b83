-- The image under a name: its bytes, read.
use Rattle.std.specs.Prelude.{ℕ, List}
use Rattle.ven_io.specs.Files.{Behaviour}
use Rattle.image_loader.specs.Image.{ImageContents}
use Rattle.image_loader.specs.Loading.{IsLoading}
use Rattle.venice_run.specs.declared.refusal.Kind.TheVariants as kind
use Rattle.venice_run.specs.Endings.{image_ending}
use Rattle.venice_run.specs.Reading.{loads}
use Rattle.venice_run.specs.Stage.{Stage, ◌>>=◌, step}

-- the image that the bytes spell, or their first fault
unfoldable pub image_in : List ℕ → Stage ImageContents
image_in bytes = step image_ending (IsLoading bytes)

-- the image under the name
unfoldable pub image_under : Behaviour → List ℕ → Stage ImageContents
image_under files name = do
  bytes ← loads files name kind.Image
  image_in bytes
