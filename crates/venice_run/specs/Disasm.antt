-- The command `disasm`: it prints the canonical assembler text of an image.
use Rattle.std.specs.Prelude.{ℕ, List}
use Rattle.ven_io.specs.Files.{Behaviour}
use Rattle.venice_asm.specs.Canonical.{canonical}
use Rattle.venice_run.specs.Answer.{Answer, prints}
use Rattle.venice_run.specs.Images.{image_under}
use Rattle.venice_run.specs.Stage.{Stage, ◌>>=◌}

unfoldable pub disasm : Behaviour → (image : List ℕ) → Stage Answer
disasm files image = do
  loaded ← image_under files image
  prints (canonical loaded)
