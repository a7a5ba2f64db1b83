-- The command `asm`: it saves the image that an assembler text denotes, and prints nothing.
use Rattle.std.specs.Prelude.{ℕ, List, [], Result, Ok, Err}
use Rattle.ven_io.specs.Files.{Behaviour}
use Rattle.image_loader.specs.Image.{ImageContents, spelling}
use Rattle.venice_asm.specs.declared.fault.AsmFault.{AsmFault}
use Rattle.venice_asm.specs.Faults.{DenotesImage, IsAnswered}
use Rattle.venice_run.specs.declared.refusal.Kind.TheVariants as kind
use Rattle.venice_run.specs.Answer.{Answer, saves_and_prints}
use Rattle.venice_run.specs.Endings.{assembler_ending}
use Rattle.venice_run.specs.Reading.{loads}
use Rattle.venice_run.specs.Stage.{Stage, ◌>>=◌, step}

-- the image that the text denotes, or its first fault
abbrev pub Assembles : List ℕ → Result ImageContents AsmFault → Type 0
Assembles text (Ok image) = DenotesImage text image
Assembles text (Err fault) = IsAnswered text fault

unfoldable pub assembled : List ℕ → Stage ImageContents
assembled text = step assembler_ending (Assembles text)

unfoldable pub asm : Behaviour → (text image : List ℕ) → Stage Answer
asm files text image = do
  lines ← loads files text kind.Text
  denoted ← assembled lines
  saves_and_prints image (spelling denoted) []
