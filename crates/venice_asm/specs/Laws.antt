-- What the definitions of assembler texts settle.
use Rattle.std.specs.Prelude.{◌≡◌, ℕ, List}
use Rattle.image_loader.specs.Image.{ImageContents, IsImage}
use Rattle.venice_asm.specs.declared.fault.AsmFault.{AsmFault}
use Rattle.venice_asm.specs.Canonical.{canonical}
use Rattle.venice_asm.specs.Faults.{DenotesImage, IsRefused}

-- a text denotes one image at most
abbrev pub HasOneImage : Type 0
HasOneImage = (text : List ℕ) (one other : ImageContents) → DenotesImage text one → DenotesImage text other → one ≡ other

-- and none where it has a fault
abbrev pub DenotesNothingAtFaults : Type 0
DenotesNothingAtFaults =
    (text : List ℕ) (image : ImageContents) (fault : AsmFault) → DenotesImage text image → ¬ IsRefused text fault

-- a text has one answer at most
abbrev pub HasOneAnswer : Type 0
HasOneAnswer = (text : List ℕ) (one other : AsmFault) → IsRefused text one → IsRefused text other → one ≡ other

-- an image's canonical text denotes it
abbrev pub DenotesItsImage : Type 0
DenotesItsImage = (image : ImageContents) → IsImage image → DenotesImage (canonical image) image
