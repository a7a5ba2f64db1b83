-- What it is to read bytes as an image.
use Rattle.std.specs.Prelude.{◌≡◌, ◌⊎◌, ℕ, List, Result, IfOk, IfErr, MatchResult}
use Rattle.image_loader.specs.declared.fault.ImageFault.{ImageFault}
use Rattle.image_loader.specs.declared.fault.ImageFault.TheVariants.{Memory}
use Rattle.image_loader.specs.Image.{ImageContents, IsImage, spelling}
use Rattle.image_loader.specs.Faults.{IsFirstFault, IsAnswer}

-- the answer is the image that is spelled so, and else the first fault; out of memory alone is free
pub record IsLoading (bytes : List ℕ) (result : Result ImageContents ImageFault) : Type 0 where
  pub found : IfOk result IsImage
  pub spelled : IfOk result (λ image. bytes ≡ spelling image)
  pub only : (image : ImageContents) → IsImage image → bytes ≡ spelling image
      → MatchResult result (λ found. found ≡ image) (λ fault. fault ≡ Memory)
  pub fault : IfErr result (IsAnswer bytes)
  pub exact : (fault : ImageFault) → IsFirstFault bytes fault
      → MatchResult result (λ found. ⊥) (λ answer. (answer ≡ Memory) ⊎ (answer ≡ fault))
