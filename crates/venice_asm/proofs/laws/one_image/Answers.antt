use Rattle.venice_asm.proofs.OneImage.{one_image_holds, nothing_at_faults}
use Rattle.venice_asm.proofs.laws.one_image.Goals as goal

pub returns-clause-one : goal.returns-clause-one
returns-clause-one c = one_image_holds

pub returns-clause-at_faults : goal.returns-clause-at_faults
returns-clause-at_faults c = nothing_at_faults
