use Rattle.venice_asm.proofs.Settled.{one_answer_holds}
use Rattle.venice_asm.proofs.laws.one_answer.Goals as goal

pub returns : goal.returns
returns c = one_answer_holds
