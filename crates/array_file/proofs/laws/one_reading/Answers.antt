use Rattle.array_file.proofs.Answering.{read_on}
use Rattle.array_file.proofs.Settled.{one_reading_holds, nothing_at_faults, one_answer}
use Rattle.array_file.proofs.laws.one_reading.Goals as goal

pub returns-clause-one : goal.returns-clause-one
returns-clause-one c = one_reading_holds

pub returns-clause-at_faults : goal.returns-clause-at_faults
returns-clause-at_faults c = nothing_at_faults

pub returns-clause-answer : goal.returns-clause-answer
returns-clause-answer c = one_answer
