use Rattle.venice_asm.proofs.Endings.{result_maps}
use Rattle.venice_asm.specs.Moves.{NoOperand}
use Rattle.venice_asm.proofs.reading.Reading.take_instr.Goals as goal

pub returns-in-Ok : goal.returns-in-Ok
returns-in-Ok c =
    result_maps _ _ _ _ c.take_behind.result c.take_behind.ensures
    (λ done t. record { head = c.in-Ok.head; is = c.in-Ok.ensures; mid = c.enter.new.self; entered = c.enter.ensures; takes = t })
    (λ fault r. NoOperand c.in-Ok.head c.enter.new.self c.in-Ok.ensures c.enter.ensures r)
