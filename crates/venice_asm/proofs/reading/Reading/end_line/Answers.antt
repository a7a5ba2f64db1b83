use Rattle.venice_asm.proofs.Endings.{result_maps, ended_instr}
use Rattle.venice_asm.proofs.reading.Reading.end_line.Goals as goal

pub returns-in_default : goal.returns-in_default
returns-in_default c =
    result_maps _ _ _ _ c.end_instr.result c.end_instr.ensures
    (λ done h. ended_instr c.args.head c.args.last_at c.args.self.now c.end_instr.new.self c.in_default.not-Version c.in_default.not-Spad c.in_default.not-Memory c.in_default.not-Array h)
    (λ fault m. m)
