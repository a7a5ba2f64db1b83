use Rattle.host_programs.specs.ProgramCode.{vector_front, vector_back}
use Rattle.host_programs.specs.Shown.{vector_of}
use Rattle.host_programs.proofs.Settings.{set_on, where_ok}
use Rattle.host_programs.proofs.emit.emit_vector.Goals as goal

pub returns-clause-instrs : goal.returns-clause-instrs
returns-clause-instrs c =
    let work = vector_of c.args.work.now in
    where_ok c.emit_vector_back.result (set_on _ _ _ (vector_front work) (vector_back work) c.args.d c.args.place c.in_ok-back.back c.in_ok-back.ensures.instrs c.in_ok-back.ensures.next) c.emit_vector_back.ensures.instrs
