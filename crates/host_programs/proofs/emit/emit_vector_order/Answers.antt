use Rattle.host_programs.specs.Shown.{vector_of}
use Rattle.host_programs.proofs.Settings.{made_on, where_ok}
use Rattle.host_programs.proofs.emit.emit_vector_order.Goals as goal

pub returns-clause-instrs : goal.returns-clause-instrs
returns-clause-instrs c =
    where_ok c.emit_one.result (made_on _ _ _ (vector_of c.args.work.now) c.args.d c.args.place c.in_ok-last.ensures.instrs) c.emit_one.ensures.instrs
