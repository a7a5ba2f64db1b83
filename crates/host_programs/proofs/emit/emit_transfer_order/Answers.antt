use Rattle.host_programs.specs.Shown.{transfer_of}
use Rattle.host_programs.proofs.Settings.{sent_on, where_ok}
use Rattle.host_programs.proofs.emit.emit_transfer_order.Goals as goal

pub returns-clause-instrs : goal.returns-clause-instrs
returns-clause-instrs c =
    where_ok c.emit_one-2.result
    (sent_on _ _ _ _ _ c.args.write (transfer_of c.args.work.now) c.args.d c.args.place c.in_ok-tag.tag c.register_of-a.result c.in_ok-tag.ensures.instrs c.in_ok-tag.ensures.next c.register_of-a.ensures c.in_ok-second.ensures.instrs c.in_ok-last.ensures.instrs)
    c.emit_one-2.ensures.instrs
