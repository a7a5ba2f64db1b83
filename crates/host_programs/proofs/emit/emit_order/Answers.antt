use Rattle.host_programs.proofs.emit.emit_order.Goals as goal

pub returns-in-IssueTransfer-clause-instrs : goal.returns-in-IssueTransfer-clause-instrs
returns-in-IssueTransfer-clause-instrs c = rw c.in-IssueTransfer.is c.emit_transfer_order.ensures.instrs
