use Rattle.std.proofs.Common.{◌∙◌, ap, length}
use Rattle.ven_base.specs.Store.{Size, store_of, store_size}
use Rattle.venice_isa.specs.Tests.{is_in_range}
use Rattle.venice_isa.proofs.TestsRight.{decided}
use Rattle.venice_machine.specs.Machine.{MachineContents}
use Rattle.venice_machine.proofs.Hazards.{same_truth}
use Rattle.venice_machine.proofs.machine.Machine.is_in_range.Goals as goal

pub returns : goal.returns
returns c =
    let size : Size = record { cells = c.len.result; memory = c.len-2.result } in
    let cells = ap (λ n. record { cells = n; memory = c.len-2.result }) c.len.ensures.count in
    let both = cells ∙ ap (λ n. record { cells = length c.self.inside.cells; memory = n }) c.len-2.ensures.count in
    same_truth c.is_in_range.result (is_in_range size c.args.issue.now) c.is_in_range.ensures (decided.range size c.args.issue.now)
    ∙ ap (λ size. is_in_range size c.args.issue.now) both
    ∙ ap (λ (machine : MachineContents). is_in_range (store_size (store_of machine.cells machine.memory)) c.args.issue.now) c.self.view_is
