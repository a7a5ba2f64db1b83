use Rattle.std.proofs.Common.{inl, inr, sym, ◌∙◌, IsTrue}
use Rattle.std.proofs.lemmas.Bool.{false≢true}
use Rattle.venice_isa.specs.Footprint.{cells_of, memory_of}
use Rattle.venice_isa.proofs.Conflicts.{read_and_write, same_regions}
use Rattle.venice_isa.proofs.meeting.share_bytes.Goals as goal

pub returns-then-meet : goal.returns-then-meet
returns-then-meet c =
    let cells = same_regions (IsTrue c.meet.result) c.cells.result c.cells-2.result (cells_of c.args.read.now) (cells_of c.args.write.now) c.cells.ensures c.cells-2.ensures c.meet.ensures in
    let law = read_and_write c.args.read.now c.args.write.now in
    (λ test. law.1 (inl (cells.0 test)), λ conflict. c.if-meet.true)

pub returns-else-meet : goal.returns-else-meet
returns-else-meet c =
    let cells = same_regions (IsTrue c.meet.result) c.cells.result c.cells-2.result (cells_of c.args.read.now) (cells_of c.args.write.now) c.cells.ensures c.cells-2.ensures c.meet.ensures in
    let memory = same_regions (IsTrue c.meet-else-meet.result) c.memory.result c.memory-else-meet.result (memory_of c.args.read.now) (memory_of c.args.write.now) c.memory.ensures c.memory-else-meet.ensures c.meet-else-meet.ensures in
    let law = read_and_write c.args.read.now c.args.write.now in (
      λ test. law.1 (inr (memory.0 test)),
      λ conflict. elim (law.0 conflict) [ inl meet ↦ absurd (false≢true (sym c.if-meet.false ∙ cells.1 meet)) | inr meet ↦ memory.1 meet ],
    )
