use Rattle.std.proofs.Common.{◌↔◌, inl, inr, sym, ◌∙◌, subst, IsTrue}
use Rattle.std.proofs.lemmas.Bool.{false≢true}
use Rattle.venice_isa.specs.Footprint.{destination}
use Rattle.venice_isa.proofs.Conflicts.{Touches, ReadsFrom, vectors_by_touch, vectors_by_read, vectors_which}
use Rattle.venice_isa.proofs.meeting.vectors_conflict.Goals as goal

pub returns-then-touches : goal.returns-then-touches
returns-then-touches c =
    let touches : IsTrue c.touches.result ↔ Touches c.args.first.now (destination c.args.second.now) = subst (λ region. IsTrue c.touches.result ↔ Touches c.args.first.now region) c.destination.ensures c.touches.ensures in
    (λ test. vectors_by_touch c.args.first.now c.args.second.now (touches.0 test), λ conflict. c.if-touches.true)

pub returns-else-touches : goal.returns-else-touches
returns-else-touches c =
    let touches : IsTrue c.touches.result ↔ Touches c.args.first.now (destination c.args.second.now) = subst (λ region. IsTrue c.touches.result ↔ Touches c.args.first.now region) c.destination.ensures c.touches.ensures in
    let reads : IsTrue c.reads_from.result ↔ ReadsFrom c.args.second.now (destination c.args.first.now) = subst (λ region. IsTrue c.reads_from.result ↔ ReadsFrom c.args.second.now region) c.destination-else-touches.ensures c.reads_from.ensures in (
      λ test. vectors_by_read c.args.first.now c.args.second.now (reads.0 test),
      λ conflict. elim (vectors_which c.args.first.now c.args.second.now conflict) [ inl touch ↦ absurd (false≢true (sym c.if-touches.false ∙ touches.1 touch)) | inr read ↦ reads.1 read ],
    )
