use Rattle.std.proofs.Common.{◌↔◌, inl, inr, sym, ◌∙◌, subst, IsTrue}
use Rattle.std.proofs.lemmas.Bool.{false≢true}
use Rattle.venice_isa.specs.Footprint.{destination}
use Rattle.venice_isa.specs.Meeting.{Meet}
use Rattle.venice_isa.proofs.Conflicts.{by_source, which_touch}
use Rattle.venice_isa.proofs.meeting.touches.Goals as goal

pub returns-else-meet : goal.returns-else-meet
returns-else-meet c =
    let meets : IsTrue c.meet.result ↔ Meet (destination c.args.work.now) c.args.region = subst (λ region. IsTrue c.meet.result ↔ Meet region c.args.region) c.destination.ensures c.meet.ensures in (
      λ test. by_source c.args.work.now c.args.region (c.reads_from.ensures.0 test),
      λ touch. elim (which_touch c.args.work.now c.args.region touch) [ inl meet ↦ absurd (false≢true (sym c.if-meet.false ∙ meets.1 meet)) | inr read ↦ c.reads_from.ensures.1 read ],
    )
