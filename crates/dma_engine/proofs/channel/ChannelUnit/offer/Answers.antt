use Rattle.std.proofs.Common.{refl, sym, subst, arith, ◌<◌, length}
use Rattle.std.proofs.lemmas.Bool.{false≢true}
use Rattle.dma_engine.specs.Channel.{IsChannel}
use Rattle.dma_engine.proofs.Kept.{other_offered, is_something, jobs_length}
use Rattle.dma_engine.proofs.channel.ChannelUnit.offer.Goals as goal
use Rattle.dma_engine.proofs.channel.ChannelUnit.offer.Goals.{in-Ok, in-Err}

pub invariant_of-self-2 : goal.invariant_of-self-2
invariant_of-self-2 g c =
    let first = c.self.inside.first in
    let others = c.self.inside.others in
    elim c.match-try_push_back.branch [
      | in-Ok w ↦
          let room = w.in-Ok.ensures.variant.0 refl in
          subst (IsChannel first) (sym w.in-Ok.ensures.ok)
          (other_offered first others c.begin-current.result (is_something first c.if-is_none.ensures) c.self.invariant c.begin-current.ensures.under_way (omega (arith, room, c.self.invariant.capacity)))
      | in-Err w ↦ subst (IsChannel first) (sym w.in-Err.ensures.err.1) c.self.invariant
    ]

pub returns-clause-full : goal.returns-clause-full
returns-clause-full g c =
    let first = c.self.inside.first in
    let others = c.self.inside.others in
    let count = jobs_length first others.items (is_something first c.if-is_none.ensures) in
    elim c.match-try_push_back.branch [
      | in-Ok w ↦
          let room = w.in-Ok.ensures.variant.0 refl in
          rw (w.result-is, ← c.self.view_is) ((λ err. absurd (false≢true err)), (λ full. absurd (omega (arith, count, room, full, c.self.invariant.capacity))))
      | in-Err w ↦
          let no_room : ¬ (length others.items < others.capacity) = λ room. false≢true (w.in-Err.ensures.variant.1 room) in
          rw (w.result-is, ← c.self.view_is) ((λ err. omega (arith, count, no_room, c.self.invariant.capacity, c.self.invariant.within)), (λ full. refl))
    ]
