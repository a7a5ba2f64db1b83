use Rattle.std.proofs.Common.{ap, sym, subst, arith}
use Rattle.std.specs.Prelude.{All, length}
use Rattle.std.proofs.lemmas.List.Elements.{All-nil}
use Rattle.circular_buffer.specs.Buffer.{Buffer}
use Rattle.dma_engine.specs.declared.current.Current.{Current}
use Rattle.dma_engine.specs.Current.{IsUnderWay}
use Rattle.dma_engine.proofs.channel.Channel.new.Goals as goal

pub invariant_of-result : goal.invariant_of-result
invariant_of-result g c =
    let empty = ap (λ (q : Buffer Current). q.items) c.in_ok-others.ensures in
    record {
      capacity = ap (λ (q : Buffer Current). q.capacity) c.in_ok-others.ensures;
      within = omega (arith, ap length empty);
      front = empty;
      under_way = subst (All IsUnderWay) (sym empty) (All-nil IsUnderWay);
    }
