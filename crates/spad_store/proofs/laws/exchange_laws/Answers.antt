use Rattle.ven_base.proofs.Exchange.{beats_exchange, many_past_one}
use Rattle.spad_store.proofs.laws.exchange_laws.Goals as goal

pub returns : goal.returns
returns g c = record {
  exchange = λ made other_made can other_can.
      beats_exchange (record { course = g.A.Unit.course made; reads = g.A.Unit.reads; writes = g.A.Unit.writes })
      (record { course = g.B.Unit.course other_made; reads = g.B.Unit.reads; writes = g.B.Unit.writes })
      (λ job first second. g.met.A.Unit.keeps_to_footprint made job first second can)
      (λ job first second. g.met.B.Unit.keeps_to_footprint other_made job first second other_can);
  many = λ made other_made can other_can.
      many_past_one (record { course = g.A.Unit.course made; reads = g.A.Unit.reads; writes = g.A.Unit.writes })
      (record { course = g.B.Unit.course other_made; reads = g.B.Unit.reads; writes = g.B.Unit.writes })
      (λ job first second. g.met.A.Unit.keeps_to_footprint made job first second can)
      (λ job first second. g.met.B.Unit.keeps_to_footprint other_made job first second other_can);
}
