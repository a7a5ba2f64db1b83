use Rattle.std.proofs.Common.{◌∙◌, ap, length}
use Rattle.ven_base.specs.Store.{store_of, store_size}
use Rattle.ven_base.proofs.Exchange.{more_in, size_after}
use Rattle.venice_machine.proofs.Beaten.{length_after}
use Rattle.venice_machine.proofs.works.beat_many.Goals as goal

pub returns-clause-same_length : goal.returns-clause-same_length
returns-clause-same_length g c =
    let of = g.U.Unit in
    let made = of.setting c.args.unit.now in
    let jobs = of.jobs c.args.unit.now in
    let store = store_of c.args.cells.now c.args.memory.now in
    ap length c.beats.ensures.jobs
    ∙ length_after (record { course = of.course made; reads = of.reads; writes = of.writes }) (λ job first second. g.met.U.Unit.keeps_to_footprint made job first second c.unfinished.ensures.setting) c.args.count jobs store
    (more_in (record { course = of.course made; reads = of.reads; writes = of.writes }) (store_size store) c.args.count jobs c.requires.more c.requires.inside)

pub returns-clause-same_size : goal.returns-clause-same_size
returns-clause-same_size g c =
    let of = g.U.Unit in
    let made = of.setting c.args.unit.now in
    let jobs = of.jobs c.args.unit.now in
    let store = store_of c.args.cells.now c.args.memory.now in
    ap store_size c.beats.ensures.store
    ∙ size_after (record { course = of.course made; reads = of.reads; writes = of.writes }) (λ job first second. g.met.U.Unit.keeps_to_footprint made job first second c.unfinished.ensures.setting) c.args.count jobs store
    (more_in (record { course = of.course made; reads = of.reads; writes = of.writes }) (store_size store) c.args.count jobs c.requires.more c.requires.inside)
