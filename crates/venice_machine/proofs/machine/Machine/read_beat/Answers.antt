use Rattle.std.proofs.Common.{sym, subst}
use Rattle.venice_machine.specs.Working.{UnitsInside}
use Rattle.venice_machine.specs.Inside.{contents_of, IsMachine}
use Rattle.venice_machine.proofs.Turning.{read_keeps}
use Rattle.venice_machine.proofs.machine.Machine.read_beat.Goals as goal

pub invariant_of-self : goal.invariant_of-self
invariant_of-self c =
    let beat = c.beat_reads in
    subst (λ (units : UnitsInside). IsMachine (contents_of (record c.self.inside { works = units; cells = beat.new.cells; memory = beat.new.memory }))) (sym beat.ensures.works)
    (read_keeps (contents_of c.self.inside) c.args.second beat.new.cells beat.new.memory c.self.invariant beat.ensures.same_size)
