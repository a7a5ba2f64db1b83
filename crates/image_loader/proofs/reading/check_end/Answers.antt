use Rattle.image_loader.proofs.Stops.{no_halt, more_bytes}
use Rattle.image_loader.proofs.reading.check_end.Goals as goal

pub returns-then-not-ends_with_halt-clause-fault : goal.returns-then-not-ends_with_halt-clause-fault
returns-then-not-ends_with_halt-clause-fault c =
    no_halt c.args.bytes.now c.args.instrs.now c.args.end c.requires.end c.requires.read (λ halts. cc (c.ends_with_halt.ensures.1 halts, c.if-not-ends_with_halt.true))

pub returns-then-end-bytes-clause-fault : goal.returns-then-end-bytes-clause-fault
returns-then-end-bytes-clause-fault c =
    more_bytes c.args.bytes.now c.args.instrs.now c.args.end c.requires.end c.requires.read (c.ends_with_halt.ensures.0 c.if-not-ends_with_halt.false) c.if-end-bytes.true
