use Rattle.std.proofs.Common.{◌/◌, ◌≤◌, length, take, arith, rules}
use Rattle.std.proofs.lemmas.Grind.{common_steps}
use Rattle.ven_io.specs.Numbers.{FailsNext}
use Rattle.ven_io.proofs.SinkLemmas.{takes}
use Rattle.ven_io.proofs.mem_sink.MemSinkSink.put.Goals as goal

pub returns-then-fails-2-clause-put : goal.returns-then-fails-2-clause-put
returns-then-fails-2-clause-put c =
    let next : FailsNext c.args.self.now.numbers = grind (arith, common_steps) in
    let half : length c.args.bytes.now / 2 ≤ length c.args.bytes.now = omega arith in
    let part = takes c.args.self.now.bytes c.extend_from_slice.new.self.items c.args.self.now.numbers.fails c.self.inside.fails.items
    c.args.self.now.failed_puts c.saturating_add-self-inside-then-fails-2.result (take (length c.args.bytes.now / 2) c.args.bytes.now) (search rules) (search rules) in
    (record { number = _; listed = next }, record { count = length c.args.bytes.now / 2; within = half; taken = part })

pub returns-clause-put : goal.returns-clause-put
returns-clause-put c =
    takes c.args.self.now.bytes c.extend_from_slice.new.self.items c.args.self.now.numbers.fails c.self.inside.fails.items
    c.args.self.now.failed_puts c.self.inside.failed_puts c.args.bytes.now (search rules) (search rules)
