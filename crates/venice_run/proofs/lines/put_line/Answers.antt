use Rattle.std.proofs.Common.{[], Err, ap, refl}
use Rattle.venice_run.specs.Promise.{FailsAt, LacksMemoryAt}
use Rattle.venice_run.proofs.lines.put_line.Goals as goal

pub returns-in-Err-Failed : goal.returns-in-Err-Failed
returns-in-Err-Failed g c =
    let put = rw c.in-Err-Failed.field-0-is at c.in-Err-Failed.ensures.put in
    FailsAt [] c.args.line.now [] refl put.1 put.0 (c.in-Err-Failed.ensures.counted.failed (ap Err c.in-Err-Failed.field-0-is)) refl

pub returns-in-Err-Memory : goal.returns-in-Err-Memory
returns-in-Err-Memory g c =
    LacksMemoryAt [] c.args.line.now [] refl (rw c.in-Err-Memory.field-0-is at c.in-Err-Memory.ensures.put)
    (c.in-Err-Memory.ensures.counted.kept (λ e. cc (c.in-Err-Memory.field-0-is))) refl
