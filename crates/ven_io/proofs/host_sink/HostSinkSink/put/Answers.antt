use Rattle.ven_io.proofs.SinkLemmas.{host_puts}
use Rattle.ven_io.proofs.host_sink.HostSinkSink.put.Goals as goal

pub returns-then-is_err-clause-put : goal.returns-then-is_err-clause-put
returns-then-is_err-clause-put g c = host_puts c.args.self.now c.saturating_add-self-inside.result c.args.bytes.now c.write_whole-put.result
