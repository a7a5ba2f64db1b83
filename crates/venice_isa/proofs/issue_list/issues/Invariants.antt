use Rattle.std.proofs.Common.{◌≡◌, ℕ, ◌<◌, false, length}
use Rattle.venice_isa.specs.Host.{start, deed, after_steps, passed_in, is_halt}
use Rattle.venice_isa.specs.HostState.{host_of}
use Rattle.venice_isa.proofs.issue_list.issues.Given as goal

abbrev pub invariant-loop : goal.invariant-loop
invariant-loop l = record {
  host : host_of l.host ≡ after_steps l.code.instrs l.counter start;
  list : l.list.items ≡ passed_in l.code.instrs l.counter start;
  within : l.host.place < length l.code.instrs;
  goes_on : (k : ℕ) → k < l.counter → is_halt (deed l.code.instrs (after_steps l.code.instrs k start)) ≡ false;
}
