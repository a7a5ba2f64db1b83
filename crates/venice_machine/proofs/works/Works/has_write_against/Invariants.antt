use Rattle.std.proofs.Common.{◌≡◌, take, false}
use Rattle.std.specs.List.{list_any}
use Rattle.venice_isa.specs.declared.issue.Issue.TheVariants.{Write}
use Rattle.venice_isa.specs.Tests.{are_in_conflict}
use Rattle.venice_machine.proofs.works.Works.has_write_against.Given as goal

abbrev pub invariant-loop-k : goal.invariant-loop-k
invariant-loop-k l = list_any (λ job. are_in_conflict (Write job.work) l.issue) (take l.k l.self.queues.writes.jobs) ≡ false
