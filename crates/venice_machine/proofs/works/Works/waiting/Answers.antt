use Rattle.std.proofs.Common.{arith, ◌==◌}
use Rattle.std.proofs.lemmas.List.Sums.{count_by-le-length}
use Rattle.ven_base.specs.Job.{Job}
use Rattle.venice_isa.specs.declared.work.DmaWork.{DmaWork}
use Rattle.venice_isa.specs.Beat.{Progress}
use Rattle.venice_machine.proofs.works.Works.waiting.Goals as goal

pub overflow_add-tagged : goal.overflow_add-tagged
overflow_add-tagged c =
    let few_reads = count_by-le-length (λ (job : Job DmaWork Progress). job.work.tag == c.in-Some.tag) c.self.inside.reads in
    let few_writes = count_by-le-length (λ (job : Job DmaWork Progress). job.work.tag == c.in-Some.tag) c.self.inside.writes in
    omega (arith, few_reads, few_writes, c.tagged.ensures, c.tagged-in-Some.ensures, c.unfinished-read.ensures.in_order.within, c.unfinished-write.ensures.in_order.within)
