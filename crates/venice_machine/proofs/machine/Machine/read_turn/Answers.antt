use Rattle.std.proofs.Common.{◌∙◌, sym, length}
use Rattle.venice_machine.proofs.Turning.{read_turned_by, read_idle_by, read_bits_by, some_first, some_second}
use Rattle.venice_machine.proofs.machine.Machine.read_turn.Goals as goal

pub returns-in-Nothing-clause-state : goal.returns-in-Nothing-clause-state
returns-in-Nothing-clause-state c =
    read_idle_by c.args.self.now c.read_beat.ensures.numbered c.args.second c.args.most c.overtakes-second.result c.overtakes-second.ensures
    c.read_beat.new.self c.read_beat.ensures.works c.read_beat.ensures.store (sym c.read_beat.ensures.beaten ∙ c.in-Nothing.is)

pub returns-in-First-clause-state : goal.returns-in-First-clause-state
returns-in-First-clause-state c =
    read_turned_by c.args.self.now c.read_beat.ensures.numbered c.args.second c.args.most c.overtakes-second.result c.overtakes-second.ensures
    c.read_beat.new.self c.read_beat.ensures.works c.read_beat.ensures.store
    (some_first c.overtakes-second.result (length c.args.self.now.queues.reads.jobs) (sym c.read_beat.ensures.beaten ∙ c.in-First.is)) c.count.new.self c.count.ensures.counted

pub returns-in-First-clause-answer : goal.returns-in-First-clause-answer
returns-in-First-clause-answer c =
    read_bits_by c.args.self.now c.read_beat.ensures.numbered c.args.second c.args.most c.overtakes-second.result c.overtakes-second.ensures
    _ (sym c.in-First.is ∙ c.read_beat.ensures.beaten)

pub returns-in-Second-clause-state : goal.returns-in-Second-clause-state
returns-in-Second-clause-state c =
    read_turned_by c.args.self.now c.read_beat.ensures.numbered c.args.second c.args.most c.overtakes-second.result c.overtakes-second.ensures
    c.read_beat.new.self c.read_beat.ensures.works c.read_beat.ensures.store
    (some_second c.overtakes-second.result (length c.args.self.now.queues.reads.jobs) (sym c.read_beat.ensures.beaten ∙ c.in-Second.is)) c.count-in-Second.new.self c.count-in-Second.ensures.counted

pub returns-in-Second-clause-answer : goal.returns-in-Second-clause-answer
returns-in-Second-clause-answer c =
    read_bits_by c.args.self.now c.read_beat.ensures.numbered c.args.second c.args.most c.overtakes-second.result c.overtakes-second.ensures
    _ (sym c.in-Second.is ∙ c.read_beat.ensures.beaten)
