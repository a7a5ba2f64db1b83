use Rattle.std.proofs.Common.{◌∙◌, ap, sym, subst, ◌+◌, ◌++◌, replicate}
use Rattle.venice_machine.specs.State.{Setup}
use Rattle.venice_machine.specs.Run.{all_units, after_cycles}
use Rattle.venice_machine.specs.Machine.{Shows}
use Rattle.venice_machine.proofs.Cycling.{cycles_more}
use Rattle.venice_machine.proofs.machine.Machine.run.Goals as goal

pub returns-clause-state : goal.returns-clause-state
returns-clause-state c = λ state shows.
    let setup = c.args.self.now.setup in
    let full = replicate (c.args.budget + 1) all_units in
    let first = after_cycles setup c.args.budget c.args.grants.now state in
    subst (Shows c.full_cycles.new.self)
    (ap (λ (setup : Setup). after_cycles setup c.args.budget full first) c.granted_cycles.ensures.setup ∙ sym (cycles_more setup c.args.budget c.args.grants.now full state))
    (c.full_cycles.ensures.state first (c.granted_cycles.ensures.state state shows))

pub returns-clause-answer : goal.returns-clause-answer
returns-clause-answer c = λ state shows.
    let setup = c.args.self.now.setup in
    let full = replicate (c.args.budget + 1) all_units in
    let first = after_cycles setup c.args.budget c.args.grants.now state in
    c.ends.ensures (after_cycles setup c.args.budget (c.args.grants.now ++ full) state)
    (subst (Shows c.full_cycles.new.self)
    (ap (λ (setup : Setup). after_cycles setup c.args.budget full first) c.granted_cycles.ensures.setup ∙ sym (cycles_more setup c.args.budget c.args.grants.now full state))
    (c.full_cycles.ensures.state first (c.granted_cycles.ensures.state state shows)))
