use Rattle.std.proofs.Common.{arith, ◌∙◌, sym, subst, ap}
use Rattle.std.specs.Int.{w128}
use Rattle.std.proofs.lemmas.Int.{to_z-of_z}
use Rattle.lane_machine.specs.Current.{IsNext, gone_on}
use Rattle.lane_machine.proofs.Currents.{can_go, can_turn, goes_on, turns, ends}
use Rattle.lane_machine.proofs.current.Current.advance.Goals as goal

pub go_on-requires : goal.go_on-requires
go_on-requires c =
    can_go c.args.work.now c.requires.counts c.args.self.now c.requires.at c.requires.inside (omega arith) (omega arith) (rw c.requires.count at c.if-count-vl.true)

pub next_row-requires : goal.next_row-requires
next_row-requires c =
    can_turn c.args.work.now c.requires.counts c.args.self.now c.requires.at c.requires.inside (omega arith) (omega arith)

pub returns-then-count-vl-clause-goes_on : goal.returns-then-count-vl-clause-goes_on
returns-then-count-vl-clause-goes_on c = λ going.
    let current = c.args.self.now in
    let is = c.go_on.ensures ∙ ap (gone_on current) (to_z-of_z w128 c.args.sum c.ranges.sum) in
    subst (IsNext c.args.work.now current c.args.sum) (sym is)
    (goes_on c.args.work.now c.requires.counts current c.requires.at c.args.sum (rw c.requires.count at c.if-count-vl.true) (rw c.requires.count at c.requires.bounded))

pub returns-then-rows-self-gt1-clause-goes_on : goal.returns-then-rows-self-gt1-clause-goes_on
returns-then-rows-self-gt1-clause-goes_on c = λ going.
    let current = c.args.self.now in
    subst (IsNext c.args.work.now current c.args.sum) (sym c.next_row.ensures)
    (turns c.args.work.now c.requires.counts current c.requires.at c.args.sum (rw c.requires.count at c.if-count-vl.false) c.if-rows-self-gt1.true)

pub returns-else-rows-self-gt1-clause-ends : goal.returns-else-rows-self-gt1-clause-ends
returns-else-rows-self-gt1-clause-ends c = λ over.
    ends c.args.work.now c.requires.counts c.args.self.now c.requires.at (rw c.requires.count at c.if-count-vl.false) c.if-rows-self-gt1.false
