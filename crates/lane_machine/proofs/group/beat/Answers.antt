use Rattle.std.proofs.Common.{arith, sym, ◌∙◌, ◌+◌, subst, rules}
use Rattle.std.proofs.lemmas.Bool.{cond-true}
use Rattle.lane_machine.specs.Current.{IsBounded}
use Rattle.lane_machine.specs.Elements.{wider}
use Rattle.lane_machine.proofs.Groups.{bounded_sum, exact_sum}
use Rattle.lane_machine.proofs.Spelled.{few_of_group, few_in_group, few_bytes, sum_is}
use Rattle.lane_machine.proofs.Beats.{sum_same, sum_beat_ends, sum_beat_goes_on, group_beat}
use Rattle.lane_machine.proofs.group.beat.Goals as goal

pub work_out-requires-clause-few : goal.work_out-requires-clause-few
work_out-requires-clause-few c =
    let kind = c.args.work.now.kind in
    few_in_group c.args.current.now.group_items c.args.count (wider kind.elem kind.from) (omega arith) c.requires.at.placed.few

pub sum_of-requires : goal.sum_of-requires
sum_of-requires c =
    let kind = c.args.work.now.kind in
    (few_bytes kind.elem kind.from c.args.count (few_in_group c.args.current.now.group_items c.args.count (wider kind.elem kind.from) (omega arith) c.requires.at.placed.few)).0

pub move_flagged-requires-clause-few : goal.move_flagged-requires-clause-few
move_flagged-requires-clause-few c =
    let kind = c.args.work.now.kind in
    few_in_group c.args.current.now.group_items c.args.count (wider kind.elem kind.from) (omega arith) c.requires.at.placed.few

pub put_all-requires-clause-few : goal.put_all-requires-clause-few
put_all-requires-clause-few c =
    let kind = c.args.work.now.kind in
    few_in_group c.args.current.now.group_items c.args.count (wider kind.elem kind.from) (omega arith) c.requires.at.placed.few

pub returns-then-work-current-clause-cells : goal.returns-then-work-current-clause-cells
returns-then-work-current-clause-cells c = λ lanes on.
    let work = c.args.work.now in
    let current = c.args.current.now in
    let exact = exact_sum current.sum c.sum_of.result c.from.result current.first c.args.count c.requires.at.bounded c.sum_of.ensures.bounded (search rules) (omega (arith, few_of_group work.kind.elem work.kind.from current.group_items c.requires.at.placed.few)) c.from.ensures in
    c.put_sum.ensures
    ∙ sum_beat_ends lanes work current c.requires.at on c.args.cells.now _ c.if-work.true (c.if-work-current.true ∙ c.requires.count)
    (exact ∙ sum_same lanes work current c.requires.at on c.args.cells.now c.sum_of.result (rw (← c.requires.count) (c.sum_of.ensures.value ∙ sum_is work c.args.cells.now current.row current.first c.args.count c.work_out.new.results c.work_out.ensures)))

pub returns-then-work-current-clause-sum : goal.returns-then-work-current-clause-sum
returns-then-work-current-clause-sum c = λ lanes on.
    let work = c.args.work.now in
    let current = c.args.current.now in
    let exact = exact_sum current.sum c.sum_of.result c.from.result current.first c.args.count c.requires.at.bounded c.sum_of.ensures.bounded (search rules) (omega (arith, few_of_group work.kind.elem work.kind.from current.group_items c.requires.at.placed.few)) c.from.ensures in
    exact
    ∙ sum_same lanes work current c.requires.at on c.args.cells.now c.sum_of.result (rw (← c.requires.count) (c.sum_of.ensures.value ∙ sum_is work c.args.cells.now current.row current.first c.args.count c.work_out.new.results c.work_out.ensures))
    ∙ sym (cond-true work.kind.acc _ _ c.if-work.true)

pub returns-then-work-current-clause-bounded : goal.returns-then-work-current-clause-bounded
returns-then-work-current-clause-bounded c =
    let work = c.args.work.now in
    let current = c.args.current.now in
    let exact = exact_sum current.sum c.sum_of.result c.from.result current.first c.args.count c.requires.at.bounded c.sum_of.ensures.bounded (search rules) (omega (arith, few_of_group work.kind.elem work.kind.from current.group_items c.requires.at.placed.few)) c.from.ensures in
    subst (IsBounded (current.first + c.args.count)) (sym exact) (bounded_sum current.first c.args.count current.sum c.sum_of.result c.requires.at.bounded c.sum_of.ensures.bounded)

pub returns-else-work-current-clause-cells : goal.returns-else-work-current-clause-cells
returns-else-work-current-clause-cells c = λ lanes on.
    sum_beat_goes_on lanes c.args.work.now c.args.current.now c.requires.at on c.args.cells.now c.if-work.true (λ ends. c.if-work-current.false (ends ∙ sym c.requires.count))

pub returns-else-work-current-clause-sum : goal.returns-else-work-current-clause-sum
returns-else-work-current-clause-sum c = λ lanes on.
    let work = c.args.work.now in
    let current = c.args.current.now in
    let exact = exact_sum current.sum c.sum_of.result c.from.result current.first c.args.count c.requires.at.bounded c.sum_of.ensures.bounded (search rules) (omega (arith, few_of_group work.kind.elem work.kind.from current.group_items c.requires.at.placed.few)) c.from.ensures in
    exact
    ∙ sum_same lanes work current c.requires.at on c.args.cells.now c.sum_of.result (rw (← c.requires.count) (c.sum_of.ensures.value ∙ sum_is work c.args.cells.now current.row current.first c.args.count c.work_out.new.results c.work_out.ensures))
    ∙ sym (cond-true work.kind.acc _ _ c.if-work.true)

pub returns-else-work-current-clause-bounded : goal.returns-else-work-current-clause-bounded
returns-else-work-current-clause-bounded c =
    let work = c.args.work.now in
    let current = c.args.current.now in
    let exact = exact_sum current.sum c.sum_of.result c.from.result current.first c.args.count c.requires.at.bounded c.sum_of.ensures.bounded (search rules) (omega (arith, few_of_group work.kind.elem work.kind.from current.group_items c.requires.at.placed.few)) c.from.ensures in
    subst (IsBounded (current.first + c.args.count)) (sym exact) (bounded_sum current.first c.args.count current.sum c.sum_of.result c.requires.at.bounded c.sum_of.ensures.bounded)

pub returns-then-is_conditional-clause-cells : goal.returns-then-is_conditional-clause-cells
returns-then-is_conditional-clause-cells c = λ lanes on.
    c.move_flagged.ensures
    ∙ rw c.requires.count (group_beat lanes c.args.work.now c.args.current.now c.requires.at on c.args.cells.now c.if-work.false)

pub returns-else-is_conditional-clause-cells : goal.returns-else-is_conditional-clause-cells
returns-else-is_conditional-clause-cells c = λ lanes on.
    c.put_all.ensures
    ∙ rw c.requires.count (group_beat lanes c.args.work.now c.args.current.now c.requires.at on c.args.cells.now c.if-work.false)
