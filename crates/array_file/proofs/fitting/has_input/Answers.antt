use Rattle.std.proofs.Common.{◌≡◌, length, refl, subst, sym, arith}
use Rattle.array_file.specs.Matching.{IsInputNamed, NoneUpTo}
use Rattle.array_file.proofs.Fittings.{item_at, input_there, more_none, no_input}
use Rattle.array_file.proofs.Functions.{test_false}
use Rattle.array_file.proofs.fitting.has_input.Goals as goal

pub returns-then-is_input_named : goal.returns-then-is_input_named
returns-then-is_input_named c =
    let entry = c.entry-item.result in
    let there = input_there c.args.table.now c.args.name.now c.loop-entry.entry-index entry (item_at c.args.table.now c.loop-entry.entry-index entry c.loop-entry-test.true c.entry-item.is) (c.is_input_named.ensures.0 c.if-is_input_named.true) in
    (λ t. there, λ h. refl)

pub loop-entry-preserved : goal.loop-entry-preserved
loop-entry-preserved c =
    let entry = c.entry-item.result in
    more_none c.args.table.now c.args.name.now c.loop-entry.entry-index entry c.loop-entry.invariant (item_at c.args.table.now c.loop-entry.entry-index entry c.loop-entry-test.true c.entry-item.is)
    (test_false c.is_input_named.result (IsInputNamed entry c.args.name.now) c.is_input_named.ensures c.if-is_input_named.false)

pub returns : goal.returns
returns c =
    let all : c.loop-entry.entry-index ≡ length c.args.table.now = omega arith in
    let none = no_input c.args.table.now c.args.name.now (subst (NoneUpTo c.args.table.now c.args.name.now) all c.loop-entry.invariant) in
    (λ t. absurd (cc), λ h. absurd (none h))
