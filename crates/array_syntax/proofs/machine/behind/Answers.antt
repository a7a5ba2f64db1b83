use Rattle.std.proofs.Common.{◌∙◌, ap, arith}
use Rattle.array_syntax.specs.Reading.{reduce, reach_of}
use Rattle.array_syntax.proofs.Opening.{reduced_depth}
use Rattle.array_syntax.proofs.TooHigh.{behind_high, sign_stepped}
use Rattle.array_syntax.proofs.machine.behind.Goals as goal

pub returns-then-is_too_high : goal.returns-then-is_too_high
returns-then-is_too_high c =
    behind_high c.args.token.word c.args.e c.in_ok-node.node c.args.stack.now c.reduce.new.stack
    (c.in_ok-node.ensures ∙ ap (λ l. reduce l c.args.e c.args.stack.now) (c.reach.ensures ∙ ap reach_of c.operator_of-op.ensures))
    (grind (arith, c.is_too_high.ensures, c.if-is_too_high.true))

pub sign_behind-requires : goal.sign_behind-requires
sign_behind-requires c = let low = reduced_depth c.reach.result c.args.e c.in_ok-node.node c.args.stack.now c.reduce.new.stack c.in_ok-node.ensures in let d = c.requires in omega arith

pub close-requires : goal.close-requires
close-requires c = let low = reduced_depth c.reach.result c.args.e c.in_ok-node.node c.args.stack.now c.reduce.new.stack c.in_ok-node.ensures in let d = c.requires in omega arith

pub returns-in_ok-next-in-Some : goal.returns-in_ok-next-in-Some
returns-in_ok-next-in-Some c =
    sign_stepped c.args.token c.in-Some.op c.args.e c.in_ok-node.node c.args.stack.now c.reduce.new.stack _ _ c.in-Some.ensures
    (c.in_ok-node.ensures ∙ ap (λ l. reduce l c.args.e c.args.stack.now) (c.reach.ensures ∙ ap reach_of c.operator_of-op.ensures))
    (λ high. grind (arith, c.is_too_high.ensures, c.if-is_too_high.false)) c.in_ok-next-in-Some.ensures
