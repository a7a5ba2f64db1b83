use Rattle.std.proofs.Common.{◌∙◌, sym, ap, length, drop, List}
use Rattle.venice_asm.specs.declared.head.Kind.{Kind}
use Rattle.venice_asm.proofs.Lefts.{head_left}
use Rattle.venice_asm.proofs.reading.kinds_left.Goals as goal

pub returns-in_default : goal.returns-in_default
returns-in_default c =
    c.behind.ensures ∙ ap (λ (ks : List Kind). drop (length c.args.operands.now) ks) c.kinds.ensures ∙ sym (head_left c.args.head c.args.operands.now c.in_default.not-Vec c.requires)
