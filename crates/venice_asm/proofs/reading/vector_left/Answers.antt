use Rattle.std.proofs.Common.{◌∙◌, ◌-◌, ◌<◌, sym, ap, length, drop, List, rules}
use Rattle.venice_asm.specs.declared.head.Kind.{Kind}
use Rattle.venice_asm.specs.Lines.{operation_kinds}
use Rattle.venice_asm.proofs.Lefts.{vector_left}
use Rattle.venice_asm.proofs.reading.vector_left.Goals as goal

pub returns-else-is_empty : goal.returns-else-is_empty
returns-else-is_empty c =
    let list = c.args.operands.now in
    let some : 0 < length list = search rules in
    c.behind.ensures ∙ ap (λ (ks : List Kind). drop (length list - 1) ks) (c.operation_kinds.ensures ∙ ap operation_kinds c.operation.ensures)
    ∙ sym (vector_left list some c.requires)
