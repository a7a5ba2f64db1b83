use Rattle.std.proofs.Common.{ap, ◌∙◌, ℕ, true, false, rules, w64}
use Rattle.std.proofs.lemmas.Int.{to_z-of_z}
use Rattle.venice_isa.specs.declared.kind.VecKind.{VecKind}
use Rattle.dma_segments.specs.FillWork.{move_kind, word_of}
use Rattle.host_programs.specs.Expr.{Number}
use Rattle.host_programs.specs.Program.{Order, IssueVector}
use Rattle.transfer_programs.specs.FillProgram.{FillExpr}
use Rattle.transfer_builder.specs.Shown.{fill_of}
use Rattle.transfer_builder.proofs.filling.fill_order.Goals as goal

-- a move of the number a, by an instruction of this kind
abbrev move_of : FillExpr → VecKind → ℕ → Order
move_of fill kind a = IssueVector (record {
  kind = kind;
  vl = fill.cols;
  rows = fill.rows;
  dst = fill.at;
  a = Number a;
  b = Number 0;
  dst_step = fill.step;
  a_step = Number 0;
  b_step = Number 0;
})

pub returns : goal.returns
returns c =
    let s = c.args.s in
    let fill = fill_of c.args.fill in
    let kind = move_kind s.elem true false in
    ap (λ kind. move_of fill kind c.word_of.result) c.move_kind.ensures
    ∙ ap (move_of fill kind) c.word_of.ensures
    ∙ ap (λ value. move_of fill kind (word_of value)) (to_z-of_z w64 s.value (search rules))
