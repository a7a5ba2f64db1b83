use Rattle.std.proofs.Common.{◌≡◌, ap, ◌∙◌, get_or}
use Rattle.std.proofs.lemmas.List.{get_or_default}
use Rattle.std.proofs.lemmas.Result.{IfOk-weaker}
use Rattle.pass_plan.specs.declared.leaf.Leaf.{Leaf}
use Rattle.pass_plan.specs.Pass.{no_leaf}
use Rattle.pass_plan.specs.Sound.{no_place}
use Rattle.pass_plan.specs.Shown.{pass_of}
use Rattle.dma_segments.specs.Laws.{leaf_of}
use Rattle.dma_schedule.proofs.Ready.{leaf_known}
use Rattle.host_programs.specs.Expr.{Variable}
use Rattle.host_programs.specs.Program as list
use Rattle.host_programs.specs.Shown.{expr_of, program_of}
use Rattle.transfer_programs.specs.ReadProgram.{Target, leaf_program}
use Rattle.transfer_builder.specs.Shown.{piece_of}
use Rattle.host_codegen.specs.Geometry.{layout_of, leaf_expr, piece_at}
use Rattle.host_codegen.proofs.tiles.ReadsNumbered.program.Goals as goal

abbrev target : Target
target = record { buffer = Variable 8; tag = Variable 6 }

pub returns : goal.returns
returns c =
    let tiled = c.args.self.now.tiled.now in
    let pass = pass_of tiled.pass.now in
    let tile = tiled.layout.tile in
    let n = c.args.number in
    let leaf : c.index-leaf.result.now ≡ leaf_of pass n = c.index-leaf.ensures ∙ get_or_default tiled.pass.now.leaves.items n c.index-leaf.result.now no_leaf c.requires.within in
    let known = leaf_known tiled.arrays.now pass tile c.requires.ready.ready n c.requires.within in
    let there = get_or tiled.arrays.now c.index-leaf.result.now.array c.index-self-leaf.result in
    let from : there ≡ get_or tiled.arrays.now (leaf_of pass n).array no_place =
    ap (λ (l : Leaf). get_or tiled.arrays.now l.array c.index-self-leaf.result) leaf ∙ get_or_default tiled.arrays.now (leaf_of pass n).array c.index-self-leaf.result no_place known in
    let reads : program_of c.in_ok-reads.reads ≡ leaf_program (leaf_of pass n) (get_or tiled.arrays.now (leaf_of pass n).array no_place) (piece_at 2) target 9 =
    c.in_ok-reads.ensures ∙ ap (λ l. leaf_program l there (piece_of c.piece_at.result) target 9) leaf
    ∙ ap (λ from. leaf_program (leaf_of pass n) from (piece_of c.piece_at.result) target 9) from
    ∙ ap (λ piece. leaf_program (leaf_of pass n) (get_or tiled.arrays.now (leaf_of pass n).array no_place) piece target 9) c.piece_at.ensures in
    let buffer : expr_of c.in_ok-buffer.buffer ≡ leaf_expr (layout_of pass tile) 7 n = c.in_ok-buffer.ensures ∙ c.leaf_expr.ensures ∙ ap (λ l. leaf_expr l 7 n) c.requires.ready.layout in
    IfOk-weaker c.with.result (λ r. program_of r ≡ list.Let (expr_of c.in_ok-buffer.buffer) (program_of c.in_ok-reads.reads)) _
    (λ r is. is ∙ ap (λ e. list.Let e (program_of c.in_ok-reads.reads)) buffer ∙ ap (λ p. list.Let (leaf_expr (layout_of pass tile) 7 n) p) reads)
    c.with.ensures
