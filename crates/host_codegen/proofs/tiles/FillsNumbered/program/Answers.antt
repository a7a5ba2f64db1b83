use Rattle.std.proofs.Common.{◌≡◌, ap, ◌∙◌}
use Rattle.std.proofs.lemmas.List.{get_or_default}
use Rattle.std.proofs.lemmas.Result.{IfOk-weaker}
use Rattle.pass_plan.specs.Pass.{no_leaf}
use Rattle.pass_plan.specs.Shown.{pass_of}
use Rattle.dma_segments.specs.Laws.{leaf_of}
use Rattle.host_programs.specs.Shown.{program_of}
use Rattle.transfer_programs.specs.FillProgram.{fill_program}
use Rattle.transfer_builder.specs.Shown.{small_of, piece_of}
use Rattle.host_codegen.specs.Geometry.{layout_of, leaf_expr, piece_at}
use Rattle.host_codegen.proofs.tiles.FillsNumbered.program.Goals as goal

pub returns : goal.returns
returns c =
    let tiled = c.args.self.now.tiled.now in
    let pass = pass_of tiled.pass.now in
    let n = c.args.number in
    let leaf : c.index-leaf.result.now ≡ leaf_of pass n = c.index-leaf.ensures ∙ get_or_default tiled.pass.now.leaves.items n c.index-leaf.result.now no_leaf c.requires.within in
    let buffer : small_of c.leaf_expr-buffer.result ≡ leaf_expr (layout_of pass tiled.layout.tile) 8 n = c.leaf_expr-buffer.ensures ∙ ap (λ l. leaf_expr l 8 n) c.requires.ready.layout in
    IfOk-weaker c.fill_program.result (λ p. program_of p ≡ fill_program c.index-leaf.result.now (piece_of c.piece_at.result) (small_of c.leaf_expr-buffer.result) 10) _
    (λ p is. is ∙ ap (λ l. fill_program l (piece_of c.piece_at.result) (small_of c.leaf_expr-buffer.result) 10) leaf
    ∙ ap (λ piece. fill_program (leaf_of pass n) piece (small_of c.leaf_expr-buffer.result) 10) c.piece_at.ensures
    ∙ ap (λ b. fill_program (leaf_of pass n) (piece_at 3) b 10) buffer)
    c.fill_program.ensures
