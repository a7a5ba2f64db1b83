use Rattle.std.proofs.Common.{◌≡◌, get_or, sym, subst, ap, ◌∙◌}
use Rattle.std.proofs.lemmas.List.{get_or_default}
use Rattle.std.proofs.lemmas.Result.{IfOk-weaker}
use Rattle.pass_plan.specs.declared.leaf.Leaf.{Leaf}
use Rattle.pass_plan.specs.Pass.{no_leaf}
use Rattle.pass_plan.specs.Sound.{no_place}
use Rattle.pass_plan.specs.Tile.{piece_of}
use Rattle.pass_plan.specs.Shown.{pass_of}
use Rattle.dma_segments.specs.Put.{CanRead}
use Rattle.dma_segments.specs.ReadList.{ReadList, read_list}
use Rattle.dma_segments.specs.Laws.{leaf_of}
use Rattle.dma_schedule.specs.PipeList.{leaf_segments}
use Rattle.dma_schedule.proofs.Ready.{can_read, leaf_known}
use Rattle.dma_schedule.proofs.tile_blocks.leaf_segments.Goals as goal

leaf_there : (c : goal.After-piece) → c.index-leaf.result.now ≡ leaf_of (pass_of c.args.pass.now) c.args.number
leaf_there c = c.index-leaf.ensures ∙ get_or_default c.args.pass.now.leaves.items c.args.number c.index-leaf.result.now no_leaf c.requires.number

from_is : (c : goal.After-piece) → c.index-arrays-leaf.result ≡ get_or c.args.arrays.now (leaf_of (pass_of c.args.pass.now) c.args.number).array no_place
from_is c =
    let known = leaf_known c.args.arrays.now (pass_of c.args.pass.now) c.args.tile c.requires.ready c.args.number c.requires.number in
    c.index-arrays-leaf.is ∙ ap (λ (l : Leaf). get_or c.args.arrays.now l.array c.index-arrays-leaf.result) (leaf_there c)
    ∙ get_or_default c.args.arrays.now (leaf_of (pass_of c.args.pass.now) c.args.number).array c.index-arrays-leaf.result no_place known

pub reads-requires : goal.reads-requires
reads-requires c =
    let pass = pass_of c.args.pass.now in
    subst (λ l. CanRead l c.index-arrays-leaf.result c.piece.result c.leaf_cell-cell.result) (sym (leaf_there c))
    (subst (λ from. CanRead (leaf_of pass c.args.number) from c.piece.result c.leaf_cell-cell.result) (sym (from_is c))
    (subst (λ piece. CanRead (leaf_of pass c.args.number) (get_or c.args.arrays.now (leaf_of pass c.args.number).array no_place) piece c.leaf_cell-cell.result) (sym c.piece.ensures)
    (subst (λ cell. CanRead (leaf_of pass c.args.number) (get_or c.args.arrays.now (leaf_of pass c.args.number).array no_place) (piece_of pass.domain c.args.tile c.args.t) cell) (sym c.leaf_cell-cell.ensures)
    (can_read c.args.arrays.now pass c.args.tile c.requires.ready c.args.number c.args.t c.requires.number c.requires.within))))

-- the list of what was asked is that of the leaf
lists : (c : goal.After-reads) → read_list c.index-leaf.result.now c.index-arrays-leaf.result c.piece.result c.leaf_cell-cell.result ≡ leaf_segments c.args.arrays.now (pass_of c.args.pass.now) c.args.tile c.args.number c.args.t
lists c =
    let pass = pass_of c.args.pass.now in
    let leaf : Leaf = leaf_of pass c.args.number in
    let is : c.index-leaf.result.now ≡ leaf = c.index-leaf.ensures ∙ get_or_default c.args.pass.now.leaves.items c.args.number c.index-leaf.result.now no_leaf c.requires.number in
    let known = leaf_known c.args.arrays.now pass c.args.tile c.requires.ready c.args.number c.requires.number in
    let from : c.index-arrays-leaf.result ≡ get_or c.args.arrays.now leaf.array no_place =
    c.index-arrays-leaf.is ∙ ap (λ (l : Leaf). get_or c.args.arrays.now l.array c.index-arrays-leaf.result) is ∙ get_or_default c.args.arrays.now leaf.array c.index-arrays-leaf.result no_place known in
    ap (λ l. read_list l c.index-arrays-leaf.result c.piece.result c.leaf_cell-cell.result) is
    ∙ ap (λ from. read_list leaf from c.piece.result c.leaf_cell-cell.result) from
    ∙ ap (λ piece. read_list leaf (get_or c.args.arrays.now leaf.array no_place) piece c.leaf_cell-cell.result) c.piece.ensures
    ∙ ap (λ cell. read_list leaf (get_or c.args.arrays.now leaf.array no_place) (piece_of pass.domain c.args.tile c.args.t) cell) c.leaf_cell-cell.ensures

pub returns-clause-commands : goal.returns-clause-commands
returns-clause-commands c =
    IfOk-weaker c.reads.result (λ s. s.commands.items ≡ (read_list c.index-leaf.result.now c.index-arrays-leaf.result c.piece.result c.leaf_cell-cell.result).commands) _
    (λ s is. is ∙ ap (λ (l : ReadList). l.commands) (lists c)) c.reads.ensures.commands

pub returns-clause-fills : goal.returns-clause-fills
returns-clause-fills c =
    IfOk-weaker c.reads.result (λ s. s.fills.items ≡ (read_list c.index-leaf.result.now c.index-arrays-leaf.result c.piece.result c.leaf_cell-cell.result).fills) _
    (λ s is. is ∙ ap (λ (l : ReadList). l.fills) (lists c)) c.reads.ensures.fills
