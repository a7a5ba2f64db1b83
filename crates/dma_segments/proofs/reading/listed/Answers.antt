use Rattle.std.proofs.Common.{◌≡◌, ◌∙◌}
use Rattle.dma_segments.specs.Run.{row_runs, column_runs}
use Rattle.dma_segments.proofs.Pieces.{plain_patches}
use Rattle.dma_segments.proofs.Rooms.{combine_from, room_from, same_patches}
use Rattle.dma_segments.proofs.reading.listed.Goals as goal

rows_is : (c : goal.After-deref-2) → c.deref.result.now ≡ row_runs c.args.leaf.now.map c.args.leaf.now.shape c.args.piece
rows_is c = c.deref.ensures.value ∙ c.in_ok-rows.ensures

columns_is : (c : goal.After-deref-2) → c.deref-2.result.now ≡ column_runs c.args.leaf.now.map c.args.leaf.now.shape c.args.piece
columns_is c = c.deref-2.ensures.value ∙ c.in_ok-columns.ensures

pub patches_of-requires : goal.patches_of-requires
patches_of-requires c =
    combine_from c.args.leaf.now c.args.from.now c.args.piece c.args.buffer c.requires c.layout_of-layout.ensures.shaped
    c.layout_of-layout.result c.deref.result.now c.deref-2.result.now c.layout_of-layout.ensures.layout (rows_is c) (columns_is c)

patches_is : (c : goal.After-deref-3) → c.deref-3.result.now ≡ plain_patches c.args.leaf.now c.args.piece
patches_is c =
    c.deref-3.ensures.value ∙ c.in_ok-patches.ensures
    ∙ same_patches c.args.leaf.now c.args.piece c.keeps_neighbours-keeps.result c.layout_of-layout.result c.deref.result.now c.deref-2.result.now
    c.keeps_neighbours-keeps.ensures c.layout_of-layout.ensures.layout (c.deref.ensures.value ∙ c.in_ok-rows.ensures) (c.deref-2.ensures.value ∙ c.in_ok-columns.ensures)

pub segments-requires : goal.segments-requires
segments-requires c =
    room_from c.args.leaf.now c.args.from.now c.args.piece c.args.buffer c.requires c.layout_of-layout.ensures.shaped
    c.size.result c.deref-3.result.now c.size.ensures (patches_is c)
