use Rattle.std.proofs.Common.{◌∙◌, ap, sym, arith}
use Rattle.ven_base.specs.Store.{store_of, store_size}
use Rattle.venice_isa.specs.Region.{place_in}
use Rattle.venice_isa.specs.Footprint.{cells_of, memory_of}
use Rattle.dma_engine.specs.Current.{moved}
use Rattle.dma_engine.proofs.Currents.{cell_small, place_small}
use Rattle.dma_engine.proofs.Rows.{row_fits, row_moves}
use Rattle.dma_engine.proofs.current.Current.beats_in_row.Goals as goal

pub cell-requires : goal.cell-requires
cell-requires g c =
    cell_small c.args.self.now c.requires.under_way g.D.Directed.DIRECTION (store_size (store_of c.args.cells.now c.args.memory.now)) c.requires.inside
    (omega (arith, c.len.ensures.count, c.len.ensures.few))

pub place-requires : goal.place-requires
place-requires g c =
    place_small c.args.self.now c.requires.under_way g.D.Directed.DIRECTION (store_size (store_of c.args.cells.now c.args.memory.now)) c.requires.inside
    (omega (arith, c.len-2.ensures.count, c.len-2.ensures.few))

pub move_block-requires-clause-in_cells : goal.move_block-requires-clause-in_cells
move_block-requires-clause-in_cells g c =
    let fits = row_fits c.args.self.now c.requires.under_way g.D.Directed.DIRECTION (store_size (store_of c.args.cells.now c.args.memory.now)) c.requires.inside in
    omega (arith, fits.in_cells, c.cell.ensures, c.bytes_of.ensures)

pub move_block-requires-clause-in_memory : goal.move_block-requires-clause-in_memory
move_block-requires-clause-in_memory g c =
    let fits = row_fits c.args.self.now c.requires.under_way g.D.Directed.DIRECTION (store_size (store_of c.args.cells.now c.args.memory.now)) c.requires.inside in
    omega (arith, fits.in_memory, c.place.ensures, c.bytes_of.ensures)

pub returns-clause-store : goal.returns-clause-store
returns-clause-store g c =
    let store = store_of c.args.cells.now c.args.memory.now in
    let current = c.args.self.now in
    let cell = place_in (cells_of current.work) current.row current.column in
    let place = place_in (memory_of current.work) current.row current.column in
    let direction = g.D.Directed.DIRECTION in
    let fits = row_fits current c.requires.under_way direction (store_size store) c.requires.inside in
    c.move_block.ensures.store
    ∙ ap (λ direction. moved direction c.cell.result c.place.result c.bytes_of.result store) c.DIRECTION.ensures
    ∙ ap (λ cell. moved direction cell c.place.result c.bytes_of.result store) c.cell.ensures
    ∙ ap (λ place. moved direction cell place c.bytes_of.result store) c.place.ensures
    ∙ ap (λ count. moved direction cell place count store) c.bytes_of.ensures
    ∙ sym (row_moves direction c.args.count current c.requires.under_way c.requires.in_row store fits)
