use Rattle.std.proofs.Common.{◌∙◌, ap, arith}
use Rattle.ven_base.specs.Store.{store_of, store_size}
use Rattle.venice_isa.specs.Region.{place_in}
use Rattle.venice_isa.specs.Footprint.{cells_of, memory_of}
use Rattle.dma_engine.specs.Current.{moved}
use Rattle.dma_engine.proofs.Currents.{cells_end, memory_end, cell_small, place_small, beat_moves, left_is}
use Rattle.dma_engine.proofs.current.Current.beat.Goals as goal

pub cell-requires : goal.cell-requires
cell-requires g c =
    cell_small c.args.self.now c.requires.under_way g.D.Directed.DIRECTION (store_size (store_of c.args.cells.now c.args.memory.now)) c.requires.inside
    (omega (arith, c.len.ensures.count, c.len.ensures.few))

pub place-requires : goal.place-requires
place-requires g c =
    place_small c.args.self.now c.requires.under_way g.D.Directed.DIRECTION (store_size (store_of c.args.cells.now c.args.memory.now)) c.requires.inside
    (omega (arith, c.len-2.ensures.count, c.len-2.ensures.few))

pub move_bytes-requires-clause-in_cells : goal.move_bytes-requires-clause-in_cells
move_bytes-requires-clause-in_cells g c =
    let end = cells_end c.args.self.now c.requires.under_way g.D.Directed.DIRECTION (store_size (store_of c.args.cells.now c.args.memory.now)) c.requires.inside in
    rw (c.cell.ensures, c.beat_bytes.ensures.value) end

pub move_bytes-requires-clause-in_memory : goal.move_bytes-requires-clause-in_memory
move_bytes-requires-clause-in_memory g c =
    let end = memory_end c.args.self.now c.requires.under_way g.D.Directed.DIRECTION (store_size (store_of c.args.cells.now c.args.memory.now)) c.requires.inside in
    rw (c.place.ensures, c.beat_bytes.ensures.value) end

pub returns-clause-store : goal.returns-clause-store
returns-clause-store g c =
    let store = store_of c.args.cells.now c.args.memory.now in
    let current = c.args.self.now in
    let cell = place_in (cells_of current.work) current.row current.column in
    let place = place_in (memory_of current.work) current.row current.column in
    let direction = g.D.Directed.DIRECTION in
    c.move_bytes.ensures
    ∙ ap (λ direction. moved direction c.cell.result c.place.result c.beat_bytes.result store) c.DIRECTION.ensures
    ∙ ap (λ cell. moved direction cell c.place.result c.beat_bytes.result store) c.cell.ensures
    ∙ ap (λ place. moved direction cell place c.beat_bytes.result store) c.place.ensures
    ∙ ap (λ count. moved direction cell place count store) c.beat_bytes.ensures.value
    ∙ beat_moves current c.requires.under_way direction store

pub returns-clause-left : goal.returns-clause-left
returns-clause-left g c =
    left_is g.D.Directed.DIRECTION c.args.self.now c.advance.new.self c.advance.result (store_of c.args.cells.now c.args.memory.now) c.advance.ensures
