use Rattle.std.proofs.Common.{◌≡◌, length, sym, subst, ap, ◌∙◌, arith, ◌++◌, All}
use Rattle.venice_isa.specs.declared.instr.Version.TheVariants.{Two}
use Rattle.venice_isa.specs.Flight.{IsDisciplined}
use Rattle.pass_plan.specs.Tile.{tile_of}
use Rattle.pass_plan.specs.Shown.{pass_of, split_of}
use Rattle.vector_codegen.proofs.PassLaws.{tiles_leave_results, tiles_keep_to_buffers, tiles_are_few}
use Rattle.pass_plan.specs.declared.parts.Tile.{Tile}
use Rattle.dma_schedule.specs.Blocks.{pass_list}
use Rattle.dma_schedule.specs.PipeList.{blocks_of}
use Rattle.dma_schedule.specs.Pipelined.{IsPipelined}
use Rattle.dma_schedule.specs.Laws.{KeepsInside}
use Rattle.dma_schedule.specs.Plan.{IsReady}
use Rattle.dma_schedule.proofs.TileBlocks.{TileLaws}
use Rattle.dma_schedule.proofs.Splits.{lists_are_pipelined, lists_are_disciplined, lists_keep_inside, lists_are_short}
use Rattle.dma_schedule.proofs.Ready.{small}
use Rattle.dma_schedule.proofs.CodePasses.{within, is_pass, holds_one, ready_one, list_next, list_whole}
use Rattle.dma_schedule.proofs.pipelining.pipeline.Goals as goal

laws : TileLaws
laws = record { leave = tiles_leave_results; keep = tiles_keep_to_buffers; few = tiles_are_few }

pub tile-requires-clause-small : goal.tile-requires-clause-small
tile-requires-clause-small c =
    let item = c.pass-item.result in
    let is_ready = ready_one c.args.split.now c.args.spad c.loop-pass.pass-index c.deref-pass-items.result.now item c.deref-pass-items.ensures.value c.requires.sound c.requires.holds (omega arith) c.loop-pass-test.true c.pass-item.is in
    (small c.args.split.now.arrays.items (pass_of item) (tile_of (pass_of item) c.args.spad) is_ready).few_nodes

pub tile-requires-clause-holds : goal.tile-requires-clause-holds
tile-requires-clause-holds c =
    holds_one c.args.split.now c.args.spad c.loop-pass.pass-index c.deref-pass-items.result.now c.pass-item.result c.deref-pass-items.ensures.value c.requires.sound c.requires.holds (omega arith) c.loop-pass-test.true c.pass-item.is

pub push_pass-requires : goal.push_pass-requires
push_pass-requires c =
    subst (λ (tile : Tile). IsReady c.deref.result.now (pass_of c.pass-item.result) tile) (sym c.tile.ensures)
    (subst (λ arrays. IsReady arrays (pass_of c.pass-item.result) (tile_of (pass_of c.pass-item.result) c.args.spad)) (sym c.deref.ensures.value)
    (ready_one c.args.split.now c.args.spad c.loop-pass.pass-index c.deref-pass-items.result.now c.pass-item.result c.deref-pass-items.ensures.value c.requires.sound c.requires.holds (omega arith) c.loop-pass-test.true c.pass-item.is))

pub loop-pass-preserved : goal.loop-pass-preserved
loop-pass-preserved c =
    let item = c.pass-item.result in
    let slice = c.deref-pass-items.result.now in
    let value = c.deref-pass-items.ensures.value in
    list_next c.args.split.now.arrays.items c.args.spad c.args.split.now.passes.items c.loop-pass.pass-index item c.loop-pass.list.items c.push_pass.new.list.items
    (within c.args.split.now c.args.spad c.loop-pass.pass-index slice item value c.requires.sound c.requires.holds (omega arith) c.loop-pass-test.true c.pass-item.is)
    (is_pass c.args.split.now c.args.spad c.loop-pass.pass-index slice item value c.requires.sound c.requires.holds (omega arith) c.loop-pass-test.true c.pass-item.is)
    c.loop-pass.invariant
    (c.in_ok-push_pass.ensures
    ∙ ap (λ arrays. c.loop-pass.list.items ++ pass_list (blocks_of arrays (pass_of item) c.tile.result)) c.deref.ensures.value
    ∙ ap (λ (tile : Tile). c.loop-pass.list.items ++ pass_list (blocks_of c.args.split.now.arrays.items (pass_of item) tile)) c.tile.ensures)

pub returns-clause-list : goal.returns-clause-list
returns-clause-list c =
    let slice = c.deref-pass-items.result.now in
    let many : length slice ≡ length c.args.split.now.passes.items = ap (λ ps. length ps) c.deref-pass-items.ensures.value in
    let end : c.loop-pass.pass-index ≡ length c.args.split.now.passes.items = grind (arith, c.loop-pass-test.false, c.loop-pass.auto.pass-index-end, many) in
    list_whole c.args.split.now.arrays.items c.args.spad c.args.split.now.passes.items c.loop-pass.pass-index c.loop-pass.list.items end c.loop-pass.invariant

pub returns-clause-pipelined : goal.returns-clause-pipelined
returns-clause-pipelined c =
    subst (λ list. IsPipelined (split_of c.args.split.now) c.args.spad list) (sym (returns-clause-list c))
    (lists_are_pipelined laws (split_of c.args.split.now) c.args.spad c.requires.sound c.requires.holds (omega arith))

pub returns-clause-disciplined : goal.returns-clause-disciplined
returns-clause-disciplined c =
    subst (λ list. IsDisciplined Two list) (sym (returns-clause-list c))
    (lists_are_disciplined laws (split_of c.args.split.now) c.args.spad c.requires.sound c.requires.holds (omega arith))

pub returns-clause-inside : goal.returns-clause-inside
returns-clause-inside c =
    subst (λ list. All (KeepsInside (split_of c.args.split.now) c.args.spad) list) (sym (returns-clause-list c))
    (lists_keep_inside laws (split_of c.args.split.now) c.args.spad c.requires.sound c.requires.holds (omega arith))

pub returns-clause-few : goal.returns-clause-few
returns-clause-few c = lists_are_short laws (split_of c.args.split.now) c.args.spad c.requires.sound c.requires.holds (omega arith)
