use Rattle.std.proofs.Common.{◌≡◌, ap, sym, subst, ◌∙◌, arith}
use Rattle.pass_plan.specs.declared.parts.Tile.{Tile}
use Rattle.pass_plan.specs.Shown.{pass_of}
use Rattle.pass_plan.proofs.Tilings.{tiles_few}
use Rattle.dma_schedule.specs.Plan.{IsReady}
use Rattle.dma_schedule.proofs.Ready.{some_sides}
use Rattle.host_codegen.specs.Geometry as geometry
use Rattle.host_codegen.specs.Geometry.{layout_of}
use Rattle.host_codegen.proofs.Layouts.{layout_fits}
use Rattle.host_codegen.proofs.passes.pass_program.Goals as goal

pub turn_program-requires : goal.turn_program-requires
turn_program-requires c =
    let pass = pass_of c.args.pass.now in
    let is = c.layout_of-layout.ensures in
    let tile_is : c.layout_of-layout.result.tile ≡ c.args.tile = ap (λ (l : geometry.Layout). l.tile) is in
    record {
      ready = subst (λ (t : Tile). IsReady c.args.arrays.now pass t) (sym tile_is) c.requires;
      layout = is ∙ ap (λ (t : Tile). layout_of pass t) (sym tile_is);
      fits = layout_fits c.args.arrays.now pass c.args.tile c.requires c.layout_of-layout.result is;
    }

pub overflow_add-tiles : goal.overflow_add-tiles
overflow_add-tiles c =
    let pass = pass_of c.args.pass.now in
    let some = some_sides c.args.arrays.now pass c.args.tile c.requires in
    let few = tiles_few pass.domain c.args.tile c.requires.planned.sound.shaped some.0 some.1 in
    let all = c.requires.planned.sound.shaped.within in
    let is = c.tiles.ensures in
    omega arith
