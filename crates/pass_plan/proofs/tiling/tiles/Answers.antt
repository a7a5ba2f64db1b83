use Rattle.std.proofs.Common.{◌≡◌, ◌*◌, arith, ap, subst, ◌∙◌}
use Rattle.std.specs.Int.{div_ceil}
use Rattle.ven_base.specs.Extent.{IsExtent}
use Rattle.pass_plan.specs.declared.pass.Pass.{Pass}
use Rattle.pass_plan.specs.Tile.{tiles_of}
use Rattle.pass_plan.specs.Shown.{pass_of}
use Rattle.pass_plan.proofs.Tilings.{tile_some, tiles_few}
use Rattle.pass_plan.proofs.tiling.tiles.Goals as goal

pub overflow_mul-result : goal.overflow_mul-result
overflow_mul-result c =
    let pass = c.args.pass.now in
    let tile = c.args.tile in
    let shaped : IsExtent pass.domain = subst (λ (p : Pass). IsExtent p.domain) c.pass.view_is c.pass.invariant in
    let some = tile_some (pass_of pass) tile shaped c.requires in
    let few = tiles_few pass.domain tile shaped some.0 some.1 in
    let across = c.div_ceil.ensures ∙ ap (λ (p : Pass). div_ceil p.domain.cols tile.w) c.pass.view_is in
    let down = c.div_ceil-2.ensures ∙ ap (λ (p : Pass). div_ceil p.domain.rows tile.h) c.pass.view_is in
    let all : c.div_ceil.result * c.div_ceil-2.result ≡ tiles_of pass.domain tile = ap (λ n. n * c.div_ceil-2.result) across ∙ ap (λ n. div_ceil pass.domain.cols tile.w * n) down in
    let within = shaped.within in
    omega arith
