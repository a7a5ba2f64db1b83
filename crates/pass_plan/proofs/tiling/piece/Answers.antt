use Rattle.std.proofs.Common.{◌≡◌, ◌<◌, ◌*◌, ◌/◌, ◌%◌, sym, arith, ap, subst, ◌∙◌}
use Rattle.std.specs.Int.{div_ceil}
use Rattle.ven_base.specs.Extent.{IsExtent}
use Rattle.pass_plan.specs.declared.pass.Pass.{Pass}
use Rattle.pass_plan.specs.Shown.{pass_of}
use Rattle.pass_plan.proofs.Tilings.{tile_some, rows_few, columns_few, first_row_within, first_column_within}
use Rattle.pass_plan.proofs.tiling.piece.Goals.{After-div_ceil-across}
use Rattle.pass_plan.proofs.tiling.piece.Goals as goal

shaped : (c : After-div_ceil-across) → IsExtent c.args.pass.now.domain
shaped c = subst (λ (p : Pass). IsExtent p.domain) c.pass.view_is c.pass.invariant

across_is : (c : After-div_ceil-across) → c.div_ceil-across.result ≡ div_ceil c.args.pass.now.domain.cols c.args.tile.w
across_is c = c.div_ceil-across.ensures ∙ ap (λ (p : Pass). div_ceil p.domain.cols c.args.tile.w) c.pass.view_is

row_below : (c : After-div_ceil-across) → c.args.t / c.div_ceil-across.result * c.args.tile.h < c.args.pass.now.domain.rows
row_below c =
    let some = tile_some (pass_of c.args.pass.now) c.args.tile (shaped c) c.requires.tile_is in
    subst (λ n. c.args.t / n * c.args.tile.h < c.args.pass.now.domain.rows) (sym (across_is c)) (first_row_within c.args.pass.now.domain c.args.tile (shaped c) some.0 some.1 c.args.t c.requires.within)

column_below : (c : After-div_ceil-across) → c.args.t % c.div_ceil-across.result * c.args.tile.w < c.args.pass.now.domain.cols
column_below c =
    let some = tile_some (pass_of c.args.pass.now) c.args.tile (shaped c) c.requires.tile_is in
    subst (λ n. c.args.t % n * c.args.tile.w < c.args.pass.now.domain.cols) (sym (across_is c)) (first_column_within c.args.pass.now.domain c.args.tile (shaped c) some.0 some.1 c.args.t)

pub overflow_mul-r0 : goal.overflow_mul-r0
overflow_mul-r0 c =
    let at = (goal.at.overflow_mul-r0 c).After-div_ceil-across in
    let low = row_below at in
    let shape = shaped at in
    let few = rows_few c.args.pass.now.domain shape in
    omega arith

pub overflow_mul-c0 : goal.overflow_mul-c0
overflow_mul-c0 c =
    let at = (goal.at.overflow_mul-c0 c).After-div_ceil-across in
    let low = column_below at in
    let shape = shaped at in
    let few = columns_few c.args.pass.now.domain shape in
    omega arith

pub overflow_sub-pass-inside : goal.overflow_sub-pass-inside
overflow_sub-pass-inside c =
    let at = (goal.at.overflow_sub-pass-inside c).After-div_ceil-across in
    let low = row_below at in
    let is = ap (λ (p : Pass). p.domain.rows) c.pass.view_is in
    omega arith

pub overflow_sub-pass-inside-2 : goal.overflow_sub-pass-inside-2
overflow_sub-pass-inside-2 c =
    let at = (goal.at.overflow_sub-pass-inside-2 c).After-div_ceil-across in
    let low = column_below at in
    let is = ap (λ (p : Pass). p.domain.cols) c.pass.view_is in
    omega arith
