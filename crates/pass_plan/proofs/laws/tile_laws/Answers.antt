use Rattle.pass_plan.proofs.Tilings.{tile_some, tiles_cover, tiles_apart, piece_inside}
use Rattle.pass_plan.proofs.laws.tile_laws.Goals as goal

pub returns : goal.returns
returns c = record {
  cover = λ pass tile shaped is i j index. let some = tile_some pass tile shaped is in tiles_cover pass.domain tile shaped some.0 some.1 i j index;
  apart = λ pass tile shaped is i j t u within within' first second. let some = tile_some pass tile shaped is in tiles_apart pass.domain tile shaped some.0 some.1 i j t u first second;
  inside = λ pass tile shaped is t within. let some = tile_some pass tile shaped is in piece_inside pass.domain tile shaped some.0 some.1 t within;
  some = tile_some;
}
