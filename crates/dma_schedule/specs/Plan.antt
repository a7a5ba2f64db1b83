-- Inner: a pass of a sound split in a scratchpad that holds its need.
use Rattle.std.specs.Prelude.{◌≡◌, ℕ, ◌≤◌, ◌<◌, ◌^◌, List, Contains}
use Rattle.pass_plan.specs.declared.parts.Tile.{Tile}
use Rattle.pass_plan.specs.declared.split.ArrayPlace.{ArrayPlace}
use Rattle.pass_plan.specs.Pass.{Pass}
use Rattle.pass_plan.specs.Need.{pass_need}
use Rattle.pass_plan.specs.Tile.{tile_of}
use Rattle.pass_plan.specs.Sound.{IsSoundPass, ArePlaced}

-- `later` are the arrays that this pass and later ones make
pub record IsPlanned (arrays : List ArrayPlace) (memory : ℕ) (later : List ℕ) (spad : ℕ) (pass : Pass)
    : Type 0 where
  pub sound : IsSoundPass arrays later pass
  pub placed : ArePlaced arrays memory
  pub own : Contains later pass.dest
  pub holds : pass_need pass ≤ spad
  pub few : spad < 2 ^ 32

-- the pass is planned for some scratchpad, whose tile this is
pub record IsReady (arrays : List ArrayPlace) (pass : Pass) (tile : Tile) : Type 0 where
  pub memory : ℕ
  pub later : List ℕ
  pub spad : ℕ
  pub planned : IsPlanned arrays memory later spad pass
  pub is : tile ≡ tile_of pass spad
