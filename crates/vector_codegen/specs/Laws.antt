-- What holds of the instructions of a tile.
use Rattle.std.specs.Prelude.{◌≡◌, ℕ, ◌+◌, ◌<◌, List, length, All, if◌then◌else◌}
use Rattle.std.specs.List.{flat_map, range_with_len}
use Rattle.venice_isa.specs.declared.work.DmaWork.{DmaWork}
use Rattle.ven_base.specs.declared.ops.Fold.TheVariants as fold
use Rattle.pass_plan.specs.declared.parts.Tile.{Tile}
use Rattle.pass_plan.specs.declared.pass.PassKind.TheVariants.{Map, Reduce}
use Rattle.pass_plan.specs.declared.split.ArrayPlace.{ArrayPlace}
use Rattle.pass_plan.specs.Label.{label_of}
use Rattle.pass_plan.specs.Numbers.{inner_of}
use Rattle.pass_plan.specs.Pass.{Pass}
use Rattle.pass_plan.specs.Buffers.{begins_row}
use Rattle.buffer_lifetimes.specs.Step.{Step}
use Rattle.dma_segments.specs.declared.segments.Fill.{Fill}
use Rattle.dma_segments.specs.Put.{PutPiece}
use Rattle.dma_segments.specs.Laws.{leaf_of, leaf_cell}
use Rattle.vector_codegen.specs.TileList.{tile_list}
use Rattle.vector_codegen.specs.Effect.{IsSoundSomewhere, IsTileNumber, IsOrderOf, tile_piece, AreTileFills, LeaveResults, KeepsToTile, AreFew}

-- for a sound pass, the number of one of its tiles, an order of its tree and the fills of the tile
abbrev pub OfTiles : ((pass : Pass) (tile : Tile) (t : ℕ) (fills : List Fill) (steps : List Step) → Type 0) → Type 0
OfTiles Holds = (pass : Pass) (tile : Tile) (t : ℕ) (fills : List Fill) (steps : List Step)
    → IsSoundSomewhere pass → IsTileNumber pass tile t → IsOrderOf pass.tree (label_of pass.tree) steps
    → AreTileFills pass tile t fills → Holds pass tile t fills steps

-- the tile's instructions leave its results
abbrev pub TilesLeaveResults : Type 0
TilesLeaveResults = OfTiles (λ pass tile t fills steps. LeaveResults pass tile t (tile_list pass tile t fills steps))

-- each is simple and keeps to the tile's buffers
abbrev pub TilesKeepToBuffers : Type 0
TilesKeepToBuffers =
    OfTiles (λ pass tile t fills steps. All (KeepsToTile pass tile t) (tile_list pass tile t fills steps))

-- they are few
abbrev pub TilesAreFew : Type 0
TilesAreFew = OfTiles (λ pass tile t fills steps. AreFew pass tile t (tile_list pass tile t fills steps))

-- beside the fills there is one for each inner node of the tree, and in a sum one more where a row's first tile is behind
abbrev pub TilesHaveOneEach : Type 0
TilesHaveOneEach = OfTiles (λ pass tile t fills steps.
    (pass.kind ≡ Map → length (tile_list pass tile t fills steps) ≡ length fills + inner_of pass.tree)
    × (pass.kind ≡ Reduce fold.Sum → length (tile_list pass tile t fills steps)
    ≡ length fills + inner_of pass.tree + (if begins_row pass tile t then 0 else 1)))

-- fills that put the pieces of the leaves, one leaf after another, are those of the tile
abbrev pub LeavesFillTiles : Type 0
LeavesFillTiles = (pass : Pass) (tile : Tile) (t : ℕ) (fills : ℕ → List Fill)
    → IsSoundSomewhere pass → IsTileNumber pass tile t
    → ((number : ℕ) → number < length pass.leaves → (from : ArrayPlace) × (commands : List DmaWork) × PutPiece
    (leaf_of pass number) from (tile_piece pass tile t) (leaf_cell pass tile number t) commands (fills number))
    → AreTileFills pass tile t (flat_map fills (range_with_len 0 (length pass.leaves)))
