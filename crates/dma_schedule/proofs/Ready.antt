-- What the code needs to know of a pass that is ready: its numbers are small.
use Rattle.std.proofs.Common.{ℕ, zero, suc, ◌+◌, ◌*◌, ◌^◌, ◌<◌, ◌≤◌, max, sym, subst, arith, List, [], ◌∷◌, ◌++◌, length, length-append, cond, get_or}
use Rattle.std.proofs.lemmas.Nat.{mul-le}
use Rattle.std.proofs.Math.Nat.{mul-le-mul_right}
use Rattle.pass_plan.specs.declared.parts.Tile.{Tile}
use Rattle.pass_plan.specs.declared.split.ArrayPlace.{ArrayPlace}
use Rattle.pass_plan.specs.declared.pass.PassKind.{PassKind}
use Rattle.pass_plan.specs.declared.pass.PassKind.TheVariants.{Map, Reduce}
use Rattle.pass_plan.specs.Tree as tree
use Rattle.pass_plan.specs.Tree.{TreeOver, AtLeaf, leaves_of}
use Rattle.pass_plan.specs.Pass.{Pass}
use Rattle.pass_plan.specs.Need.{buffers_of, widest_in, result_buffers, IsSmall}
use Rattle.pass_plan.specs.Tile.{tile_of, tiles_of, across, IsTileOf}
use Rattle.pass_plan.specs.Buffers.{buffer_bytes, is_map, tiles_per_row}
use Rattle.pass_plan.specs.Sound.{CountUp}
use Rattle.pass_plan.proofs.Tilings.{tile_some, buffers_inside, need_some, some_ceil, size_some}
use Rattle.pass_plan.specs.Label.{label_of}
use Rattle.pass_plan.specs.Pass.{no_leaf, result_of}
use Rattle.pass_plan.specs.Tile.{piece_of, IsPieceOf}
use Rattle.pass_plan.specs.Sound.{no_place, end_of}
use Rattle.pass_plan.proofs.Tilings.{tiles_few}
use Rattle.buffer_lifetimes.specs.OrderOf.{order_of}
use Rattle.dma_segments.specs.Put.{CanRead}
use Rattle.dma_segments.specs.Laws.{leaf_of, leaf_cell, result_piece}
use Rattle.vector_codegen.specs.Effect.{IsTileNumber, IsSoundSomewhere, IsOrderOf, AreTileFills}
use Rattle.dma_schedule.specs.PipeList.{tile_fills, destination}
use Rattle.dma_schedule.specs.Plan.{IsPlanned, IsReady}
use Rattle.dma_schedule.proofs.Covers.{some_tiles}
use Rattle.dma_schedule.proofs.Planned.{array_few}
use Rattle.dma_schedule.proofs.LeafReads.{can}
use Rattle.dma_schedule.proofs.TileFills.{are_fills}
use Rattle.dma_schedule.proofs.TileBlocks.{made_inside, made_ends, is_order}

-- numbers that count up have no gap, so there are no more of them than places
count_most : (ks : List ℕ) (count all : ℕ) → CountUp ks count all → all ≤ count + length ks
count_most [] count all h = omega arith
count_most (k ∷ ks) count all h = omega (arith, count_most ks (max count (k + 1)) all h.1, h.0)

leaves_nodes : {L : Type 0} (t : TreeOver L) → length (leaves_of t) ≤ tree.nodes_of t
leaves_nodes (AtLeaf l) = omega arith
leaves_nodes (tree.Literal n) = omega arith
leaves_nodes (tree.One op elem a) = omega (arith, leaves_nodes a)
leaves_nodes (tree.Two op elem a b) = omega (arith, leaves_nodes a, leaves_nodes b, length-append (leaves_of a) (leaves_of b))
leaves_nodes (tree.Cast elem from a) = omega (arith, leaves_nodes a)
leaves_nodes (tree.Move elem a) = omega (arith, leaves_nodes a)
leaves_nodes (tree.Select elem c x y) =
    omega (arith, leaves_nodes c, leaves_nodes x, leaves_nodes y, length-append (leaves_of c) (leaves_of x ++ leaves_of y), length-append (leaves_of x) (leaves_of y))

some_buffers : (pass : Pass) → 1 ≤ buffers_of pass
some_buffers pass = go (buffers_of pass) (need_some pass)
  where
    go : (n : ℕ) → 1 ≤ n * widest_in pass → 1 ≤ n
    go zero some = absurd (omega arith)
    go (suc n) some = omega arith

module _ (arrays : List ArrayPlace) (pass : Pass) (tile : Tile) (ready : IsReady arrays pass tile) where
  plan : IsPlanned arrays ready.memory ready.later ready.spad pass
  plan = ready.planned

  pub small : IsSmall pass
  small = record {
    few_leaves = omega (arith, count_most (leaves_of pass.tree) 0 (length pass.leaves) plan.sound.numbered, leaves_nodes pass.tree, plan.sound.few_nodes);
    few_nodes = plan.sound.few_nodes;
  }

  pub is_tile : IsTileOf pass tile
  is_tile = record { spad = ready.spad; holds = plan.holds; is = ready.is }

  pub some_sides : (1 ≤ tile.h) × (1 ≤ tile.w)
  some_sides = tile_some pass tile plan.sound.shaped is_tile

  pub some_per_row : 0 < tiles_per_row pass tile
  some_per_row = go pass.kind
    where
      go : (kind : PassKind) → 0 < cond (is_map kind) 1 (across pass.domain tile)
      go Map = omega arith
      go (Reduce fold) = let some = some_ceil pass.domain.cols tile.w some_sides.1 plan.sound.shaped.some_cols in omega arith

  -- the buffers are so few and small
  pub rooms_few : buffers_of pass * buffer_bytes pass tile < 2 ^ 32
  rooms_few =
      let inside = buffers_inside pass ready.spad plan.holds in
      let few = plan.few in
      let all : buffers_of pass * buffer_bytes pass (tile_of pass ready.spad) < 2 ^ 32 = omega arith in
      subst (λ (tile : Tile). buffers_of pass * buffer_bytes pass tile < 2 ^ 32) (sym ready.is) all

  -- the first cell of each
  pub cell_few : (k : ℕ) → k < buffers_of pass → k * buffer_bytes pass tile < 2 ^ 32
  cell_few k below =
      let all = rooms_few in
      let one : k * buffer_bytes pass tile ≤ buffers_of pass * buffer_bytes pass tile = mul-le-mul_right (buffer_bytes pass tile) (omega arith) in
      omega arith

  pub bytes_few : buffer_bytes pass tile < 2 ^ 32
  bytes_few =
      let all = rooms_few in
      let one : 1 * buffer_bytes pass tile ≤ buffers_of pass * buffer_bytes pass tile = mul-le-mul_right (buffer_bytes pass tile) (some_buffers pass) in
      omega arith

  pub elements_few : tile.h * tile.w < 2 ^ 32
  elements_few =
      let all = bytes_few in
      let some = size_some pass.elem in
      let wide : tile.h * tile.w * 1 ≤ tile.h * tile.w * widest_in pass = mul-le (tile.h * tile.w) 1 (tile.h * tile.w) (widest_in pass) (omega arith) (omega arith) in
      omega arith

  pub two_results : 2 ≤ result_buffers pass.kind
  two_results = go pass.kind
    where
      go : (kind : PassKind) → 2 ≤ result_buffers kind
      go Map = omega arith
      go (Reduce fold) = omega arith

  pub tiles_there : 0 < tiles_of pass.domain tile
  tiles_there = some_tiles pass tile plan.sound.shaped some_sides.0 some_sides.1

  -- there are so few tiles
  pub next_few : (t : ℕ) → t < tiles_of pass.domain tile → t + 1 < 2 ^ 32
  next_few t within =
      let few = tiles_few pass.domain tile plan.sound.shaped some_sides.0 some_sides.1 in
      let all = plan.sound.shaped.within in
      omega arith

  -- ---- what the tile's lists ask for

  pub can_read : (number t : ℕ) → number < length pass.leaves → t < tiles_of pass.domain tile
      → CanRead (leaf_of pass number) (get_or arrays (leaf_of pass number).array no_place) (piece_of pass.domain tile t) (leaf_cell pass tile number t)
  can_read number t below within =
      subst (λ (tile : Tile). t < tiles_of pass.domain tile → CanRead (leaf_of pass number) (get_or arrays (leaf_of pass number).array no_place) (piece_of pass.domain tile t) (leaf_cell pass tile number t))
      (sym ready.is) (λ there. can arrays ready.memory ready.later ready.spad pass plan number t below there) within

  pub leaf_known : (number : ℕ) → number < length pass.leaves → (leaf_of pass number).array < length arrays
  leaf_known number below = (plan.sound.leaves number no_leaf below).known

  pub fills_are : (t : ℕ) → t < tiles_of pass.domain tile → AreTileFills pass tile t (tile_fills arrays pass tile (length pass.leaves) t)
  fills_are t within =
      subst (λ (tile : Tile). t < tiles_of pass.domain tile → AreTileFills pass tile t (tile_fills arrays pass tile (length pass.leaves) t))
      (sym ready.is) (λ there. are_fills arrays ready.memory ready.later ready.spad pass plan t there) within

  pub number_is : (t : ℕ) → t < tiles_of pass.domain tile → IsTileNumber pass tile t
  number_is t within = record { spad = ready.spad; holds = plan.holds; few = plan.few; is = ready.is; within = within }

  pub somewhere : IsSoundSomewhere pass
  somewhere = (arrays, ready.later, plan.sound)

  pub inside_made : (t : ℕ) → t < tiles_of pass.domain tile → IsPieceOf (result_of pass.kind pass.domain) (result_piece pass tile t)
  inside_made t within =
      subst (λ (tile : Tile). t < tiles_of pass.domain tile → IsPieceOf (result_of pass.kind pass.domain) (result_piece pass tile t))
      (sym ready.is) (λ there. made_inside arrays ready.memory ready.later ready.spad pass plan t there) within

  pub made_few : end_of (destination arrays pass tile) < 2 ^ 32
  made_few =
      let few = array_few arrays ready.memory ready.later ready.spad pass plan pass.dest plan.sound.result.known in
      let ends = made_ends arrays ready.memory ready.later ready.spad pass plan in
      omega arith

  -- the order of the tree
  pub order_is : IsOrderOf pass.tree (label_of pass.tree) (order_of pass.tree).steps
  order_is = is_order arrays ready.memory ready.later ready.spad pass plan
