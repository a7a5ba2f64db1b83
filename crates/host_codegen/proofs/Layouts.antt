-- What the code needs to know of a pass's layout: its buffers are few and small, and its steps are the layout's.
use Rattle.std.proofs.Common.{◌≡◌, ℕ, ◌+◌, ◌*◌, ◌^◌, ◌<◌, ◌≤◌, ap, sym, subst, arith, List, length, All}
use Rattle.std.proofs.Math.Nat.{mul-le-mul_right}
use Rattle.std.proofs.lemmas.Nat.{mul-le}
use Rattle.ven_base.specs.Elem.{size_of}
use Rattle.pass_plan.specs.declared.parts.Tile.{Tile}
use Rattle.pass_plan.specs.declared.split.ArrayPlace.{ArrayPlace}
use Rattle.pass_plan.specs.Pass.{Pass}
use Rattle.pass_plan.specs.Label.{label_of}
use Rattle.pass_plan.specs.Need.{buffers_of}
use Rattle.pass_plan.specs.Buffers.{buffer_bytes}
use Rattle.buffer_lifetimes.specs.declared.step.Operand.{Operand}
use Rattle.buffer_lifetimes.specs.declared.step.Operand.TheVariants as operand
use Rattle.buffer_lifetimes.specs.declared.step.EvalStep.{EvalStep}
use Rattle.buffer_lifetimes.specs.Step.{Step, step_of, steps_of}
use Rattle.vector_codegen.specs.TileList.{tile_buffers}
use Rattle.vector_codegen.specs.Effect.{IsTileNumber, IsOrderOf}
use Rattle.vector_codegen.specs.Fit.{IsArgOf, IsStepOf}
use Rattle.vector_codegen.proofs.TileCode.{fitting, steps_fit, steps_wide}
use Rattle.dma_schedule.specs.Plan.{IsReady}
use Rattle.dma_schedule.proofs.Ready.{some_sides, rooms_few, two_results, tiles_there, number_is, somewhere}
use Rattle.host_codegen.specs.declared.geometry.Layout.{Layout}
use Rattle.host_codegen.specs.Geometry as geometry
use Rattle.host_codegen.specs.Geometry.{layout_of}
use Rattle.host_codegen.specs.Shown.{layout_at}
use Rattle.host_codegen.specs.Fit.{IsFitting, IsArgAt, IsStepAt}

module _ (arrays : List ArrayPlace) (pass : Pass) (tile : Tile) (ready : IsReady arrays pass tile) where
  first_tile : IsTileNumber pass tile 0
  first_tile = number_is arrays pass tile ready 0 (tiles_there arrays pass tile ready)

  pub some_bytes : 1 ≤ buffer_bytes pass tile
  some_bytes = (fitting pass tile 0 (somewhere arrays pass tile ready) first_tile).some_room

  module _ (layout : Layout) (is : layout_at layout ≡ layout_of pass tile) where
    bytes_is : layout.bytes ≡ buffer_bytes pass tile
    bytes_is = ap (λ (l : geometry.Layout). l.bytes) is

    leaves_is : layout.leaves ≡ length pass.leaves
    leaves_is = ap (λ (l : geometry.Layout). l.leaves) is

    slots_is : layout.slots ≡ label_of pass.tree
    slots_is = ap (λ (l : geometry.Layout). l.slots) is

    tile_is : layout.tile ≡ tile
    tile_is = ap (λ (l : geometry.Layout). l.tile) is

    pub layout_fits : IsFitting layout
    layout_fits =
        let all = rooms_few arrays pass tile ready in
        let two = two_results arrays pass tile ready in
        let one : (length pass.leaves * 2 + label_of pass.tree + 2) * buffer_bytes pass tile ≤ buffers_of pass * buffer_bytes pass tile = mul-le-mul_right (buffer_bytes pass tile) (omega arith) in
        let same : (layout.leaves * 2 + layout.slots + 2) * layout.bytes ≡ (length pass.leaves * 2 + label_of pass.tree + 2) * buffer_bytes pass tile = ap (λ (l : geometry.Layout). (l.leaves * 2 + l.slots + 2) * l.bytes) is in
        let few : (length pass.leaves * 2 + label_of pass.tree + 2) * buffer_bytes pass tile < 2 ^ 32 = omega arith in
        record {
          some_bytes = omega (arith, some_bytes, bytes_is);
          some_tile = subst (λ (t : Tile). 1 ≤ t.w) (sym tile_is) (some_sides arrays pass tile ready).1;
          cells = subst (λ n. n < 2 ^ 32) (sym same) few;
        }

    arg_at : (arg : Operand) → IsArgOf (tile_buffers pass tile 0) arg → IsArgAt layout arg
    arg_at (operand.Leaf number) within = omega (arith, within, leaves_is)
    arg_at (operand.Literal n) within = tt
    arg_at (operand.Slot slot) within = omega (arith, within, slots_is)

    pub steps_at : (steps : List EvalStep) (slots : ℕ) → IsOrderOf pass.tree slots (steps_of steps) → All (λ step. IsStepAt layout (step_of step)) steps
    steps_at steps slots order = λ k d below.
        let place = somewhere arrays pass tile ready in
        let one = steps_fit pass tile 0 place first_tile steps slots order k d below in
        let wide = steps_wide pass tile 0 place first_tile steps slots order k d below in
        let piece = fitting pass tile 0 place first_tile in
        narrowed _ one (narrow _ _ _ _ piece.some_rows piece.some_cols wide)
      where
        narrow : (rows cols size room : ℕ) → 1 ≤ rows → 1 ≤ cols → rows * cols * size ≤ room → size ≤ room
        narrow rows cols size room some_rows some_cols wide =
            let area : 1 * 1 ≤ rows * cols = mul-le 1 1 rows cols some_rows some_cols in
            let all : 1 * 1 * size ≤ rows * cols * size = mul-le-mul_right size area in
            omega arith

        narrowed : (step : Step) → IsStepOf (tile_buffers pass tile 0) step → size_of step.elem ≤ buffer_bytes pass tile → IsStepAt layout step
        narrowed step one size = record {
          args = λ k d below. arg_at _ (one.args k d below);
          count = one.count;
          to = omega (arith, one.to, slots_is);
          narrow = omega (arith, size, bytes_is);
        }
