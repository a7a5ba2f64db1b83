-- Inner: what the code needs to know, so that its literals fit.
use Rattle.std.specs.Prelude.{◌≡◌, ◌+◌, ◌*◌, ◌^◌, ◌≤◌, ◌<◌, All, length}
use Rattle.ven_base.specs.Elem.{size_of}
use Rattle.buffer_lifetimes.specs.declared.step.Operand.{Operand}
use Rattle.buffer_lifetimes.specs.declared.step.Operand.TheVariants as operand
use Rattle.buffer_lifetimes.specs.Step.{Step}
use Rattle.vector_codegen.specs.Fit.{arity_of}
use Rattle.pass_plan.specs.Shown.{pass_of}
use Rattle.dma_schedule.specs.Plan.{IsReady}
use Rattle.host_codegen.specs.declared.geometry.Layout.{Layout}
use Rattle.host_codegen.specs.declared.tiled.TiledPass.{TiledPass}
use Rattle.host_codegen.specs.Geometry.{layout_of}
use Rattle.host_codegen.specs.Shown.{layout_at}

-- all buffers begin below 2 to the 32
pub record IsFitting (layout : Layout) : Type 0 where
  pub some_bytes : 1 ≤ layout.bytes
  pub some_tile : 1 ≤ layout.tile.w
  pub cells : (layout.leaves * 2 + layout.slots + 2) * layout.bytes < 2 ^ 32

-- the argument is one of the layout's leaves or slots, or a literal
abbrev pub IsArgAt : Layout → Operand → Type 0
IsArgAt layout (operand.Leaf number) = number < layout.leaves
IsArgAt layout (operand.Literal n) = Unit {0}
IsArgAt layout (operand.Slot slot) = slot < layout.slots

-- the step has as many arguments as its operation, all of them the layout's, writes one of its slots, and has elements
-- no wider than a buffer
pub record IsStepAt (layout : Layout) (step : Step) : Type 0 where
  pub args : All (IsArgAt layout) step.args
  pub count : length step.args ≡ arity_of step.op
  pub to : step.to < layout.slots
  pub narrow : size_of step.elem ≤ layout.bytes

-- the pass is ready for its tile, and the layout is theirs
pub record IsTiled (tiled : TiledPass) : Type 0 where
  pub ready : IsReady tiled.arrays.now (pass_of tiled.pass.now) tiled.layout.tile
  pub layout : layout_at tiled.layout ≡ layout_of (pass_of tiled.pass.now) tiled.layout.tile
  pub fits : IsFitting tiled.layout
