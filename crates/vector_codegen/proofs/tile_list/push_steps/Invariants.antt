use Rattle.std.proofs.Common.{◌≡◌, ◌++◌, map, take, false}
use Rattle.buffer_lifetimes.specs.Step.{steps_of}
use Rattle.vector_codegen.specs.Work.{slot_buffer, step_work}
use Rattle.vector_codegen.proofs.tile_list.push_steps.Given as goal

abbrev pub invariant-loop-step : goal.invariant-loop-step
invariant-loop-step l = l.works.items ≡ l.fn.works.items ++ map (λ step. step_work l.fn.shape l.fn.b false step (slot_buffer l.fn.b step.to)) (steps_of (take l.step-index l.fn.steps))
