use Rattle.std.proofs.Common.{◌-◌, ◌≡◌, ◌≤◌, ◌++◌}
use Rattle.vector_codegen.specs.Root.{halvings}
use Rattle.vector_codegen.proofs.reductions.push_halvings.Given as goal

abbrev pub invariant-loop-count : goal.invariant-loop-count
invariant-loop-count l =
    (l.works.items ++ halvings l.count l.fn.shape l.fn.least l.fn.elem l.fn.buffer l.fn.left l.count ≡ l.fn.works.items ++ halvings l.fn.shape.cols l.fn.shape l.fn.least l.fn.elem l.fn.buffer l.fn.left l.fn.shape.cols) × (l.count ≤ l.fn.shape.cols)

abbrev pub decreases-loop-count : goal.decreases-loop-count
decreases-loop-count l = l.count - l.fn.left
