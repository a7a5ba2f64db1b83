use Rattle.std.proofs.Common.{◌+◌, ◌*◌}
use Rattle.array_syntax.specs.Limits.{height}
use Rattle.array_syntax.specs.Tree.{tree_of}
use Rattle.shape_check.proofs.expr.+operands.Given as goal

-- twice the height, and one more where the expression itself is still to be looked at
abbrev pub decreases-operand : goal.decreases-operand
decreases-operand l = 2 * height (tree_of l.e.now)

abbrev pub decreases-array : goal.decreases-array
decreases-array l = 2 * height (tree_of l.e.now) + 1
