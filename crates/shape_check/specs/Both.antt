-- Inner: the plain value of two operands.
use Rattle.shape_check.specs.declared.operand.Both as code
use Rattle.shape_check.specs.Typed.{node_of}
use Rattle.shape_check.specs.Judge.{Both}

abbrev pub both_of : code.Both → Both
both_of both = record { left = node_of both.left; right = node_of both.right }
