use Rattle.std.proofs.Common.{◌+◌, ◌*◌}
use Rattle.std.specs.Prelude.{max}
use Rattle.array_syntax.specs.Limits.{height}
use Rattle.array_syntax.specs.Tree.{tree_of}
use Rattle.array_syntax.proofs.printing.+printing.Given as goal

-- three times the height, and a little more where the expression itself is still to be printed
abbrev pub decreases-print_expr : goal.decreases-print_expr
decreases-print_expr l = 3 * height (tree_of l.e.now)

abbrev pub decreases-print_in_brackets : goal.decreases-print_in_brackets
decreases-print_in_brackets l = 3 * height (tree_of l.e.now) + 1

abbrev pub decreases-print_one : goal.decreases-print_one
decreases-print_one l = 3 * height (tree_of l.a.now) + 2

abbrev pub decreases-print_two : goal.decreases-print_two
decreases-print_two l = 3 * max (height (tree_of l.a.now)) (height (tree_of l.b.now)) + 1

abbrev pub decreases-print_select : goal.decreases-print_select
decreases-print_select l = 3 * max (height (tree_of l.c.now)) (max (height (tree_of l.a.now)) (height (tree_of l.b.now))) + 1

abbrev pub decreases-print_call : goal.decreases-print_call
decreases-print_call l = 3 * height (tree_of l.of.now) + 1
