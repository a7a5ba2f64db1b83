use Rattle.std.proofs.Common.{◌-◌, length}
use Rattle.array_syntax.specs.Parsing.{IsParsing}
use Rattle.array_syntax.proofs.parsing.parse.Given as goal

abbrev pub invariant-loop-next : goal.invariant-loop-next
invariant-loop-next l = IsParsing l.text l.parsing

abbrev pub decreases-loop-next : goal.decreases-loop-next
decreases-loop-next l = length l.text - l.parsing.from
