use Rattle.std.proofs.Common.{drop}
use Rattle.shape_check.specs.Checked.{program_of}
use Rattle.shape_check.specs.Meaning.{FitInputs}
use Rattle.list_tests.proofs.tests.has_inputs.Given as goal

abbrev pub invariant-loop-stmt : goal.invariant-loop-stmt
invariant-loop-stmt l = FitInputs (program_of (drop l.stmt-index l.stmts)) l.inputs → FitInputs (program_of l.stmts) l.inputs
