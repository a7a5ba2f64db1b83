use Rattle.std.proofs.Common.{◌≡◌, drop}
use Rattle.venice_asm.specs.Fitting.{number_from, parameter_named}
use Rattle.venice_asm.specs.Spelling.{parameter_words}
use Rattle.venice_asm.proofs.fitting.parameter_named.Given as goal

abbrev pub invariant-loop-k : goal.invariant-loop-k
invariant-loop-k l = parameter_named l.bytes ≡ number_from l.k (drop l.k parameter_words) l.bytes
