use Rattle.std.proofs.Common.{◌≡◌, take}
use Rattle.array_file.specs.Output.{arrays_text}
use Rattle.array_file.proofs.output.write_arrays.Given as goal

abbrev pub invariant-loop-k : goal.invariant-loop-k
invariant-loop-k l = l.text.items ≡ arrays_text (take l.k l.arrays)
