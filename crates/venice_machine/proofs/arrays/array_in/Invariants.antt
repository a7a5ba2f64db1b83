use Rattle.std.proofs.Common.{◌≡◌, map}
use Rattle.std.specs.List.{range_with_len}
use Rattle.venice_isa.specs.Element.{number_of}
use Rattle.venice_machine.specs.Start.{element_in}
use Rattle.venice_machine.proofs.arrays.array_in.Given as goal

abbrev pub invariant-loop-k : goal.invariant-loop-k
invariant-loop-k l = l.values.items ≡ map (λ k. number_of l.entry.elem (element_in l.memory l.entry k)) (range_with_len 0 l.k)
