use Rattle.std.proofs.Common.{◌≡◌, take, length}
use Rattle.venice_asm.specs.Resolving.{NameOnes, with_references}
use Rattle.venice_asm.proofs.assembling.resolve.Given as goal

abbrev pub invariant-loop-reference : goal.invariant-loop-reference
invariant-loop-reference l = record {
  all : NameOnes l.labels.entries (length l.initial.instrs) l.references l.reference-index;
  is : l.instrs ≡ with_references l.labels.entries (take l.reference-index l.references) l.initial.instrs;
  same : length l.instrs ≡ length l.initial.instrs;
}
