use Rattle.std.proofs.Common.{◌≡◌, ◌++◌, take}
use Rattle.std.specs.List.{flat_map}
use Rattle.venice_isa.specs.Encoding.{encoded}
use Rattle.image_loader.proofs.writing.put_code.Given as goal

abbrev pub invariant-loop-instr : goal.invariant-loop-instr
invariant-loop-instr l = l.bytes.items ≡ l.initial.bytes.items ++ flat_map encoded (take l.instr-index l.code.instrs)
