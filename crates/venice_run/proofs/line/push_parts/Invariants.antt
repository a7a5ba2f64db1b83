use Rattle.std.proofs.Common.{◌≡◌, ◌++◌, map, take}
use Rattle.venice_run.specs.Line.{parts_text}
use Rattle.venice_run.specs.Parts.{part_of}
use Rattle.venice_run.proofs.line.push_parts.Given as goal

abbrev pub invariant-loop-part : goal.invariant-loop-part
invariant-loop-part l = l.line.items ≡ l.initial.line.items ++ parts_text (map part_of (take l.part-index l.parts))
