-- Inner: the parts of a line as the code holds them.
use Rattle.venice_run.specs.declared.line.Part as code
use Rattle.venice_run.specs.declared.line.Part.TheVariants as part
use Rattle.venice_run.specs.Line.{Part, Words, Number}

abbrev pub part_of : code.Part → Part
part_of (part.Words text) = Words text.now
part_of (part.Number n) = Number n
