-- The one line of each refusal and fault, and the status that comes with it.
use Rattle.std.specs.Prelude.{ℕ, List, [], ◌∷◌, ◌++◌, map, codes, decimal}
use Rattle.std.specs.List.{concat}
use Rattle.ven_io.specs.Token.{line_end}
use Rattle.array_syntax.specs.declared.fault.ParseFault.{ParseFault}
use Rattle.array_syntax.specs.declared.fault.ParseFault.TheVariants as parse_fault
use Rattle.shape_check.specs.declared.fault.CheckFault.{CheckFault}
use Rattle.shape_check.specs.declared.fault.CheckFault.TheVariants as check_fault
use Rattle.array_file.specs.declared.fault.ArrayFault.{ArrayFault}
use Rattle.array_file.specs.declared.fault.ArrayFault.TheVariants as array_fault
use Rattle.array_file.specs.declared.fitting.FitFault.{FitFault}
use Rattle.array_file.specs.declared.fitting.FitFault.TheVariants as fit_fault
use Rattle.image_loader.specs.declared.fault.ImageFault.{ImageFault}
use Rattle.image_loader.specs.declared.fault.ImageFault.TheVariants as image_fault
use Rattle.venice_asm.specs.declared.fault.AsmFault.{AsmFault}
use Rattle.venice_asm.specs.declared.fault.AsmFault.TheVariants as asm_fault
use Rattle.venice_machine.specs.declared.grants.GrantFault.{GrantFault}
use Rattle.venice_machine.specs.declared.grants.GrantFault.TheVariants as grant_fault
use Rattle.venice_machine.specs.declared.stop.Stop.{Stop}
use Rattle.venice_machine.specs.declared.stop.Stop.TheVariants as machine_stop
use Rattle.venice_run.specs.declared.ending.Ending.{Ending}
use Rattle.venice_run.specs.declared.ending.Ending.TheVariants.{Refused, Failed}
use Rattle.venice_run.specs.declared.ending.Fault.TheVariants.{File, Memory}
use Rattle.venice_run.specs.declared.refusal.Kind.{Kind}
use Rattle.venice_run.specs.declared.refusal.Kind.TheVariants as kind
use Rattle.venice_run.specs.declared.refusal.Refusal.{Refusal}
use Rattle.venice_run.specs.declared.refusal.Refusal.TheVariants.{Usage, FileMissing, TooLong, Parse, Check, Scratchpad, Arrays, Fit, Grants, Image, Text, Machine}

-- A part of a line: words (or a name), or a number in decimal.
pub data Part : Type 0 where
  Words : List ℕ → Part
  Number : ℕ → Part

abbrev pub part_text : Part → List ℕ
part_text (Words text) = text
part_text (Number n) = decimal n

-- the parts, each behind a space
abbrev pub parts_text : List Part → List ℕ
parts_text parts = concat (map (λ part. 32 ∷ part_text part) parts)

-- the word of each kind of text
abbrev pub kind_word : Kind → List ℕ
kind_word kind.Program = codes "program"
kind_word kind.Inputs = codes "inputs"
kind_word kind.Grants = codes "grants"
kind_word kind.Image = codes "image"
kind_word kind.Text = codes "text"

-- what is wrong at a place of a text
abbrev pub wrong_at : Kind → List ℕ → ℕ → List Part
wrong_at kind words at = Words (kind_word kind) ∷ Words words ∷ Words (codes "at") ∷ Number at ∷ []

-- the parts of the line of each fault of a program's text; that memory ran out is no refusal
abbrev pub parse_parts : ParseFault → List Part
parse_parts (parse_fault.NotAscii at) = wrong_at kind.Program (codes "not ascii") at
parse_parts (parse_fault.Unexpected at) = wrong_at kind.Program (codes "unexpected") at
parse_parts (parse_fault.NameTooLong at) = wrong_at kind.Program (codes "name too long") at
parse_parts (parse_fault.NumberTooLarge at) = wrong_at kind.Program (codes "number too large") at
parse_parts (parse_fault.TooManyStatements at) = wrong_at kind.Program (codes "too many statements") at
parse_parts (parse_fault.TooManyNodes at) = wrong_at kind.Program (codes "too many nodes") at
parse_parts (parse_fault.TooDeep at) = wrong_at kind.Program (codes "too deep") at
parse_parts parse_fault.Memory = Words (codes "memory") ∷ []

-- of each rule that a program breaks
abbrev pub check_parts : CheckFault → List Part
check_parts (check_fault.Twice at) = wrong_at kind.Program (codes "twice") at
check_parts (check_fault.Unknown at) = wrong_at kind.Program (codes "unknown") at
check_parts (check_fault.TypeMismatch at) = wrong_at kind.Program (codes "type mismatch") at
check_parts (check_fault.ShapeMismatch at) = wrong_at kind.Program (codes "shape mismatch") at
check_parts (check_fault.LiteralAlone at) = wrong_at kind.Program (codes "literal alone") at
check_parts (check_fault.LiteralRange at) = wrong_at kind.Program (codes "literal range") at
check_parts (check_fault.BadShape at) = wrong_at kind.Program (codes "bad shape") at
check_parts (check_fault.BadSection at) = wrong_at kind.Program (codes "bad section") at
check_parts (check_fault.BadStretch at) = wrong_at kind.Program (codes "bad stretch") at
check_parts check_fault.NoOutput = Words (codes "program no output") ∷ []
check_parts (check_fault.TooMuchWork need) = Words (codes "program too much work") ∷ Number need ∷ []
check_parts check_fault.Memory = Words (codes "memory") ∷ []

-- what is wrong with an array of the inputs
abbrev pub wrong_array : List ℕ → List ℕ → List Part
wrong_array words name = Words (codes "inputs") ∷ Words words ∷ Words name ∷ []

-- the parts of the line of each fault of an array file, and of inputs that don't fit
abbrev pub array_parts : ArrayFault → List Part
array_parts (array_fault.Unexpected at) = wrong_at kind.Inputs (codes "unexpected") at
array_parts (array_fault.OutOfType at) = wrong_at kind.Inputs (codes "out of type") at
array_parts (array_fault.CountWrong name need have) =
    Words (codes "inputs count") ∷ Words name ∷ Words (codes "need") ∷ Number need
    ∷ Words (codes "have") ∷ Number have ∷ []
array_parts (array_fault.Twice name) = wrong_array (codes "twice") name
array_parts array_fault.Memory = Words (codes "memory") ∷ []

abbrev pub fit_parts : FitFault → List Part
fit_parts (fit_fault.Missing name) = wrong_array (codes "missing") name
fit_parts (fit_fault.TypeWrong name) = wrong_array (codes "type") name
fit_parts (fit_fault.ShapeWrong name) = wrong_array (codes "shape") name
fit_parts (fit_fault.Extra name) = wrong_array (codes "extra") name

-- of each fault of a grant list's text
abbrev pub grant_parts : GrantFault → List Part
grant_parts (grant_fault.Bad at) = wrong_at kind.Grants (codes "bad") at
grant_parts grant_fault.TooLong = Words (codes "grants too long") ∷ []
grant_parts grant_fault.Memory = Words (codes "memory") ∷ []

-- of each fault of an image's bytes
abbrev pub image_parts : ImageFault → List Part
image_parts (image_fault.Truncated at) = wrong_at kind.Image (codes "truncated") at
image_parts image_fault.BadMagic = Words (codes "image magic") ∷ []
image_parts (image_fault.BadTable at) = wrong_at kind.Image (codes "table") at
image_parts (image_fault.BadInstr at) = wrong_at kind.Image (codes "instruction") at
image_parts (image_fault.BadTarget at) = wrong_at kind.Image (codes "target") at
image_parts image_fault.NoHalt = Words (codes "image no halt") ∷ []
image_parts (image_fault.Trailing at) = wrong_at kind.Image (codes "trailing") at
image_parts image_fault.Memory = Words (codes "memory") ∷ []

-- of each fault of an assembler text
abbrev pub assembler_parts : AsmFault → List Part
assembler_parts (asm_fault.Unexpected at) = wrong_at kind.Text (codes "unexpected") at
assembler_parts (asm_fault.FieldRange at) = wrong_at kind.Text (codes "range") at
assembler_parts (asm_fault.LabelTwice at) = wrong_at kind.Text (codes "label twice") at
assembler_parts (asm_fault.UnknownLabel at) = wrong_at kind.Text (codes "label unknown") at
assembler_parts (asm_fault.Table at) = wrong_at kind.Text (codes "table") at
assembler_parts asm_fault.NoHalt = Words (codes "text no halt") ∷ []
assembler_parts asm_fault.Memory = Words (codes "memory") ∷ []

-- of each reason for which a machine stops
abbrev pub stop_parts : Stop → List Part
stop_parts (machine_stop.Hazard pc cycle) =
    Words (codes "machine hazard pc") ∷ Number pc ∷ Words (codes "cycle") ∷ Number cycle ∷ []
stop_parts (machine_stop.OutOfRange pc) = Words (codes "machine out of range pc") ∷ Number pc ∷ []
stop_parts (machine_stop.BadCount pc) = Words (codes "machine bad count pc") ∷ Number pc ∷ []
stop_parts (machine_stop.Budget steps) = Words (codes "machine budget") ∷ Number steps ∷ []

-- the parts of each refusal's line
abbrev pub refusal_parts : Refusal → List Part
refusal_parts Usage = Words (codes "usage") ∷ []
refusal_parts FileMissing = Words (codes "file missing") ∷ []
refusal_parts (TooLong kind) = Words (kind_word kind) ∷ Words (codes "too long") ∷ []
refusal_parts (Parse fault) = parse_parts fault
refusal_parts (Check fault) = check_parts fault
refusal_parts (Scratchpad shortage) =
    Words (codes "scratchpad need") ∷ Number shortage.need ∷ Words (codes "have") ∷ Number shortage.have ∷ []
refusal_parts (Arrays fault) = array_parts fault
refusal_parts (Fit fault) = fit_parts fault
refusal_parts (Grants fault) = grant_parts fault
refusal_parts (Image fault) = image_parts fault
refusal_parts (Text fault) = assembler_parts fault
refusal_parts (Machine stop) = stop_parts stop

abbrev pub parts_of : Ending → List Part
parts_of (Refused refusal) = refusal_parts refusal
parts_of (Failed File) = Words (codes "file") ∷ []
parts_of (Failed Memory) = Words (codes "memory") ∷ []

-- a line: its first word, the parts, and its line end
abbrev pub spaced : List ℕ → List Part → List ℕ
spaced word parts = word ++ parts_text parts ++ line_end ∷ []

-- the line of a refusal or a fault
abbrev pub line_with : List Part → List ℕ
line_with parts = spaced (codes "error:") parts

abbrev pub line_of : Ending → List ℕ
line_of ending = line_with (parts_of ending)

-- the line of a save that failed
abbrev pub save_line : List ℕ
save_line = line_with (Words (codes "save") ∷ [])

-- the status of what is wrong with each kind of text
abbrev pub kind_status : Kind → ℕ
kind_status kind.Program = 3
kind_status kind.Inputs = 4
kind_status kind.Grants = 4
kind_status kind.Image = 6
kind_status kind.Text = 6

abbrev pub refusal_status : Refusal → ℕ
refusal_status Usage = 2
refusal_status FileMissing = 8
refusal_status (TooLong kind) = kind_status kind
refusal_status (Parse fault) = 3
refusal_status (Check fault) = 3
refusal_status (Scratchpad shortage) = 5
refusal_status (Arrays fault) = 4
refusal_status (Fit fault) = 4
refusal_status (Grants fault) = 4
refusal_status (Image fault) = 6
refusal_status (Text fault) = 6
refusal_status (Machine stop) = 7

abbrev pub memory_status : ℕ
memory_status = 10

abbrev pub status_of : Ending → ℕ
status_of (Refused refusal) = refusal_status refusal
status_of (Failed File) = 8
status_of (Failed Memory) = memory_status

-- the status of a save that failed, and of a put that failed, which has no line
abbrev pub save_status : ℕ
save_status = 14

abbrev pub put_status : ℕ
put_status = 9
