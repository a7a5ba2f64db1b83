-- What lines say of an image: its numbers, its arrays, and its instructions with their labels.
use Rattle.std.specs.Prelude.{◌≡◌, ℕ, ◌+◌, ◌<◌, if◌then◌else◌, List, [], ◌∷◌, ◌++◌, map, length, Contains, Option, Some, None}
use Rattle.std.specs.List.{filter, filter_map}
use Rattle.std.specs.Option.{option_map_or, IsSomeAnd}
use Rattle.std.specs.Str.{bytes_eq}
use Rattle.venice_isa.specs.Encoding.{bit, type_number}
use Rattle.image_loader.specs.Image.{ImageContents, raw_entries}
use Rattle.image_loader.specs.Table.{Header, RawEntry}
use Rattle.venice_asm.specs.declared.head.Head.{Head}
use Rattle.venice_asm.specs.declared.head.Head.TheVariants as heads
use Rattle.venice_asm.specs.declared.operand.Operand.{Operand}
use Rattle.venice_asm.specs.declared.operand.Operand.TheVariants as operands
use Rattle.venice_asm.specs.Lines.{Statement, TextLine, is_instr, statements_of, version_of}
use Rattle.venice_asm.specs.Canonical.{statement_of}

-- ---- numbers and arrays

-- a line has this first word and this number alone
abbrev pub HasNumber : List TextLine → Head → ℕ → Type 0
HasNumber lines head n = Contains (statements_of lines) (record { head = head; operands = operands.Number n ∷ [] })

-- the array of a statement
abbrev pub array_of : Head → List Operand → Option RawEntry
array_of heads.Array
    (operands.Name name ∷ operands.Output output ∷ operands.Elem elem ∷ operands.Open ∷ operands.Rows rows
    ∷ operands.Comma ∷ operands.Columns columns ∷ operands.Close ∷ operands.Number place ∷ []) =
    Some (record {
      name_length = length name;
      name = name;
      kind = bit output;
      elem = type_number elem;
      rows = rows;
      columns = columns;
      place = place;
    })
array_of head operands = None

abbrev pub entries_of : List TextLine → List RawEntry
entries_of lines = filter_map (λ (s : Statement). array_of s.head s.operands) (statements_of lines)

-- ---- instructions and labels

-- the statements that are instructions
abbrev pub instrs_of : List TextLine → List Statement
instrs_of lines = filter (λ (s : Statement). is_instr s.head) (statements_of lines)

-- each label with the number of the instruction that comes next, from 0
abbrev pub labels_from : ℕ → List TextLine → List (List ℕ × ℕ)
labels_from count [] = []
labels_from count (line ∷ lines) =
    option_map_or (λ (name : List ℕ). (name, count) ∷ []) line.label []
    ++ labels_from (count + length (instrs_of (line ∷ []))) lines

abbrev pub labels_of : List TextLine → List (List ℕ × ℕ)
labels_of lines = labels_from 0 lines

abbrev pub label_names : List TextLine → List (List ℕ)
label_names lines = map (λ (label : List ℕ × ℕ). label.0) (labels_of lines)

-- the number that a label stands for
abbrev pub number_among : List (List ℕ × ℕ) → List ℕ → Option ℕ
number_among [] name = None
number_among (label ∷ labels) name = if bytes_eq name label.0 then Some label.1 else number_among labels name

-- the number that a jump's target names
abbrev pub number_for : List (List ℕ × ℕ) → Operand → Option ℕ
number_for labels (operands.Number n) = Some n
number_for labels (operands.Name name) = number_among labels name
number_for labels operand = None

abbrev pub number_named : List TextLine → Operand → Option ℕ
number_named lines target = number_for (labels_of lines) target

-- the target names an instruction
abbrev pub NamesInstr : List TextLine → Operand → Type 0
NamesInstr lines target = IsSomeAnd (number_named lines target) (λ (n : ℕ). n < length (instrs_of lines))

-- a label in an instruction is its number
abbrev pub with_number : List TextLine → Operand → Operand
with_number lines (operands.Name name) =
    option_map_or operands.Number (number_among (labels_of lines) name) (operands.Name name)
with_number lines operand = operand

abbrev pub with_numbers : List TextLine → Statement → Statement
with_numbers lines s = record { head = s.head; operands = map (with_number lines) s.operands }

-- ---- the image and its header

-- the image has the numbers, the arrays and the instructions of the lines, labels replaced by instruction numbers
pub record IsImageOf (lines : List TextLine) (image : ImageContents) : Type 0 where
  pub spad : HasNumber lines heads.Spad image.spad
  pub memory : HasNumber lines heads.Memory image.memory
  pub arrays : raw_entries image.arrays ≡ entries_of lines
  pub version : image.code.version ≡ version_of lines
  pub instrs : map statement_of image.code.instrs ≡ map (with_numbers lines) (instrs_of lines)

-- the header that the image would have, whether or not its numbers keep their limits
pub record IsHeaderOf (lines : List TextLine) (header : Header) : Type 0 where
  pub spad : HasNumber lines heads.Spad header.spad
  pub memory : HasNumber lines heads.Memory header.memory
  pub arrays : header.array_count ≡ length (entries_of lines)
  pub instrs : header.instr_count ≡ length (instrs_of lines)
