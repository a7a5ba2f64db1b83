-- Inner: which operand a word is, in a place of a kind.
use Rattle.std.specs.Prelude.{◌≡◌, ℕ, ◌+◌, ◌≤◌, nat_lt, ◌==◌, Bool, true, false, not, ◌&&◌, ◌||◌, if◌then◌else◌, IsTrue, IsFalse, List, [], ◌∷◌, length, Option, Some, None, Result, Ok, Err}
use Rattle.std.specs.List.{list_all}
use Rattle.std.specs.Option.{option_map, option_and_then}
use Rattle.std.specs.Str.{bytes_eq}
use Rattle.ven_base.specs.Name.{is_digit}
use Rattle.ven_io.specs.Number.{digits_value}
use Rattle.venice_isa.specs.declared.instr.Version.{Version}
use Rattle.venice_isa.specs.declared.op.VecOp.{VecOp}
use Rattle.venice_isa.specs.Instr.{has_operation}
use Rattle.venice_isa.specs.Form.{operations, element_types}
use Rattle.venice_asm.specs.declared.fitting.Misfit.{Misfit}
use Rattle.venice_asm.specs.declared.fitting.Misfit.TheVariants as misfits
use Rattle.venice_asm.specs.declared.head.Kind.{Kind}
use Rattle.venice_asm.specs.declared.head.Kind.TheVariants as kinds
use Rattle.venice_asm.specs.declared.operand.Operand.{Operand}
use Rattle.venice_asm.specs.declared.operand.Operand.TheVariants as operands
use Rattle.venice_asm.specs.declared.word.Word.{Word}
use Rattle.venice_asm.specs.declared.word.Word.TheVariants as words
use Rattle.venice_asm.specs.Lines.{is_reserved, in_range, register_bound}
use Rattle.venice_asm.specs.Words.{too_large}
use Rattle.venice_asm.specs.Spelling.{type_word, operation_word, parameter_words, direction_word, transfer_word, letter, sum_word, keyword_among}

-- ---- what names stand for

-- the number of the first of these words that the bytes are
abbrev pub number_from : ℕ → List (List ℕ) → List ℕ → Option ℕ
number_from k [] bytes = None
number_from k (word ∷ rest) bytes = if bytes_eq bytes word then Some k else number_from (k + 1) rest bytes

abbrev pub parameter_named : List ℕ → Option ℕ
parameter_named bytes = number_from 0 parameter_words bytes

-- which of two words the bytes are
abbrev pub one_named : (bytes first second : List ℕ) → Option Bool
one_named bytes first second =
    if bytes_eq bytes first then Some false else if bytes_eq bytes second then Some true else None

-- a letter says whether an operand is a scalar
abbrev pub scalar_named : ℕ → Option Bool
scalar_named byte = if byte == letter false then Some false else if byte == letter true then Some true else None

-- decimal digits, without a zero before others
abbrev pub is_plain_decimal : List ℕ → Bool
is_plain_decimal [] = false
is_plain_decimal (b ∷ digits) = list_all is_digit (b ∷ digits) && (not (b == 48) || (length digits == 0))

abbrev pub register_named : List ℕ → Option ℕ
register_named [] = None
register_named (b ∷ digits) =
    if (b == 114) && (is_plain_decimal digits && nat_lt (digits_value 10 digits) register_bound)
    then Some (digits_value 10 digits)
    else None

abbrev pub in_version : Version → VecOp → Option VecOp
in_version version op = if has_operation version op then Some op else None

abbrev pub operation_named : Version → List ℕ → Option VecOp
operation_named version bytes = option_and_then (in_version version) (keyword_among operation_word operations bytes)

abbrev pub one_letter : List ℕ → Option Operand
one_letter (a ∷ []) = option_map operands.ModeA (scalar_named a)
one_letter bytes = None

abbrev pub two_letters : List ℕ → Option Operand
two_letters (a ∷ b ∷ []) =
    option_and_then (λ (a_scalar : Bool). option_map (operands.ModeAB a_scalar) (scalar_named b)) (scalar_named a)
two_letters bytes = None

-- ---- the operand that a word is

abbrev pub name_operand : Version → Kind → List ℕ → Option Operand
name_operand version kinds.Array bytes = if is_reserved bytes then None else Some (operands.Name bytes)
name_operand version kinds.Target bytes = Some (operands.Name bytes)
name_operand version kinds.Direction bytes =
    option_map operands.Output (one_named bytes (direction_word false) (direction_word true))
name_operand version kinds.Transfer bytes =
    option_map operands.Write (one_named bytes (transfer_word false) (transfer_word true))
name_operand version kinds.Register bytes = option_map operands.Register (register_named bytes)
name_operand version kinds.Parameter bytes = option_map operands.Parameter (parameter_named bytes)
name_operand version kinds.Operation bytes = option_map operands.Operation (operation_named version bytes)
name_operand version kinds.Elem bytes = option_map operands.Elem (keyword_among type_word element_types bytes)
name_operand version kinds.ModeA bytes = one_letter bytes
name_operand version kinds.ModeAB bytes = two_letters bytes
name_operand version kinds.ModeFlags bytes = two_letters bytes
name_operand version kinds.Sum bytes = if bytes_eq bytes sum_word then Some operands.Sum else None
name_operand version kinds.NoSum bytes = if bytes_eq bytes sum_word then Some operands.Sum else None
name_operand version kind bytes = None

abbrev pub number_operand : Kind → ℕ → Option Operand
number_operand kinds.Version n = Some (operands.Number n)
number_operand kinds.Number n = Some (operands.Number n)
number_operand kinds.Target n = Some (operands.Number n)
number_operand kinds.Rows n = Some (operands.Rows n)
number_operand kinds.Columns n = Some (operands.Columns n)
number_operand kind n = None

-- the one operand that may stand in a place of the kind and has this word, whatever its range
abbrev pub operand_as : Version → Kind → Word → Option Operand
operand_as version kind (words.Name bytes) = name_operand version kind bytes
operand_as version kind (words.Number n) = number_operand kind n
operand_as version kinds.Open words.Open = Some operands.Open
operand_as version kinds.Comma words.Comma = Some operands.Comma
operand_as version kinds.Close words.Close = Some operands.Close
operand_as version kind word = None

-- ---- what reading a word answers

pub record IsOperandOf (version : Version) (kind : Kind) (word : Word) (operand : Operand) : Type 0 where
  pub is : operand_as version kind word ≡ Some operand
  pub ranges : IsTrue (in_range kind operand)

pub record IsOutside (version : Version) (kind : Kind) (word : Word) : Type 0 where
  pub operand : Operand
  pub is : operand_as version kind word ≡ Some operand
  pub outside : IsFalse (in_range kind operand)

abbrev pub IsMisfit : Version → Kind → Word → Misfit → Type 0
IsMisfit version kind word misfits.Unexpected = operand_as version kind word ≡ None
IsMisfit version kind word misfits.Range = IsOutside version kind word

-- the same of the names of registers alone
abbrev pub IsRegisterOf : List ℕ → ℕ → Type 0
IsRegisterOf bytes number = (register_named bytes ≡ Some number) × IsTrue (nat_lt number 32)

abbrev pub IsNoRegister : List ℕ → Misfit → Type 0
IsNoRegister bytes misfits.Unexpected = register_named bytes ≡ None
IsNoRegister bytes misfits.Range = (number : ℕ) × (register_named bytes ≡ Some number) × IsFalse (nat_lt number 32)

-- kinds whose operands are words of their own
abbrev pub HasKeywords : Kind → Type 0
HasKeywords kinds.Array = ⊥
HasKeywords kinds.Target = ⊥
HasKeywords kinds.Register = ⊥
HasKeywords kind = Unit {0}

-- an operand that may be there is taken where it is in its range
abbrev pub IsRanged : Kind → Option Operand → Result Operand Misfit → Type 0
IsRanged kind found (Ok operand) = (found ≡ Some operand) × IsTrue (in_range kind operand)
IsRanged kind found (Err misfits.Unexpected) = found ≡ None
IsRanged kind found (Err misfits.Range) = (operand : Operand) × (found ≡ Some operand) × IsFalse (in_range kind operand)

-- a number is at most the one that is too large
abbrev pub IsSmall : Word → Type 0
IsSmall (words.Number n) = n ≤ too_large
IsSmall word = Unit {0}
