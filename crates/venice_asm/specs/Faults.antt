-- The image that a text denotes, and the faults of a text: those in it with their places and ranks, and those of the
-- whole.
use Rattle.std.specs.Prelude.{◌≡◌, ℕ, ◌-◌, ◌≤◌, List, [], ◌∷◌, ◌++◌, take, length, slice_get, Contains, IsTrue, Option, Some, None, Result, Ok, Err}
use Rattle.ven_base.specs.First.{IsFirst}
use Rattle.ven_io.specs.declared.token.Token.{Token}
use Rattle.ven_io.specs.declared.token.TokenFault.{TokenFault}
use Rattle.ven_io.specs.declared.token.TokenKind.TheVariants.{End}
use Rattle.ven_io.specs.Token.{bytes_of}
use Rattle.ven_io.specs.Reader.{Begins}
use Rattle.ven_io.specs.Tokens.{TokensTo, IsBehind, place_of}
use Rattle.image_loader.specs.Image.{ImageContents, IsImage}
use Rattle.venice_isa.specs.Limits.{instruction_limit}
use Rattle.image_loader.specs.Table.{Header, TableField, BreaksTable, field_place}
use Rattle.venice_asm.specs.declared.fault.AsmFault.{AsmFault}
use Rattle.venice_asm.specs.declared.fault.AsmFault.TheVariants as answers
use Rattle.venice_asm.specs.declared.head.Head.{Head}
use Rattle.venice_asm.specs.declared.head.Head.TheVariants.{Halt}
use Rattle.venice_asm.specs.declared.head.Kind.TheVariants.{Target}
use Rattle.venice_asm.specs.declared.operand.Operand.{Operand}
use Rattle.venice_asm.specs.declared.word.Word.{Word}
use Rattle.venice_asm.specs.declared.word.Word.TheVariants.{Name, Colon, Line}
use Rattle.venice_asm.specs.Lines.{TextLine, label_words, statement_words, text_words, head_kinds, is_instr, has_head, version_of, AreLines, AreWordsOf, AreWordsInRange}
use Rattle.venice_asm.specs.Meaning.{entries_of, instrs_of, label_names, NamesInstr, IsImageOf, IsHeaderOf}
use Rattle.venice_asm.specs.Spelling.{head_word}
use Rattle.venice_asm.specs.Words.{language}

-- ---- what a text denotes

-- the text's words are these lines, of which its end ends the last
pub record HasLines (text : List ℕ) (lines : List TextLine) : Type 0 where
  pub words : List Word
  pub end : Token
  pub is_end : end.kind ≡ End
  pub behind : IsBehind language text words (Ok end)
  pub are : AreWordsInRange (words ++ Line ∷ []) lines

-- no name comes again
pub record AreApart (names : List (List ℕ)) : Type 0 where
  pub each : (k : ℕ) (name : List ℕ) → slice_get names k ≡ Some name → ¬ Contains (take k names) name

-- no fault comes in the text: its lines are in range, with no more instructions than an image may have, and no label
-- comes again
pub record Reads (text : List ℕ) (lines : List TextLine) : Type 0 where
  pub has : HasLines text lines
  pub few : length (instrs_of lines) ≤ instruction_limit
  pub apart : AreApart (label_names lines)

-- the text's lines are this image's, labels replaced by instruction numbers
pub record DenotesImage (text : List ℕ) (image : ImageContents) : Type 0 where
  pub lines : List TextLine
  pub reads : Reads text lines
  pub is_of : IsImageOf lines image
  pub is_image : IsImage image

-- ---- the faults that come in a text

-- some lines, whatever their numbers, begin with these words
abbrev pub BeginsLines : List Word → Type 0
BeginsLines words = Begins AreWordsOf words

-- some lines begin with them that are in range
abbrev pub BeginsInRange : List Word → Type 0
BeginsInRange words = Begins AreWordsInRange words

-- the text begins with these words
abbrev pub BeginsWith : List ℕ → List Word → Type 0
BeginsWith text words = (to : ℕ) × TokensTo language text 0 words to

-- what stands next, as a word
abbrev pub seen : List ℕ → Result Token TokenFault → Option Word
seen text (Ok next) = language.token_of next (bytes_of text next)
seen text (Err fault) = None

-- the text can't go on with what stands behind these words: a byte that begins no token, a token that is no word, a
-- word with which no lines go on, or the text's end
pub data IsUnexpected (text : List ℕ) (words : List Word) (next : Result Token TokenFault) : Type 0 where
  NoToken : (fault : TokenFault) → next ≡ Err fault → IsUnexpected text words next
  NoWord : (token : Token) → next ≡ Ok token → seen text next ≡ None → IsUnexpected text words next
  NoLines : (word : Word) → seen text next ≡ Some word → ¬ BeginsLines (words ++ word ∷ [])
      → IsUnexpected text words next
  NoEnd : (token : Token) → next ≡ Ok token → token.kind ≡ End
      → ((lines : List TextLine) → ¬ AreWordsOf (words ++ Line ∷ []) lines) → IsUnexpected text words next

-- lines go on with the word that stands next, and none of them is in range
pub record IsOutOfRange (text : List ℕ) (words : List Word) (next : Result Token TokenFault) : Type 0 where
  pub word : Word
  pub sees : seen text next ≡ Some word
  pub so_far : BeginsInRange words
  pub goes_on : BeginsLines (words ++ word ∷ [])
  pub outside : ¬ BeginsInRange (words ++ word ∷ [])

-- the name is a label there: a `:` stands behind it
abbrev pub IsLabelAt : List ℕ → List Word → List ℕ → Type 0
IsLabelAt text words name = BeginsWith text (words ++ Name name ∷ Colon ∷ [])

-- behind lines with as many instructions as an image may have, and perhaps a label, stands an instruction's word
pub record IsTooMany (text : List ℕ) (words : List Word) (next : Result Token TokenFault) : Type 0 where
  pub lines : List TextLine
  pub label : Option (List ℕ)
  pub head : Head
  pub before : words ≡ text_words lines ++ label_words label
  pub lines_are : AreLines lines
  pub full : length (instrs_of lines) ≡ instruction_limit
  pub sees : seen text next ≡ Some (Name (head_word head))
  pub instr : IsTrue (is_instr head)
  pub in_version : IsTrue (has_head (version_of lines) head)
  pub no_label : label ≡ None → ¬ IsLabelAt text words (head_word head)

-- a label of the lines before comes again
pub record IsTwice (text : List ℕ) (words : List Word) (next : Result Token TokenFault) : Type 0 where
  pub lines : List TextLine
  pub name : List ℕ
  pub before : AreWordsOf words lines
  pub sees : seen text next ≡ Some (Name name)
  pub is_label : IsLabelAt text words name
  pub again : Contains (label_names lines) name

-- why a text has a fault in it, in the order of causes at one token
pub data Cause : Type 0 where
  Unexpected FieldRange TooMany Twice : Cause

abbrev pub rank_of : Cause → ℕ
rank_of Unexpected = 1
rank_of FieldRange = 2
rank_of TooMany = 2
rank_of Twice = 3

-- the cause holds of what stands behind the words
abbrev pub Holds : List ℕ → List Word → Result Token TokenFault → Cause → Type 0
Holds text words next Unexpected = IsUnexpected text words next
Holds text words next FieldRange = IsOutOfRange text words next
Holds text words next TooMany = IsTooMany text words next
Holds text words next Twice = IsTwice text words next

-- a fault: why, and the place of the token or byte
pub record TextFault : Type 0 where
  pub cause : Cause
  pub at : ℕ

abbrev pub rank : TextFault → ℕ
rank fault = rank_of fault.cause

-- the text has the fault
pub record IsFault (text : List ℕ) (fault : TextFault) : Type 0 where
  pub words : List Word
  pub next : Result Token TokenFault
  pub behind : IsBehind language text words next
  pub place : fault.at ≡ place_of next
  pub cause : Holds text words next fault.cause

abbrev pub answer_of : Cause → ℕ → AsmFault
answer_of Unexpected at = answers.Unexpected at
answer_of FieldRange at = answers.FieldRange at
answer_of TooMany at = answers.FieldRange at
answer_of Twice at = answers.LabelTwice at

-- ---- the faults of the whole text

-- the target of a jump stands at this place: behind the words of the lines before and of its own line up to it
pub record IsTargetAt (text : List ℕ) (lines : List TextLine) (target : Operand) (at : ℕ) : Type 0 where
  pub k : ℕ
  pub label : Option (List ℕ)
  pub head : Head
  pub operands : List Operand
  pub next : Result Token TokenFault
  pub line : slice_get lines k ≡ Some (record {
    label = label;
    statement = Some (record { head = head; operands = operands ++ target ∷ [] });
  })
  pub kind : slice_get (head_kinds head) (length operands) ≡ Some Target
  pub behind : IsBehind language text
      (text_words (take k lines)
      ++ (label_words label ++ statement_words (record { head = head; operands = operands }))) next
  pub place : at ≡ place_of next

-- a jump's target at this place names no instruction
pub record IsUnknown (text : List ℕ) (lines : List TextLine) (at : ℕ) : Type 0 where
  pub target : Operand
  pub is_target : IsTargetAt text lines target at
  pub unknown : ¬ NamesInstr lines target

-- the text has no fault in it, and each target names an instruction
pub record Resolves (text : List ℕ) (lines : List TextLine) : Type 0 where
  pub reads : Reads text lines
  pub all : (at : ℕ) → ¬ IsUnknown text lines at

-- this field of the table that the image would have breaks a rule
pub record IsWrongField (lines : List TextLine) (field : TableField) : Type 0 where
  pub header : Header
  pub is_header : IsHeaderOf lines header
  pub breaks : BreaksTable header (entries_of lines) field

-- the last instruction is `halt`
abbrev pub EndsInHalt : List TextLine → Type 0
EndsInHalt lines =
    slice_get (instrs_of lines) (length (instrs_of lines) - 1) ≡ Some (record { head = Halt; operands = [] })

-- ---- the first fault

-- the answer is that of the text's first fault: one in it, from left to right; else the first target that names no
-- instruction; else the first wrong field of the table; else that no `halt` ends the code
pub data IsRefused (text : List ℕ) : AsmFault → Type 0 where
  InText : (fault : TextFault) → IsFirst (IsFault text) (λ f. f.at) rank fault
      → IsRefused text (answer_of fault.cause fault.at)
  AtTarget : (lines : List TextLine) (at : ℕ) → Reads text lines
      → IsFirst (IsUnknown text lines) (λ place. place) (λ place. 0) at → IsRefused text (answers.UnknownLabel at)
  AtField : (lines : List TextLine) (field : TableField) → Resolves text lines
      → IsFirst (IsWrongField lines) (field_place (entries_of lines)) (λ other. 0) field
      → IsRefused text (answers.Table (field_place (entries_of lines) field))
  AtEnd : (lines : List TextLine) → Resolves text lines → ((field : TableField) → ¬ IsWrongField lines field)
      → ¬ EndsInHalt lines → IsRefused text answers.NoHalt

-- out of memory is no fault of the text
abbrev pub IsAnswered : List ℕ → AsmFault → Type 0
IsAnswered text answers.Memory = Unit {0}
IsAnswered text answer = IsRefused text answer
