-- Inner: how a reader goes from word to word.
use Rattle.std.specs.Prelude.{◌≡◌, ℕ, Bool, true, false, ◌&&◌, if◌then◌else◌, List, [], ◌∷◌, ◌++◌, Option, Some, None}
use Rattle.std.specs.List.{list_all}
use Rattle.std.specs.Option.{option_map_or, option_and_then}
use Rattle.ven_io.specs.Reader.{Reader, run_from}
use Rattle.venice_isa.specs.declared.instr.Version.{Version}
use Rattle.venice_asm.specs.declared.head.Head.{Head}
use Rattle.venice_asm.specs.declared.head.Head.TheVariants as heads
use Rattle.venice_asm.specs.declared.head.Kind.{Kind}
use Rattle.venice_asm.specs.declared.operand.Operand.{Operand}
use Rattle.venice_asm.specs.declared.phase.Section.{Section}
use Rattle.venice_asm.specs.declared.phase.Section.TheVariants as sections
use Rattle.venice_asm.specs.declared.word.Word.{Word}
use Rattle.venice_asm.specs.declared.word.Word.TheVariants as words
use Rattle.venice_asm.specs.Fitting.{operand_as}
use Rattle.venice_asm.specs.Lines.{Statement, TextLine, head_kinds, kinds_behind, suits, is_optional, has_head, version_of, section_of, has_sizes}
use Rattle.venice_asm.specs.Spelling.{head_word, keyword_among}

-- ---- the words that begin a line

abbrev pub instructions : List Head
instructions =
    heads.Halt ∷ heads.Li ∷ heads.Addi ∷ heads.Add ∷ heads.Sub ∷ heads.Mul ∷ heads.Div ∷ heads.Bnz ∷ heads.Blt
    ∷ heads.Jmp ∷ heads.Set ∷ heads.Vec ∷ heads.Dma ∷ heads.Rwait ∷ heads.Wwait ∷ heads.Vwait ∷ heads.Tag
    ∷ heads.Twait ∷ []

abbrev pub in_version : Version → Head → Option Head
in_version version head = if has_head version head then Some head else None

abbrev pub instr_named : Version → List ℕ → Option Head
instr_named version name = option_and_then (in_version version) (keyword_among head_word instructions name)

-- the words that begin a line before code
abbrev pub heads_at : Option Section → List Head
heads_at (Some sections.Version) = heads.Version ∷ heads.Spad ∷ []
heads_at (Some sections.Spad) = heads.Spad ∷ []
heads_at (Some sections.Memory) = heads.Memory ∷ []
heads_at (Some sections.Arrays) = heads.Array ∷ []
heads_at section = []

-- ---- states

-- the whole lines, and what has been read of the next: nothing; a name, which is a label or an instruction's word; a
-- label with its `:`; its first word and some operands
pub data State : Type 0 where
  Start : (lines : List TextLine) → State
  AfterName : (lines : List TextLine) (name : List ℕ) → State
  AfterLabel : (lines : List TextLine) (name : List ℕ) → State
  Behind : (lines : List TextLine) (label : Option (List ℕ)) (head : Head) (operands : List Operand) → State
  Stuck : State

-- lines and one more
abbrev pub with_line : List TextLine → Option (List ℕ) → Option Statement → State
with_line lines label statement = Start (lines ++ (record { label = label; statement = statement }) ∷ [])

-- what may follow, behind a line's first word and these operands
abbrev pub kinds_left : List Kind → List Operand → List Kind
kinds_left rest [] = rest
kinds_left [] (operand ∷ operands) = []
kinds_left (kind ∷ rest) (operand ∷ operands) = kinds_left (kinds_behind operand rest) operands

-- so far, operands may stand in places of these kinds
abbrev pub suit_so_far : Version → List Kind → List Operand → Bool
suit_so_far version rest [] = true
suit_so_far version [] (operand ∷ operands) = false
suit_so_far version (kind ∷ rest) (operand ∷ operands) =
    suits version kind operand && suit_so_far version (kinds_behind operand rest) operands

-- the operands of a line that isn't whole
pub record HasBegun (head : Head) (operands : List Operand) : Type 0 where
  pub version : Version
  pub suit : suit_so_far version (head_kinds head) operands ≡ true

-- a name at the start of a line
abbrev pub at_start : List TextLine → List ℕ → State
at_start lines name =
    option_map_or (λ (head : Head). Behind lines None head [])
    (keyword_among head_word (heads_at (section_of lines)) name)
    (if has_sizes (section_of lines) then AfterName lines name else Stuck)

-- an instruction's word
abbrev pub with_instr : List TextLine → Option (List ℕ) → List ℕ → State
with_instr lines label name =
    option_map_or (λ (head : Head). Behind lines label head []) (instr_named (version_of lines) name) Stuck

-- a word where these kinds may follow
abbrev pub at_kinds : List Kind → List TextLine → Option (List ℕ) → Head → List Operand → Word → State
at_kinds rest lines label head operands words.Line =
    if list_all is_optional rest
    then with_line lines label (Some (record { head = head; operands = operands }))
    else Stuck
at_kinds [] lines label head operands word = Stuck
at_kinds (kind ∷ rest) lines label head operands word =
    option_map_or (λ (operand : Operand). Behind lines label head (operands ++ operand ∷ []))
    (operand_as (version_of lines) kind word) Stuck

-- a word behind a line's first word
abbrev pub at_word : State → Word → State
at_word (Behind lines label head operands) word =
    at_kinds (kinds_left (head_kinds head) operands) lines label head operands word
at_word s word = Stuck

-- a `:` behind a line's first word: that of arrays is a label there, as any name in code
abbrev pub at_colon : List TextLine → Option (List ℕ) → Head → List Operand → State
at_colon lines None heads.Array [] = AfterLabel lines (head_word heads.Array)
at_colon lines label head operands = Stuck

abbrev pub step : State → Word → State
step (Start lines) words.Line = with_line lines None None
step (Start lines) (words.Name name) = at_start lines name
step (AfterName lines name) words.Colon = AfterLabel lines name
step (AfterName lines name) word = at_word (with_instr lines None name) word
step (AfterLabel lines name) words.Line = with_line lines (Some name) None
step (AfterLabel lines name) (words.Name word) = with_instr lines (Some name) word
step (Behind lines label head operands) words.Colon = at_colon lines label head operands
step (Behind lines label head operands) word = at_word (Behind lines label head operands) word
step s word = Stuck

-- the lines that have been read, where the text may end
abbrev pub ending : State → Option (List TextLine)
ending (Start lines) = if has_sizes (section_of lines) then Some lines else None
ending s = None

abbrev pub reader : Reader Word State (List TextLine)
reader = record { start = Start []; stuck = Stuck; step = step; value = ending }

-- the state behind words
abbrev pub run : List Word → State
run tokens = run_from step (Start []) tokens
