-- The canonical text of an image denotes it.
use Rattle.std.proofs.Common.{◌≡◌, ◌⊎◌, inl, inr, ℕ, zero, suc, ◌+◌, ◌*◌, ◌<◌, ◌≤◌, ◌^◌, Bool, true, false, ◌||◌, ◌&&◌, List, [], ◌∷◌, ◌++◌, map, length, get_or, take, Some, None, refl, sym, ap, subst, ◌∙◌, arith, append_assoc, All, Contains}
use Rattle.std.specs.Prelude.{codes, not, nat_lt, nat_le, if◌then◌else◌, slice_get}
use Rattle.std.specs.List.{list_all, list_any, filter, filter_map, cons_option}
use Rattle.std.specs.Option.{option_map, IsSomeAnd}
use Rattle.std.proofs.lemmas.Bool.{and_from, cases_lt, both_ways}
use Rattle.std.proofs.lemmas.Bool.Decides.{nat_tests}
use Rattle.std.proofs.lemmas.Grind.{flat_map-append}
use Rattle.std.proofs.lemmas.List.{append-nil, length-map}
use Rattle.std.proofs.lemmas.Option.{slice_get-map, slice_get-get_or}
use Rattle.std.proofs.lemmas.List.Elements.{All-head, All-tail, All-nil, All-cons, All-append, All-weaker}
use Rattle.ven_base.specs.declared.elem.Elem.{Elem}
use Rattle.ven_base.specs.declared.entry.Entry.{Entry}
use Rattle.ven_base.specs.Extent.{element_limit}
use Rattle.ven_base.specs.Name.{is_name_start, is_name_byte, IsNameToken, IsName}
use Rattle.ven_io.specs.declared.token.TokenKind.TheVariants as kinds
use Rattle.ven_io.specs.Number.{number_limit}
use Rattle.ven_io.specs.Token.{line_end}
use Rattle.ven_io.specs.Tokens.{TokensTo}
use Rattle.venice_isa.specs.declared.instr.Version.{Version}
use Rattle.venice_isa.specs.declared.instr.Version.TheVariants.{One, Two}
use Rattle.venice_isa.specs.declared.instr.Instr.{Instr}
use Rattle.venice_isa.specs.declared.instr.Instr.TheVariants.{Halt, Li, Addi, Add, Sub, Mul, Div, Bnz, Blt, Jmp, Set, Vec, Dma, Rwait, Wwait, Vwait, Tag, Twait}
use Rattle.venice_isa.specs.declared.op.VecOp.{VecOp}
use Rattle.venice_isa.specs.declared.op.VecOp.TheVariants as ops
use Rattle.venice_isa.specs.Instr.{has_operation, IsInstr}
use Rattle.venice_isa.specs.Mode.{allows_mode, uses_b}
use Rattle.venice_isa.specs.Encoding.{is_cast}
use Rattle.image_loader.specs.Image.{ImageContents, IsImage, IsTable, header_of, raw_entry, raw_entries}
use Rattle.image_loader.specs.Table.{Header, RawEntry, HeaderField, EntryField, Spad, Memory, Instrs, LiesIn, BreaksEntry, array_bytes}
use Rattle.image_loader.specs.declared.table.EntryPart.{EntryPart}
use Rattle.image_loader.specs.declared.table.EntryPart.TheVariants as parts
use Rattle.venice_asm.specs.declared.head.Head.{Head}
use Rattle.venice_asm.specs.declared.head.Head.TheVariants as heads
use Rattle.venice_asm.specs.declared.operand.Operand.{Operand}
use Rattle.venice_asm.specs.declared.operand.Operand.TheVariants as operands
use Rattle.venice_asm.specs.declared.phase.Section.TheVariants as sections
use Rattle.venice_asm.specs.declared.word.Word.{Word}
use Rattle.venice_asm.specs.declared.word.Word.TheVariants as words
use Rattle.venice_asm.specs.Canonical.{line_of, mode_of, statement_of, array_statement, version_statements, head_statements, image_statements, word_text, is_attached, operand_text, operands_text, statement_text, statements_text, canonical}
use Rattle.venice_asm.specs.Faults.{HasLines}
use Rattle.venice_asm.specs.Label.{IsLabel}
use Rattle.venice_asm.specs.Laws.{DenotesItsImage}
use Rattle.venice_asm.specs.Lines.{is_reserved, Statement, TextLine, statement_words, line_words, text_words, is_instr, head_kinds, all_suit, are_in_range, behind_head, section_from, section_of, has_sizes, statements_of, is_version, version_of, has_head, register_bound, IsStatement, IsInRange}
use Rattle.venice_asm.specs.Meaning.{array_of, instrs_of, labels_from, labels_of, with_number, with_numbers}
use Rattle.venice_asm.specs.Spelling.{head_word, operand_word}
use Rattle.venice_asm.specs.Words.{language}
use Rattle.venice_asm.proofs.Names.{not_reserved, head_label, operation_label, type_label, parameter_label, direction_label, transfer_label, one_letter_label, two_letter_label, sum_label, register_label}
use Rattle.venice_asm.proofs.Spelled.{Reads as ReadsAs, Any, Ends, join, blank, nothing_reads, IsSpelled, word_reads, any_ends, open_reads, comma_reads, close_reads, line_reads}

-- ---- operands that a space stands before

abbrev IsApart : Operand → Type 0
IsApart operand = (is_attached operand ≡ false) × IsSpelled (operand_word operand)

abbrev AreApartEach : List Operand → Type 0
AreApartEach [] = Unit {0}
AreApartEach (operand ∷ rest) = IsApart operand × AreApartEach rest

apart_text : (operand : Operand) → is_attached operand ≡ false → operand_text operand ≡ 32 ∷ word_text (operand_word operand)
apart_text operand is = ap (λ (b : Bool). (if b then [] else codes " ") ++ word_text (operand_word operand)) is

apart_reads : (operand : Operand) → IsApart operand → ReadsAs Ends (operand_text operand) (operand_word operand ∷ [])
apart_reads operand h =
    subst (λ t. ReadsAs Ends t (operand_word operand ∷ [])) (sym (apart_text operand h.0))
    (blank Ends (word_text (operand_word operand)) (operand_word operand ∷ []) (omega arith) (word_reads (operand_word operand) h.1))

-- a name or a number before them ends
operands_end : (operands : List Operand) (post : List ℕ) → AreApartEach operands → Ends post → Ends (operands_text operands ++ post)
operands_end [] post h ends = ends
operands_end (operand ∷ rest) post h ends =
    subst (λ t. Ends ((t ++ operands_text rest) ++ post)) (sym (apart_text operand h.0.0)) (λ some. refl)

operands_read : (operands : List Operand) → AreApartEach operands → ReadsAs Ends (operands_text operands) (map operand_word operands)
operands_read [] h = any_ends [] [] nothing_reads
operands_read (operand ∷ rest) h =
    join Ends Ends (operand_text operand) (operands_text rest) (operand_word operand ∷ []) (map operand_word rest) (apart_reads operand h.0) (operands_read rest h.1)
    (λ post ends. operands_end rest post h.1 ends)

-- ---- statements

abbrev IsWritten : Statement → Type 0
IsWritten s = ReadsAs Any (statement_text s) (statement_words s ++ words.Line ∷ [])

written : (s : Statement) → ReadsAs Ends (operands_text s.operands) (map operand_word s.operands) → ((post : List ℕ) → Ends post → Ends (operands_text s.operands ++ post)) → IsWritten s
written s reads ends =
    join Ends Any (head_word s.head) (operands_text s.operands ++ line_end ∷ []) (words.Name (head_word s.head) ∷ []) (map operand_word s.operands ++ words.Line ∷ [])
    (word_reads (words.Name (head_word s.head)) (head_label s.head))
    (join Ends Any (operands_text s.operands) (line_end ∷ []) (map operand_word s.operands) (words.Line ∷ []) reads line_reads (λ post any some. refl))
    (λ post any. subst Ends (sym (append_assoc (operands_text s.operands) (line_end ∷ []) post)) (ends (line_end ∷ post) (λ some. refl)))

-- the statement may stand in a text of the version
record IsFitting (version : Version) (s : Statement) : Type 0 where
  is_written : IsWritten s
  statement : IsStatement version s
  ranges : IsInRange s

fitting : (version : Version) (s : Statement) → AreApartEach s.operands → has_head version s.head ≡ true → all_suit version (head_kinds s.head) s.operands ≡ true → are_in_range (head_kinds s.head) s.operands ≡ true → IsFitting version s
fitting version s apart head suits ranges = record {
  is_written = written s (operands_read s.operands apart) (λ post ends. operands_end s.operands post apart ends);
  statement = record { head = head; operands = suits };
  ranges = ranges;
}

in_limit : (n : ℕ) → n ≤ number_limit → (nat_le n number_limit && true) ≡ true
in_limit n le = grind (arith, nat_tests)

register : (a : ℕ) → a < 32 → nat_lt a 32 ≡ true
register a lt = grind (arith, nat_tests)

word_limit : (n : ℕ) → n < 2 ^ 32 → nat_le n number_limit ≡ true
word_limit n lt = grind (arith, nat_tests)

below : (n : ℕ) → n < 2 ^ 32 → n ≤ number_limit
below n lt = omega arith

bounded : (a : ℕ) → a < 32 → nat_lt a register_bound ≡ true
bounded a lt = grind (arith, nat_tests)

parameter : (field : ℕ) → field < 14 → nat_lt field 14 ≡ true
parameter field lt = grind (arith, nat_tests)

both : (a b : Bool) → a ≡ true → b ≡ true → (a && b) ≡ true
both a b h g = and_from a b h g

abbrev number_line : Head → ℕ → Statement
number_line head n = line_of head (operands.Number n ∷ [])

number_apart : (n : ℕ) → n ≤ number_limit → AreApartEach (operands.Number n ∷ [])
number_apart n le = ((refl, le), tt)

-- ---- arrays

step : (P : List ℕ → Type 0) (operand : Operand) (rest : List Operand) → ReadsAs P (operand_text operand) (operand_word operand ∷ []) → ReadsAs Ends (operands_text rest) (map operand_word rest) → ((post : List ℕ) → Ends post → P (operands_text rest ++ post)) → ReadsAs Ends (operands_text (operand ∷ rest)) (map operand_word (operand ∷ rest))
step P operand rest one more follows = join P Ends (operand_text operand) (operands_text rest) (operand_word operand ∷ []) (map operand_word rest) one more follows

record IsWrittenArray (entry : Entry) : Type 0 where
  name : IsLabel entry.name
  free : is_reserved entry.name ≡ false
  rows : entry.shape.rows ≤ number_limit
  cols : entry.shape.cols ≤ number_limit
  place : entry.place ≤ number_limit

array_reads : (entry : Entry) → IsWrittenArray entry → ReadsAs Ends (operands_text (array_statement entry).operands) (map operand_word (array_statement entry).operands)
array_reads entry h =
    let rows = word_reads (words.Number entry.shape.rows) h.rows in
    let cols = word_reads (words.Number entry.shape.cols) h.cols in
    let place : List Operand = operands.Number entry.place ∷ [] in
    let close : List Operand = operands.Close ∷ place in
    let columns : List Operand = operands.Columns entry.shape.cols ∷ close in
    let comma : List Operand = operands.Comma ∷ columns in
    let sizes : List Operand = operands.Rows entry.shape.rows ∷ comma in
    let shape : List Operand = operands.Open ∷ sizes in
    let kind : List Operand = operands.Elem entry.elem ∷ shape in
    let direction : List Operand = operands.Output entry.output ∷ kind in
    let r9 = step Ends (operands.Number entry.place) [] (apart_reads (operands.Number entry.place) (refl, h.place)) (any_ends [] [] nothing_reads) (λ post ends. ends) in
    let r8 = step Any operands.Close place close_reads r9 (λ post ends. tt) in
    let r7 = step Ends (operands.Columns entry.shape.cols) close cols r8 (λ post ends some. refl) in
    let r6 = step Any operands.Comma columns comma_reads r7 (λ post ends. tt) in
    let r5 = step Ends (operands.Rows entry.shape.rows) comma rows r6 (λ post ends some. refl) in
    let r4 = step Any operands.Open sizes open_reads r5 (λ post ends. tt) in
    let r3 = step Ends (operands.Elem entry.elem) shape (apart_reads (operands.Elem entry.elem) (refl, type_label entry.elem)) r4 (λ post ends some. refl) in
    let r2 = step Ends (operands.Output entry.output) kind (apart_reads (operands.Output entry.output) (refl, direction_label entry.output)) r3 (λ post ends some. refl) in
    step Ends (operands.Name entry.name) direction (apart_reads (operands.Name entry.name) (refl, h.name)) r2 (λ post ends some. refl)

array_fits : (version : Version) (entry : Entry) → IsWrittenArray entry → IsFitting version (array_statement entry)
array_fits version entry h = record {
  is_written = written (array_statement entry) (array_reads entry h) (λ post ends some. refl);
  statement = record { head = refl; operands = ap (λ b. not b && true) h.free };
  ranges = both _ _ (limit entry.shape.rows h.rows) (both _ _ (limit entry.shape.cols h.cols) (both _ _ (limit entry.place h.place) refl));
}
  where
    limit : (n : ℕ) → n ≤ number_limit → nat_le n number_limit ≡ true
    limit n le = grind (arith, nat_tests)

-- ---- instructions

-- a vector instruction by its parts
abbrev pub vector_parts : (cast : Bool) (op : VecOp) (elem from : Elem) (mode : Operand) (acc : Bool) → List Operand
vector_parts cast op elem from mode acc =
    operands.Operation op ∷ operands.Elem elem ∷ ((if cast then operands.Elem from ∷ [] else []) ++ (mode ∷ (if acc then operands.Sum ∷ [] else [])))

abbrev pub vector_operands_of : (op : VecOp) (elem from : Elem) (a b acc : Bool) → List Operand
vector_operands_of op elem from a b acc = vector_parts (is_cast op) op elem from (if uses_b op then operands.ModeAB a b else operands.ModeA a) acc

record IsMode (mode : Operand) : Type 0 where
  apart : is_attached mode ≡ false
  label : IsSpelled (operand_word mode)

parts_apart : (cast : Bool) (op : VecOp) (elem from : Elem) (mode : Operand) (acc : Bool) → IsMode mode → AreApartEach (vector_parts cast op elem from mode acc)
parts_apart true op elem from mode true h = ((refl, operation_label op), ((refl, type_label elem), ((refl, type_label from), ((h.apart, h.label), ((refl, sum_label), tt)))))
parts_apart true op elem from mode false h = ((refl, operation_label op), ((refl, type_label elem), ((refl, type_label from), ((h.apart, h.label), tt))))
parts_apart false op elem from mode true h = ((refl, operation_label op), ((refl, type_label elem), ((h.apart, h.label), ((refl, sum_label), tt))))
parts_apart false op elem from mode false h = ((refl, operation_label op), ((refl, type_label elem), ((h.apart, h.label), tt)))

one_mode : (a : Bool) → IsMode (operands.ModeA a)
one_mode a = record { apart = refl; label = one_letter_label a }

two_modes : (a b : Bool) → IsMode (operands.ModeAB a b)
two_modes a b = record { apart = refl; label = two_letter_label a b }

vector_fits : (version : Version) (op : VecOp) (elem from : Elem) (a b acc : Bool) → has_operation version op ≡ true → allows_mode op b acc ≡ true → IsFitting version (line_of heads.Vec (vector_operands_of op elem from a b acc))
vector_fits version ops.Mov elem from a b true has allows = fitting version _ (parts_apart false ops.Mov elem from (operands.ModeA a) true (one_mode a)) refl refl refl
vector_fits version ops.Mov elem from a b false has allows = fitting version _ (parts_apart false ops.Mov elem from (operands.ModeA a) false (one_mode a)) refl refl refl
vector_fits version ops.Cast elem from a b true has allows = fitting version _ (parts_apart true ops.Cast elem from (operands.ModeA a) true (one_mode a)) refl refl refl
vector_fits version ops.Cast elem from a b false has allows = fitting version _ (parts_apart true ops.Cast elem from (operands.ModeA a) false (one_mode a)) refl refl refl
vector_fits version ops.Add elem from a b true has allows = fitting version _ (parts_apart false ops.Add elem from (operands.ModeAB a b) true (two_modes a b)) refl refl refl
vector_fits version ops.Add elem from a b false has allows = fitting version _ (parts_apart false ops.Add elem from (operands.ModeAB a b) false (two_modes a b)) refl refl refl
vector_fits version ops.Sub elem from a b true has allows = fitting version _ (parts_apart false ops.Sub elem from (operands.ModeAB a b) true (two_modes a b)) refl refl refl
vector_fits version ops.Sub elem from a b false has allows = fitting version _ (parts_apart false ops.Sub elem from (operands.ModeAB a b) false (two_modes a b)) refl refl refl
vector_fits version ops.Mul elem from a b true has allows = fitting version _ (parts_apart false ops.Mul elem from (operands.ModeAB a b) true (two_modes a b)) refl refl refl
vector_fits version ops.Mul elem from a b false has allows = fitting version _ (parts_apart false ops.Mul elem from (operands.ModeAB a b) false (two_modes a b)) refl refl refl
vector_fits version ops.And elem from a b true has allows = fitting version _ (parts_apart false ops.And elem from (operands.ModeAB a b) true (two_modes a b)) refl refl refl
vector_fits version ops.And elem from a b false has allows = fitting version _ (parts_apart false ops.And elem from (operands.ModeAB a b) false (two_modes a b)) refl refl refl
vector_fits version ops.Or elem from a b true has allows = fitting version _ (parts_apart false ops.Or elem from (operands.ModeAB a b) true (two_modes a b)) refl refl refl
vector_fits version ops.Or elem from a b false has allows = fitting version _ (parts_apart false ops.Or elem from (operands.ModeAB a b) false (two_modes a b)) refl refl refl
vector_fits version ops.Xor elem from a b true has allows = fitting version _ (parts_apart false ops.Xor elem from (operands.ModeAB a b) true (two_modes a b)) refl refl refl
vector_fits version ops.Xor elem from a b false has allows = fitting version _ (parts_apart false ops.Xor elem from (operands.ModeAB a b) false (two_modes a b)) refl refl refl
vector_fits version ops.Shl elem from a b true has allows = fitting version _ (parts_apart false ops.Shl elem from (operands.ModeAB a b) true (two_modes a b)) refl refl refl
vector_fits version ops.Shl elem from a b false has allows = fitting version _ (parts_apart false ops.Shl elem from (operands.ModeAB a b) false (two_modes a b)) refl refl refl
vector_fits version ops.Shr elem from a b true has allows = fitting version _ (parts_apart false ops.Shr elem from (operands.ModeAB a b) true (two_modes a b)) refl refl refl
vector_fits version ops.Shr elem from a b false has allows = fitting version _ (parts_apart false ops.Shr elem from (operands.ModeAB a b) false (two_modes a b)) refl refl refl
vector_fits version ops.Min elem from a b true has allows = fitting version _ (parts_apart false ops.Min elem from (operands.ModeAB a b) true (two_modes a b)) refl refl refl
vector_fits version ops.Min elem from a b false has allows = fitting version _ (parts_apart false ops.Min elem from (operands.ModeAB a b) false (two_modes a b)) refl refl refl
vector_fits version ops.Max elem from a b true has allows = fitting version _ (parts_apart false ops.Max elem from (operands.ModeAB a b) true (two_modes a b)) refl refl refl
vector_fits version ops.Max elem from a b false has allows = fitting version _ (parts_apart false ops.Max elem from (operands.ModeAB a b) false (two_modes a b)) refl refl refl
vector_fits version ops.Abs elem from a b true has allows = fitting version _ (parts_apart false ops.Abs elem from (operands.ModeA a) true (one_mode a)) refl refl refl
vector_fits version ops.Abs elem from a b false has allows = fitting version _ (parts_apart false ops.Abs elem from (operands.ModeA a) false (one_mode a)) refl refl refl
vector_fits version ops.Eq elem from a b true has allows = fitting version _ (parts_apart false ops.Eq elem from (operands.ModeAB a b) true (two_modes a b)) refl refl refl
vector_fits version ops.Eq elem from a b false has allows = fitting version _ (parts_apart false ops.Eq elem from (operands.ModeAB a b) false (two_modes a b)) refl refl refl
vector_fits version ops.Ne elem from a b true has allows = fitting version _ (parts_apart false ops.Ne elem from (operands.ModeAB a b) true (two_modes a b)) refl refl refl
vector_fits version ops.Ne elem from a b false has allows = fitting version _ (parts_apart false ops.Ne elem from (operands.ModeAB a b) false (two_modes a b)) refl refl refl
vector_fits version ops.Lt elem from a b true has allows = fitting version _ (parts_apart false ops.Lt elem from (operands.ModeAB a b) true (two_modes a b)) refl refl refl
vector_fits version ops.Lt elem from a b false has allows = fitting version _ (parts_apart false ops.Lt elem from (operands.ModeAB a b) false (two_modes a b)) refl refl refl
vector_fits version ops.Le elem from a b true has allows = fitting version _ (parts_apart false ops.Le elem from (operands.ModeAB a b) true (two_modes a b)) refl refl refl
vector_fits version ops.Le elem from a b false has allows = fitting version _ (parts_apart false ops.Le elem from (operands.ModeAB a b) false (two_modes a b)) refl refl refl
vector_fits version ops.Cmov elem from a false false has allows = fitting version _ (parts_apart false ops.Cmov elem from (operands.ModeAB a false) false (two_modes a false)) refl refl refl
vector_fits version ops.Cmov elem from a true acc has allows = let e : false ≡ true = allows in absurd (cc)
vector_fits version ops.Cmov elem from a false true has allows = let e : false ≡ true = allows in absurd (cc)
vector_fits version ops.Sadd elem from a b true has allows = fitting version _ (parts_apart false ops.Sadd elem from (operands.ModeAB a b) true (two_modes a b)) refl (both _ _ has refl) refl
vector_fits version ops.Sadd elem from a b false has allows = fitting version _ (parts_apart false ops.Sadd elem from (operands.ModeAB a b) false (two_modes a b)) refl (both _ _ has refl) refl
vector_fits version ops.Ssub elem from a b true has allows = fitting version _ (parts_apart false ops.Ssub elem from (operands.ModeAB a b) true (two_modes a b)) refl (both _ _ has refl) refl
vector_fits version ops.Ssub elem from a b false has allows = fitting version _ (parts_apart false ops.Ssub elem from (operands.ModeAB a b) false (two_modes a b)) refl (both _ _ has refl) refl

instr_fits : (version : Version) (instr : Instr) → IsInstr version instr → IsFitting version (statement_of instr)
instr_fits version Halt h = fitting version _ tt refl refl refl
instr_fits version (Li d n) h = fitting version _ ((refl, register_label d h.ranges.0), ((refl, below n h.ranges.1), tt)) refl (both _ _ (bounded d h.ranges.0) refl) (both _ _ (register d h.ranges.0) (both _ _ (word_limit n h.ranges.1) refl))
instr_fits version (Addi d a n) h = fitting version _ ((refl, register_label d h.ranges.0), ((refl, register_label a h.ranges.1), ((refl, below n h.ranges.2), tt))) refl (both _ _ (bounded d h.ranges.0) (both _ _ (bounded a h.ranges.1) refl)) (both _ _ (register d h.ranges.0) (both _ _ (register a h.ranges.1) (both _ _ (word_limit n h.ranges.2) refl)))
instr_fits version (Add d a b) h = fitting version _ ((refl, register_label d h.ranges.0), ((refl, register_label a h.ranges.1), ((refl, register_label b h.ranges.2), tt))) refl (both _ _ (bounded d h.ranges.0) (both _ _ (bounded a h.ranges.1) (both _ _ (bounded b h.ranges.2) refl))) (both _ _ (register d h.ranges.0) (both _ _ (register a h.ranges.1) (both _ _ (register b h.ranges.2) refl)))
instr_fits version (Sub d a b) h = fitting version _ ((refl, register_label d h.ranges.0), ((refl, register_label a h.ranges.1), ((refl, register_label b h.ranges.2), tt))) refl (both _ _ (bounded d h.ranges.0) (both _ _ (bounded a h.ranges.1) (both _ _ (bounded b h.ranges.2) refl))) (both _ _ (register d h.ranges.0) (both _ _ (register a h.ranges.1) (both _ _ (register b h.ranges.2) refl)))
instr_fits version (Mul d a b) h = fitting version _ ((refl, register_label d h.ranges.0), ((refl, register_label a h.ranges.1), ((refl, register_label b h.ranges.2), tt))) refl (both _ _ (bounded d h.ranges.0) (both _ _ (bounded a h.ranges.1) (both _ _ (bounded b h.ranges.2) refl))) (both _ _ (register d h.ranges.0) (both _ _ (register a h.ranges.1) (both _ _ (register b h.ranges.2) refl)))
instr_fits version (Div d a b) h = fitting version _ ((refl, register_label d h.ranges.0), ((refl, register_label a h.ranges.1), ((refl, register_label b h.ranges.2), tt))) refl (both _ _ (bounded d h.ranges.0) (both _ _ (bounded a h.ranges.1) (both _ _ (bounded b h.ranges.2) refl))) (both _ _ (register d h.ranges.0) (both _ _ (register a h.ranges.1) (both _ _ (register b h.ranges.2) refl)))
instr_fits version (Bnz a to) h = fitting version _ ((refl, register_label a h.ranges.0), ((refl, below to h.ranges.1), tt)) refl (both _ _ (bounded a h.ranges.0) refl) (both _ _ (register a h.ranges.0) (both _ _ (word_limit to h.ranges.1) refl))
instr_fits version (Blt a b to) h = fitting version _ ((refl, register_label a h.ranges.0), ((refl, register_label b h.ranges.1), ((refl, below to h.ranges.2), tt))) refl (both _ _ (bounded a h.ranges.0) (both _ _ (bounded b h.ranges.1) refl)) (both _ _ (register a h.ranges.0) (both _ _ (register b h.ranges.1) (both _ _ (word_limit to h.ranges.2) refl)))
instr_fits version (Jmp to) h = fitting version _ ((refl, below to h.ranges), tt) refl refl (both _ _ (word_limit to h.ranges) refl)
instr_fits version (Set field a) h = fitting version _ ((refl, parameter_label field h.ranges.0), ((refl, register_label a h.ranges.1), tt)) refl (both _ _ (parameter field h.ranges.0) (both _ _ (bounded a h.ranges.1) refl)) (both _ _ refl (both _ _ (register a h.ranges.1) refl))
instr_fits version (Vec kind) h = vector_fits version kind.op kind.elem kind.from kind.a_scalar kind.b_scalar kind.acc h.in_version kind.mode_allowed
instr_fits version (Dma write) h = fitting version _ ((refl, transfer_label write), tt) refl refl (both _ _ refl refl)
instr_fits version (Rwait a) h = fitting version _ ((refl, register_label a h.ranges), tt) refl (both _ _ (bounded a h.ranges) refl) (both _ _ (register a h.ranges) refl)
instr_fits version (Wwait a) h = fitting version _ ((refl, register_label a h.ranges), tt) refl (both _ _ (bounded a h.ranges) refl) (both _ _ (register a h.ranges) refl)
instr_fits version Vwait h = fitting version _ tt refl refl refl
instr_fits version (Tag a) h = fitting version _ ((refl, register_label a h.ranges), tt) h.in_version (both _ _ (bounded a h.ranges) refl) (both _ _ (register a h.ranges) refl)
instr_fits version (Twait a) h = fitting version _ ((refl, register_label a h.ranges), tt) h.in_version (both _ _ (bounded a h.ranges) refl) (both _ _ (register a h.ranges) refl)

instr_head : (instr : Instr) → is_instr (statement_of instr).head ≡ true
instr_head Halt = refl
instr_head (Li d n) = refl
instr_head (Addi d a n) = refl
instr_head (Add d a b) = refl
instr_head (Sub d a b) = refl
instr_head (Mul d a b) = refl
instr_head (Div d a b) = refl
instr_head (Bnz a to) = refl
instr_head (Blt a b to) = refl
instr_head (Jmp to) = refl
instr_head (Set field a) = refl
instr_head (Vec kind) = refl
instr_head (Dma write) = refl
instr_head (Rwait a) = refl
instr_head (Wwait a) = refl
instr_head Vwait = refl
instr_head (Tag a) = refl
instr_head (Twait a) = refl

no_version : (instr : Instr) → is_version (statement_of instr).head ≡ false
no_version Halt = refl
no_version (Li d n) = refl
no_version (Addi d a n) = refl
no_version (Add d a b) = refl
no_version (Sub d a b) = refl
no_version (Mul d a b) = refl
no_version (Div d a b) = refl
no_version (Bnz a to) = refl
no_version (Blt a b to) = refl
no_version (Jmp to) = refl
no_version (Set field a) = refl
no_version (Vec kind) = refl
no_version (Dma write) = refl
no_version (Rwait a) = refl
no_version (Wwait a) = refl
no_version Vwait = refl
no_version (Tag a) = refl
no_version (Twait a) = refl

no_array : (instr : Instr) → array_of (statement_of instr).head (statement_of instr).operands ≡ None
no_array Halt = refl
no_array (Li d n) = refl
no_array (Addi d a n) = refl
no_array (Add d a b) = refl
no_array (Sub d a b) = refl
no_array (Mul d a b) = refl
no_array (Div d a b) = refl
no_array (Bnz a to) = refl
no_array (Blt a b to) = refl
no_array (Jmp to) = refl
no_array (Set field a) = refl
no_array (Vec kind) = refl
no_array (Dma write) = refl
no_array (Rwait a) = refl
no_array (Wwait a) = refl
no_array Vwait = refl
no_array (Tag a) = refl
no_array (Twait a) = refl

-- no label stands in them
vector_kept : (lines : List TextLine) (cast : Bool) (op : VecOp) (elem from : Elem) (mode : Operand) (acc : Bool) → with_number lines mode ≡ mode → map (with_number lines) (vector_parts cast op elem from mode acc) ≡ vector_parts cast op elem from mode acc
vector_kept lines true op elem from mode true is = ap (λ m. operands.Operation op ∷ operands.Elem elem ∷ operands.Elem from ∷ m ∷ operands.Sum ∷ []) is
vector_kept lines true op elem from mode false is = ap (λ m. operands.Operation op ∷ operands.Elem elem ∷ operands.Elem from ∷ m ∷ []) is
vector_kept lines false op elem from mode true is = ap (λ m. operands.Operation op ∷ operands.Elem elem ∷ m ∷ operands.Sum ∷ []) is
vector_kept lines false op elem from mode false is = ap (λ m. operands.Operation op ∷ operands.Elem elem ∷ m ∷ []) is

mode_kept : (lines : List TextLine) (uses : Bool) (a b : Bool) → with_number lines (if uses then operands.ModeAB a b else operands.ModeA a) ≡ (if uses then operands.ModeAB a b else operands.ModeA a)
mode_kept lines true a b = refl
mode_kept lines false a b = refl

instr_kept : (lines : List TextLine) (instr : Instr) → with_numbers lines (statement_of instr) ≡ statement_of instr
instr_kept lines Halt = refl
instr_kept lines (Li d n) = refl
instr_kept lines (Addi d a n) = refl
instr_kept lines (Add d a b) = refl
instr_kept lines (Sub d a b) = refl
instr_kept lines (Mul d a b) = refl
instr_kept lines (Div d a b) = refl
instr_kept lines (Bnz a to) = refl
instr_kept lines (Blt a b to) = refl
instr_kept lines (Jmp to) = refl
instr_kept lines (Set field a) = refl
instr_kept lines (Vec kind) = ap (λ (os : List Operand). line_of heads.Vec os) (vector_kept lines (is_cast kind.op) kind.op kind.elem kind.from (mode_of kind) kind.acc (mode_kept lines (uses_b kind.op) kind.a_scalar kind.b_scalar))
instr_kept lines (Dma write) = refl
instr_kept lines (Rwait a) = refl
instr_kept lines (Wwait a) = refl
instr_kept lines Vwait = refl
instr_kept lines (Tag a) = refl
instr_kept lines (Twait a) = refl

-- ---- the lines of statements

abbrev pub plain_line : Statement → TextLine
plain_line s = record { label = None; statement = Some s }

abbrev pub end_line : TextLine
end_line = record { label = None; statement = None }

-- lines without labels, and the empty one that the text's end ends
abbrev pub plain_lines : List Statement → List TextLine
plain_lines statements = map plain_line statements ++ end_line ∷ []

statements_read : (statements : List Statement) → All IsWritten statements → ReadsAs Any (statements_text statements) (text_words (map plain_line statements))
statements_read [] h = nothing_reads
statements_read (s ∷ statements) h =
    join Any Any (statement_text s) (statements_text statements) (line_words (plain_line s)) (text_words (map plain_line statements))
    (All-head IsWritten s statements h) (statements_read statements (All-tail IsWritten s statements h)) (λ post any. tt)

statements_are : (statements : List Statement) → statements_of (plain_lines statements) ≡ statements
statements_are [] = refl
statements_are (s ∷ statements) = ap (λ rest. s ∷ rest) (statements_are statements)

no_labels : (statements : List Statement) (count : ℕ) → labels_from count (plain_lines statements) ≡ []
no_labels [] count = refl
no_labels (s ∷ statements) count = no_labels statements (count + length (instrs_of (plain_line s ∷ [])))

-- ---- the order of lines

pub next_instr : (head : Head) → is_instr head ≡ true → (behind_head head sections.Arrays ≡ Some sections.Code) × (behind_head head sections.Code ≡ Some sections.Code)
next_instr heads.Version e = absurd (cc)
next_instr heads.Spad e = absurd (cc)
next_instr heads.Memory e = absurd (cc)
next_instr heads.Array e = absurd (cc)
next_instr head e = (refl, refl)

code_ends : (instrs : List Instr) → has_sizes (section_from (Some sections.Code) (plain_lines (map statement_of instrs))) ≡ true
code_ends [] = refl
code_ends (instr ∷ instrs) =
    ap (λ o. has_sizes (section_from o (plain_lines (map statement_of instrs)))) (next_instr (statement_of instr).head (instr_head instr)).1 ∙ code_ends instrs

arrays_end : (arrays : List Entry) (instrs : List Instr) → has_sizes (section_from (Some sections.Arrays) (plain_lines (map array_statement arrays ++ map statement_of instrs))) ≡ true
arrays_end [] [] = refl
arrays_end [] (instr ∷ instrs) =
    ap (λ o. has_sizes (section_from o (plain_lines (map statement_of instrs)))) (next_instr (statement_of instr).head (instr_head instr)).0 ∙ code_ends instrs
arrays_end (entry ∷ arrays) instrs = arrays_end arrays instrs

-- the statements of an image by its parts
abbrev parts_of : Version → (spad memory : ℕ) → List Entry → List Instr → List Statement
parts_of version spad memory arrays instrs = head_statements version spad memory ++ (map array_statement arrays ++ map statement_of instrs)

in_order : (version : Version) (spad memory : ℕ) (arrays : List Entry) (instrs : List Instr) → has_sizes (section_of (plain_lines (parts_of version spad memory arrays instrs))) ≡ true
in_order One spad memory arrays instrs = arrays_end arrays instrs
in_order Two spad memory arrays instrs = arrays_end arrays instrs

-- ---- the version

is_version_line : Statement → Bool
is_version_line s = is_version s.head

no_versions : (arrays : List Entry) (instrs : List Instr) → list_any (λ (s : Statement). is_version s.head) (map array_statement arrays ++ map statement_of instrs) ≡ false
no_versions [] [] = refl
no_versions [] (instr ∷ instrs) = ap (λ b. b || list_any (λ (s : Statement). is_version s.head) (map statement_of instrs)) (no_version instr) ∙ no_versions [] instrs
no_versions (entry ∷ arrays) instrs = no_versions arrays instrs

versions : (version : Version) (spad memory : ℕ) (arrays : List Entry) (instrs : List Instr) → (if list_any (λ (s : Statement). is_version s.head) (parts_of version spad memory arrays instrs) then Two else One) ≡ version
versions One spad memory arrays instrs = ap (λ b. if b then Two else One) (no_versions arrays instrs)
versions Two spad memory arrays instrs = refl

-- ---- instructions and arrays

only_instrs : (arrays : List Entry) (instrs : List Instr) → filter (λ (s : Statement). is_instr s.head) (map array_statement arrays ++ map statement_of instrs) ≡ map statement_of instrs
only_instrs [] [] = refl
only_instrs [] (instr ∷ instrs) =
    ap (λ b. if b then statement_of instr ∷ filter (λ (s : Statement). is_instr s.head) (map statement_of instrs) else filter (λ (s : Statement). is_instr s.head) (map statement_of instrs)) (instr_head instr)
    ∙ ap (λ rest. statement_of instr ∷ rest) (only_instrs [] instrs)
only_instrs (entry ∷ arrays) instrs = only_instrs arrays instrs

instrs_are : (version : Version) (spad memory : ℕ) (arrays : List Entry) (instrs : List Instr) → filter (λ (s : Statement). is_instr s.head) (parts_of version spad memory arrays instrs) ≡ map statement_of instrs
instrs_are One spad memory arrays instrs = only_instrs arrays instrs
instrs_are Two spad memory arrays instrs = only_instrs arrays instrs

only_arrays : (arrays : List Entry) (instrs : List Instr) → filter_map (λ (s : Statement). array_of s.head s.operands) (map array_statement arrays ++ map statement_of instrs) ≡ raw_entries arrays
only_arrays [] [] = refl
only_arrays [] (instr ∷ instrs) =
    ap (λ o. cons_option o (filter_map (λ (s : Statement). array_of s.head s.operands) (map statement_of instrs))) (no_array instr) ∙ only_arrays [] instrs
only_arrays (entry ∷ arrays) instrs = ap (λ rest. raw_entry entry ∷ rest) (only_arrays arrays instrs)

arrays_are : (version : Version) (spad memory : ℕ) (arrays : List Entry) (instrs : List Instr) → filter_map (λ (s : Statement). array_of s.head s.operands) (parts_of version spad memory arrays instrs) ≡ raw_entries arrays
arrays_are One spad memory arrays instrs = only_arrays arrays instrs
arrays_are Two spad memory arrays instrs = only_arrays arrays instrs

instrs_kept : (lines : List TextLine) (instrs : List Instr) → map statement_of instrs ≡ map (with_numbers lines) (map statement_of instrs)
instrs_kept lines [] = refl
instrs_kept lines (instr ∷ instrs) = ap (λ s. s ∷ map statement_of instrs) (sym (instr_kept lines instr)) ∙ ap (λ rest. with_numbers lines (statement_of instr) ∷ rest) (instrs_kept lines instrs)

-- ---- what an image's numbers keep

lies : (least most n : ℕ) → (¬ LiesIn least most n → ⊥) → (least ≤ n) × (n ≤ most)
lies least most n h = (by_least (cases_lt n least), by_most (cases_lt most n))
  where
    by_least : (n < least) ⊎ (least ≤ n) → least ≤ n
    by_least (inl lt) = absurd (h (λ l. let from = l.from in absurd (omega arith)))
    by_least (inr le) = le

    by_most : (most < n) ⊎ (n ≤ most) → n ≤ most
    by_most (inl lt) = absurd (h (λ l. let to = l.to in absurd (omega arith)))
    by_most (inr le) = le

-- a fact that can be tested holds where it can't fail
not_less : (m n : ℕ) → ((m < n) → ⊥) → n ≤ m
not_less m n h = by (cases_lt m n)
  where
    by : (m < n) ⊎ (n ≤ m) → n ≤ m
    by (inl lt) = absurd (h lt)
    by (inr le) = le

some : (n : ℕ) → (n ≡ 0 → ⊥) → 1 ≤ n
some n h = not_less n 1 (λ lt. h (omega arith))

at_most : (m n : ℕ) → 1 ≤ n → m ≤ m * n
at_most m zero one = absurd (omega arith)
at_most m (suc n) one = omega arith

at_most_right : (m n : ℕ) → 1 ≤ m → n ≤ m * n
at_most_right zero n one = absurd (omega arith)
at_most_right (suc m) n one = omega arith

-- bytes that can't be no name are a label
named : (bytes : List ℕ) → (¬ IsName bytes → ⊥) → IsLabel bytes
named bytes h = record { token = token bytes h; short = not_less 31 (length bytes) (λ lt. h (λ n. let short = n.short in absurd (omega arith))) }
  where
    test : (b : Bool) → (b ≡ false → ⊥) → b ≡ true
    test true off = refl
    test false off = absurd (off refl)

    token : (bs : List ℕ) → (¬ IsName bs → ⊥) → IsNameToken bs
    token [] g = absurd (g (λ n. n.token))
    token (b ∷ bs) g = (
      test (is_name_start b) (λ off. g (λ n. let on = n.token.0 in both_ways _ off on)),
      test (list_all is_name_byte bs) (λ off. g (λ n. let on = n.token.1 in both_ways _ off on)),
    )

-- nor are they reserved
free_name : (bytes : List ℕ) → (¬ IsName bytes → ⊥) → is_reserved bytes ≡ false
free_name bytes h = not_reserved bytes (λ reserved. h (λ n. n.free reserved))

record KeepsNumbers (raw : RawEntry) : Type 0 where
  name : IsLabel raw.name
  free : is_reserved raw.name ≡ false
  rows : raw.rows ≤ number_limit
  cols : raw.columns ≤ number_limit
  place : raw.place ≤ number_limit

keeps_numbers : (header : Header) (entries : List RawEntry) (k : ℕ) (raw : RawEntry) → IsTable header entries → header.memory ≤ number_limit → slice_get entries k ≡ Some raw → KeepsNumbers raw
keeps_numbers header entries k raw table memory is =
    let sizes = not_less element_limit (raw.rows * raw.columns) (λ lt. none parts.Columns (inr lt)) in
    let rows = at_most raw.rows raw.columns (some raw.columns (λ e. none parts.Columns (inl e))) in
    let cols = at_most_right raw.rows raw.columns (some raw.rows (λ e. none parts.Rows e)) in
    let end = not_less header.memory (raw.place + array_bytes raw) (λ lt. none parts.Place (inl lt)) in
    let length_lies = lies 1 31 raw.name_length (none parts.NameLength) in
    record {
      name = named raw.name (λ no. none parts.NameBytes (record { from = length_lies.0; to = length_lies.1 }, inl no));
      free = free_name raw.name (λ no. none parts.NameBytes (record { from = length_lies.0; to = length_lies.1 }, inl no));
      rows = omega arith;
      cols = omega arith;
      place = omega arith;
    }
  where
    none : (part : EntryPart) → ¬ BreaksEntry header.memory (take k entries) raw part
    none part b = table (EntryField k part) (subst (λ o. IsSomeAnd o (λ entry. BreaksEntry header.memory (take k entries) entry part)) (sym is) b)

arrays_keep : (image : ImageContents) → IsImage image → image.memory ≤ number_limit → All IsWrittenArray image.arrays
arrays_keep image h memory k d lt =
    let entry = get_or image.arrays k d in
    let is : slice_get (raw_entries image.arrays) k ≡ Some (raw_entry entry) = slice_get-map raw_entry image.arrays k ∙ ap (option_map raw_entry) (slice_get-get_or image.arrays k d lt) in
    let n = keeps_numbers (header_of image) (raw_entries image.arrays) k (raw_entry entry) h.table memory is in
    record { name = n.name; free = n.free; rows = n.rows; cols = n.cols; place = n.place }

-- ---- all statements fit

version_fits : (version : Version) → All (IsFitting version) (version_statements version)
version_fits One = All-nil (IsFitting One)
version_fits Two = All-cons (IsFitting Two) (number_line heads.Version 2) [] (fitting Two (number_line heads.Version 2) (number_apart 2 (omega arith)) refl refl refl) (All-nil (IsFitting Two))

head_fits : (version : Version) (spad memory : ℕ) → spad ≤ number_limit → memory ≤ number_limit → All (IsFitting version) (head_statements version spad memory)
head_fits version spad memory few small =
    All-append (IsFitting version) (version_statements version) (number_line heads.Spad spad ∷ number_line heads.Memory memory ∷ []) (version_fits version)
    (All-cons (IsFitting version) (number_line heads.Spad spad) (number_line heads.Memory memory ∷ []) (fitting version (number_line heads.Spad spad) (number_apart spad few) refl refl (in_limit spad few))
    (All-cons (IsFitting version) (number_line heads.Memory memory) [] (fitting version (number_line heads.Memory memory) (number_apart memory small) refl refl (in_limit memory small)) (All-nil (IsFitting version))))

arrays_fit : (version : Version) (arrays : List Entry) → All IsWrittenArray arrays → All (IsFitting version) (map array_statement arrays)
arrays_fit version [] h = All-nil (IsFitting version)
arrays_fit version (entry ∷ arrays) h =
    All-cons (IsFitting version) (array_statement entry) (map array_statement arrays) (array_fits version entry (All-head IsWrittenArray entry arrays h)) (arrays_fit version arrays (All-tail IsWrittenArray entry arrays h))

instrs_fit : (version : Version) (instrs : List Instr) → All (IsInstr version) instrs → All (IsFitting version) (map statement_of instrs)
instrs_fit version [] h = All-nil (IsFitting version)
instrs_fit version (instr ∷ instrs) h =
    All-cons (IsFitting version) (statement_of instr) (map statement_of instrs) (instr_fits version instr (All-head (IsInstr version) instr instrs h)) (instrs_fit version instrs (All-tail (IsInstr version) instr instrs h))

-- ---- the law

flat_push : (lines : List TextLine) (line : TextLine) → text_words (lines ++ line ∷ []) ≡ text_words lines ++ line_words line
flat_push lines line = flat_map-append line_words lines (line ∷ []) ∙ ap (λ rest. text_words lines ++ rest) (append-nil (line_words line))

text_lines : (version : Version) (statements : List Statement) → has_sizes (section_of (plain_lines statements)) ≡ true → (if list_any (λ (s : Statement). is_version s.head) statements then Two else One) ≡ version → All (IsFitting version) statements → HasLines (statements_text statements) (plain_lines statements)
text_lines version statements order is fits =
    let text = statements_text statements in
    let tokens = text_words (map plain_line statements) in
    let same = statements_are statements in
    let version_is : version_of (plain_lines statements) ≡ version = ap (λ ss. if list_any (λ (s : Statement). is_version s.head) ss then Two else One) same ∙ is in
    record {
      words = tokens;
      end = record { kind = kinds.End; start = length text; end = length text };
      is_end = refl;
      behind = record {
        from = length text;
        read = subst (λ t. TokensTo language t 0 tokens (length text)) (append-nil text) (whole text tokens (statements_read statements (All-weaker (IsFitting version) IsWritten (λ s f. f.is_written) statements fits) [] [] tt));
        next_is = (record { after = omega arith; in_text = omega arith; before = λ k le lt. absurd (omega arith); unskipped = λ lt s. absurd (omega arith) }, inl (record { kind = refl; start = refl; end = refl }));
        kept = refl;
      };
      are = record {
        words = record {
          spelled = sym (flat_push (map plain_line statements) end_line);
          lines_are = record {
            order = order;
            each = subst (λ v. All (IsStatement v) (statements_of (plain_lines statements))) (sym version_is) (subst (All (IsStatement version)) (sym same) (All-weaker (IsFitting version) (IsStatement version) (λ s f. f.statement) statements fits));
          };
        };
        ranges = subst (All IsInRange) (sym same) (All-weaker (IsFitting version) IsInRange (λ s f. f.ranges) statements fits);
      };
    }
  where
    whole : (text : List ℕ) (tokens : List Word) → TokensTo language ([] ++ (text ++ [])) 0 tokens (0 + length text) → TokensTo language (text ++ []) 0 tokens (length text)
    whole text tokens r = let here : 0 + length text ≡ length text = omega arith in subst (λ to. TokensTo language (text ++ []) 0 tokens to) here r

-- a statement of the head stands in it
head_contains : (version : Version) (spad memory : ℕ) (rest : List Statement) → Contains (head_statements version spad memory ++ rest) (number_line heads.Spad spad) × Contains (head_statements version spad memory ++ rest) (number_line heads.Memory memory)
head_contains One spad memory rest = ((0, omega arith, refl), (1, omega arith, refl))
head_contains Two spad memory rest = ((1, omega arith, refl), (2, omega arith, refl))

pub canonical_denotes : DenotesItsImage
unfolding canonical
canonical_denotes image h =
    let version = image.code.version in
    let arrays = image.arrays in
    let instrs = image.code.instrs in
    let statements = image_statements image in
    let lines = plain_lines statements in
    let same : statements_of lines ≡ statements = statements_are statements in
    let spad = (lies 1 1048576 image.spad (h.table (HeaderField Spad))).1 in
    let memory = (lies 0 134217728 image.memory (h.table (HeaderField Memory))).1 in
    let few = (lies 0 8000000 (length instrs) (h.table (HeaderField Instrs))).1 in
    let small : image.memory ≤ number_limit = omega arith in
    let fits : All (IsFitting version) statements =
    All-append (IsFitting version) (head_statements version image.spad image.memory) (map array_statement arrays ++ map statement_of instrs) (head_fits version image.spad image.memory (omega arith) small)
    (All-append (IsFitting version) (map array_statement arrays) (map statement_of instrs) (arrays_fit version arrays (arrays_keep image h small)) (instrs_fit version instrs h.code.each)) in
    let instrs_is : instrs_of lines ≡ map statement_of instrs = ap (filter (λ (s : Statement). is_instr s.head)) same ∙ instrs_are version image.spad image.memory arrays instrs in
    let none : labels_of lines ≡ [] = no_labels statements 0 in
    let heads_there = head_contains version image.spad image.memory (map array_statement arrays ++ map statement_of instrs) in
    record {
      lines = lines;
      reads = record {
        has = text_lines version statements (in_order version image.spad image.memory arrays instrs) (versions version image.spad image.memory arrays instrs) fits;
        few = let count : length (instrs_of lines) ≡ length instrs = ap length instrs_is ∙ length-map instrs statement_of in omega (arith, count);
        apart = record { each = λ k name is. absurd (nothing_at k name (sym (ap (λ (ls : List (List ℕ × ℕ)). slice_get (map (λ (l : List ℕ × ℕ). l.0) ls) k) none) ∙ is)) };
      };
      is_of = record {
        spad = subst (λ ss. Contains ss (number_line heads.Spad image.spad)) (sym same) heads_there.0;
        memory = subst (λ ss. Contains ss (number_line heads.Memory image.memory)) (sym same) heads_there.1;
        arrays = sym (ap (filter_map (λ (s : Statement). array_of s.head s.operands)) same ∙ arrays_are version image.spad image.memory arrays instrs);
        version = sym (ap (λ ss. if list_any (λ (s : Statement). is_version s.head) ss then Two else One) same ∙ versions version image.spad image.memory arrays instrs);
        instrs = instrs_kept lines instrs ∙ ap (map (with_numbers lines)) (sym instrs_is);
      };
      is_image = h;
    }
  where
    nothing_at : (k : ℕ) (name : List ℕ) → slice_get {X = List ℕ} [] k ≡ Some name → ⊥
    nothing_at k name e = absurd (cc)

-- the text is pushed part by part
pub canonical_is : (image : ImageContents) → (statements_text (head_statements image.code.version image.spad image.memory) ++ statements_text (map array_statement image.arrays)) ++ statements_text (map statement_of image.code.instrs) ≡ canonical image
unfolding canonical
canonical_is image =
    let start = head_statements image.code.version image.spad image.memory in
    let arrays = map array_statement image.arrays in
    let instrs = map statement_of image.code.instrs in
    append_assoc (statements_text start) (statements_text arrays) (statements_text instrs)
    ∙ ap (λ rest. statements_text start ++ rest) (sym (flat_map-append statement_text arrays instrs))
    ∙ sym (flat_map-append statement_text start (arrays ++ instrs))
