-- A text denotes one image at most, and none where it has a fault.
use Rattle.std.proofs.Common.{◌≡◌, ◌⊎◌, inl, inr, ℕ, zero, suc, ◌+◌, ◌*◌, ◌-◌, ◌<◌, ◌≤◌, Bool, true, false, List, [], ◌∷◌, ◌++◌, length, map, Option, Some, None, refl, sym, ap, subst, ◌∙◌, arith, Contains}
use Rattle.std.specs.Prelude.{slice_get, if◌then◌else◌, nat_lt}
use Rattle.std.specs.List.{cons_option, filter, flat_map}
use Rattle.std.specs.Option.{option_map, option_map_or, IsSomeAnd}
use Rattle.std.proofs.lemmas.List.{length-map, map_push, same_from_push}
use Rattle.std.proofs.lemmas.Option.{slice_get-map, slice_get_within, get_or_from_slice_get}
use Rattle.venice_isa.specs.declared.instr.Instr.{Instr}
use Rattle.venice_isa.specs.declared.instr.Instr.TheVariants.{Halt, Li, Addi, Add, Sub, Mul, Div, Bnz, Blt, Jmp, Set, Vec, Dma, Rwait, Wwait, Vwait, Tag, Twait}
use Rattle.venice_isa.specs.declared.kind.VecKind.{VecKind}
use Rattle.venice_isa.specs.Code.{HasTargetBelow, IsCode}
use Rattle.venice_isa.specs.Encoding.{is_cast, bit, type_number, operation_number, high_type, encoded}
use Rattle.venice_isa.specs.Mode.{uses_b}
use Rattle.venice_isa.proofs.KindBytes.{same_kind}
use Rattle.image_loader.specs.Image.{ImageContents, IsImage, header_of, raw_entry, raw_entries, magic, header_bytes, table_bytes, spelling}
use Rattle.image_loader.specs.Table.{Header, TableField, BreaksTable}
use Rattle.image_loader.proofs.WholeImages.{one_image}
use Rattle.venice_asm.specs.declared.head.Head.{Head}
use Rattle.venice_asm.specs.declared.head.Head.TheVariants as heads
use Rattle.venice_asm.specs.declared.operand.Operand.{Operand}
use Rattle.venice_asm.specs.declared.operand.Operand.TheVariants as operands
use Rattle.venice_asm.specs.declared.phase.Section.{Section}
use Rattle.venice_asm.specs.declared.phase.Section.TheVariants as sections
use Rattle.venice_asm.specs.Canonical.{line_of, statement_of, vector_operands}
use Rattle.venice_asm.specs.Faults.{IsTargetAt, IsUnknown, IsWrongField, EndsInHalt, InText, AtTarget, AtField, AtEnd}
use Rattle.venice_asm.specs.Laws.{HasOneImage, DenotesNothingAtFaults}
use Rattle.venice_asm.specs.Lines.{Statement, TextLine, is_instr, behind_label, behind_head, behind_statement, section_from, section_of, has_sizes, statements_of, AreLines}
use Rattle.venice_asm.specs.Meaning.{HasNumber, entries_of, instrs_of, number_among, labels_of, NamesInstr, with_number, with_numbers, IsImageOf, IsHeaderOf}
use Rattle.venice_asm.specs.Parts.{host_instr, with_target, number_in, operation_in, elem_in, is_a_scalar_in, is_b_scalar_in, from_place}
use Rattle.venice_asm.proofs.Keeping.{is_jump, rank, no_target, label_up, line_ranks}
use Rattle.venice_asm.proofs.Lining.{no_section, section_behind, Gives, gives}
use Rattle.venice_asm.proofs.Registers.{none_some, some_is}
use Rattle.venice_asm.proofs.Settled.{faultless, same_lines}
use Rattle.venice_asm.proofs.Vectors.{ReadsParts, parts_read, no_scalar}

-- ---- a size comes once

cons_cases : (statement : Option Statement) (rest : List Statement) (s : Statement) → Contains (cons_option statement rest) s → (statement ≡ Some s) ⊎ Contains rest s
cons_cases None rest s there = inr there
cons_cases (Some t) rest s (zero, lt, is) = inl (ap (λ x. Some x) is)
cons_cases (Some t) rest s (suc k, lt, is) = inr (k, omega arith, is)

-- the word stands before the bound alone, and leads behind it
record Crosses (head : Head) (bound : ℕ) : Type 0 where
  low : (section next : Section) → behind_head head section ≡ Some next → rank section < bound
  high : (section next : Section) → behind_head head section ≡ Some next → bound ≤ rank next

spad_crosses : Crosses heads.Spad 2
spad_crosses = record { low = low; high = high }
  where
    low : (section next : Section) → behind_head heads.Spad section ≡ Some next → rank section < 2
    low sections.Version next e = omega arith
    low sections.Spad next e = omega arith
    low section next e = absurd (none_some next e)

    high : (section next : Section) → behind_head heads.Spad section ≡ Some next → 2 ≤ rank next
    high sections.Version next e = let same = ap rank (some_is sections.Memory next e) in omega arith
    high sections.Spad next e = let same = ap rank (some_is sections.Memory next e) in omega arith
    high section next e = absurd (none_some next e)

memory_crosses : Crosses heads.Memory 3
memory_crosses = record { low = low; high = high }
  where
    low : (section next : Section) → behind_head heads.Memory section ≡ Some next → rank section < 3
    low sections.Memory next e = omega arith
    low section next e = absurd (none_some next e)

    high : (section next : Section) → behind_head heads.Memory section ≡ Some next → 3 ≤ rank next
    high sections.Memory next e = let same = ap rank (some_is sections.Arrays next e) in omega arith
    high section next e = absurd (none_some next e)

-- a line with the word leads from before the bound to behind it
line_crosses : (head : Head) (bound : ℕ) (line : TextLine) (section mid : Section) (s : Statement) → Crosses head bound → section_behind (Some section) line ≡ Some mid → line.statement ≡ Some s → s.head ≡ head → (rank section < bound) × (bound ≤ rank mid)
line_crosses head bound line section mid s c e own same = by line.statement (gives (behind_statement line.statement) (behind_label line.label section) mid e) own
  where
    by : (statement : Option Statement) → Gives (behind_statement statement) (behind_label line.label section) mid → statement ≡ Some s → (rank section < bound) × (bound ≤ rank mid)
    by None g is = absurd (none_some s is)
    by (Some t) g is =
        let up = label_up line.label section g.item g.found_is in
        let heads_same : t.head ≡ head = ap (λ (x : Statement). x.head) (some_is t s is) ∙ same in
        let at : behind_head head g.item ≡ Some mid = ap (λ h. behind_head h g.item) (sym heads_same) ∙ g.is in
        let low = c.low g.item mid at in
        (omega arith, c.high g.item mid at)

none_behind : (head : Head) (bound : ℕ) (lines : List TextLine) (section next : Section) → Crosses head bound → bound ≤ rank section → section_from (Some section) lines ≡ Some next → (s : Statement) → Contains (statements_of lines) s → s.head ≡ head → ⊥
none_behind head bound [] section next c le e s (k, lt, is) same = absurd (omega arith)
none_behind head bound (line ∷ lines) section next c le e s there same =
    by (λ mid low f in_rest. none_behind head bound lines mid next c low f s in_rest same) (section_behind (Some section) line) refl e (cons_cases line.statement (statements_of lines) s there)
  where
    by : ((mid : Section) → bound ≤ rank mid → section_from (Some mid) lines ≡ Some next → Contains (statements_of lines) s → ⊥) → (mid : Option Section) → section_behind (Some section) line ≡ mid → section_from mid lines ≡ Some next → (line.statement ≡ Some s) ⊎ Contains (statements_of lines) s → ⊥
    by more None is f which = absurd (none_some next (sym (no_section lines) ∙ f))
    by more (Some mid) is f (inl own) = let low = (line_crosses head bound line section mid s c is own same).0 in absurd (omega arith)
    by more (Some mid) is f (inr in_rest) = let up = (line_ranks line section mid is).0 in more mid (omega arith) f in_rest

once : (head : Head) (bound : ℕ) (lines : List TextLine) (section next : Section) → Crosses head bound → section_from (Some section) lines ≡ Some next → (s t : Statement) → Contains (statements_of lines) s → Contains (statements_of lines) t → s.head ≡ head → t.head ≡ head → s ≡ t
once head bound [] section next c e s t (k, lt, is) there same alike = absurd (omega arith)
once head bound (line ∷ lines) section next c e s t there also same alike =
    by (λ mid f one two. once head bound lines mid next c f s t one two same alike) (section_behind (Some section) line) refl e (cons_cases line.statement (statements_of lines) s there) (cons_cases line.statement (statements_of lines) t also)
  where
    by : ((mid : Section) → section_from (Some mid) lines ≡ Some next → Contains (statements_of lines) s → Contains (statements_of lines) t → s ≡ t) → (mid : Option Section) → section_behind (Some section) line ≡ mid → section_from mid lines ≡ Some next → (line.statement ≡ Some s) ⊎ Contains (statements_of lines) s → (line.statement ≡ Some t) ⊎ Contains (statements_of lines) t → s ≡ t
    by more None is f one two = absurd (none_some next (sym (no_section lines) ∙ f))
    by more (Some mid) is f (inl one) (inl two) = some_is s t (sym one ∙ two)
    by more (Some mid) is f (inl one) (inr two) = absurd (none_behind head bound lines mid next c (line_crosses head bound line section mid s c is one same).1 f t two alike)
    by more (Some mid) is f (inr one) (inl two) = absurd (none_behind head bound lines mid next c (line_crosses head bound line section mid t c is two alike).1 f s one same)
    by more (Some mid) is f (inr one) (inr two) = more mid f one two

one_number : (lines : List TextLine) (head : Head) (bound n m : ℕ) → Crosses head bound → AreLines lines → HasNumber lines head n → HasNumber lines head m → n ≡ m
one_number lines head bound n m c h first second = by (section_of lines) refl h.order
  where
    numbers_same : operands.Number n ∷ [] ≡ operands.Number m ∷ [] → n ≡ m
    numbers_same e = cc

    by : (section : Option Section) → section_of lines ≡ section → has_sizes section ≡ true → n ≡ m
    by None is e = let f : false ≡ true = e in absurd (cc)
    by (Some next) is e =
        numbers_same (ap (λ (x : Statement). x.operands) (once head bound lines sections.Version next c is (record { head = head; operands = operands.Number n ∷ [] }) (record { head = head; operands = operands.Number m ∷ [] }) first second refl refl))

-- ---- one instruction for a statement

abbrev is_vec : Head → Bool
is_vec heads.Vec = true
is_vec head = false

abbrev target_number : Head → List Operand → ℕ
target_number heads.Bnz list = number_in list 1
target_number heads.Blt list = number_in list 2
target_number heads.Jmp list = number_in list 0
target_number head list = 0

abbrev back : Statement → Instr
back s = with_target (host_instr s.head s.operands) (target_number s.head s.operands)

back_is : (instr : Instr) → is_vec (statement_of instr).head ≡ false → back (statement_of instr) ≡ instr
back_is (Vec kind) h = let e : true ≡ false = h in absurd (cc)
back_is Halt h = refl
back_is (Li d n) h = refl
back_is (Addi d a n) h = refl
back_is (Add d a b) h = refl
back_is (Sub d a b) h = refl
back_is (Mul d a b) h = refl
back_is (Div d a b) h = refl
back_is (Bnz a to) h = refl
back_is (Blt a b to) h = refl
back_is (Jmp to) h = refl
back_is (Set field a) h = refl
back_is (Dma write) h = refl
back_is (Rwait a) h = refl
back_is (Wwait a) h = refl
back_is Vwait h = refl
back_is (Tag a) h = refl
back_is (Twait a) h = refl

kind_reads : (k : VecKind) → ReadsParts (vector_operands k) (from_place k.op) k.op k.elem k.from k.a_scalar k.b_scalar k.acc
kind_reads k =
    parts_read (is_cast k.op) (uses_b k.op) k.acc k.op k.elem k.from k.a_scalar k.b_scalar (no_scalar k.op k.b_scalar k.acc k.mode_allowed)
    (λ plain. k.one_type (λ cast. let wrong : true ≡ false = sym (ap is_cast cast) ∙ plain in absurd (cc)))

same_vector : (k j : VecKind) → vector_operands k ≡ vector_operands j → k ≡ j
same_vector k j e =
    let p = kind_reads k in
    let q = kind_reads j in
    let op : k.op ≡ j.op = sym p.op_is ∙ ap (λ l. operation_in l 0) e ∙ q.op_is in
    let elem : k.elem ≡ j.elem = sym p.elem_is ∙ ap (λ l. elem_in l 1) e ∙ q.elem_is in
    let from : k.from ≡ j.from = sym p.from_is ∙ ap (λ l. elem_in l (from_place k.op)) e ∙ ap (λ o. elem_in (vector_operands j) (from_place o)) op ∙ q.from_is in
    let a : k.a_scalar ≡ j.a_scalar = sym p.a_is ∙ ap (λ l. is_a_scalar_in l (from_place k.op + 1)) e ∙ ap (λ o. is_a_scalar_in (vector_operands j) (from_place o + 1)) op ∙ q.a_is in
    let b : k.b_scalar ≡ j.b_scalar = sym p.b_is ∙ ap (λ l. is_b_scalar_in l (from_place k.op + 1)) e ∙ ap (λ o. is_b_scalar_in (vector_operands j) (from_place o + 1)) op ∙ q.b_is in
    let acc : k.acc ≡ j.acc = sym p.acc_is ∙ ap (λ l. nat_lt (from_place k.op + 2) (length l)) e ∙ ap (λ o. nat_lt (from_place o + 2) (length (vector_operands j))) op ∙ q.acc_is in
    same_kind k j (ap operation_number op)
    (ap (λ x. bit x + 2 * bit k.b_scalar + 4 * bit k.acc) a ∙ ap (λ x. bit j.a_scalar + 2 * bit x + 4 * bit k.acc) b ∙ ap (λ x. bit j.a_scalar + 2 * bit j.b_scalar + 4 * bit x) acc)
    (ap (λ x. type_number x + 16 * high_type k.op k.from) elem ∙ ap (λ x. type_number j.elem + 16 * high_type x k.from) op ∙ ap (λ x. type_number j.elem + 16 * high_type j.op x) from)

record IsVector (instr : Instr) : Type 0 where
  kind : VecKind
  is : instr ≡ Vec kind

vector_of : (instr : Instr) → is_vec (statement_of instr).head ≡ true → IsVector instr
vector_of (Vec kind) h = record { kind = kind; is = refl }
vector_of instr h = let e : false ≡ true = h in absurd (cc)

same_instr : (i j : Instr) → statement_of i ≡ statement_of j → i ≡ j
same_instr i j e = by (is_vec (statement_of i).head) refl
  where
    by : (b : Bool) → is_vec (statement_of i).head ≡ b → i ≡ j
    by false h = sym (back_is i h) ∙ ap back e ∙ back_is j (ap (λ (s : Statement). is_vec s.head) (sym e) ∙ h)
    by true h =
        let p = vector_of i h in
        let q = vector_of j (ap (λ (s : Statement). is_vec s.head) (sym e) ∙ h) in
        let same : vector_operands p.kind ≡ vector_operands q.kind = ap (λ (s : Statement). s.operands) (ap statement_of (sym p.is) ∙ e ∙ ap statement_of q.is) in
        p.is ∙ ap Vec (same_vector p.kind q.kind same) ∙ sym q.is

same_instrs : (xs ys : List Instr) → map statement_of xs ≡ map statement_of ys → xs ≡ ys
same_instrs [] [] e = refl
same_instrs [] (y ∷ ys) e = let count = ap length e in absurd (omega arith)
same_instrs (x ∷ xs) [] e = let count = ap length e in absurd (omega arith)
same_instrs (x ∷ xs) (y ∷ ys) e =
    let first : statement_of x ≡ statement_of y = cc in
    let rest : map statement_of xs ≡ map statement_of ys = cc in
    ap (λ z. z ∷ xs) (same_instr x y first) ∙ ap (λ zs. y ∷ zs) (same_instrs xs ys rest)

-- ---- one image

record Alike (one other : ImageContents) : Type 0 where
  version : one.code.version ≡ other.code.version
  spad : one.spad ≡ other.spad
  memory : one.memory ≡ other.memory
  entries : raw_entries one.arrays ≡ raw_entries other.arrays
  instrs : one.code.instrs ≡ other.code.instrs

same_header : (one other : ImageContents) → Alike one other → header_of one ≡ header_of other
same_header one other a =
    let count : length one.arrays ≡ length other.arrays = sym (length-map one.arrays raw_entry) ∙ ap length a.entries ∙ length-map other.arrays raw_entry in
    let some = ap length a.instrs in
    λ i. record { spad = a.spad i; memory = a.memory i; array_count = count i; instr_count = some i }

same_spelling : (one other : ImageContents) → Alike one other → spelling one ≡ spelling other
unfolding spelling
same_spelling one other a =
    ap (λ v. magic v ++ (header_bytes (header_of one) ++ (table_bytes (raw_entries one.arrays) ++ flat_map encoded one.code.instrs))) a.version
    ∙ ap (λ h. magic other.code.version ++ (header_bytes h ++ (table_bytes (raw_entries one.arrays) ++ flat_map encoded one.code.instrs))) (same_header one other a)
    ∙ ap (λ es. magic other.code.version ++ (header_bytes (header_of other) ++ (table_bytes es ++ flat_map encoded one.code.instrs))) a.entries
    ∙ ap (λ is. magic other.code.version ++ (header_bytes (header_of other) ++ (table_bytes (raw_entries other.arrays) ++ flat_map encoded is))) a.instrs

alike : (lines : List TextLine) (one other : ImageContents) → AreLines lines → IsImageOf lines one → IsImageOf lines other → Alike one other
alike lines one other h p q = record {
  version = p.version ∙ sym q.version;
  spad = one_number lines heads.Spad 2 one.spad other.spad spad_crosses h p.spad q.spad;
  memory = one_number lines heads.Memory 3 one.memory other.memory memory_crosses h p.memory q.memory;
  entries = p.arrays ∙ sym q.arrays;
  instrs = same_instrs one.code.instrs other.code.instrs (p.instrs ∙ sym q.instrs);
}

pub one_image_holds : HasOneImage
one_image_holds text one other p q =
    let same = same_lines text q.lines p.lines q.reads p.reads in
    let a = alike p.lines one other p.reads.has.are.words.lines_are p.is_of (subst (λ ls. IsImageOf ls other) same q.is_of) in
    one_image (spelling one) one other p.is_image q.is_image refl (same_spelling one other a)

-- ---- no image at a fault

map_there : {X Y : Type 0} (f : X → Y) (found : Option X) (y : Y) → option_map f found ≡ Some y → (x : X) × (found ≡ Some x) × (f x ≡ y)
map_there f None y e = absurd (none_some y e)
map_there f (Some x) y e = (x, refl, some_is (f x) y e)

-- what stands at the same place of a list whose images are the same
beside : {X Y Z : Type 0} (f : X → Z) (g : Y → Z) (xs : List X) (ys : List Y) (k : ℕ) (y : Y) → map f xs ≡ map g ys → slice_get ys k ≡ Some y → (x : X) × (slice_get xs k ≡ Some x) × (f x ≡ g y)
beside f g xs ys k y same is =
    map_there f (slice_get xs k) (g y) (sym (slice_get-map f xs k) ∙ ap (λ zs. slice_get zs k) same ∙ slice_get-map g ys k ∙ ap (option_map g) is)

same_count : (lines : List TextLine) (image : ImageContents) → IsImageOf lines image → length image.code.instrs ≡ length (instrs_of lines)
same_count lines image h = sym (length-map image.code.instrs statement_of) ∙ ap length h.instrs ∙ length-map (instrs_of lines) (with_numbers lines)

abbrev is_halt : Head → Bool
is_halt heads.Halt = true
is_halt head = false

map_nothing : {X Y : Type 0} (f : X → Y) (xs : List X) → map f xs ≡ [] → xs ≡ []
map_nothing f [] e = refl
map_nothing f (x ∷ xs) e = let count = ap length e in absurd (omega arith)

image_ends : (lines : List TextLine) (image : ImageContents) → IsImageOf lines image → IsCode image.code → EndsInHalt lines
image_ends lines image h code =
    let (s, there, same) = beside (with_numbers lines) statement_of (instrs_of lines) image.code.instrs (length image.code.instrs - 1) Halt (sym h.instrs) code.ends in
    let head : s.head ≡ heads.Halt = ap (λ (x : Statement). x.head) same in
    let none : s.operands ≡ [] = map_nothing (with_number lines) s.operands (ap (λ (x : Statement). x.operands) same) in
    ap (λ n. slice_get (instrs_of lines) (n - 1)) (sym (same_count lines image h)) ∙ there
    ∙ ap (λ hd. Some (line_of hd s.operands)) head ∙ ap (λ os. Some (line_of heads.Halt os)) none

image_header : (lines : List TextLine) (image : ImageContents) (header : Header) → AreLines lines → IsImageOf lines image → IsHeaderOf lines header → header ≡ header_of image
image_header lines image header are h w =
    let spad = one_number lines heads.Spad 2 header.spad image.spad spad_crosses are w.spad h.spad in
    let memory = one_number lines heads.Memory 3 header.memory image.memory memory_crosses are w.memory h.memory in
    let arrays : header.array_count ≡ length image.arrays = w.arrays ∙ sym (ap length h.arrays) ∙ length-map image.arrays raw_entry in
    let instrs : header.instr_count ≡ length image.code.instrs = w.instrs ∙ sym (same_count lines image h) in
    λ i. record { spad = spad i; memory = memory i; array_count = arrays i; instr_count = instrs i }

no_wrong_field : (lines : List TextLine) (image : ImageContents) (field : TableField) → AreLines lines → IsImageOf lines image → IsImage image → IsWrongField lines field → ⊥
no_wrong_field lines image field are h is w =
    is.table field (subst (λ es. BreaksTable (header_of image) es field) (sym h.arrays) (subst (λ hd. BreaksTable hd (entries_of lines) field) (image_header lines image w.header are h w.is_header) w.breaks))

-- a jump's last operand is the number of an instruction
record LastNumber (count : ℕ) (instr : Instr) : Type 0 where
  front : List Operand
  to : ℕ
  less : to < count
  is : (statement_of instr).operands ≡ front ++ operands.Number to ∷ []

last_number : (count : ℕ) (instr : Instr) → is_jump (statement_of instr).head ≡ true → HasTargetBelow count instr → LastNumber count instr
last_number count (Bnz a to) j less = record { front = operands.Register a ∷ []; to = to; less = less; is = refl }
last_number count (Blt a b to) j less = record { front = operands.Register a ∷ operands.Register b ∷ []; to = to; less = less; is = refl }
last_number count (Jmp to) j less = record { front = []; to = to; less = less; is = refl }
last_number count instr j less = let e : false ≡ true = j in absurd (cc)

names_number : (lines : List TextLine) (target : Operand) (to : ℕ) → with_number lines target ≡ operands.Number to → to < length (instrs_of lines) → NamesInstr lines target
names_number lines (operands.Number n) to e less = subst (λ m. m < length (instrs_of lines)) (same e) less
  where
    same : operands.Number n ≡ operands.Number to → to ≡ n
    same f = cc
names_number lines (operands.Name name) to e less = by (number_among (labels_of lines) name) e
  where
    by : (found : Option ℕ) → option_map_or operands.Number found (operands.Name name) ≡ operands.Number to → IsSomeAnd found (λ n. n < length (instrs_of lines))
    by None f = absurd (cc)
    by (Some n) f = subst (λ m. m < length (instrs_of lines)) (same f) less
      where
        same : operands.Number n ≡ operands.Number to → to ≡ n
        same g = cc
names_number lines target to e less = absurd (cc)

statement_there : (lines : List TextLine) (k : ℕ) (line : TextLine) (s : Statement) → slice_get lines k ≡ Some line → line.statement ≡ Some s → Contains (statements_of lines) s
statement_there [] k line s e own = absurd (none_some line e)
statement_there (x ∷ lines) zero line s e own = first x.statement (ap (λ (l : TextLine). l.statement) (some_is x line e) ∙ own)
  where
    first : (statement : Option Statement) → statement ≡ Some s → Contains (cons_option statement (statements_of lines)) s
    first None is = absurd (none_some s is)
    first (Some t) is = (0, omega arith, some_is t s is)
statement_there (x ∷ lines) (suc k) line s e own = later x.statement (statement_there lines k line s e own)
  where
    later : (statement : Option Statement) → Contains (statements_of lines) s → Contains (cons_option statement (statements_of lines)) s
    later None there = there
    later (Some t) (m, less, is) = (suc m, omega arith, is)

kept_there : {X : Type 0} (f : X → Bool) (xs : List X) (x : X) → f x ≡ true → Contains xs x → (k : ℕ) × (slice_get (filter f xs) k ≡ Some x)
kept_there f [] x h (m, less, is) = absurd (omega arith)
kept_there f (y ∷ xs) x h (zero, less, is) = by (f y) (ap f is ∙ h)
  where
    by : (b : Bool) → b ≡ true → (k : ℕ) × (slice_get (if b then y ∷ filter f xs else filter f xs) k ≡ Some x)
    by true e = (0, ap (λ z. Some z) is)
    by false e = absurd (cc)
kept_there f (y ∷ xs) x h (suc m, less, is) = by (f y) (kept_there f xs x h (m, omega arith, is))
  where
    by : (b : Bool) → ((k : ℕ) × (slice_get (filter f xs) k ≡ Some x)) → (k : ℕ) × (slice_get (if b then y ∷ filter f xs else filter f xs) k ≡ Some x)
    by true (k, e) = (suc k, e)
    by false (k, e) = (k, e)

jump_instr : (head : Head) → is_jump head ≡ true → is_instr head ≡ true
jump_instr heads.Bnz j = refl
jump_instr heads.Blt j = refl
jump_instr heads.Jmp j = refl
jump_instr head j = let e : false ≡ true = j in absurd (cc)

target_named : (text : List ℕ) (lines : List TextLine) (image : ImageContents) (target : Operand) (at : ℕ) → IsImageOf lines image → IsCode image.code → IsTargetAt text lines target at → NamesInstr lines target
target_named text lines image target at h code t = by (is_jump t.head) refl
  where
    by : (b : Bool) → is_jump t.head ≡ b → NamesInstr lines target
    by false other = absurd (no_target t.head (length t.operands) other t.kind)
    by true jump =
        let listed = statement_there lines t.k _ (record { head = t.head; operands = t.operands ++ target ∷ [] }) t.line refl in
        let (k, there) = kept_there (λ (x : Statement). is_instr x.head) (statements_of lines) (record { head = t.head; operands = t.operands ++ target ∷ [] }) (jump_instr t.head jump) listed in
        let (instr, is, same) = beside statement_of (with_numbers lines) image.code.instrs (instrs_of lines) k (record { head = t.head; operands = t.operands ++ target ∷ [] }) h.instrs there in
        let below : HasTargetBelow (length image.code.instrs) instr = subst (HasTargetBelow (length image.code.instrs)) (get_or_from_slice_get image.code.instrs k instr instr is) (code.targets k instr (slice_get_within image.code.instrs k instr is)) in
        let last = last_number (length image.code.instrs) instr (ap (λ (x : Statement). is_jump x.head) same ∙ jump) below in
        let both : last.front ++ operands.Number last.to ∷ [] ≡ map (with_number lines) t.operands ++ with_number lines target ∷ [] = sym last.is ∙ ap (λ (x : Statement). x.operands) same ∙ map_push (with_number lines) t.operands target in
        let number = (same_from_push last.front (map (with_number lines) t.operands) (operands.Number last.to) (with_number lines target) both).1 in
        names_number lines target last.to (sym number) (subst (λ n. last.to < n) (same_count lines image h) last.less)

pub nothing_at_faults : DenotesNothingAtFaults
nothing_at_faults text image _ d (InText f first) = faultless text d.lines f d.reads first.here
nothing_at_faults text image _ d (AtTarget lines at h is) =
    let same = same_lines text lines d.lines h d.reads in
    let u = subst (λ ls. IsUnknown text ls at) same is.here in
    u.unknown (target_named text d.lines image u.target at d.is_of d.is_image.code u.is_target)
nothing_at_faults text image _ d (AtField lines field r is) =
    let same = same_lines text lines d.lines r.reads d.reads in
    no_wrong_field d.lines image field d.reads.has.are.words.lines_are d.is_of d.is_image (subst (λ ls. IsWrongField ls field) same is.here)
nothing_at_faults text image _ d (AtEnd lines r none open_end) =
    let same = same_lines text d.lines lines d.reads r.reads in
    open_end (subst EndsInHalt same (image_ends d.lines image d.is_of d.is_image.code))
