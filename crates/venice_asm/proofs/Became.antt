-- What each instruction of a text becomes: one of the text's version, which goes to no place outside.
use Rattle.std.proofs.Common.{◌≡◌, inr, ℕ, zero, suc, ◌-◌, ◌<◌, ◌≤◌, ◌^◌, Bool, true, false, ◌&&◌, List, [], ◌∷◌, length, map, Option, Some, None, refl, sym, ap, subst, ◌∙◌, arith, Contains, get_or}
use Rattle.std.specs.Prelude.{slice_get, nat_lt, nat_le}
use Rattle.std.specs.List.{list_all}
use Rattle.std.specs.Option.{option_map_or}
use Rattle.std.proofs.lemmas.Bool.{and_from, and_parts}
use Rattle.std.proofs.lemmas.Bool.Decides.{nat_tests}
use Rattle.std.proofs.lemmas.List.{append-nil}
use Rattle.std.proofs.lemmas.List.Elements.{All-contains}
use Rattle.std.proofs.lemmas.Option.{slice_get-get_or, slice_get_within}
use Rattle.ven_io.specs.Number.{number_limit}
use Rattle.venice_isa.specs.declared.instr.Instr.{Instr}
use Rattle.venice_isa.specs.declared.instr.Instr.TheVariants.{Halt, Li, Addi, Add, Sub, Mul, Div, Bnz, Blt, Jmp, Set, Vec, Dma, Rwait, Wwait, Vwait, Tag, Twait}
use Rattle.venice_isa.specs.declared.instr.Version.{Version}
use Rattle.venice_isa.specs.Code.{HasTargetBelow, EndsWithHalt, IsCode}
use Rattle.venice_isa.specs.Instr.{IsInstr, has_operation}
use Rattle.venice_asm.specs.declared.head.Head.{Head}
use Rattle.venice_asm.specs.declared.head.Head.TheVariants as heads
use Rattle.venice_asm.specs.declared.head.Kind.{Kind}
use Rattle.venice_asm.specs.declared.head.Kind.TheVariants as kinds
use Rattle.venice_isa.specs.declared.op.VecOp.{VecOp}
use Rattle.venice_isa.specs.declared.op.VecOp.TheVariants as ops
use Rattle.venice_asm.specs.declared.operand.Operand.{Operand}
use Rattle.venice_asm.specs.declared.operand.Operand.TheVariants as operands
use Rattle.venice_asm.specs.declared.phase.Reference.{Reference}
use Rattle.venice_asm.specs.declared.reading.Reading.{Reading}
use Rattle.venice_asm.specs.Canonical.{line_of, statement_of}
use Rattle.venice_asm.specs.Faults.{EndsInHalt}
use Rattle.venice_asm.specs.Lines.{Statement, TextLine, is_instr, head_kinds, kinds_behind, operation_kinds, register_bound, suits, all_suit, are_in_range, has_head, statements_of, version_of, IsStatement, IsInRange, AreLines}
use Rattle.venice_asm.specs.Meaning.{instrs_of, labels_of, number_for, number_named, with_number, with_numbers}
use Rattle.venice_asm.specs.Parts.{register_of, target_operand, with_target, retargeted, jump_target, as_target, IsInstrOf}
use Rattle.venice_asm.specs.Resolving.{AreResolved}
use Rattle.venice_asm.specs.Steps.{AreInstrs, IsReferenceOf, Keeps}
use Rattle.venice_asm.proofs.Instrs.{one, two, three}
use Rattle.venice_asm.proofs.Keeping.{is_jump}
use Rattle.venice_asm.proofs.Registers.{some_is}
use Rattle.venice_asm.proofs.Targets.{filter_there, given_on, references_instrs}

-- ---- statements without a target

abbrev is_plain : Kind → Bool
is_plain kinds.Array = false
is_plain kinds.Target = false
is_plain kind = true

plain_operand : (lines : List TextLine) (version : Version) (kind : Kind) (o : Operand) → is_plain kind ≡ true → suits version kind o ≡ true → with_number lines o ≡ o
plain_operand lines version kinds.Array (operands.Name name) plain h = let e : false ≡ true = plain in absurd (cc)
plain_operand lines version kinds.Target (operands.Name name) plain h = let e : false ≡ true = plain in absurd (cc)
plain_operand lines version kind (operands.Name name) plain h = let e : false ≡ true = h in absurd (cc)
plain_operand lines version kind o plain h = refl

plain_operations : (op : VecOp) → list_all is_plain (operation_kinds op) ≡ true
plain_operations op = by op
  where
    by : (o : VecOp) → list_all is_plain (operation_kinds o) ≡ true
    by ops.Mov = refl
    by ops.Cast = refl
    by ops.Abs = refl
    by ops.Cmov = refl
    by o = refl

plain_behind : (o : Operand) (rest : List Kind) → list_all is_plain rest ≡ true → list_all is_plain (kinds_behind o rest) ≡ true
plain_behind (operands.Operation op) rest h = plain_operations op
plain_behind o rest h = h

same_operands : (lines : List TextLine) (version : Version) (rest : List Kind) (os : List Operand) → list_all is_plain rest ≡ true → all_suit version rest os ≡ true → map (with_number lines) os ≡ os
same_operands lines version rest [] plain h = refl
same_operands lines version [] (o ∷ os) plain h = let e : false ≡ true = h in absurd (cc)
same_operands lines version (kind ∷ rest) (o ∷ os) plain h =
    let p = and_parts (is_plain kind) (list_all is_plain rest) plain in
    let s = and_parts (suits version kind o) (all_suit version (kinds_behind o rest) os) h in
    ap (λ x. x ∷ map (with_number lines) os) (plain_operand lines version kind o p.0 s.0)
    ∙ ap (λ xs. o ∷ xs) (same_operands lines version (kinds_behind o rest) os (plain_behind o rest p.1) s.1)

plain_head : (head : Head) → is_instr head ≡ true → is_jump head ≡ false → list_all is_plain (head_kinds head) ≡ true
plain_head heads.Version i j = refl
plain_head heads.Spad i j = refl
plain_head heads.Memory i j = refl
plain_head heads.Array i j = let e : false ≡ true = i in absurd (cc)
plain_head heads.Bnz i j = let e : true ≡ false = j in absurd (cc)
plain_head heads.Blt i j = let e : true ≡ false = j in absurd (cc)
plain_head heads.Jmp i j = let e : true ≡ false = j in absurd (cc)
plain_head head i j = refl

plain_list : (head : Head) (list : List Operand) (n : ℕ) → is_jump head ≡ false → retargeted head list n ≡ list
plain_list heads.Bnz list n j = let e : true ≡ false = j in absurd (cc)
plain_list heads.Blt list n j = let e : true ≡ false = j in absurd (cc)
plain_list heads.Jmp list n j = let e : true ≡ false = j in absurd (cc)
plain_list head list n j = refl

plain_instr : (instr : Instr) (n : ℕ) → is_jump (statement_of (with_target instr n)).head ≡ false → with_target instr n ≡ instr
plain_instr (Bnz a to) n j = let e : true ≡ false = j in absurd (cc)
plain_instr (Blt a b to) n j = let e : true ≡ false = j in absurd (cc)
plain_instr (Jmp to) n j = let e : true ≡ false = j in absurd (cc)
plain_instr instr n j = refl

plain_below : (count : ℕ) (instr : Instr) → is_jump (statement_of instr).head ≡ false → HasTargetBelow count instr
plain_below count (Bnz a to) j = let e : true ≡ false = j in absurd (cc)
plain_below count (Blt a b to) j = let e : true ≡ false = j in absurd (cc)
plain_below count (Jmp to) j = let e : true ≡ false = j in absurd (cc)
plain_below count instr j = tt

-- ---- jumps

target_below : (count n : ℕ) (instr : Instr) → n < count → with_target instr n ≡ instr → HasTargetBelow count instr
target_below count n (Bnz a to) less e = subst (λ m. m < count) (same e) less
  where
    same : Bnz a n ≡ Bnz a to → n ≡ to
    same f = cc
target_below count n (Blt a b to) less e = subst (λ m. m < count) (same e) less
  where
    same : Blt a b n ≡ Blt a b to → n ≡ to
    same f = cc
target_below count n (Jmp to) less e = subst (λ m. m < count) (same e) less
  where
    same : Jmp n ≡ Jmp to → n ≡ to
    same f = cc
target_below count n instr less e = tt

-- a statement of an instruction of the version
record Fits (version : Version) (s : Statement) : Type 0 where
  head : has_head version s.head ≡ true
  suit : all_suit version (head_kinds s.head) s.operands ≡ true
  range : are_in_range (head_kinds s.head) s.operands ≡ true

-- the target of a jump, and the operands with its number in its place
record JumpParts (lines : List TextLine) (version : Version) (head : Head) (list : List Operand) : Type 0 where
  target : Operand
  jumps : jump_target head list ≡ Some target
  numbered : (n : ℕ) → number_named lines target ≡ Some n → map (with_number lines) list ≡ retargeted head list n
  suit : (n : ℕ) → all_suit version (head_kinds head) (retargeted head list n) ≡ true
  range : (n : ℕ) → n ≤ number_limit → are_in_range (head_kinds head) (retargeted head list n) ≡ true

target_is : (version : Version) (o : Operand) → suits version kinds.Target o ≡ true → as_target o ≡ Some o
target_is version (operands.Name name) h = refl
target_is version (operands.Number n) h = refl
target_is version o h = let e : false ≡ true = h in absurd (cc)

target_numbered : (lines : List TextLine) (version : Version) (o : Operand) (n : ℕ) → suits version kinds.Target o ≡ true → number_named lines o ≡ Some n → with_number lines o ≡ operands.Number n
target_numbered lines version (operands.Name name) n h e = ap (λ (found : Option ℕ). option_map_or operands.Number found (operands.Name name)) e
target_numbered lines version (operands.Number m) n h e = ap operands.Number (some_is m n e)
target_numbered lines version o n h e = let f : false ≡ true = h in absurd (cc)

registers : (version : Version) (o : Operand) → suits version kinds.Register o ≡ true → o ≡ operands.Register (register_of o)
registers version (operands.Register n) h = refl
registers version o h = let e : false ≡ true = h in absurd (cc)

within : (n : ℕ) → n ≤ number_limit → nat_le n number_limit ≡ true
within n le = grind (arith, nat_tests)

bnz_parts : (lines : List TextLine) (version : Version) (d : ℕ) (y : Operand) → suits version kinds.Register (operands.Register d) ≡ true → suits version kinds.Target y ≡ true → are_in_range (head_kinds heads.Bnz) (operands.Register d ∷ y ∷ []) ≡ true → JumpParts lines version heads.Bnz (operands.Register d ∷ y ∷ [])
bnz_parts lines version d y rs ts range = record {
  target = y;
  jumps = target_is version y ts;
  numbered = λ n e. ap (λ o. operands.Register d ∷ o ∷ []) (target_numbered lines version y n ts e);
  suit = λ n. and_from (suits version kinds.Register (operands.Register d)) true rs refl;
  range = λ n le. and_from (nat_lt d 32) (nat_le n number_limit && true) (and_parts (nat_lt d 32) _ range).0 (and_from (nat_le n number_limit) true (within n le) refl);
}

blt_parts : (lines : List TextLine) (version : Version) (d b : ℕ) (y : Operand) → suits version kinds.Register (operands.Register d) ≡ true → suits version kinds.Register (operands.Register b) ≡ true → suits version kinds.Target y ≡ true → are_in_range (head_kinds heads.Blt) (operands.Register d ∷ operands.Register b ∷ y ∷ []) ≡ true → JumpParts lines version heads.Blt (operands.Register d ∷ operands.Register b ∷ y ∷ [])
blt_parts lines version d b y rs bs ts range =
    let first = and_parts (nat_lt d 32) _ range in
    let second = and_parts (nat_lt b 32) _ first.1 in
    record {
      target = y;
      jumps = target_is version y ts;
      numbered = λ n e. ap (λ o. operands.Register d ∷ operands.Register b ∷ o ∷ []) (target_numbered lines version y n ts e);
      suit = λ n. and_from (suits version kinds.Register (operands.Register d)) (suits version kinds.Register (operands.Register b) && true) rs (and_from (suits version kinds.Register (operands.Register b)) true bs refl);
      range = λ n le. and_from (nat_lt d 32) (nat_lt b 32 && (nat_le n number_limit && true)) first.0 (and_from (nat_lt b 32) (nat_le n number_limit && true) second.0 (and_from (nat_le n number_limit) true (within n le) refl));
    }

jmp_parts : (lines : List TextLine) (version : Version) (y : Operand) → suits version kinds.Target y ≡ true → JumpParts lines version heads.Jmp (y ∷ [])
jmp_parts lines version y ts = record {
  target = y;
  jumps = target_is version y ts;
  numbered = λ n e. ap (λ o. o ∷ []) (target_numbered lines version y n ts e);
  suit = λ n. refl;
  range = λ n le. and_from (nat_le n number_limit) true (within n le) refl;
}

jump_parts : (lines : List TextLine) (version : Version) (head : Head) (list : List Operand) → is_jump head ≡ true → all_suit version (head_kinds head) list ≡ true → are_in_range (head_kinds head) list ≡ true → JumpParts lines version head list
jump_parts lines version heads.Bnz list jump h r =
    let s = two version kinds.Register kinds.Target list refl (λ e. absurd (cc)) refl (λ e. absurd (cc)) h in
    let x = registers version s.x s.suit in
    let all : list ≡ operands.Register (register_of s.x) ∷ s.y ∷ [] = s.is ∙ ap (λ o. o ∷ s.y ∷ []) x in
    subst (JumpParts lines version heads.Bnz) (sym all) (bnz_parts lines version (register_of s.x) s.y (subst (λ o. suits version kinds.Register o ≡ true) x s.suit) s.second (subst (λ l. are_in_range (head_kinds heads.Bnz) l ≡ true) all r))
jump_parts lines version heads.Blt list jump h r =
    let s = three version kinds.Register kinds.Register kinds.Target list refl (λ e. absurd (cc)) refl (λ e. absurd (cc)) refl (λ e. absurd (cc)) h in
    let x = registers version s.x s.suit in
    let y = registers version s.y s.second in
    let all : list ≡ operands.Register (register_of s.x) ∷ operands.Register (register_of s.y) ∷ s.z ∷ [] = s.is ∙ ap (λ o. o ∷ s.y ∷ s.z ∷ []) x ∙ ap (λ o. operands.Register (register_of s.x) ∷ o ∷ s.z ∷ []) y in
    subst (JumpParts lines version heads.Blt) (sym all) (blt_parts lines version (register_of s.x) (register_of s.y) s.z (subst (λ o. suits version kinds.Register o ≡ true) x s.suit) (subst (λ o. suits version kinds.Register o ≡ true) y s.second) s.third (subst (λ l. are_in_range (head_kinds heads.Blt) l ≡ true) all r))
jump_parts lines version heads.Jmp list jump h r =
    let s = one version kinds.Target list refl (λ e. absurd (cc)) h in
    subst (JumpParts lines version heads.Jmp) (sym s.is) (jmp_parts lines version s.x s.suit)
jump_parts lines version head list jump h r = let e : false ≡ true = jump in absurd (cc)

-- ---- instructions of a version

register_back : (d : ℕ) → nat_lt d 32 ≡ true → d < 32
register_back d h = grind (arith, nat_tests)

parameter_back : (d : ℕ) → nat_lt d 14 ≡ true → d < 14
parameter_back d h = grind (arith, nat_tests)

word_back : (n : ℕ) → nat_le n number_limit ≡ true → n < 2 ^ 32
word_back n h = let le : n ≤ number_limit = grind (arith, nat_tests) in omega arith

one_register : (version : Version) (a : ℕ) → nat_lt a 32 && true ≡ true → a < 32
one_register version a h = register_back a (and_parts (nat_lt a 32) true h).0

three_registers : (d a b : ℕ) → nat_lt d 32 && (nat_lt a 32 && (nat_lt b 32 && true)) ≡ true → (d < 32) × (a < 32) × (b < 32)
three_registers d a b h =
    let p = and_parts (nat_lt d 32) (nat_lt a 32 && (nat_lt b 32 && true)) h in
    let q = and_parts (nat_lt a 32) (nat_lt b 32 && true) p.1 in
    (register_back d p.0, register_back a q.0, register_back b (and_parts (nat_lt b 32) true q.1).0)

is_instr_of : (version : Version) (instr : Instr) → Fits version (statement_of instr) → IsInstr version instr
is_instr_of version Halt f = record { in_version = refl; ranges = tt }
is_instr_of version (Li d n) f =
    let p = and_parts (nat_lt d 32) (nat_le n number_limit && true) f.range in
    record { in_version = refl; ranges = (register_back d p.0, word_back n (and_parts (nat_le n number_limit) true p.1).0) }
is_instr_of version (Addi d a n) f =
    let p = and_parts (nat_lt d 32) (nat_lt a 32 && (nat_le n number_limit && true)) f.range in
    let q = and_parts (nat_lt a 32) (nat_le n number_limit && true) p.1 in
    record { in_version = refl; ranges = (register_back d p.0, register_back a q.0, word_back n (and_parts (nat_le n number_limit) true q.1).0) }
is_instr_of version (Add d a b) f = record { in_version = refl; ranges = three_registers d a b f.range }
is_instr_of version (Sub d a b) f = record { in_version = refl; ranges = three_registers d a b f.range }
is_instr_of version (Mul d a b) f = record { in_version = refl; ranges = three_registers d a b f.range }
is_instr_of version (Div d a b) f = record { in_version = refl; ranges = three_registers d a b f.range }
is_instr_of version (Bnz a to) f =
    let p = and_parts (nat_lt a 32) (nat_le to number_limit && true) f.range in
    record { in_version = refl; ranges = (register_back a p.0, word_back to (and_parts (nat_le to number_limit) true p.1).0) }
is_instr_of version (Blt a b to) f =
    let p = and_parts (nat_lt a 32) (nat_lt b 32 && (nat_le to number_limit && true)) f.range in
    let q = and_parts (nat_lt b 32) (nat_le to number_limit && true) p.1 in
    record { in_version = refl; ranges = (register_back a p.0, register_back b q.0, word_back to (and_parts (nat_le to number_limit) true q.1).0) }
is_instr_of version (Jmp to) f = record { in_version = refl; ranges = word_back to (and_parts (nat_le to number_limit) true f.range).0 }
is_instr_of version (Set field a) f =
    let s = and_parts (nat_lt field 14) (nat_lt a register_bound && true) f.suit in
    record { in_version = refl; ranges = (parameter_back field s.0, one_register version a f.range) }
is_instr_of version (Vec kind) f = record { in_version = (and_parts (has_operation version kind.op) _ f.suit).0; ranges = tt }
is_instr_of version (Dma write) f = record { in_version = refl; ranges = tt }
is_instr_of version (Rwait a) f = record { in_version = refl; ranges = one_register version a f.range }
is_instr_of version (Wwait a) f = record { in_version = refl; ranges = one_register version a f.range }
is_instr_of version Vwait f = record { in_version = refl; ranges = tt }
is_instr_of version (Tag a) f = record { in_version = f.head; ranges = one_register version a f.range }
is_instr_of version (Twait a) f = record { in_version = f.head; ranges = one_register version a f.range }

-- ---- what an instruction has become

pub record Became (lines : List TextLine) (s : Statement) (instr : Instr) : Type 0 where
  pub same : statement_of instr ≡ with_numbers lines s
  pub is_one : IsInstr (version_of lines) instr
  pub below : HasTargetBelow (length (instrs_of lines)) instr

-- what the code keeps once each jump has its target
pub record IsAll (text : List ℕ) (lines : List TextLine) (r : Reading) (new : List Instr) : Type 0 where
  pub lines_are : AreLines lines
  pub keeps : Keeps text lines None r
  pub resolved : AreResolved r.labels.entries r.references.items r.instrs.items new

plain_became : (lines : List TextLine) (s : Statement) (instr : Instr) → is_instr s.head ≡ true → IsStatement (version_of lines) s → IsInRange s → IsInstrOf s.head s.operands instr → is_jump s.head ≡ false → Became lines s instr
plain_became lines s instr is_one st range of plain =
    let head : is_jump (statement_of (with_target instr 0)).head ≡ false = ap (λ (x : Statement). is_jump x.head) (of 0) ∙ plain in
    let own : with_target instr 0 ≡ instr = plain_instr instr 0 head in
    let says : statement_of instr ≡ s = ap statement_of (sym own) ∙ of 0 ∙ ap (line_of s.head) (plain_list s.head s.operands 0 plain) in
    let kept = same_operands lines (version_of lines) (head_kinds s.head) s.operands (plain_head s.head is_one plain) st.operands in
    record {
      same = says ∙ ap (line_of s.head) (sym kept);
      is_one = is_instr_of (version_of lines) instr (subst (Fits (version_of lines)) (sym says) (record { head = st.head; suit = st.operands; range = range }));
      below = plain_below (length (instrs_of lines)) instr (ap (λ (x : Statement). is_jump x.head) says ∙ plain);
    }

jump_became : (lines : List TextLine) (s : Statement) (instr : Instr) (n : ℕ) → IsStatement (version_of lines) s → IsInstrOf s.head s.operands instr → (p : JumpParts lines (version_of lines) s.head s.operands) → number_named lines p.target ≡ Some n → n < length (instrs_of lines) → n ≤ number_limit → with_target instr n ≡ instr → Became lines s instr
jump_became lines s instr n st of p number less small given =
    let says : statement_of instr ≡ line_of s.head (retargeted s.head s.operands n) = ap statement_of (sym given) ∙ of n in
    record {
      same = says ∙ ap (line_of s.head) (sym (p.numbered n number));
      is_one = is_instr_of (version_of lines) instr (subst (Fits (version_of lines)) (sym says) (record { head = st.head; suit = p.suit n; range = p.range n small }));
      below = target_below (length (instrs_of lines)) n instr less given;
    }

-- what names an instruction has its number
record Numbers (found : Option ℕ) (count : ℕ) : Type 0 where
  n : ℕ
  is : found ≡ Some n
  less : n < count

numbers : (found : Option ℕ) (count : ℕ) → option_map_or (λ (n : ℕ). nat_lt n count) found false ≡ true → Numbers found count
numbers None count e = let f : false ≡ true = e in absurd (cc)
numbers (Some n) count e = record { n = n; is = refl; less = grind (arith, nat_tests) }

there_at : {X : Type 0} (xs : List X) (x : X) → Contains xs x → (k : ℕ) × (k < length xs) × (slice_get xs k ≡ Some x)
there_at xs x (k, less, is) = (k, less, slice_get-get_or xs k x less ∙ ap (λ y. Some y) is)

pub instrs_now : (text : List ℕ) (lines : List TextLine) (r : Reading) (new : List Instr) → IsAll text lines r new → AreInstrs lines new
instrs_now text lines r new h = subst (AreInstrs lines) (sym h.resolved.is) (references_instrs lines r.labels.entries r.references.items r.instrs.items h.keeps.instrs)

labels_are : (text : List ℕ) (lines : List TextLine) (r : Reading) → Keeps text lines None r → r.labels.entries ≡ labels_of lines
labels_are text lines r h = h.labels ∙ append-nil (labels_of lines)

became : (text : List ℕ) (lines : List TextLine) (r : Reading) (new : List Instr) (k : ℕ) (s : Statement) (instr : Instr) → IsAll text lines r new → slice_get (instrs_of lines) k ≡ Some s → slice_get new k ≡ Some instr → Became lines s instr
became text lines r new k s instr h there at = by (is_jump s.head) refl
  where
    listed : (is_instr s.head ≡ true) × Contains (statements_of lines) s
    listed = filter_there (λ (x : Statement). is_instr x.head) (statements_of lines) k s there

    st : IsStatement (version_of lines) s
    st = All-contains (IsStatement (version_of lines)) (statements_of lines) s h.lines_are.each listed.1

    range : IsInRange s
    range = All-contains IsInRange (statements_of lines) s h.keeps.ranges listed.1

    of : IsInstrOf s.head s.operands instr
    of = (instrs_now text lines r new h).each k s instr there at

    by : (b : Bool) → is_jump s.head ≡ b → Became lines s instr
    by false plain = plain_became lines s instr listed.0 st range of plain
    by true jump = to (h.keeps.references.jumps k s parts.target there parts.jumps)
      where
        parts : JumpParts lines (version_of lines) s.head s.operands
        parts = jump_parts lines (version_of lines) s.head s.operands jump st.operands range

        to : ((reference : Reference) × Contains r.references.items reference × (reference.instr ≡ k)) → Became lines s instr
        to (reference, contained, is) =
            let (j, within_all, stands) = there_at r.references.items reference contained in
            let m = numbers (number_for r.labels.entries (target_operand reference.target)) (length r.instrs.items) (h.resolved.all j reference within_all stands) in
            let own = target_same reference contained is in
            let number : number_for r.labels.entries parts.target ≡ Some m.n = ap (number_for r.labels.entries) (sym own) ∙ m.is in
            let count = h.keeps.instrs.count in
            let few = h.keeps.few in
            let below = m.less in
            jump_became lines s instr m.n st of parts (ap (λ ls. number_for ls parts.target) (sym (labels_are text lines r h.keeps)) ∙ number) (omega arith) (omega arith)
            (given_on r.labels.entries k m.n r.references.items r.instrs.items (λ other also same. ap (number_for r.labels.entries) (target_same other also same) ∙ number) (inr (reference, contained, is)) instr
            (ap (λ is2. slice_get is2 k) (sym h.resolved.is) ∙ at))
          where
            target_same : (other : Reference) → Contains r.references.items other → other.instr ≡ k → target_operand other.target ≡ parts.target
            target_same other also same =
                let o = All-contains (IsReferenceOf text lines) r.references.items other h.keeps.references.each also in
                let one_statement : o.statement ≡ s = some_is o.statement s (sym o.instr ∙ ap (slice_get (instrs_of lines)) same ∙ there) in
                some_is (target_operand other.target) parts.target (sym o.jump ∙ ap (λ (x : Statement). jump_target x.head x.operands) one_statement ∙ parts.jumps)

-- ---- the code

item : {X : Type 0} (xs : List X) (k : ℕ) → k < length xs → (x : X) × (slice_get xs k ≡ Some x)
item [] k less = absurd (omega arith)
item (x ∷ xs) zero less = (x, refl)
item (x ∷ xs) (suc k) less = item xs k (omega arith)

maps_same : {X Y Z : Type 0} (f : X → Z) (g : Y → Z) (xs : List X) (ys : List Y) → length xs ≡ length ys → ((k : ℕ) (x : X) (y : Y) → slice_get xs k ≡ Some x → slice_get ys k ≡ Some y → f x ≡ g y) → map f xs ≡ map g ys
maps_same f g [] [] e h = refl
maps_same f g [] (y ∷ ys) e h = absurd (omega arith)
maps_same f g (x ∷ xs) [] e h = absurd (omega arith)
maps_same f g (x ∷ xs) (y ∷ ys) e h = ap (λ z. z ∷ map f xs) (h 0 x y refl refl) ∙ ap (λ zs. g y ∷ zs) (maps_same f g xs ys (omega arith) (λ k a b p q. h (suc k) a b p q))

pub instrs_same : (text : List ℕ) (lines : List TextLine) (r : Reading) (new : List Instr) → IsAll text lines r new → map statement_of new ≡ map (with_numbers lines) (instrs_of lines)
instrs_same text lines r new h =
    maps_same statement_of (with_numbers lines) new (instrs_of lines) (instrs_now text lines r new h).count (λ k instr s at there. (became text lines r new k s instr h there at).same)

abbrev is_halt : Head → Bool
is_halt heads.Halt = true
is_halt head = false

halt_of : (instr : Instr) → is_halt (statement_of instr).head ≡ true → instr ≡ Halt
halt_of Halt h = refl
halt_of instr h = let e : false ≡ true = h in absurd (cc)

code_ends : (text : List ℕ) (lines : List TextLine) (r : Reading) (new : List Instr) → IsAll text lines r new → EndsInHalt lines → EndsWithHalt new
code_ends text lines r new h ends =
    let count = (instrs_now text lines r new h).count in
    let k = length (instrs_of lines) - 1 in
    let low = slice_get_within (instrs_of lines) k _ ends in
    let found = item new k (omega arith) in
    let b = became text lines r new k (record { head = heads.Halt; operands = [] }) found.0 h ends found.1 in
    let own = halt_of found.0 (ap (λ (x : Statement). is_halt x.head) b.same) in
    ap (λ n. slice_get new (n - 1)) count ∙ found.1 ∙ ap (λ i. Some i) own

pub is_code : (text : List ℕ) (lines : List TextLine) (r : Reading) (new : List Instr) → IsAll text lines r new → EndsInHalt lines → IsCode (record { version = r.version; instrs = new })
is_code text lines r new h ends =
    let count = (instrs_now text lines r new h).count in
    let old = h.keeps.instrs.count in
    let few = h.keeps.few in
    record {
      each = λ k d less. subst (λ v. IsInstr v (get_or new k d)) (sym h.keeps.version) (at k d less).is_one;
      targets = λ k d less. subst (λ n. HasTargetBelow n (get_or new k d)) (sym count) (at k d less).below;
      ends = code_ends text lines r new h ends;
      few = omega arith;
    }
  where
    statement_at : (k : ℕ) → k < length new → (s : Statement) × (slice_get (instrs_of lines) k ≡ Some s)
    statement_at k less = let count = (instrs_now text lines r new h).count in item (instrs_of lines) k (omega arith)

    at : (k : ℕ) (d : Instr) (less : k < length new) → Became lines (statement_at k less).0 (get_or new k d)
    at k d less = became text lines r new k (statement_at k less).0 (get_or new k d) h (statement_at k less).1 (slice_get-get_or new k d less)
