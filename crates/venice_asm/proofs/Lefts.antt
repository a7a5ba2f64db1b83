-- What is left of a line's kinds, behind operands that suit.
use Rattle.std.proofs.Common.{◌≡◌, ◌≢◌, ◌-◌, ◌<◌, arith, Bool, true, false, List, [], ◌∷◌, length, drop, refl, sym, ap, subst, ◌∙◌}
use Rattle.std.specs.Prelude.{not}
use Rattle.std.specs.List.{list_all}
use Rattle.std.proofs.lemmas.Bool.{and_parts}
use Rattle.venice_isa.specs.declared.instr.Version.{Version}
use Rattle.venice_isa.specs.declared.op.VecOp.{VecOp}
use Rattle.venice_isa.specs.declared.op.VecOp.TheVariants as ops
use Rattle.venice_asm.specs.declared.head.Head.{Head}
use Rattle.venice_asm.specs.declared.head.Head.TheVariants as heads
use Rattle.venice_asm.specs.declared.head.Kind.{Kind}
use Rattle.venice_asm.specs.declared.head.Kind.TheVariants as kinds
use Rattle.venice_asm.specs.declared.operand.Operand.{Operand}
use Rattle.venice_asm.specs.Lines.{head_kinds, operation_kinds, kinds_behind, suits}
use Rattle.venice_asm.specs.Reading.{kinds_left, suit_so_far, HasBegun}
use Rattle.venice_asm.specs.Parts.{operation_of, operation_in}
use Rattle.venice_asm.proofs.Instrs.{plain_behind, operations}

abbrev is_operation : Kind → Bool
is_operation kinds.Operation = true
is_operation kind = false

other_kind : (kind : Kind) → not (is_operation kind) ≡ true → kind ≢ kinds.Operation
other_kind kinds.Operation h e = let w : false ≡ true = h in absurd (cc)
other_kind kind h e = let w : false ≡ true = sym (ap is_operation (sym e)) ∙ refl in absurd (cc)

-- without an operation, each operand takes one kind
plain_left : (version : Version) (rest : List Kind) (os : List Operand) → list_all (λ (kind : Kind). not (is_operation kind)) rest ≡ true → suit_so_far version rest os ≡ true → kinds_left rest os ≡ drop (length os) rest
plain_left version rest [] plain h = refl
plain_left version [] (o ∷ os) plain h = let w : false ≡ true = h in absurd (cc)
plain_left version (kind ∷ rest) (o ∷ os) plain h =
    let both = and_parts (suits version kind o) (suit_so_far version (kinds_behind o rest) os) h in
    let split = and_parts (not (is_operation kind)) (list_all (λ (k : Kind). not (is_operation k)) rest) plain in
    let same = plain_behind version kind o rest (other_kind kind split.0) both.0 in
    ap (λ r. kinds_left r os) same ∙ plain_left version rest os split.1 (ap (λ r. suit_so_far version r os) (sym same) ∙ both.1)

operation_plain : (op : VecOp) → list_all (λ (kind : Kind). not (is_operation kind)) (operation_kinds op) ≡ true
operation_plain ops.Mov = refl
operation_plain ops.Cast = refl
operation_plain ops.Add = refl
operation_plain ops.Sub = refl
operation_plain ops.Mul = refl
operation_plain ops.And = refl
operation_plain ops.Or = refl
operation_plain ops.Xor = refl
operation_plain ops.Shl = refl
operation_plain ops.Shr = refl
operation_plain ops.Min = refl
operation_plain ops.Max = refl
operation_plain ops.Abs = refl
operation_plain ops.Eq = refl
operation_plain ops.Ne = refl
operation_plain ops.Lt = refl
operation_plain ops.Le = refl
operation_plain ops.Cmov = refl
operation_plain ops.Sadd = refl
operation_plain ops.Ssub = refl

-- behind an operation
pub vector_left : (list : List Operand) → 0 < length list → HasBegun heads.Vec list → kinds_left (head_kinds heads.Vec) list ≡ drop (length list - 1) (operation_kinds (operation_in list 0))
vector_left [] some h = absurd (omega arith)
vector_left (o ∷ os) some h =
    let both = and_parts (suits h.version kinds.Operation o) (suit_so_far h.version (kinds_behind o []) os) h.suit in
    let op = operation_of o in
    let here = operations h.version o both.0 in
    let behind : suit_so_far h.version (operation_kinds op) os ≡ true = subst (λ x. suit_so_far h.version (kinds_behind x []) os ≡ true) here both.1 in
    let count : length os ≡ length (o ∷ os) - 1 = omega arith in
    ap (λ x. kinds_left (kinds_behind x []) os) here ∙ plain_left h.version (operation_kinds op) os (operation_plain op) behind ∙ ap (λ n. drop n (operation_kinds op)) count

-- behind every other word
pub head_left : (head : Head) (os : List Operand) → head ≢ heads.Vec → HasBegun head os → kinds_left (head_kinds head) os ≡ drop (length os) (head_kinds head)
head_left heads.Vec os other h = absurd (other refl)
head_left heads.Version os other h = plain_left h.version (head_kinds heads.Version) os refl h.suit
head_left heads.Spad os other h = plain_left h.version (head_kinds heads.Spad) os refl h.suit
head_left heads.Memory os other h = plain_left h.version (head_kinds heads.Memory) os refl h.suit
head_left heads.Array os other h = plain_left h.version (head_kinds heads.Array) os refl h.suit
head_left heads.Halt os other h = plain_left h.version (head_kinds heads.Halt) os refl h.suit
head_left heads.Li os other h = plain_left h.version (head_kinds heads.Li) os refl h.suit
head_left heads.Addi os other h = plain_left h.version (head_kinds heads.Addi) os refl h.suit
head_left heads.Add os other h = plain_left h.version (head_kinds heads.Add) os refl h.suit
head_left heads.Sub os other h = plain_left h.version (head_kinds heads.Sub) os refl h.suit
head_left heads.Mul os other h = plain_left h.version (head_kinds heads.Mul) os refl h.suit
head_left heads.Div os other h = plain_left h.version (head_kinds heads.Div) os refl h.suit
head_left heads.Bnz os other h = plain_left h.version (head_kinds heads.Bnz) os refl h.suit
head_left heads.Blt os other h = plain_left h.version (head_kinds heads.Blt) os refl h.suit
head_left heads.Jmp os other h = plain_left h.version (head_kinds heads.Jmp) os refl h.suit
head_left heads.Set os other h = plain_left h.version (head_kinds heads.Set) os refl h.suit
head_left heads.Dma os other h = plain_left h.version (head_kinds heads.Dma) os refl h.suit
head_left heads.Rwait os other h = plain_left h.version (head_kinds heads.Rwait) os refl h.suit
head_left heads.Wwait os other h = plain_left h.version (head_kinds heads.Wwait) os refl h.suit
head_left heads.Vwait os other h = plain_left h.version (head_kinds heads.Vwait) os refl h.suit
head_left heads.Tag os other h = plain_left h.version (head_kinds heads.Tag) os refl h.suit
head_left heads.Twait os other h = plain_left h.version (head_kinds heads.Twait) os refl h.suit
