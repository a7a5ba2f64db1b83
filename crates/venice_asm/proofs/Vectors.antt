-- Vector instructions by the operands of their lines.
use Rattle.std.proofs.Common.{◌≡◌, ◌≢◌, ℕ, ◌+◌, Bool, true, false, List, length, refl, sym, ap, subst, ◌∙◌}
use Rattle.std.specs.Prelude.{if◌then◌else◌, nat_lt}
use Rattle.ven_base.specs.declared.elem.Elem.{Elem}
use Rattle.venice_isa.specs.declared.instr.Instr.TheVariants.{Vec}
use Rattle.venice_isa.specs.declared.kind.VecKind.{VecKind}
use Rattle.venice_isa.specs.declared.op.VecOp.{VecOp}
use Rattle.venice_isa.specs.declared.op.VecOp.TheVariants as ops
use Rattle.venice_isa.specs.Encoding.{is_cast}
use Rattle.venice_isa.specs.Mode.{IsMode, allows_mode, uses_b}
use Rattle.venice_isa.specs.Parts.{HasParts}
use Rattle.venice_asm.specs.declared.head.Head.TheVariants as heads
use Rattle.venice_asm.specs.declared.operand.Operand.{Operand}
use Rattle.venice_asm.specs.declared.operand.Operand.TheVariants as operands
use Rattle.venice_asm.specs.Canonical.{line_of}
use Rattle.venice_asm.specs.Parts.{operation_in, elem_in, is_a_scalar_in, is_b_scalar_in, from_place, IsInstrOf, IsWholeInstr}
use Rattle.venice_asm.proofs.Instrs.{Shape, shape_of}
use Rattle.venice_asm.proofs.Written.{vector_parts, vector_operands_of}

not_cast : (op : VecOp) → op ≢ ops.Cast → is_cast op ≡ false
not_cast ops.Cast other = absurd (other refl)
not_cast op other = refl

-- where B isn't used, it is no scalar
pub no_scalar : (op : VecOp) (b acc : Bool) → allows_mode op b acc ≡ true → uses_b op ≡ false → b ≡ false
no_scalar ops.Cmov b acc h unused = let e : true ≡ false = unused in absurd (cc)
no_scalar op false acc h unused = refl
no_scalar ops.Mov true acc h unused = let e : false ≡ true = h in absurd (cc)
no_scalar ops.Cast true acc h unused = let e : false ≡ true = h in absurd (cc)
no_scalar ops.Abs true acc h unused = let e : false ≡ true = h in absurd (cc)
no_scalar op true acc h unused = let e : true ≡ false = unused in absurd (cc)

-- the parts as the code reads them
pub record ReadsParts (list : List Operand) (place : ℕ) (op : VecOp) (elem from : Elem) (a b acc : Bool) : Type 0 where
  pub op_is : operation_in list 0 ≡ op
  pub elem_is : elem_in list 1 ≡ elem
  pub from_is : elem_in list place ≡ from
  pub a_is : is_a_scalar_in list (place + 1) ≡ a
  pub b_is : is_b_scalar_in list (place + 1) ≡ b
  pub acc_is : nat_lt (place + 2) (length list) ≡ acc

pub parts_read : (cast uses acc : Bool) (op : VecOp) (elem from : Elem) (a b : Bool) → (uses ≡ false → b ≡ false) → (cast ≡ false → from ≡ elem) → ReadsParts (vector_parts cast op elem from (if uses then operands.ModeAB a b else operands.ModeA a) acc) (if cast then 2 else 1) op elem from a b acc
parts_read true true true op elem from a b plain same = record { op_is = refl; elem_is = refl; from_is = refl; a_is = refl; b_is = refl; acc_is = refl }
parts_read true true false op elem from a b plain same = record { op_is = refl; elem_is = refl; from_is = refl; a_is = refl; b_is = refl; acc_is = refl }
parts_read true false true op elem from a b plain same = record { op_is = refl; elem_is = refl; from_is = refl; a_is = refl; b_is = sym (plain refl); acc_is = refl }
parts_read true false false op elem from a b plain same = record { op_is = refl; elem_is = refl; from_is = refl; a_is = refl; b_is = sym (plain refl); acc_is = refl }
parts_read false true true op elem from a b plain same = record { op_is = refl; elem_is = refl; from_is = sym (same refl); a_is = refl; b_is = refl; acc_is = refl }
parts_read false true false op elem from a b plain same = record { op_is = refl; elem_is = refl; from_is = sym (same refl); a_is = refl; b_is = refl; acc_is = refl }
parts_read false false true op elem from a b plain same = record { op_is = refl; elem_is = refl; from_is = sym (same refl); a_is = refl; b_is = sym (plain refl); acc_is = refl }
parts_read false false false op elem from a b plain same = record { op_is = refl; elem_is = refl; from_is = sym (same refl); a_is = refl; b_is = sym (plain refl); acc_is = refl }

-- what the code reads of a whole vector instruction
pub record IsRead (list : List Operand) (op : VecOp) (elem from : Elem) (a b acc : Bool) : Type 0 where
  pub op_is : op ≡ operation_in list 0
  pub elem_is : elem ≡ elem_in list 1
  pub from_is : from ≡ elem_in list (from_place op)
  pub a_is : a ≡ is_a_scalar_in list (from_place op + 1)
  pub b_is : b ≡ is_b_scalar_in list (from_place op + 1)
  pub acc_is : acc ≡ nat_lt (from_place op + 2) (length list)

record Agrees (list : List Operand) (s : Shape list) (op : VecOp) (elem from : Elem) (a b acc : Bool) : Type 0 where
  op_is : op ≡ s.op
  elem_is : elem ≡ s.elem
  from_is : from ≡ s.from
  a_is : a ≡ s.a
  b_is : b ≡ s.b
  acc_is : acc ≡ s.acc

agrees : (list : List Operand) (s : Shape list) (op : VecOp) (elem from : Elem) (a b acc : Bool) → IsRead list op elem from a b acc → Agrees list s op elem from a b acc
agrees list s op elem from a b acc r =
    let p = subst (λ l. ReadsParts l (from_place s.op) s.op s.elem s.from s.a s.b s.acc) (sym s.is) (parts_read (is_cast s.op) (uses_b s.op) s.acc s.op s.elem s.from s.a s.b (no_scalar s.op s.b s.acc s.allowed) s.one_type) in
    let same : op ≡ s.op = r.op_is ∙ p.op_is in
    record {
      op_is = same;
      elem_is = r.elem_is ∙ p.elem_is;
      from_is = r.from_is ∙ ap (λ o. elem_in list (from_place o)) same ∙ p.from_is;
      a_is = r.a_is ∙ ap (λ o. is_a_scalar_in list (from_place o + 1)) same ∙ p.a_is;
      b_is = r.b_is ∙ ap (λ o. is_b_scalar_in list (from_place o + 1)) same ∙ p.b_is;
      acc_is = r.acc_is ∙ ap (λ o. nat_lt (from_place o + 2) (length list)) same ∙ p.acc_is;
    }

pub vector_mode : (list : List Operand) (op : VecOp) (elem from : Elem) (a b acc : Bool) → IsWholeInstr heads.Vec list → IsRead list op elem from a b acc → IsMode op elem from b acc
vector_mode list op elem from a b acc h r =
    let s = shape_of list h in
    let g = agrees list s op elem from a b acc r in
    record {
      allowed = ap (λ o. allows_mode o b acc) g.op_is ∙ ap (λ x. allows_mode s.op x acc) g.b_is ∙ ap (allows_mode s.op s.b) g.acc_is ∙ s.allowed;
      one_type = λ other. g.from_is ∙ s.one_type (ap is_cast (sym g.op_is) ∙ not_cast op other) ∙ sym g.elem_is;
    }

pub vector_is : (list : List Operand) (kind : VecKind) (op : VecOp) (elem from : Elem) (a b acc : Bool) → IsWholeInstr heads.Vec list → IsRead list op elem from a b acc → HasParts kind op elem from a b acc → IsInstrOf heads.Vec list (Vec kind)
vector_is list kind op elem from a b acc h r p n =
    let s = shape_of list h in
    let g = agrees list s op elem from a b acc r in
    ap (λ l. line_of heads.Vec l)
    (ap (λ o. vector_operands_of o kind.elem kind.from kind.a_scalar kind.b_scalar kind.acc) (p.op_is ∙ g.op_is)
    ∙ ap (λ e. vector_operands_of s.op e kind.from kind.a_scalar kind.b_scalar kind.acc) (p.elem_is ∙ g.elem_is)
    ∙ ap (λ e. vector_operands_of s.op s.elem e kind.a_scalar kind.b_scalar kind.acc) (p.from_is ∙ g.from_is)
    ∙ ap (λ x. vector_operands_of s.op s.elem s.from x kind.b_scalar kind.acc) (p.a_scalar_is ∙ g.a_is)
    ∙ ap (λ x. vector_operands_of s.op s.elem s.from s.a x kind.acc) (p.b_scalar_is ∙ g.b_is)
    ∙ ap (λ x. vector_operands_of s.op s.elem s.from s.a s.b x) (p.acc_is ∙ g.acc_is)
    ∙ sym s.is)
