-- The operations of a tree and the instructions that they become.
use Rattle.std.proofs.Common.{◌≡◌, ap, sym, ◌∙◌, refl, arith, Bool, true, false}
use Rattle.std.specs.Prelude.{ℤ, pos, negsuc, ◌-ℤ◌, neg_ℤ, not, int_lt, if◌then◌else◌}
use Rattle.std.specs.Ordering.{int_eq}
use Rattle.std.proofs.lemmas.Int.{ints}
use Rattle.std.proofs.lemmas.Bool.{true≢false, false≢true}
use Rattle.ven_base.specs.declared.elem.Elem.{Elem}
use Rattle.ven_base.specs.declared.elem.Elem.TheVariants.{U8, I8, U16, I16, U32, I32}
use Rattle.ven_base.specs.declared.ops.Op1.TheVariants as op1
use Rattle.ven_base.specs.declared.ops.Op2.{Op2}
use Rattle.ven_base.specs.declared.ops.Op2.TheVariants as op2
use Rattle.ven_base.specs.Elem.{modulus_of}
use Rattle.ven_base.specs.Wrap.{wrapped}
use Rattle.ven_base.specs.Operation.{applied1, applied2, one_or_zero, chosen}
use Rattle.ven_base.proofs.Congruence.{AreCongruent-refl, AreCongruent-sub}
use Rattle.ven_base.proofs.Wrapped.{wrapped-AreCongruent, AreCongruent-wrapped}
use Rattle.venice_isa.specs.Mode.{uses_b, is_conditional, is_comparison}
use Rattle.venice_isa.specs.Answer.{answer_of}
use Rattle.venice_isa.specs.Whole.{is_one}
use Rattle.pass_plan.specs.Normal.{compares}
use Rattle.vector_codegen.specs.Kind.{vec_of, is_turned}

pub two_uses_b : (op : Op2) → uses_b (vec_of op) ≡ true
two_uses_b op2.Add = refl
two_uses_b op2.Sub = refl
two_uses_b op2.Mul = refl
two_uses_b op2.And = refl
two_uses_b op2.Or = refl
two_uses_b op2.Xor = refl
two_uses_b op2.Shl = refl
two_uses_b op2.Shr = refl
two_uses_b op2.Min = refl
two_uses_b op2.Max = refl
two_uses_b op2.Eq = refl
two_uses_b op2.Ne = refl
two_uses_b op2.Lt = refl
two_uses_b op2.Le = refl
two_uses_b op2.Gt = refl
two_uses_b op2.Ge = refl
two_uses_b op2.SatAdd = refl
two_uses_b op2.SatSub = refl

pub two_plain : (op : Op2) → is_conditional (vec_of op) ≡ false
two_plain op2.Add = refl
two_plain op2.Sub = refl
two_plain op2.Mul = refl
two_plain op2.And = refl
two_plain op2.Or = refl
two_plain op2.Xor = refl
two_plain op2.Shl = refl
two_plain op2.Shr = refl
two_plain op2.Min = refl
two_plain op2.Max = refl
two_plain op2.Eq = refl
two_plain op2.Ne = refl
two_plain op2.Lt = refl
two_plain op2.Le = refl
two_plain op2.Gt = refl
two_plain op2.Ge = refl
two_plain op2.SatAdd = refl
two_plain op2.SatSub = refl

pub two_compares : (op : Op2) → compares op ≡ true → is_comparison (vec_of op) ≡ true
two_compares op2.Add e = absurd (false≢true e)
two_compares op2.Sub e = absurd (false≢true e)
two_compares op2.Mul e = absurd (false≢true e)
two_compares op2.And e = absurd (false≢true e)
two_compares op2.Or e = absurd (false≢true e)
two_compares op2.Xor e = absurd (false≢true e)
two_compares op2.Shl e = absurd (false≢true e)
two_compares op2.Shr e = absurd (false≢true e)
two_compares op2.Min e = absurd (false≢true e)
two_compares op2.Max e = absurd (false≢true e)
two_compares op2.Eq e = refl
two_compares op2.Ne e = refl
two_compares op2.Lt e = refl
two_compares op2.Le e = refl
two_compares op2.Gt e = refl
two_compares op2.Ge e = refl
two_compares op2.SatAdd e = absurd (false≢true e)
two_compares op2.SatSub e = absurd (false≢true e)

pub two_answer : (op : Op2) (elem : Elem) (x y : ℤ) → is_turned op ≡ false → answer_of (vec_of op) elem x y ≡ applied2 op elem x y
two_answer op2.Add elem x y e = refl
two_answer op2.Sub elem x y e = refl
two_answer op2.Mul elem x y e = refl
two_answer op2.And elem x y e = refl
two_answer op2.Or elem x y e = refl
two_answer op2.Xor elem x y e = refl
two_answer op2.Shl elem x y e = refl
two_answer op2.Shr elem x y e = refl
two_answer op2.Min elem x y e = refl
two_answer op2.Max elem x y e = refl
two_answer op2.Eq elem x y e = refl
two_answer op2.Ne elem x y e = refl
two_answer op2.Lt elem x y e = refl
two_answer op2.Le elem x y e = refl
two_answer op2.Gt elem x y e = absurd (true≢false e)
two_answer op2.Ge elem x y e = absurd (true≢false e)
two_answer op2.SatAdd elem x y e = refl
two_answer op2.SatSub elem x y e = refl

pub turned_answer : (op : Op2) (elem : Elem) (x y : ℤ) → is_turned op ≡ true → answer_of (vec_of op) elem y x ≡ applied2 op elem x y
turned_answer op2.Add elem x y e = absurd (false≢true e)
turned_answer op2.Sub elem x y e = absurd (false≢true e)
turned_answer op2.Mul elem x y e = absurd (false≢true e)
turned_answer op2.And elem x y e = absurd (false≢true e)
turned_answer op2.Or elem x y e = absurd (false≢true e)
turned_answer op2.Xor elem x y e = absurd (false≢true e)
turned_answer op2.Shl elem x y e = absurd (false≢true e)
turned_answer op2.Shr elem x y e = absurd (false≢true e)
turned_answer op2.Min elem x y e = absurd (false≢true e)
turned_answer op2.Max elem x y e = absurd (false≢true e)
turned_answer op2.Eq elem x y e = absurd (false≢true e)
turned_answer op2.Ne elem x y e = absurd (false≢true e)
turned_answer op2.Lt elem x y e = absurd (false≢true e)
turned_answer op2.Le elem x y e = absurd (false≢true e)
turned_answer op2.Gt elem x y e = refl
turned_answer op2.Ge elem x y e = refl
turned_answer op2.SatAdd elem x y e = absurd (false≢true e)
turned_answer op2.SatSub elem x y e = absurd (false≢true e)

-- a comparison answers 1 or 0
compared : (op : Op2) (elem : Elem) (x y : ℤ) → compares op ≡ true → (answer : Bool) × (applied2 op elem x y ≡ wrapped elem (one_or_zero answer))
compared op2.Add elem x y e = absurd (false≢true e)
compared op2.Sub elem x y e = absurd (false≢true e)
compared op2.Mul elem x y e = absurd (false≢true e)
compared op2.And elem x y e = absurd (false≢true e)
compared op2.Or elem x y e = absurd (false≢true e)
compared op2.Xor elem x y e = absurd (false≢true e)
compared op2.Shl elem x y e = absurd (false≢true e)
compared op2.Shr elem x y e = absurd (false≢true e)
compared op2.Min elem x y e = absurd (false≢true e)
compared op2.Max elem x y e = absurd (false≢true e)
compared op2.Eq elem x y e = (int_eq x y, refl)
compared op2.Ne elem x y e = (not (int_eq x y), refl)
compared op2.Lt elem x y e = (int_lt x y, refl)
compared op2.Le elem x y e = (not (int_lt y x), refl)
compared op2.Gt elem x y e = (int_lt y x, refl)
compared op2.Ge elem x y e = (not (int_lt x y), refl)
compared op2.SatAdd elem x y e = absurd (false≢true e)
compared op2.SatSub elem x y e = absurd (false≢true e)

one_is_one : (elem : Elem) (x y : ℤ) → chosen (wrapped elem (pos 1)) x y ≡ (if is_one (wrapped elem (pos 1)) then x else y)
unfolding wrapped
one_is_one U8 x y = refl
one_is_one I8 x y = refl
one_is_one U16 x y = refl
one_is_one I16 x y = refl
one_is_one U32 x y = refl
one_is_one I32 x y = refl

zero_is_zero : (elem : Elem) (x y : ℤ) → chosen (wrapped elem (pos 0)) x y ≡ (if is_one (wrapped elem (pos 0)) then x else y)
unfolding wrapped
zero_is_zero U8 x y = refl
zero_is_zero I8 x y = refl
zero_is_zero U16 x y = refl
zero_is_zero I16 x y = refl
zero_is_zero U32 x y = refl
zero_is_zero I32 x y = refl

chosen_by : (answer : Bool) (elem : Elem) (x y : ℤ) → chosen (wrapped elem (one_or_zero answer)) x y ≡ (if is_one (wrapped elem (one_or_zero answer)) then x else y)
chosen_by true elem x y = one_is_one elem x y
chosen_by false elem x y = zero_is_zero elem x y

-- a choice by a comparison takes the second exactly where the comparison answers 1
pub chosen_compared : (op : Op2) (elem : Elem) (l r x y : ℤ) → compares op ≡ true → chosen (applied2 op elem l r) x y ≡ (if is_one (applied2 op elem l r) then x else y)
chosen_compared op elem l r x y e =
    let c = compared op elem l r e in
    ap (λ v. chosen v x y) c.1 ∙ chosen_by c.0 elem x y ∙ sym (ap (λ v. if is_one v then x else y) c.1)

-- a number less another, wrapped first
less : (elem : Elem) (n x : ℤ) → applied2 op2.Sub elem (wrapped elem n) x ≡ wrapped elem (n -ℤ x)
less elem n x = wrapped-AreCongruent elem _ _ (AreCongruent-sub (modulus_of elem) (wrapped elem n) n x x (AreCongruent-wrapped elem n) (AreCongruent-refl (modulus_of elem) x))

pub neg_answer : (elem : Elem) (x : ℤ) → applied2 op2.Sub elem (wrapped elem (pos 0)) x ≡ applied1 op1.Neg elem x
neg_answer elem x = let turn : pos 0 -ℤ x ≡ neg_ℤ x = omega (arith, ints) in less elem (pos 0) x ∙ ap (wrapped elem) turn

pub invert_answer : (elem : Elem) (x : ℤ) → applied2 op2.Sub elem (wrapped elem (negsuc 0)) x ≡ applied1 op1.Not elem x
invert_answer elem x = less elem (negsuc 0) x
