-- The verdict on nodes with several operands, and on every expression.
use Rattle.std.proofs.Common.{◌≡◌, ℕ, List, [], ◌∷◌, ◌++◌, refl, sym, ap, ◌∙◌, arith, Option, None, Some, Bool, true, false, inl, inr, Ok, Err}
use Rattle.std.specs.Prelude.{ℤ, Result, ◌⊎◌, ◌&&◌}
use Rattle.ven_base.specs.declared.elem.Elem.{Elem}
use Rattle.ven_base.specs.declared.ops.Op2.{Op2}
use Rattle.ven_base.specs.declared.mapping.Mapping.TheVariants as maps
use Rattle.ven_base.proofs.Wrapped.{zero_in}
use Rattle.array_syntax.specs.Limits.{IsWritable}
use Rattle.array_syntax.specs.Tree.{Tree, Name, Literal, One, Two, Cast, Select, Shift, Rotate, Section, Stretch, Transpose, RowFold, Fold}
use Rattle.shape_check.specs.declared.typed.ArrayType.{ArrayType}
use Rattle.shape_check.specs.declared.fault.CheckFault.{CheckFault}
use Rattle.shape_check.specs.declared.fault.CheckFault.TheVariants.{Twice, Unknown, TypeMismatch, ShapeMismatch, LiteralAlone, LiteralRange, BadShape, BadSection, BadStretch, NoOutput, TooMuchWork, Memory}
use Rattle.shape_check.specs.Node.{Node, elem_of, shape_of, is_literal}
use Rattle.shape_check.specs.Rules.{type_of}
use Rattle.shape_check.specs.Scope.{Scope}
use Rattle.shape_check.specs.Typing.{section_of, stretch_of}
use Rattle.shape_check.specs.Faults.{parts_of, literal_place, lone_literal, first_of_both, DifferInType, DifferInShape, IsOut, IsOutBeside, IsFirstOut}
use Rattle.shape_check.specs.Judge.{Operand, Array, Number, Verdict, Both, chain, array, has_elem, has_shape, agree, find, named, two_of, on_two, select_of, on_select, map_of, on_shift, on_section, on_stretch, judge}
use Rattle.shape_check.proofs.Arms.{move_of}
use Rattle.shape_check.proofs.Lookups.{find-known, find-absent, get_map, find_none}
use Rattle.shape_check.proofs.Cleanness.{FirstAt, FirstAt-kept, IsFirstPart, first_left, first_right, first_here, first_last}
use Rattle.shape_check.proofs.Unique.{IsDistinct, array_place, none_of_both, none_out, HasType-is}
use Rattle.shape_check.proofs.Judged.{IsArrayTyping, Judged, clean_operand, has_type_of, keeps_one, unary, map_typing, one_judged, cast_judged, row_fold_judged, fold_judged, shift_judged, section_judged, stretch_judged, KeptOf, IsSameKind, IsSameShape, IsOperand, IsAgreed, agree_judged, no_type_differs, no_shape_differs, type_differs, shape_differs, own_elem, own_shape}

-- ---- two operands

-- nothing stands out where no literal is
none_out_of : (elem : Elem) (tree : Tree) (p : ℕ) → literal_place tree ≡ None → ¬ IsOut elem tree p
none_out_of elem (Literal at n) p h out = let off : Some at ≡ None = h in cc
none_out_of elem (Name at name) p h out = out
none_out_of elem (One at op a) p h out = out
none_out_of elem (Two at op a b) p h out = out
none_out_of elem (Cast at t a) p h out = out
none_out_of elem (Select at c x y) p h out = out
none_out_of elem (Shift at a dr dc fill fill_at) p h out = out
none_out_of elem (Rotate at a dr dc) p h out = out
none_out_of elem (Section at a r0 nr sr c0 nc sc) p h out = out
none_out_of elem (Stretch at a kr kc) p h out = out
none_out_of elem (Transpose at a) p h out = out
none_out_of elem (RowFold at fold a) p h out = out
none_out_of elem (Fold at fold a) p h out = out

-- what a pair of operands must show, of which one at least is an array of the type
record IsPair (scope : Scope) (type : ArrayType) (s t : Tree) (x y : Operand) : Type 0 where
  some_array : (literal_place s ≡ None) ⊎ (literal_place t ≡ None)
  no_literals : (both : Both) → KeptOf x both.left → KeptOf y both.right → (is_literal both.left && is_literal both.right) ≡ false
  types : ((has_elem type x ≡ false) ⊎ (has_elem type y ≡ false)) → DifferInType scope s t
  shapes : ((has_shape type x ≡ false) ⊎ (has_shape type y ≡ false)) → DifferInShape scope s t
  left_out : (p : ℕ) → IsOut type.elem s p → IsOutBeside scope s t p
  right_out : (p : ℕ) → IsOut type.elem t p → IsOutBeside scope t s p

two_by : (scope : Scope) → IsDistinct scope → (at : ℕ) (op : Op2) (s t : Tree) (type : ArrayType) (x y : Operand) (r : Result Both CheckFault) → Judged scope s (Ok x) → Judged scope t (Ok y) → IsPair scope type s t x y → IsAgreed scope at type s t x y r
    → Judged scope (Two at op s t) (chain r (λ both. array (two_of op type both)))
two_by scope d at op s t type x y (Ok both) hx hy pair agreed = record {
  typing = record {
    spells = record { elem = type.elem; shape = type.shape; a = both.left; b = both.right; is = refl; left = agreed.left.typing.spells; right = agreed.right.typing.spells };
    typed = (agreed.left.typing.typed, agreed.right.typing.typed, record { left = agreed.left.has; right = agreed.right.has; no_literals = pair.no_literals both agreed.left.kept agreed.right.kept });
  };
  no_literal = refl;
}
two_by scope d at op s t type x y (Err (TypeMismatch p)) hx hy pair agreed =
    first_right scope (parts_of s) (parts_of t ++ Two at op s t ∷ []) (TypeMismatch p) (clean_operand scope d s x hx)
    (first_last scope (parts_of t) (Two at op s t) (TypeMismatch p) (clean_operand scope d t y hy)
    (FirstAt-kept scope (Two at op s t) (TypeMismatch p) (agreed.0, pair.types agreed.1)
    (record {
      known = λ l u. u;
      no_lone = λ l. none_of_both (literal_place s) (literal_place t) pair.some_array;
      one_type = λ l. absurd (omega arith);
      one_shape = λ l. absurd (omega arith);
      none_out = λ l. absurd (omega arith);
      section = λ l. absurd (omega arith);
      stretch = λ l. absurd (omega arith);
    })))
two_by scope d at op s t type x y (Err (ShapeMismatch p)) hx hy pair agreed =
    first_right scope (parts_of s) (parts_of t ++ Two at op s t ∷ []) (ShapeMismatch p) (clean_operand scope d s x hx)
    (first_last scope (parts_of t) (Two at op s t) (ShapeMismatch p) (clean_operand scope d t y hy)
    (FirstAt-kept scope (Two at op s t) (ShapeMismatch p) (agreed.0, pair.shapes agreed.2)
    (record {
      known = λ l u. u;
      no_lone = λ l. none_of_both (literal_place s) (literal_place t) pair.some_array;
      one_type = λ l. no_type_differs scope s t type x y d hx hy agreed.1.left_elem agreed.1.right_elem;
      one_shape = λ l. absurd (omega arith);
      none_out = λ l. absurd (omega arith);
      section = λ l. absurd (omega arith);
      stretch = λ l. absurd (omega arith);
    })))
two_by scope d at op s t type x y (Err (LiteralRange p)) hx hy pair agreed =
    let first : IsFirstOut scope (Two at op s t) p = elim agreed.2 [ inl o ↦ inl (pair.left_out p o) | inr o ↦ inr (pair.right_out p o.1) ] in
    first_right scope (parts_of s) (parts_of t ++ Two at op s t ∷ []) (LiteralRange p) (clean_operand scope d s x hx)
    (first_last scope (parts_of t) (Two at op s t) (LiteralRange p) (clean_operand scope d t y hy)
    (FirstAt-kept scope (Two at op s t) (LiteralRange p) first
    (record {
      known = λ l u. u;
      no_lone = λ l. none_of_both (literal_place s) (literal_place t) pair.some_array;
      one_type = λ l. no_type_differs scope s t type x y d hx hy agreed.0.left_elem agreed.0.right_elem;
      one_shape = λ l. no_shape_differs scope s t type x y d hx hy agreed.1.left_shape agreed.1.right_shape;
      none_out = λ l. absurd (omega arith);
      section = λ l. absurd (omega arith);
      stretch = λ l. absurd (omega arith);
    })))
two_by scope d at op s t type x y (Err (Twice p)) hx hy pair agreed = absurd agreed
two_by scope d at op s t type x y (Err (Unknown p)) hx hy pair agreed = absurd agreed
two_by scope d at op s t type x y (Err (LiteralAlone p)) hx hy pair agreed = absurd agreed
two_by scope d at op s t type x y (Err (BadShape p)) hx hy pair agreed = absurd agreed
two_by scope d at op s t type x y (Err (BadSection p)) hx hy pair agreed = absurd agreed
two_by scope d at op s t type x y (Err (BadStretch p)) hx hy pair agreed = absurd agreed
two_by scope d at op s t type x y (Err NoOutput) hx hy pair agreed = absurd agreed
two_by scope d at op s t type x y (Err (TooMuchWork p)) hx hy pair agreed = absurd agreed
two_by scope d at op s t type x y (Err Memory) hx hy pair agreed = absurd agreed

and_false : (a b : Bool) → a ≡ false → (a && b) ≡ false
and_false a b h = ap (λ c. c && b) h

and_false_right : (a b : Bool) → b ≡ false → (a && b) ≡ false
and_false_right true b h = h
and_false_right false b h = refl

not_both : {A : Type 0} (b : Bool) → b ≡ true → b ≡ false → A
not_both b h l = absurd (let off : true ≡ false = sym h ∙ l in cc)

left_pair : (scope : Scope) (s t : Tree) (e : Node) (y : Operand) → IsArrayTyping scope s e → Judged scope t (Ok y) → IsPair scope (type_of e) s t (Array e) y
left_pair scope s t e y h l = record {
  some_array = inl (array_place scope s e h.typing.spells h.no_literal);
  no_literals = λ both left right. and_false (is_literal both.left) (is_literal both.right) (ap is_literal left ∙ h.no_literal);
  types = λ o. elim o [ inl off ↦ not_both (has_elem (type_of e) (Array e)) (own_elem e) off | inr off ↦ type_differs scope s t e y h l off ];
  shapes = λ o. elim o [ inl off ↦ not_both (has_shape (type_of e) (Array e)) (own_shape e) off | inr off ↦ shape_differs scope s t e y h l off ];
  left_out = λ p out. absurd (none_out_of (elem_of e) s p (array_place scope s e h.typing.spells h.no_literal) out);
  right_out = λ p out. record { type = type_of e; has_type = has_type_of scope s e h; out = out };
}

right_pair : (scope : Scope) (s t : Tree) (p : ℕ) (n : ℤ) (e : Node) → s ≡ Literal p n → IsArrayTyping scope t e → IsPair scope (type_of e) s t (Number p n) (Array e)
right_pair scope s t p n e h l = record {
  some_array = inr (array_place scope t e l.typing.spells l.no_literal);
  no_literals = λ both left right. and_false_right (is_literal both.left) (is_literal both.right) (ap is_literal right ∙ l.no_literal);
  types = λ o. elim o [ inl off ↦ not_both true refl off | inr off ↦ not_both (has_elem (type_of e) (Array e)) (own_elem e) off ];
  shapes = λ o. elim o [ inl off ↦ not_both true refl off | inr off ↦ not_both (has_shape (type_of e) (Array e)) (own_shape e) off ];
  left_out = λ q out. record { type = type_of e; has_type = has_type_of scope t e l; out = out };
  right_out = λ q out. absurd (none_out_of (elem_of e) t q (array_place scope t e l.typing.spells l.no_literal) out);
}

two_judged : (scope : Scope) → IsDistinct scope → (at : ℕ) (op : Op2) (s t : Tree) (x y : Operand) → Judged scope s (Ok x) → Judged scope t (Ok y) → Judged scope (Two at op s t) (on_two at op x y)
two_judged scope d at op s t (Array e) y h l = two_by scope d at op s t (type_of e) (Array e) y (agree at (type_of e) (Array e) y) h l (left_pair scope s t e y h l) (agree_judged scope at (type_of e) s t (Array e) y h l)
two_judged scope d at op s t (Number p n) (Array e) h l =
    two_by scope d at op s t (type_of e) (Number p n) (Array e) (agree at (type_of e) (Number p n) (Array e)) h l (right_pair scope s t p n e h l) (agree_judged scope at (type_of e) s t (Number p n) (Array e) h l)
two_judged scope d at op s t (Number p n) (Number q m) h l =
    let alone : lone_literal (Two at op s t) ≡ Some p = λ k. first_of_both (literal_place (h k)) (literal_place (l k)) in
    first_right scope (parts_of s) (parts_of t ++ Two at op s t ∷ []) (LiteralAlone p) (clean_operand scope d s (Number p n) h)
    (first_last scope (parts_of t) (Two at op s t) (LiteralAlone p) (clean_operand scope d t (Number q m) l)
    (FirstAt-kept scope (Two at op s t) (LiteralAlone p) alone (keeps_one scope (Two at op s t) (λ u. u))))

two_verdict : (scope : Scope) → IsDistinct scope → (at : ℕ) (op : Op2) (s t : Tree) (v w : Verdict) → Judged scope s v → Judged scope t w → Judged scope (Two at op s t) (chain v (λ x. chain w (λ y. on_two at op x y)))
two_verdict scope d at op s t (Err f) w h l = first_left scope (parts_of s) (parts_of t ++ Two at op s t ∷ []) f h
two_verdict scope d at op s t (Ok x) (Err f) h l =
    first_right scope (parts_of s) (parts_of t ++ Two at op s t ∷ []) f (clean_operand scope d s x h) (first_left scope (parts_of t) (Two at op s t ∷ []) f l)
two_verdict scope d at op s t (Ok x) (Ok y) h l = two_judged scope d at op s t x y h l

-- ---- three

-- the fault of a select at its own node, behind operands without faults
select_last : (scope : Scope) → IsDistinct scope → (at : ℕ) (r s t : Tree) (u x y : Operand) (f : CheckFault) → Judged scope r (Ok u) → Judged scope s (Ok x) → Judged scope t (Ok y) → FirstAt scope (Select at r s t) f
    → IsFirstPart scope (parts_of (Select at r s t)) f
select_last scope d at r s t u x y f hu hx hy first =
    first_right scope (parts_of r) (parts_of s ++ (parts_of t ++ Select at r s t ∷ [])) f (clean_operand scope d r u hu)
    (first_right scope (parts_of s) (parts_of t ++ Select at r s t ∷ []) f (clean_operand scope d s x hx)
    (first_last scope (parts_of t) (Select at r s t) f (clean_operand scope d t y hy) first))

-- three operands of one type don't differ
no_three_types : (scope : Scope) → IsDistinct scope → (r s t : Tree) (e : Node) (x y : Operand) → IsArrayTyping scope r e → Judged scope s (Ok x) → Judged scope t (Ok y) → IsSameKind (type_of e) x y
    → ¬ (DifferInType scope r s ⊎ (DifferInType scope r t ⊎ DifferInType scope s t))
no_three_types scope d r s t e x y h hx hy k differ =
    elim differ [
      | inl o ↦ no_type_differs scope r s (type_of e) (Array e) x d h hx (own_elem e) k.left_elem o
      | inr o ↦ elim o [ inl p ↦ no_type_differs scope r t (type_of e) (Array e) y d h hy (own_elem e) k.right_elem p | inr p ↦ no_type_differs scope s t (type_of e) x y d hx hy k.left_elem k.right_elem p ]
    ]

no_three_shapes : (scope : Scope) → IsDistinct scope → (r s t : Tree) (e : Node) (x y : Operand) → IsArrayTyping scope r e → Judged scope s (Ok x) → Judged scope t (Ok y) → IsSameShape (type_of e) x y
    → ¬ (DifferInShape scope r s ⊎ (DifferInShape scope r t ⊎ DifferInShape scope s t))
no_three_shapes scope d r s t e x y h hx hy k differ =
    elim differ [
      | inl o ↦ no_shape_differs scope r s (type_of e) (Array e) x d h hx (own_shape e) k.left_shape o
      | inr o ↦ elim o [ inl p ↦ no_shape_differs scope r t (type_of e) (Array e) y d h hy (own_shape e) k.right_shape p | inr p ↦ no_shape_differs scope s t (type_of e) x y d hx hy k.left_shape k.right_shape p ]
    ]

-- an operand that has the condition's type isn't out of it
none_beside_array : (scope : Scope) → IsDistinct scope → (s r : Tree) (e : Node) (x : Operand) → IsOperand scope (type_of e) s x → IsArrayTyping scope r e → (q : ℕ) → ¬ IsOutBeside scope s r q
none_beside_array scope d s r e x operand h q out =
    let same = HasType-is scope r out.type e d out.has_type h.typing in
    none_out scope s operand.e out.type.elem q operand.is.typing (operand.is.has.elem_is ∙ ap (λ (u : ArrayType). u.elem) (sym same)) out.out

select_by : (scope : Scope) → IsDistinct scope → (at : ℕ) (r s t : Tree) (e : Node) (x y : Operand) (both : Result Both CheckFault) → IsArrayTyping scope r e → Judged scope s (Ok x) → Judged scope t (Ok y)
    → IsAgreed scope at (type_of e) s t x y both → Judged scope (Select at r s t) (chain both (λ b. array (select_of e b)))
select_by scope d at r s t e x y (Ok both) h hx hy agreed = record {
  typing = record {
    spells = record {
      elem = elem_of e;
      shape = shape_of e;
      c = e;
      x = both.left;
      y = both.right;
      is = refl;
      condition = h.typing.spells;
      chosen = agreed.left.typing.spells;
      other = agreed.right.typing.spells;
    };
    typed = (h.typing.typed, agreed.left.typing.typed, agreed.right.typing.typed, record { condition = record { elem_is = refl; shape_is = refl }; chosen = agreed.left.has; other = agreed.right.has; no_literal = h.no_literal });
  };
  no_literal = refl;
}
select_by scope d at r s t e x y (Err (TypeMismatch p)) h hx hy agreed =
    select_last scope d at r s t (Array e) x y (TypeMismatch p) h hx hy
    (FirstAt-kept scope (Select at r s t) (TypeMismatch p)
    (agreed.0, elim agreed.1 [ inl off ↦ inl (type_differs scope r s e x h hx off) | inr off ↦ inr (inl (type_differs scope r t e y h hy off)) ])
    (record {
      known = λ l u. u;
      no_lone = λ l. array_place scope r e h.typing.spells h.no_literal;
      one_type = λ l. absurd (omega arith);
      one_shape = λ l. absurd (omega arith);
      none_out = λ l. absurd (omega arith);
      section = λ l. absurd (omega arith);
      stretch = λ l. absurd (omega arith);
    }))
select_by scope d at r s t e x y (Err (ShapeMismatch p)) h hx hy agreed =
    select_last scope d at r s t (Array e) x y (ShapeMismatch p) h hx hy
    (FirstAt-kept scope (Select at r s t) (ShapeMismatch p)
    (agreed.0, elim agreed.2 [ inl off ↦ inl (shape_differs scope r s e x h hx off) | inr off ↦ inr (inl (shape_differs scope r t e y h hy off)) ])
    (record {
      known = λ l u. u;
      no_lone = λ l. array_place scope r e h.typing.spells h.no_literal;
      one_type = λ l. no_three_types scope d r s t e x y h hx hy agreed.1;
      one_shape = λ l. absurd (omega arith);
      none_out = λ l. absurd (omega arith);
      section = λ l. absurd (omega arith);
      stretch = λ l. absurd (omega arith);
    }))
select_by scope d at r s t e x y (Err (LiteralRange p)) h hx hy agreed =
    let first : IsFirstOut scope (Select at r s t) p = elim agreed.2 [
      | inl o ↦ inl (record { type = type_of e; has_type = has_type_of scope r e h; out = o })
      | inr o ↦ inr (λ q out. none_beside_array scope d s r e x o.0 h q out, record { type = type_of e; has_type = has_type_of scope r e h; out = o.1 })
    ] in
    select_last scope d at r s t (Array e) x y (LiteralRange p) h hx hy
    (FirstAt-kept scope (Select at r s t) (LiteralRange p) first
    (record {
      known = λ l u. u;
      no_lone = λ l. array_place scope r e h.typing.spells h.no_literal;
      one_type = λ l. no_three_types scope d r s t e x y h hx hy agreed.0;
      one_shape = λ l. no_three_shapes scope d r s t e x y h hx hy agreed.1;
      none_out = λ l. absurd (omega arith);
      section = λ l. absurd (omega arith);
      stretch = λ l. absurd (omega arith);
    }))
select_by scope d at r s t e x y (Err (Twice p)) h hx hy agreed = absurd agreed
select_by scope d at r s t e x y (Err (Unknown p)) h hx hy agreed = absurd agreed
select_by scope d at r s t e x y (Err (LiteralAlone p)) h hx hy agreed = absurd agreed
select_by scope d at r s t e x y (Err (BadShape p)) h hx hy agreed = absurd agreed
select_by scope d at r s t e x y (Err (BadSection p)) h hx hy agreed = absurd agreed
select_by scope d at r s t e x y (Err (BadStretch p)) h hx hy agreed = absurd agreed
select_by scope d at r s t e x y (Err NoOutput) h hx hy agreed = absurd agreed
select_by scope d at r s t e x y (Err (TooMuchWork p)) h hx hy agreed = absurd agreed
select_by scope d at r s t e x y (Err Memory) h hx hy agreed = absurd agreed

select_judged : (scope : Scope) → IsDistinct scope → (at : ℕ) (r s t : Tree) (u x y : Operand) → Judged scope r (Ok u) → Judged scope s (Ok x) → Judged scope t (Ok y) → Judged scope (Select at r s t) (on_select at u x y)
select_judged scope d at r s t (Array e) x y h hx hy = select_by scope d at r s t e x y (agree at (type_of e) x y) h hx hy (agree_judged scope at (type_of e) s t x y hx hy)
select_judged scope d at r s t (Number p n) x y h hx hy =
    select_last scope d at r s t (Number p n) x y (LiteralAlone p) h hx hy
    (FirstAt-kept scope (Select at r s t) (LiteralAlone p) (ap literal_place h) (keeps_one scope (Select at r s t) (λ u. u)))

select_verdict : (scope : Scope) → IsDistinct scope → (at : ℕ) (r s t : Tree) (u v w : Verdict) → Judged scope r u → Judged scope s v → Judged scope t w
    → Judged scope (Select at r s t) (chain u (λ a. chain v (λ b. chain w (λ c. on_select at a b c))))
select_verdict scope d at r s t (Err f) v w h l m = first_left scope (parts_of r) (parts_of s ++ (parts_of t ++ Select at r s t ∷ [])) f h
select_verdict scope d at r s t (Ok a) (Err f) w h l m =
    first_right scope (parts_of r) (parts_of s ++ (parts_of t ++ Select at r s t ∷ [])) f (clean_operand scope d r a h) (first_left scope (parts_of s) (parts_of t ++ Select at r s t ∷ []) f l)
select_verdict scope d at r s t (Ok a) (Ok b) (Err f) h l m =
    first_right scope (parts_of r) (parts_of s ++ (parts_of t ++ Select at r s t ∷ [])) f (clean_operand scope d r a h)
    (first_right scope (parts_of s) (parts_of t ++ Select at r s t ∷ []) f (clean_operand scope d s b l) (first_left scope (parts_of t) (Select at r s t ∷ []) f m))
select_verdict scope d at r s t (Ok a) (Ok b) (Ok c) h l m = select_judged scope d at r s t a b c h l m

-- ---- names, and all

name_by : (scope : Scope) → IsDistinct scope → (at : ℕ) (name : List ℕ) (r : Option (ℕ × ArrayType)) → find scope name ≡ r → Judged scope (Name at name) (named at r)
name_by scope d at name None h =
    first_here scope (Name at name) (Unknown at)
    (FirstAt-kept scope (Name at name) (Unknown at) (refl, find-absent scope name (find_none scope name h))
    (record {
      known = λ l. absurd (omega arith);
      no_lone = λ l. absurd (omega arith);
      one_type = λ l. absurd (omega arith);
      one_shape = λ l. absurd (omega arith);
      none_out = λ l. absurd (omega arith);
      section = λ l. absurd (omega arith);
      stretch = λ l. absurd (omega arith);
    }))
name_by scope d at name (Some f) h =
    let entry = find-known scope name f.0 f.1 h in
    record {
      typing = record {
        spells = record { elem = f.1.elem; shape = f.1.shape; k = f.0; is = refl; declared = get_map (λ (p : List ℕ × ArrayType). p.0) scope f.0 (name, f.1) entry };
        typed = get_map (λ (p : List ℕ × ArrayType). p.1) scope f.0 (name, f.1) entry;
      };
      no_literal = refl;
    }

move_judged : (scope : Scope) → IsDistinct scope → (at : ℕ) (a : Tree) (dr dc : ℤ) → IsWritable (Rotate at a dr dc) → Judged scope a (judge scope a) → Judged scope (Rotate at a dr dc) (judge scope (Rotate at a dr dc))
move_judged scope d at a dr dc w =
    unary scope d a (Rotate at a dr dc) (λ e. array (map_of (maps.Rotate dr dc) e)) (judge scope a) refl refl (λ u. u)
    (λ e h. let m = map_typing scope a (maps.Rotate dr dc) e h (λ same. cc) (move_of dr w.1, move_of dc w.2) (zero_in (elem_of e)) in record { typing = record { spells = m.spells; typed = m.typed }; no_literal = refl })

transpose_judged : (scope : Scope) → IsDistinct scope → (at : ℕ) (a : Tree) → Judged scope a (judge scope a) → Judged scope (Transpose at a) (judge scope (Transpose at a))
transpose_judged scope d at a =
    unary scope d a (Transpose at a) (λ e. array (map_of maps.Transpose e)) (judge scope a) refl refl (λ u. u)
    (λ e h. let m = map_typing scope a maps.Transpose e h (λ same. cc) tt (zero_in (elem_of e)) in record { typing = record { spells = m.spells; typed = m.typed }; no_literal = refl })

-- the verdict on an expression
pub judged : (scope : Scope) → IsDistinct scope → (tree : Tree) → IsWritable tree → Judged scope tree (judge scope tree)
judged scope d (Name at name) w = name_by scope d at name (find scope name) refl
judged scope d (Literal at n) w = refl
judged scope d (One at op a) w = one_judged scope d at op a (judged scope d a w)
judged scope d (Two at op a b) w = two_verdict scope d at op a b (judge scope a) (judge scope b) (judged scope d a w.0) (judged scope d b w.1)
judged scope d (Cast at elem a) w = cast_judged scope d at elem a (judged scope d a w)
judged scope d (Select at c x y) w = select_verdict scope d at c x y (judge scope c) (judge scope x) (judge scope y) (judged scope d c w.0) (judged scope d x w.1) (judged scope d y w.2)
judged scope d (Shift at a dr dc fill fill_at) w =
    unary scope d a (Shift at a dr dc fill fill_at) (on_shift dr dc fill fill_at) (judge scope a) refl refl (λ u. u) (shift_judged scope d at a dr dc fill fill_at w) (judged scope d a w.0)
judged scope d (Rotate at a dr dc) w = move_judged scope d at a dr dc w (judged scope d a w.0)
judged scope d (Section at a r0 nr sr c0 nc sc) w =
    unary scope d a (Section at a r0 nr sr c0 nc sc) (on_section at (section_of r0 nr sr c0 nc sc)) (judge scope a) refl refl (λ u. u) (section_judged scope d at a r0 nr sr c0 nc sc) (judged scope d a w.0)
judged scope d (Stretch at a kr kc) w =
    unary scope d a (Stretch at a kr kc) (on_stretch at (stretch_of kr kc)) (judge scope a) refl refl (λ u. u) (stretch_judged scope d at a kr kc) (judged scope d a w.0)
judged scope d (Transpose at a) w = transpose_judged scope d at a (judged scope d a w)
judged scope d (RowFold at fold a) w = row_fold_judged scope d at fold a (judged scope d a w)
judged scope d (Fold at fold a) w = fold_judged scope d at fold a (judged scope d a w)
