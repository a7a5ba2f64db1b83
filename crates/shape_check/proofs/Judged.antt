-- The verdict on an expression is its checked tree, or its first fault.
use Rattle.std.proofs.Common.{◌≡◌, ◌≢◌, ℕ, List, [], ◌∷◌, ◌++◌, refl, sym, ap, ◌∙◌, subst, arith, None, Some, Bool, true, false, inl, inr, Ok, Err}
use Rattle.std.specs.Prelude.{ℤ, Result, All, ◌⊎◌, ◌&&◌, if◌then◌else◌}
use Rattle.ven_base.specs.declared.elem.Elem.{Elem}
use Rattle.ven_base.specs.declared.mapping.Mapping.{Mapping}
use Rattle.ven_base.specs.declared.mapping.Mapping.TheVariants as maps
use Rattle.ven_base.specs.Elem.{IsElement}
use Rattle.ven_base.specs.Mapping.{result_shape, fill_of, FitsShape}
use Rattle.ven_base.proofs.Wrapped.{zero_in}
use Rattle.array_syntax.specs.Limits.{IsWritable}
use Rattle.array_syntax.specs.Tree.{Tree, Literal, One, Cast, Shift, Section, Stretch, RowFold, Fold}
use Rattle.shape_check.specs.declared.typed.ArrayType.{ArrayType}
use Rattle.shape_check.specs.declared.fault.CheckFault.{CheckFault}
use Rattle.shape_check.specs.declared.fault.CheckFault.TheVariants.{Twice, Unknown, TypeMismatch, ShapeMismatch, LiteralAlone, LiteralRange, BadShape, BadSection, BadStretch, NoOutput, TooMuchWork, Memory}
use Rattle.shape_check.specs.Node as nodes
use Rattle.shape_check.specs.Node.{Node, elem_of, shape_of, is_literal}
use Rattle.shape_check.specs.Rules.{type_of, IsTyped, Has}
use Rattle.shape_check.specs.Scope.{Scope, scope_types}
use Rattle.shape_check.specs.Typing.{IsMap, Spells, IsTyping, section_of, stretch_of}
use Rattle.shape_check.specs.Faults.{parts_of, literal_place, lone_literal, HasType, DifferInType, DifferInShape, IsOut, IsUnknown}
use Rattle.shape_check.specs.Judge.{Operand, Array, Number, Verdict, Both, chain, array, of_array, has_elem, has_shape, same_elem, same_shape, is_in, fits, with_type, with_types, agree, one_of, cast_of, map_of, on_shift, on_section, on_stretch, row_fold_of, fold_of, judge}
use Rattle.shape_check.proofs.Arms.{move_of}
use Rattle.shape_check.proofs.Decisions.{is_in-IsElement, fits-FitsShape, same_elem-same, same_elem-self, same_shape-same, same_shape-self}
use Rattle.shape_check.proofs.Cleanness.{IsClean, Keeps, FirstAt-kept, IsFirstPart, first_left, first_last}
use Rattle.shape_check.proofs.Unique.{IsDistinct, array_place, HasType-is, literal_clean, clean_parts}

pub record IsArrayTyping (scope : Scope) (tree : Tree) (e : Node) : Type 0 where
  pub typing : IsTyping scope tree e
  pub no_literal : is_literal e ≡ false

abbrev pub Judged : Scope → Tree → Verdict → Type 0
Judged scope tree (Ok (Array e)) = IsArrayTyping scope tree e
Judged scope tree (Ok (Number at n)) = tree ≡ Literal at n
Judged scope tree (Err f) = IsFirstPart scope (parts_of tree) f

pub clean_operand : (scope : Scope) → IsDistinct scope → (tree : Tree) (x : Operand) → Judged scope tree (Ok x) → All (IsClean scope) (parts_of tree)
clean_operand scope d tree (Array e) h = clean_parts scope d tree e h.typing
clean_operand scope d tree (Number at n) h = subst (λ (t : Tree). All (IsClean scope) (parts_of t)) (sym h) (literal_clean scope at n)

pub has_type_of : (scope : Scope) (tree : Tree) (e : Node) → IsArrayTyping scope tree e → HasType scope tree (type_of e)
has_type_of scope tree e h = record { node = e; typing = h.typing; type_is = refl; no_literal = h.no_literal }

pub keeps_one : (scope : Scope) (tree : Tree) → ¬ IsUnknown scope tree → Keeps 1 scope tree
keeps_one scope tree known = record {
  known = λ l. known;
  no_lone = λ l. absurd (omega arith);
  one_type = λ l. absurd (omega arith);
  one_shape = λ l. absurd (omega arith);
  none_out = λ l. absurd (omega arith);
  section = λ l. absurd (omega arith);
  stretch = λ l. absurd (omega arith);
}

-- ---- one operand

pub unary : (scope : Scope) → IsDistinct scope → (a whole : Tree) (f : Node → Verdict) (v : Verdict) → parts_of whole ≡ parts_of a ++ whole ∷ [] → lone_literal whole ≡ literal_place a → ¬ IsUnknown scope whole
    → ((e : Node) → IsArrayTyping scope a e → Judged scope whole (f e)) → Judged scope a v → Judged scope whole (of_array v f)
unary scope d a whole f (Err g) parts alone known k h = subst (λ (xs : List Tree). IsFirstPart scope xs g) (sym parts) (first_left scope (parts_of a) (whole ∷ []) g h)
unary scope d a whole f (Ok (Array e)) parts alone known k h = k e h
unary scope d a whole f (Ok (Number p n)) parts alone known k h =
    let is : lone_literal whole ≡ Some p = alone ∙ ap literal_place h in
    subst (λ (xs : List Tree). IsFirstPart scope xs (LiteralAlone p)) (sym parts)
    (first_last scope (parts_of a) whole (LiteralAlone p) (clean_operand scope d a (Number p n) h) (FirstAt-kept scope whole (LiteralAlone p) is (keeps_one scope whole known)))

pub record IsMapTyping (scope : Scope) (a : Tree) (mapping : Mapping) (e : Node) : Type 0 where
  pub spells : IsMap mapping (Spells scope a) (map_of mapping e)
  pub typed : IsTyped (scope_types scope) (map_of mapping e)

pub map_typing : (scope : Scope) (a : Tree) (mapping : Mapping) (e : Node) → IsArrayTyping scope a e → mapping ≢ maps.Identity → FitsShape mapping (shape_of e) → IsElement (elem_of e) (fill_of mapping) → IsMapTyping scope a mapping e
map_typing scope a mapping e h moves fit fill = record {
  spells = record { elem = elem_of e; shape = result_shape mapping (shape_of e); a = e; is = refl; operand = h.typing.spells };
  typed = (h.typing.typed, record { moves = moves; fits = fit; fill = fill; elem_is = refl; shape_is = refl; no_literal = h.no_literal });
}

pub one_judged : (scope : Scope) → IsDistinct scope → (at : ℕ) (op : _) (a : Tree) → Judged scope a (judge scope a) → Judged scope (One at op a) (judge scope (One at op a))
one_judged scope d at op a =
    unary scope d a (One at op a) (λ e. array (one_of op e)) (judge scope a) refl refl (λ u. u)
    (λ e h. record {
      typing = record {
        spells = record { elem = elem_of e; shape = shape_of e; a = e; is = refl; operand = h.typing.spells };
        typed = (h.typing.typed, record { elem_is = refl; shape_is = refl }, record { no_literal = h.no_literal });
      };
      no_literal = refl;
    })

pub cast_judged : (scope : Scope) → IsDistinct scope → (at : ℕ) (elem : Elem) (a : Tree) → Judged scope a (judge scope a) → Judged scope (Cast at elem a) (judge scope (Cast at elem a))
cast_judged scope d at elem a =
    unary scope d a (Cast at elem a) (λ e. array (cast_of elem e)) (judge scope a) refl refl (λ u. u)
    (λ e h. record {
      typing = record {
        spells = record { shape = shape_of e; a = e; is = refl; operand = h.typing.spells };
        typed = (h.typing.typed, record { shape_is = refl; no_literal = h.no_literal });
      };
      no_literal = refl;
    })

pub row_fold_judged : (scope : Scope) → IsDistinct scope → (at : ℕ) (fold : _) (a : Tree) → Judged scope a (judge scope a) → Judged scope (RowFold at fold a) (judge scope (RowFold at fold a))
row_fold_judged scope d at fold a =
    unary scope d a (RowFold at fold a) (λ e. array (row_fold_of fold e)) (judge scope a) refl refl (λ u. u)
    (λ e h. record {
      typing = record {
        spells = record { elem = elem_of e; shape = record { rows = (shape_of e).rows; cols = 1 }; a = e; is = refl; operand = h.typing.spells };
        typed = (h.typing.typed, record { elem_is = refl; shape_is = refl; no_literal = h.no_literal });
      };
      no_literal = refl;
    })

pub fold_judged : (scope : Scope) → IsDistinct scope → (at : ℕ) (fold : _) (a : Tree) → Judged scope a (judge scope a) → Judged scope (Fold at fold a) (judge scope (Fold at fold a))
fold_judged scope d at fold a =
    unary scope d a (Fold at fold a) (λ e. array (fold_of fold e)) (judge scope a) refl refl (λ u. u)
    (λ e h. record {
      typing = record {
        spells = record { elem = elem_of e; shape = record { rows = 1; cols = 1 }; a = e; is = refl; operand = h.typing.spells };
        typed = (h.typing.typed, record { elem_is = refl; shape_is = refl; no_literal = h.no_literal });
      };
      no_literal = refl;
    })

pub shift_judged : (scope : Scope) → IsDistinct scope → (at : ℕ) (a : Tree) (dr dc fill : ℤ) (fill_at : ℕ) → IsWritable (Shift at a dr dc fill fill_at) → (e : Node) → IsArrayTyping scope a e → Judged scope (Shift at a dr dc fill fill_at) (on_shift dr dc fill fill_at e)
shift_judged scope d at a dr dc fill fill_at w e h = by (is_in (elem_of e) fill) refl
  where
    by : (b : Bool) → is_in (elem_of e) fill ≡ b → Judged scope (Shift at a dr dc fill fill_at) (if b then array (map_of (maps.Shift dr dc fill) e) else Err (LiteralRange fill_at))
    by true is =
        let m = map_typing scope a (maps.Shift dr dc fill) e h (λ same. cc) (move_of dr w.1, move_of dc w.2) ((is_in-IsElement (elem_of e) fill).0 is) in
        record { typing = record { spells = m.spells; typed = m.typed }; no_literal = refl }
    by false is =
        first_last scope (parts_of a) (Shift at a dr dc fill fill_at) (LiteralRange fill_at) (clean_parts scope d a e h.typing)
        (FirstAt-kept scope (Shift at a dr dc fill fill_at) (LiteralRange fill_at)
        (refl, record { type = type_of e; has_type = has_type_of scope a e h; out = λ number. let good : is_in (elem_of e) fill ≡ true = (is_in-IsElement (elem_of e) fill).1 number in let off : false ≡ true = sym is ∙ good in cc })
        (record {
          known = λ l u. u;
          no_lone = λ l. array_place scope a e h.typing.spells h.no_literal;
          one_type = λ l u. u;
          one_shape = λ l u. u;
          none_out = λ l. absurd (omega arith);
          section = λ l. absurd (omega arith);
          stretch = λ l. absurd (omega arith);
        }))

pub section_judged : (scope : Scope) → IsDistinct scope → (at : ℕ) (a : Tree) (r0 nr sr c0 nc sc : ℤ) (e : Node) → IsArrayTyping scope a e → Judged scope (Section at a r0 nr sr c0 nc sc) (on_section at (section_of r0 nr sr c0 nc sc) e)
section_judged scope d at a r0 nr sr c0 nc sc e h = by (fits (section_of r0 nr sr c0 nc sc) (shape_of e)) refl
  where
    by : (b : Bool) → fits (section_of r0 nr sr c0 nc sc) (shape_of e) ≡ b → Judged scope (Section at a r0 nr sr c0 nc sc) (if b then array (map_of (section_of r0 nr sr c0 nc sc) e) else Err (BadSection at))
    by true is =
        let m = map_typing scope a (section_of r0 nr sr c0 nc sc) e h (λ same. cc) ((fits-FitsShape (section_of r0 nr sr c0 nc sc) (shape_of e)).0 is) (zero_in (elem_of e)) in
        record { typing = record { spells = m.spells; typed = m.typed }; no_literal = refl }
    by false is =
        first_last scope (parts_of a) (Section at a r0 nr sr c0 nc sc) (BadSection at) (clean_parts scope d a e h.typing)
        (FirstAt-kept scope (Section at a r0 nr sr c0 nc sc) (BadSection at)
        (refl, record { type = type_of e; has_type = has_type_of scope a e h; misfit = λ fit. let good : fits (section_of r0 nr sr c0 nc sc) (shape_of e) ≡ true = (fits-FitsShape (section_of r0 nr sr c0 nc sc) (shape_of e)).1 fit in let off : false ≡ true = sym is ∙ good in cc })
        (record {
          known = λ l u. u;
          no_lone = λ l. array_place scope a e h.typing.spells h.no_literal;
          one_type = λ l u. u;
          one_shape = λ l u. u;
          none_out = λ l p u. u;
          section = λ l. absurd (omega arith);
          stretch = λ l. absurd (omega arith);
        }))

pub stretch_judged : (scope : Scope) → IsDistinct scope → (at : ℕ) (a : Tree) (kr kc : ℤ) (e : Node) → IsArrayTyping scope a e → Judged scope (Stretch at a kr kc) (on_stretch at (stretch_of kr kc) e)
stretch_judged scope d at a kr kc e h = by (fits (stretch_of kr kc) (shape_of e)) refl
  where
    by : (b : Bool) → fits (stretch_of kr kc) (shape_of e) ≡ b → Judged scope (Stretch at a kr kc) (if b then array (map_of (stretch_of kr kc) e) else Err (BadStretch at))
    by true is =
        let m = map_typing scope a (stretch_of kr kc) e h (λ same. cc) ((fits-FitsShape (stretch_of kr kc) (shape_of e)).0 is) (zero_in (elem_of e)) in
        record { typing = record { spells = m.spells; typed = m.typed }; no_literal = refl }
    by false is =
        first_last scope (parts_of a) (Stretch at a kr kc) (BadStretch at) (clean_parts scope d a e h.typing)
        (FirstAt-kept scope (Stretch at a kr kc) (BadStretch at)
        (refl, record { type = type_of e; has_type = has_type_of scope a e h; misfit = λ fit. let good : fits (stretch_of kr kc) (shape_of e) ≡ true = (fits-FitsShape (stretch_of kr kc) (shape_of e)).1 fit in let off : false ≡ true = sym is ∙ good in cc })
        (record {
          known = λ l u. u;
          no_lone = λ l. array_place scope a e h.typing.spells h.no_literal;
          one_type = λ l u. u;
          one_shape = λ l u. u;
          none_out = λ l p u. u;
          section = λ l u. u;
          stretch = λ l. absurd (omega arith);
        }))

-- ---- operands beside one another

-- an array stays what it is
abbrev pub KeptOf : Operand → Node → Type 0
KeptOf (Array f) e = e ≡ f
KeptOf (Number at n) e = Unit {0}

pub record IsOperandOf (scope : Scope) (tree : Tree) (type : ArrayType) (x : Operand) (e : Node) : Type 0 where
  pub typing : IsTyping scope tree e
  pub has : Has type.elem type.shape e
  pub kept : KeptOf x e

abbrev pub IsWithType : Scope → Tree → ArrayType → Operand → Result Node CheckFault → Type 0
IsWithType scope tree type x (Ok e) = IsOperandOf scope tree type x e
IsWithType scope tree type x (Err (LiteralRange p)) = IsOut type.elem tree p
IsWithType scope tree type x (Err _) = ⊥

with_type_judged : (scope : Scope) (tree : Tree) (type : ArrayType) (x : Operand) → Judged scope tree (Ok x) → has_elem type x ≡ true → has_shape type x ≡ true → IsWithType scope tree type x (with_type type x)
with_type_judged scope tree type (Array e) h elem shape =
    record { typing = h.typing; has = record { elem_is = same_elem-same (elem_of e) type.elem elem; shape_is = same_shape-same (shape_of e) type.shape shape }; kept = refl }
with_type_judged scope tree type (Number at n) h elem shape = by (is_in type.elem n) refl
  where
    by : (b : Bool) → is_in type.elem n ≡ b → IsWithType scope tree type (Number at n) (if b then Ok (nodes.Literal type.elem type.shape n) else Err (LiteralRange at))
    by true is =
        let typing : IsTyping scope (Literal at n) (nodes.Literal type.elem type.shape n) = record { spells = record { elem = type.elem; shape = type.shape; is = refl }; typed = (is_in-IsElement type.elem n).0 is } in
        record { typing = subst (λ (t : Tree). IsTyping scope t (nodes.Literal type.elem type.shape n)) (sym h) typing; has = record { elem_is = refl; shape_is = refl }; kept = tt }
    by false is =
        let out : IsOut type.elem (Literal at n) at = (refl, λ number. let good : is_in type.elem n ≡ true = (is_in-IsElement type.elem n).1 number in let off : false ≡ true = sym is ∙ good in cc) in
        subst (λ (t : Tree). IsOut type.elem t at) (sym h) out

pub record IsSameKind (type : ArrayType) (x y : Operand) : Type 0 where
  pub left_elem : has_elem type x ≡ true
  pub right_elem : has_elem type y ≡ true

pub record IsSameShape (type : ArrayType) (x y : Operand) : Type 0 where
  pub left_shape : has_shape type x ≡ true
  pub right_shape : has_shape type y ≡ true

pub record IsBoth (scope : Scope) (type : ArrayType) (s t : Tree) (x y : Operand) (both : Both) : Type 0 where
  pub left : IsOperandOf scope s type x both.left
  pub right : IsOperandOf scope t type y both.right

pub record IsOperand (scope : Scope) (type : ArrayType) (s : Tree) (x : Operand) : Type 0 where
  pub e : Node
  pub is : IsOperandOf scope s type x e

-- what comes of two operands beside something of a type
abbrev pub IsAgreed : Scope → ℕ → ArrayType → Tree → Tree → Operand → Operand → Result Both CheckFault → Type 0
IsAgreed scope at type s t x y (Ok both) = IsBoth scope type s t x y both
IsAgreed scope at type s t x y (Err (TypeMismatch p)) = (p ≡ at) × ((has_elem type x ≡ false) ⊎ (has_elem type y ≡ false))
IsAgreed scope at type s t x y (Err (ShapeMismatch p)) = (p ≡ at) × IsSameKind type x y × ((has_shape type x ≡ false) ⊎ (has_shape type y ≡ false))
IsAgreed scope at type s t x y (Err (LiteralRange p)) = IsSameKind type x y × IsSameShape type x y × (IsOut type.elem s p ⊎ (IsOperand scope type s x × IsOut type.elem t p))
IsAgreed scope at type s t x y (Err _) = ⊥

types_by : (scope : Scope) (at : ℕ) (type : ArrayType) (s t : Tree) (x y : Operand) (u v : Result Node CheckFault) → IsSameKind type x y → IsSameShape type x y → IsWithType scope s type x u → IsWithType scope t type y v
    → IsAgreed scope at type s t x y (chain u (λ l. chain v (λ r. Ok (record { left = l; right = r }))))
types_by scope at type s t x y (Ok l) (Ok r) k m h i = record { left = h; right = i }
types_by scope at type s t x y (Ok l) (Err (LiteralRange p)) k m h i = (k, m, inr (record { e = l; is = h }, i))
types_by scope at type s t x y (Ok l) (Err (Twice p)) k m h i = absurd i
types_by scope at type s t x y (Ok l) (Err (Unknown p)) k m h i = absurd i
types_by scope at type s t x y (Ok l) (Err (TypeMismatch p)) k m h i = absurd i
types_by scope at type s t x y (Ok l) (Err (ShapeMismatch p)) k m h i = absurd i
types_by scope at type s t x y (Ok l) (Err (LiteralAlone p)) k m h i = absurd i
types_by scope at type s t x y (Ok l) (Err (BadShape p)) k m h i = absurd i
types_by scope at type s t x y (Ok l) (Err (BadSection p)) k m h i = absurd i
types_by scope at type s t x y (Ok l) (Err (BadStretch p)) k m h i = absurd i
types_by scope at type s t x y (Ok l) (Err NoOutput) k m h i = absurd i
types_by scope at type s t x y (Ok l) (Err (TooMuchWork p)) k m h i = absurd i
types_by scope at type s t x y (Ok l) (Err Memory) k m h i = absurd i
types_by scope at type s t x y (Err (LiteralRange p)) v k m h i = (k, m, inl h)
types_by scope at type s t x y (Err (Twice p)) v k m h i = absurd h
types_by scope at type s t x y (Err (Unknown p)) v k m h i = absurd h
types_by scope at type s t x y (Err (TypeMismatch p)) v k m h i = absurd h
types_by scope at type s t x y (Err (ShapeMismatch p)) v k m h i = absurd h
types_by scope at type s t x y (Err (LiteralAlone p)) v k m h i = absurd h
types_by scope at type s t x y (Err (BadShape p)) v k m h i = absurd h
types_by scope at type s t x y (Err (BadSection p)) v k m h i = absurd h
types_by scope at type s t x y (Err (BadStretch p)) v k m h i = absurd h
types_by scope at type s t x y (Err NoOutput) v k m h i = absurd h
types_by scope at type s t x y (Err (TooMuchWork p)) v k m h i = absurd h
types_by scope at type s t x y (Err Memory) v k m h i = absurd h

pub agree_judged : (scope : Scope) (at : ℕ) (type : ArrayType) (s t : Tree) (x y : Operand) → Judged scope s (Ok x) → Judged scope t (Ok y) → IsAgreed scope at type s t x y (agree at type x y)
agree_judged scope at type s t x y h l = by (has_elem type x) (has_elem type y) (has_shape type x) (has_shape type y) refl refl refl refl
  where
    by : (a b c d : Bool) → has_elem type x ≡ a → has_elem type y ≡ b → has_shape type x ≡ c → has_shape type y ≡ d
        → IsAgreed scope at type s t x y (if a && b then (if c && d then with_types type x y else Err (ShapeMismatch at)) else Err (TypeMismatch at))
    by false b c d p q r u = (refl, inl p)
    by true false c d p q r u = (refl, inr q)
    by true true false d p q r u = (refl, record { left_elem = p; right_elem = q }, inl r)
    by true true true false p q r u = (refl, record { left_elem = p; right_elem = q }, inr u)
    by true true true true p q r u =
        types_by scope at type s t x y (with_type type x) (with_type type y) (record { left_elem = p; right_elem = q }) (record { left_shape = r; right_shape = u })
        (with_type_judged scope s type x h p r) (with_type_judged scope t type y l q u)

-- a literal has no type
pub literal_untyped : (scope : Scope) (tree : Tree) (u : ArrayType) (at : ℕ) (n : ℤ) → tree ≡ Literal at n → HasType scope tree u → ⊥
literal_untyped scope tree u at n is has =
    let there : literal_place tree ≡ Some at = ap literal_place is in
    let none : literal_place tree ≡ None = array_place scope tree has.node has.typing.spells has.no_literal in
    let off : Some at ≡ None = sym there ∙ none in
    cc

-- what has a type is the operand's array
has_its_elem : (scope : Scope) (tree : Tree) (type u : ArrayType) (x : Operand) → IsDistinct scope → Judged scope tree (Ok x) → has_elem type x ≡ true → HasType scope tree u → u.elem ≡ type.elem
has_its_elem scope tree type u (Array e) d h elem has = ap (λ (q : ArrayType). q.elem) (HasType-is scope tree u e d has h.typing) ∙ same_elem-same (elem_of e) type.elem elem
has_its_elem scope tree type u (Number at n) d h elem has = absurd (literal_untyped scope tree u at n h has)

has_its_shape : (scope : Scope) (tree : Tree) (type u : ArrayType) (x : Operand) → IsDistinct scope → Judged scope tree (Ok x) → has_shape type x ≡ true → HasType scope tree u → u.shape ≡ type.shape
has_its_shape scope tree type u (Array e) d h shape has = ap (λ (q : ArrayType). q.shape) (HasType-is scope tree u e d has h.typing) ∙ same_shape-same (shape_of e) type.shape shape
has_its_shape scope tree type u (Number at n) d h shape has = absurd (literal_untyped scope tree u at n h has)

pub no_type_differs : (scope : Scope) (s t : Tree) (type : ArrayType) (x y : Operand) → IsDistinct scope → Judged scope s (Ok x) → Judged scope t (Ok y) → has_elem type x ≡ true → has_elem type y ≡ true → ¬ DifferInType scope s t
no_type_differs scope s t type x y d h l p q differ =
    differ.differ (has_its_elem scope s type differ.left x d h p differ.has_left ∙ sym (has_its_elem scope t type differ.right y d l q differ.has_right))

pub no_shape_differs : (scope : Scope) (s t : Tree) (type : ArrayType) (x y : Operand) → IsDistinct scope → Judged scope s (Ok x) → Judged scope t (Ok y) → has_shape type x ≡ true → has_shape type y ≡ true → ¬ DifferInShape scope s t
no_shape_differs scope s t type x y d h l p q differ =
    differ.differ (has_its_shape scope s type differ.left x d h p differ.has_left ∙ sym (has_its_shape scope t type differ.right y d l q differ.has_right))

-- an operand that hasn't the type of an array differs from it
pub type_differs : (scope : Scope) (s t : Tree) (e : Node) (y : Operand) → IsArrayTyping scope s e → Judged scope t (Ok y) → has_elem (type_of e) y ≡ false → DifferInType scope s t
type_differs scope s t e (Array f) h l off = record {
  left = type_of e;
  right = type_of f;
  has_left = has_type_of scope s e h;
  has_right = has_type_of scope t f l;
  differ = λ same. let good : same_elem (elem_of f) (elem_of e) ≡ true = ap (same_elem (elem_of f)) same ∙ same_elem-self (elem_of f) in let bad : false ≡ true = sym off ∙ good in cc;
}
type_differs scope s t e (Number at n) h l off = absurd (let bad : true ≡ false = off in cc)

pub shape_differs : (scope : Scope) (s t : Tree) (e : Node) (y : Operand) → IsArrayTyping scope s e → Judged scope t (Ok y) → has_shape (type_of e) y ≡ false → DifferInShape scope s t
shape_differs scope s t e (Array f) h l off = record {
  left = type_of e;
  right = type_of f;
  has_left = has_type_of scope s e h;
  has_right = has_type_of scope t f l;
  differ = λ same. let good : same_shape (shape_of f) (shape_of e) ≡ true = ap (same_shape (shape_of f)) same ∙ same_shape-self (shape_of f) in let bad : false ≡ true = sym off ∙ good in cc;
}
shape_differs scope s t e (Number at n) h l off = absurd (let bad : true ≡ false = off in cc)

pub own_elem : (e : Node) → has_elem (type_of e) (Array e) ≡ true
own_elem e = same_elem-self (elem_of e)

pub own_shape : (e : Node) → has_shape (type_of e) (Array e) ≡ true
own_shape e = same_shape-self (shape_of e)
