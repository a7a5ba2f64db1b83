-- An expression has one checked tree, and a checked tree breaks no rule.
use Rattle.std.proofs.Common.{◌≡◌, ℕ, ◌<◌, List, [], ◌∷◌, ◌++◌, refl, sym, ap, ◌∙◌, subst, Option, None, Some, true, false, inl, inr, Contains}
use Rattle.std.specs.Prelude.{ℤ, All, slice_get, ◌⊎◌}
use Rattle.std.proofs.lemmas.List.Elements.{All-nil, All-cons, All-append}
use Rattle.std.proofs.lemmas.Option.{slice_get_within, get_or_from_slice_get}
use Rattle.ven_base.specs.declared.elem.Elem.{Elem}
use Rattle.ven_base.specs.declared.ops.Op2.{Op2}
use Rattle.ven_base.specs.declared.mapping.Mapping.{Mapping}
use Rattle.ven_base.specs.declared.mapping.Mapping.TheVariants as maps
use Rattle.ven_base.specs.Elem.{IsElement}
use Rattle.ven_base.specs.Extent.{Extent}
use Rattle.ven_base.specs.Mapping.{result_shape, FitsShape}
use Rattle.array_syntax.specs.Tree.{Tree, Name, Literal, One, Two, Cast, Select, Shift, Rotate, Section, Stretch, Transpose, RowFold, Fold}
use Rattle.shape_check.specs.declared.typed.ArrayType.{ArrayType}
use Rattle.shape_check.specs.Node as nodes
use Rattle.shape_check.specs.Node.{Node, elem_of, shape_of, is_literal}
use Rattle.shape_check.specs.Rules.{type_of, IsTyped, Has, HaveBoth, HaveAll}
use Rattle.shape_check.specs.Scope.{Scope, scope_names, scope_types}
use Rattle.shape_check.specs.Typing.{IsMap, Spells, IsTyping, section_of, stretch_of}
use Rattle.shape_check.specs.Faults.{parts_of, literal_place, lone_literal, first_of_both, HasType, DifferInType, DifferInShape, HasTwo, IsOut, IsOutBeside, IsFillOut, IsFirstOut, Misfits, IsBadSection, IsBadStretch, IsUnknown}
use Rattle.shape_check.proofs.Typing.{one_of_two}
use Rattle.shape_check.proofs.Cleanness.{IsClean, Keeps, IsClean-kept, clean_last}

-- no two names are alike
pub record IsDistinct (scope : Scope) : Type 0 where
  pub same : (name : List ℕ) (i j : ℕ) → slice_get (scope_names scope) i ≡ Some name → slice_get (scope_names scope) j ≡ Some name → i ≡ j

same_some : {X : Type 0} (x y : X) → Some x ≡ Some y → x ≡ y
same_some x y h = cc

typed_as : (types : List ArrayType) (e f : Node) → e ≡ f → IsTyped types e → IsTyped types f
typed_as types e f same h = subst (IsTyped types) same h

has_type : (elem : Elem) (shape : Extent) (e : Node) → Has elem shape e → type_of e ≡ record { elem = elem; shape = shape }
has_type elem shape e h = λ k. record { elem = h.elem_is k; shape = h.shape_is k }

-- what stands for an array is no literal
pub array_place : (scope : Scope) (tree : Tree) (e : Node) → Spells scope tree e → is_literal e ≡ false → literal_place tree ≡ None
array_place scope (Literal at n) e h l = absurd (let off : true ≡ false = ap is_literal (sym h.is) ∙ l in cc)
array_place scope (Name at name) e h l = refl
array_place scope (One at op a) e h l = refl
array_place scope (Two at op a b) e h l = refl
array_place scope (Cast at elem a) e h l = refl
array_place scope (Select at c x y) e h l = refl
array_place scope (Shift at a dr dc fill fill_at) e h l = refl
array_place scope (Rotate at a dr dc) e h l = refl
array_place scope (Section at a r0 nr sr c0 nc sc) e h l = refl
array_place scope (Stretch at a kr kc) e h l = refl
array_place scope (Transpose at a) e h l = refl
array_place scope (RowFold at fold a) e h l = refl
array_place scope (Fold at fold a) e h l = refl

-- ---- one tree

-- two checked trees of an expression are one; those of a literal where they have one type
abbrev IsSame : Scope → Tree → Type 0
IsSame scope tree = (e f : Node) → IsTyping scope tree e → IsTyping scope tree f → (literal_place tree ≡ None) ⊎ (type_of e ≡ type_of f) → e ≡ f

typing : (scope : Scope) (tree : Tree) (e : Node) → Spells scope tree e → IsTyped (scope_types scope) e → IsTyping scope tree e
typing scope tree e h l = record { spells = h; typed = l }

-- the operand of a node is one, where it is an array
same_operand : (scope : Scope) (tree : Tree) (e f : Node) → IsSame scope tree → Spells scope tree e → Spells scope tree f → IsTyped (scope_types scope) e → IsTyped (scope_types scope) f → is_literal e ≡ false → e ≡ f
same_operand scope tree e f same h l p q array = same e f (typing scope tree e h p) (typing scope tree f l q) (inl (array_place scope tree e h array))

-- and where it has the type of another operand
same_beside : (scope : Scope) (tree : Tree) (e f : Node) → IsSame scope tree → Spells scope tree e → Spells scope tree f → IsTyped (scope_types scope) e → IsTyped (scope_types scope) f → type_of e ≡ type_of f → e ≡ f
same_beside scope tree e f same h l p q type = same e f (typing scope tree e h p) (typing scope tree f l q) (inr type)

same_map : (scope : Scope) (tree : Tree) (mapping : Mapping) (e f : Node) → IsSame scope tree → IsMap mapping (Spells scope tree) e → IsMap mapping (Spells scope tree) f → IsTyped (scope_types scope) e → IsTyped (scope_types scope) f → e ≡ f
same_map scope tree mapping e f same h l p q =
    let te = typed_as (scope_types scope) e (nodes.Map h.elem h.shape mapping h.a) h.is p in
    let tf = typed_as (scope_types scope) f (nodes.Map l.elem l.shape mapping l.a) l.is q in
    let a : h.a ≡ l.a = same_operand scope tree h.a l.a same h.operand l.operand te.0 tf.0 te.1.no_literal in
    let elem : h.elem ≡ l.elem = sym te.1.elem_is ∙ ap elem_of a ∙ tf.1.elem_is in
    let shape : h.shape ≡ l.shape = sym te.1.shape_is ∙ ap (λ n. result_shape mapping (shape_of n)) a ∙ tf.1.shape_is in
    h.is ∙ (λ k. nodes.Map (elem k) (shape k) mapping (a k)) ∙ sym l.is

same_two : (scope : Scope) (s t : Tree) (ea eb fa fb : Node) (ee fe : Elem) (es fs : Extent) (op : Op2) → IsSame scope s → IsSame scope t → IsTyping scope s ea → IsTyping scope t eb → IsTyping scope s fa → IsTyping scope t fb
    → HaveBoth ee es ea eb → HaveBoth fe fs fa fb → nodes.Two ee es op ea eb ≡ nodes.Two fe fs op fa fb
same_two scope s t ea eb fa fb ee fe es fs op left right ha hb la lb h l =
    elim (one_of_two (is_literal ea) (is_literal eb) h.no_literals) [
      | inl array ↦
          let a : ea ≡ fa = left ea fa ha la (inl (array_place scope s ea ha.spells array)) in
          let type : pair ee es ≡ pair fe fs = sym (has_type ee es ea h.left) ∙ ap type_of a ∙ has_type fe fs fa l.left in
          let b : eb ≡ fb = right eb fb hb lb (inr (has_type ee es eb h.right ∙ type ∙ sym (has_type fe fs fb l.right))) in
          λ k. nodes.Two (type k).elem (type k).shape op (a k) (b k)
      | inr array ↦
          let b : eb ≡ fb = right eb fb hb lb (inl (array_place scope t eb hb.spells array)) in
          let type : pair ee es ≡ pair fe fs = sym (has_type ee es eb h.right) ∙ ap type_of b ∙ has_type fe fs fb l.right in
          let a : ea ≡ fa = left ea fa ha la (inr (has_type ee es ea h.left ∙ type ∙ sym (has_type fe fs fa l.left))) in
          λ k. nodes.Two (type k).elem (type k).shape op (a k) (b k)
    ]
  where
    pair : Elem → Extent → ArrayType
    pair elem shape = record { elem = elem; shape = shape }

pub same_typing : (scope : Scope) → IsDistinct scope → (tree : Tree) → IsSame scope tree
same_typing scope d (Name at name) e f h l which =
    let x = h.spells in
    let y = l.spells in
    let te = typed_as (scope_types scope) e (nodes.Name x.elem x.shape x.k) x.is h.typed in
    let tf = typed_as (scope_types scope) f (nodes.Name y.elem y.shape y.k) y.is l.typed in
    let k : x.k ≡ y.k = d.same name x.k y.k x.declared y.declared in
    let te' : slice_get (scope_types scope) x.k ≡ Some (record { elem = x.elem; shape = x.shape }) = te in
    let type = same_some (record { elem = x.elem; shape = x.shape }) (record { elem = y.elem; shape = y.shape }) (sym te' ∙ ap (slice_get (scope_types scope)) k ∙ tf) in
    x.is ∙ (λ i. nodes.Name (type i).elem (type i).shape (k i)) ∙ sym y.is
same_typing scope d (Literal at n) e f h l (inl off) = absurd (let off2 : Some at ≡ None = off in cc)
same_typing scope d (Literal at n) e f h l (inr same) =
    let x = h.spells in
    let y = l.spells in
    let type = sym (ap type_of x.is) ∙ same ∙ ap type_of y.is in
    x.is ∙ (λ i. nodes.Literal (type i).elem (type i).shape n) ∙ sym y.is
same_typing scope d (One at op a) e f h l which =
    let x = h.spells in
    let y = l.spells in
    let te = typed_as (scope_types scope) e (nodes.One x.elem x.shape op x.a) x.is h.typed in
    let tf = typed_as (scope_types scope) f (nodes.One y.elem y.shape op y.a) y.is l.typed in
    let o : x.a ≡ y.a = same_operand scope a x.a y.a (same_typing scope d a) x.operand y.operand te.0 tf.0 te.2.no_literal in
    let type = sym (has_type x.elem x.shape x.a te.1) ∙ ap type_of o ∙ has_type y.elem y.shape y.a tf.1 in
    x.is ∙ (λ i. nodes.One (type i).elem (type i).shape op (o i)) ∙ sym y.is
same_typing scope d (Two at op a b) e f h l which =
    let x = h.spells in
    let y = l.spells in
    let te = typed_as (scope_types scope) e (nodes.Two x.elem x.shape op x.a x.b) x.is h.typed in
    let tf = typed_as (scope_types scope) f (nodes.Two y.elem y.shape op y.a y.b) y.is l.typed in
    x.is
    ∙ same_two scope a b x.a x.b y.a y.b x.elem y.elem x.shape y.shape op (same_typing scope d a) (same_typing scope d b) (typing scope a x.a x.left te.0) (typing scope b x.b x.right te.1) (typing scope a y.a y.left tf.0) (typing scope b y.b y.right tf.1) te.2 tf.2
    ∙ sym y.is
same_typing scope d (Cast at elem a) e f h l which =
    let x = h.spells in
    let y = l.spells in
    let te = typed_as (scope_types scope) e (nodes.Cast elem x.shape x.a) x.is h.typed in
    let tf = typed_as (scope_types scope) f (nodes.Cast elem y.shape y.a) y.is l.typed in
    let o : x.a ≡ y.a = same_operand scope a x.a y.a (same_typing scope d a) x.operand y.operand te.0 tf.0 te.1.no_literal in
    let shape : x.shape ≡ y.shape = sym te.1.shape_is ∙ ap shape_of o ∙ tf.1.shape_is in
    x.is ∙ (λ i. nodes.Cast elem (shape i) (o i)) ∙ sym y.is
same_typing scope d (Select at c p q) e f h l which =
    let x = h.spells in
    let y = l.spells in
    let te = typed_as (scope_types scope) e (nodes.Select x.elem x.shape x.c x.x x.y) x.is h.typed in
    let tf = typed_as (scope_types scope) f (nodes.Select y.elem y.shape y.c y.x y.y) y.is l.typed in
    let o : x.c ≡ y.c = same_operand scope c x.c y.c (same_typing scope d c) x.condition y.condition te.0 tf.0 te.3.no_literal in
    let type = sym (has_type x.elem x.shape x.c te.3.condition) ∙ ap type_of o ∙ has_type y.elem y.shape y.c tf.3.condition in
    let u : x.x ≡ y.x = same_beside scope p x.x y.x (same_typing scope d p) x.chosen y.chosen te.1 tf.1 (has_type x.elem x.shape x.x te.3.chosen ∙ type ∙ sym (has_type y.elem y.shape y.x tf.3.chosen)) in
    let v : x.y ≡ y.y = same_beside scope q x.y y.y (same_typing scope d q) x.other y.other te.2 tf.2 (has_type x.elem x.shape x.y te.3.other ∙ type ∙ sym (has_type y.elem y.shape y.y tf.3.other)) in
    x.is ∙ (λ i. nodes.Select (type i).elem (type i).shape (o i) (u i) (v i)) ∙ sym y.is
same_typing scope d (Shift at a dr dc fill fill_at) e f h l which = same_map scope a (maps.Shift dr dc fill) e f (same_typing scope d a) h.spells l.spells h.typed l.typed
same_typing scope d (Rotate at a dr dc) e f h l which = same_map scope a (maps.Rotate dr dc) e f (same_typing scope d a) h.spells l.spells h.typed l.typed
same_typing scope d (Section at a r0 nr sr c0 nc sc) e f h l which = same_map scope a (section_of r0 nr sr c0 nc sc) e f (same_typing scope d a) h.spells l.spells h.typed l.typed
same_typing scope d (Stretch at a kr kc) e f h l which = same_map scope a (stretch_of kr kc) e f (same_typing scope d a) h.spells l.spells h.typed l.typed
same_typing scope d (Transpose at a) e f h l which = same_map scope a maps.Transpose e f (same_typing scope d a) h.spells l.spells h.typed l.typed
same_typing scope d (RowFold at fold a) e f h l which =
    let x = h.spells in
    let y = l.spells in
    let te = typed_as (scope_types scope) e (nodes.RowFold x.elem x.shape fold x.a) x.is h.typed in
    let tf = typed_as (scope_types scope) f (nodes.RowFold y.elem y.shape fold y.a) y.is l.typed in
    let o : x.a ≡ y.a = same_operand scope a x.a y.a (same_typing scope d a) x.operand y.operand te.0 tf.0 te.1.no_literal in
    let elem : x.elem ≡ y.elem = sym te.1.elem_is ∙ ap elem_of o ∙ tf.1.elem_is in
    let shape : x.shape ≡ y.shape = te.1.shape_is ∙ ap (λ n. column (shape_of n)) o ∙ sym tf.1.shape_is in
    x.is ∙ (λ i. nodes.RowFold (elem i) (shape i) fold (o i)) ∙ sym y.is
  where
    column : Extent → Extent
    column s = record { rows = s.rows; cols = 1 }
same_typing scope d (Fold at fold a) e f h l which =
    let x = h.spells in
    let y = l.spells in
    let te = typed_as (scope_types scope) e (nodes.Fold x.elem x.shape fold x.a) x.is h.typed in
    let tf = typed_as (scope_types scope) f (nodes.Fold y.elem y.shape fold y.a) y.is l.typed in
    let o : x.a ≡ y.a = same_operand scope a x.a y.a (same_typing scope d a) x.operand y.operand te.0 tf.0 te.1.no_literal in
    let elem : x.elem ≡ y.elem = sym te.1.elem_is ∙ ap elem_of o ∙ tf.1.elem_is in
    let shape : x.shape ≡ y.shape = te.1.shape_is ∙ sym tf.1.shape_is in
    x.is ∙ (λ i. nodes.Fold (elem i) (shape i) fold (o i)) ∙ sym y.is

-- so an expression has one type
pub HasType-is : (scope : Scope) (tree : Tree) (type : ArrayType) (e : Node) → IsDistinct scope → HasType scope tree type → IsTyping scope tree e → type ≡ type_of e
HasType-is scope tree type e d h l =
    sym h.type_is ∙ ap type_of (same_typing scope d tree h.node e h.typing l (inl (array_place scope tree h.node h.typing.spells h.no_literal)))

-- ---- checked trees are clean

-- a node with one operand
pub unary_keeps : (n : ℕ) (scope : Scope) (tree : Tree) → (¬ IsUnknown scope tree) → (1 < n → lone_literal tree ≡ None) → (¬ HasTwo (DifferInType scope) tree) → (¬ HasTwo (DifferInShape scope) tree) → (4 < n → (p : ℕ) → ¬ IsFirstOut scope tree p)
    → (5 < n → ¬ IsBadSection scope tree) → (6 < n → ¬ IsBadStretch scope tree) → Keeps n scope tree
unary_keeps n scope tree known no_lone one_type one_shape none_out section stretch = record {
  known = λ l. known;
  no_lone = no_lone;
  one_type = λ l. one_type;
  one_shape = λ l. one_shape;
  none_out = none_out;
  section = section;
  stretch = stretch;
}

pub literal_clean : (scope : Scope) (at : ℕ) (n : ℤ) → All (IsClean scope) (Literal at n ∷ [])
literal_clean scope at n =
    All-cons (IsClean scope) (Literal at n) [] (IsClean-kept scope (Literal at n) (unary_keeps 7 scope (Literal at n) (λ h. h) (λ l. refl) (λ h. h) (λ h. h) (λ l p h. h) (λ l h. h) (λ l h. h))) (All-nil (IsClean scope))

contains_at : (xs : List (List ℕ)) (k : ℕ) (x : List ℕ) → slice_get xs k ≡ Some x → Contains xs x
contains_at xs k x h = (k, slice_get_within xs k x h, get_or_from_slice_get xs k x x h)

pub name_clean : (scope : Scope) (at : ℕ) (name : List ℕ) → Contains (scope_names scope) name → All (IsClean scope) (Name at name ∷ [])
name_clean scope at name c =
    All-cons (IsClean scope) (Name at name) [] (IsClean-kept scope (Name at name) (unary_keeps 7 scope (Name at name) (λ h. h c) (λ l. refl) (λ h. h) (λ h. h) (λ l p h. h) (λ l h. h) (λ l h. h))) (All-nil (IsClean scope))

-- two operands of one type, one of which is an array, don't differ
same_kind : (scope : Scope) (s t : Tree) (a b : Node) (elem : Elem) (shape : Extent) → IsDistinct scope → IsTyping scope s a → IsTyping scope t b → Has elem shape a → Has elem shape b → ¬ DifferInType scope s t
same_kind scope s t a b elem shape d h l p q differ =
    let x = HasType-is scope s differ.left a d differ.has_left h in
    let y = HasType-is scope t differ.right b d differ.has_right l in
    differ.differ (ap (λ (u : ArrayType). u.elem) x ∙ p.elem_is ∙ sym q.elem_is ∙ ap (λ (u : ArrayType). u.elem) (sym y))

same_extent : (scope : Scope) (s t : Tree) (a b : Node) (elem : Elem) (shape : Extent) → IsDistinct scope → IsTyping scope s a → IsTyping scope t b → Has elem shape a → Has elem shape b → ¬ DifferInShape scope s t
same_extent scope s t a b elem shape d h l p q differ =
    let x = HasType-is scope s differ.left a d differ.has_left h in
    let y = HasType-is scope t differ.right b d differ.has_right l in
    differ.differ (ap (λ (u : ArrayType). u.shape) x ∙ p.shape_is ∙ sym q.shape_is ∙ ap (λ (u : ArrayType). u.shape) (sym y))

-- a literal with a type is a number of it
pub none_out : (scope : Scope) (tree : Tree) (e : Node) (elem : Elem) (p : ℕ) → IsTyping scope tree e → elem_of e ≡ elem → ¬ IsOut elem tree p
none_out scope (Literal at n) e elem p h is out =
    let x = h.spells in
    let number : IsElement x.elem n = typed_as (scope_types scope) e (nodes.Literal x.elem x.shape n) x.is h.typed in
    let same : x.elem ≡ elem = ap elem_of (sym x.is) ∙ is in
    out.1 (subst (λ (t : Elem). IsElement t n) same number)
none_out scope (Name at name) e elem p h is out = out
none_out scope (One at op a) e elem p h is out = out
none_out scope (Two at op a b) e elem p h is out = out
none_out scope (Cast at t a) e elem p h is out = out
none_out scope (Select at c x y) e elem p h is out = out
none_out scope (Shift at a dr dc fill fill_at) e elem p h is out = out
none_out scope (Rotate at a dr dc) e elem p h is out = out
none_out scope (Section at a r0 nr sr c0 nc sc) e elem p h is out = out
none_out scope (Stretch at a kr kc) e elem p h is out = out
none_out scope (Transpose at a) e elem p h is out = out
none_out scope (RowFold at fold a) e elem p h is out = out
none_out scope (Fold at fold a) e elem p h is out = out

none_beside : (scope : Scope) (s t : Tree) (a b : Node) (elem : Elem) (shape : Extent) (p : ℕ) → IsDistinct scope → IsTyping scope s a → IsTyping scope t b → Has elem shape a → Has elem shape b → ¬ IsOutBeside scope s t p
none_beside scope s t a b elem shape p d h l u v out =
    let type = HasType-is scope t out.type b d out.has_type l in
    none_out scope s a out.type.elem p h (u.elem_is ∙ sym v.elem_is ∙ ap (λ (q : ArrayType). q.elem) (sym type)) out.out

pub none_of_both : (o r : Option ℕ) → (o ≡ None) ⊎ (r ≡ None) → first_of_both o r ≡ None
none_of_both None r h = refl
none_of_both (Some x) None h = refl
none_of_both (Some x) (Some y) (inl h) = absurd (let e : Some x ≡ None = h in cc)
none_of_both (Some x) (Some y) (inr h) = absurd (let e : Some y ≡ None = h in cc)

two_keeps : (scope : Scope) (at : ℕ) (op : Op2) (s t : Tree) (a b : Node) (elem : Elem) (shape : Extent) → IsDistinct scope → IsTyping scope s a → IsTyping scope t b → HaveBoth elem shape a b → Keeps 7 scope (Two at op s t)
two_keeps scope at op s t a b elem shape d h l both = record {
  known = λ k u. u;
  no_lone = λ k. none_of_both (literal_place s) (literal_place t) (elim (one_of_two (is_literal a) (is_literal b) both.no_literals) [ inl array ↦ inl (array_place scope s a h.spells array) | inr array ↦ inr (array_place scope t b l.spells array) ]);
  one_type = λ k. same_kind scope s t a b elem shape d h l both.left both.right;
  one_shape = λ k. same_extent scope s t a b elem shape d h l both.left both.right;
  none_out = λ k p out. elim out [ inl o ↦ none_beside scope s t a b elem shape p d h l both.left both.right o | inr o ↦ none_beside scope t s b a elem shape p d l h both.right both.left o ];
  section = λ k u. u;
  stretch = λ k u. u;
}

select_keeps : (scope : Scope) (at : ℕ) (r s t : Tree) (c x y : Node) (elem : Elem) (shape : Extent) → IsDistinct scope → IsTyping scope r c → IsTyping scope s x → IsTyping scope t y → HaveAll elem shape c x y → Keeps 7 scope (Select at r s t)
select_keeps scope at r s t c x y elem shape d h l m all = record {
  known = λ k u. u;
  no_lone = λ k. array_place scope r c h.spells all.no_literal;
  one_type = λ k differ.
      elim differ [
        | inl o ↦ same_kind scope r s c x elem shape d h l all.condition all.chosen o
        | inr o ↦ elim o [ inl p ↦ same_kind scope r t c y elem shape d h m all.condition all.other p | inr p ↦ same_kind scope s t x y elem shape d l m all.chosen all.other p ]
      ];
  one_shape = λ k differ.
      elim differ [
        | inl o ↦ same_extent scope r s c x elem shape d h l all.condition all.chosen o
        | inr o ↦ elim o [ inl p ↦ same_extent scope r t c y elem shape d h m all.condition all.other p | inr p ↦ same_extent scope s t x y elem shape d l m all.chosen all.other p ]
      ];
  none_out = λ k p out.
      elim out [
        | inl o ↦ none_beside scope s r x c elem shape p d l h all.chosen all.condition o
        | inr o ↦ none_beside scope t r y c elem shape p d m h all.other all.condition o.1
      ];
  section = λ k u. u;
  stretch = λ k u. u;
}

pub fill_in : (scope : Scope) (tree : Tree) (e : Node) (fill : ℤ) → IsDistinct scope → IsTyping scope tree e → IsElement (elem_of e) fill → ¬ IsFillOut scope tree fill
fill_in scope tree e fill d h number out =
    let type = HasType-is scope tree out.type e d out.has_type h in
    out.out (subst (λ (t : Elem). IsElement t fill) (ap (λ (q : ArrayType). q.elem) (sym type)) number)

pub no_misfit : (scope : Scope) (tree : Tree) (e : Node) (mapping : Mapping) → IsDistinct scope → IsTyping scope tree e → FitsShape mapping (shape_of e) → ¬ Misfits scope tree mapping
no_misfit scope tree e mapping d h fit out =
    let type = HasType-is scope tree out.type e d out.has_type h in
    out.misfit (subst (FitsShape mapping) (ap (λ (q : ArrayType). q.shape) (sym type)) fit)

-- no node of a checked expression breaks a rule
pub clean_parts : (scope : Scope) → IsDistinct scope → (tree : Tree) (e : Node) → IsTyping scope tree e → All (IsClean scope) (parts_of tree)
clean_parts scope d (Name at name) e h = name_clean scope at name (contains_at (scope_names scope) h.spells.k name h.spells.declared)
clean_parts scope d (Literal at n) e h = literal_clean scope at n
clean_parts scope d (One at op a) e h =
    let x = h.spells in
    let t = typed_as (scope_types scope) e (nodes.One x.elem x.shape op x.a) x.is h.typed in
    clean_last scope (parts_of a) (One at op a) (clean_parts scope d a x.a (typing scope a x.a x.operand t.0))
    (IsClean-kept scope (One at op a) (unary_keeps 7 scope (One at op a) (λ u. u) (λ l. array_place scope a x.a x.operand t.2.no_literal) (λ u. u) (λ u. u) (λ l p u. u) (λ l u. u) (λ l u. u)))
clean_parts scope d (Two at op a b) e h =
    let x = h.spells in
    let t = typed_as (scope_types scope) e (nodes.Two x.elem x.shape op x.a x.b) x.is h.typed in
    let left = typing scope a x.a x.left t.0 in
    let right = typing scope b x.b x.right t.1 in
    All-append (IsClean scope) (parts_of a) (parts_of b ++ Two at op a b ∷ []) (clean_parts scope d a x.a left)
    (clean_last scope (parts_of b) (Two at op a b) (clean_parts scope d b x.b right) (IsClean-kept scope (Two at op a b) (two_keeps scope at op a b x.a x.b x.elem x.shape d left right t.2)))
clean_parts scope d (Cast at elem a) e h =
    let x = h.spells in
    let t = typed_as (scope_types scope) e (nodes.Cast elem x.shape x.a) x.is h.typed in
    clean_last scope (parts_of a) (Cast at elem a) (clean_parts scope d a x.a (typing scope a x.a x.operand t.0))
    (IsClean-kept scope (Cast at elem a) (unary_keeps 7 scope (Cast at elem a) (λ u. u) (λ l. array_place scope a x.a x.operand t.1.no_literal) (λ u. u) (λ u. u) (λ l p u. u) (λ l u. u) (λ l u. u)))
clean_parts scope d (Select at c p q) e h =
    let x = h.spells in
    let t = typed_as (scope_types scope) e (nodes.Select x.elem x.shape x.c x.x x.y) x.is h.typed in
    let one = typing scope c x.c x.condition t.0 in
    let two = typing scope p x.x x.chosen t.1 in
    let three = typing scope q x.y x.other t.2 in
    All-append (IsClean scope) (parts_of c) (parts_of p ++ (parts_of q ++ Select at c p q ∷ [])) (clean_parts scope d c x.c one)
    (All-append (IsClean scope) (parts_of p) (parts_of q ++ Select at c p q ∷ []) (clean_parts scope d p x.x two)
    (clean_last scope (parts_of q) (Select at c p q) (clean_parts scope d q x.y three) (IsClean-kept scope (Select at c p q) (select_keeps scope at c p q x.c x.x x.y x.elem x.shape d one two three t.3))))
clean_parts scope d (Shift at a dr dc fill fill_at) e h =
    let x = h.spells in
    let t = typed_as (scope_types scope) e (nodes.Map x.elem x.shape (maps.Shift dr dc fill) x.a) x.is h.typed in
    let o = typing scope a x.a x.operand t.0 in
    let number : IsElement (elem_of x.a) fill = subst (λ (u : Elem). IsElement u fill) (sym t.1.elem_is) t.1.fill in
    clean_last scope (parts_of a) (Shift at a dr dc fill fill_at) (clean_parts scope d a x.a o)
    (IsClean-kept scope (Shift at a dr dc fill fill_at) (unary_keeps 7 scope (Shift at a dr dc fill fill_at) (λ u. u) (λ l. array_place scope a x.a x.operand t.1.no_literal) (λ u. u) (λ u. u) (λ l p u. fill_in scope a x.a fill d o number u.1) (λ l u. u) (λ l u. u)))
clean_parts scope d (Rotate at a dr dc) e h =
    let x = h.spells in
    let t = typed_as (scope_types scope) e (nodes.Map x.elem x.shape (maps.Rotate dr dc) x.a) x.is h.typed in
    clean_last scope (parts_of a) (Rotate at a dr dc) (clean_parts scope d a x.a (typing scope a x.a x.operand t.0))
    (IsClean-kept scope (Rotate at a dr dc) (unary_keeps 7 scope (Rotate at a dr dc) (λ u. u) (λ l. array_place scope a x.a x.operand t.1.no_literal) (λ u. u) (λ u. u) (λ l p u. u) (λ l u. u) (λ l u. u)))
clean_parts scope d (Section at a r0 nr sr c0 nc sc) e h =
    let x = h.spells in
    let t = typed_as (scope_types scope) e (nodes.Map x.elem x.shape (section_of r0 nr sr c0 nc sc) x.a) x.is h.typed in
    let o = typing scope a x.a x.operand t.0 in
    clean_last scope (parts_of a) (Section at a r0 nr sr c0 nc sc) (clean_parts scope d a x.a o)
    (IsClean-kept scope (Section at a r0 nr sr c0 nc sc) (unary_keeps 7 scope (Section at a r0 nr sr c0 nc sc) (λ u. u) (λ l. array_place scope a x.a x.operand t.1.no_literal) (λ u. u) (λ u. u) (λ l p u. u) (λ l. no_misfit scope a x.a (section_of r0 nr sr c0 nc sc) d o t.1.fits) (λ l u. u)))
clean_parts scope d (Stretch at a kr kc) e h =
    let x = h.spells in
    let t = typed_as (scope_types scope) e (nodes.Map x.elem x.shape (stretch_of kr kc) x.a) x.is h.typed in
    let o = typing scope a x.a x.operand t.0 in
    clean_last scope (parts_of a) (Stretch at a kr kc) (clean_parts scope d a x.a o)
    (IsClean-kept scope (Stretch at a kr kc) (unary_keeps 7 scope (Stretch at a kr kc) (λ u. u) (λ l. array_place scope a x.a x.operand t.1.no_literal) (λ u. u) (λ u. u) (λ l p u. u) (λ l u. u) (λ l. no_misfit scope a x.a (stretch_of kr kc) d o t.1.fits)))
clean_parts scope d (Transpose at a) e h =
    let x = h.spells in
    let t = typed_as (scope_types scope) e (nodes.Map x.elem x.shape maps.Transpose x.a) x.is h.typed in
    clean_last scope (parts_of a) (Transpose at a) (clean_parts scope d a x.a (typing scope a x.a x.operand t.0))
    (IsClean-kept scope (Transpose at a) (unary_keeps 7 scope (Transpose at a) (λ u. u) (λ l. array_place scope a x.a x.operand t.1.no_literal) (λ u. u) (λ u. u) (λ l p u. u) (λ l u. u) (λ l u. u)))
clean_parts scope d (RowFold at fold a) e h =
    let x = h.spells in
    let t = typed_as (scope_types scope) e (nodes.RowFold x.elem x.shape fold x.a) x.is h.typed in
    clean_last scope (parts_of a) (RowFold at fold a) (clean_parts scope d a x.a (typing scope a x.a x.operand t.0))
    (IsClean-kept scope (RowFold at fold a) (unary_keeps 7 scope (RowFold at fold a) (λ u. u) (λ l. array_place scope a x.a x.operand t.1.no_literal) (λ u. u) (λ u. u) (λ l p u. u) (λ l u. u) (λ l u. u)))
clean_parts scope d (Fold at fold a) e h =
    let x = h.spells in
    let t = typed_as (scope_types scope) e (nodes.Fold x.elem x.shape fold x.a) x.is h.typed in
    clean_last scope (parts_of a) (Fold at fold a) (clean_parts scope d a x.a (typing scope a x.a x.operand t.0))
    (IsClean-kept scope (Fold at fold a) (unary_keeps 7 scope (Fold at fold a) (λ u. u) (λ l. array_place scope a x.a x.operand t.1.no_literal) (λ u. u) (λ u. u) (λ l p u. u) (λ l u. u) (λ l u. u)))
