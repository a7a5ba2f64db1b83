-- What a cut leaves, against the definition.
use Rattle.std.proofs.Common.{◌≡◌, ◌+◌, ◌≤◌, List, [], ◌∷◌, ◌++◌, length, refl, sym, ap, ◌∙◌, subst, arith, append_assoc, length-append, Bool, true}
use Rattle.std.specs.Prelude.{IfOk}
use Rattle.std.specs.declared.result.Result.{Result}
use Rattle.std.specs.declared.result.Result.TheVariants.{Ok, Err}
use Rattle.ven_base.specs.declared.elem.Elem.{Elem}
use Rattle.ven_base.specs.declared.ops.Fold as ops
use Rattle.ven_base.specs.Extent.{Extent}
use Rattle.shape_check.specs.declared.typed.Typed.{Typed}
use Rattle.shape_check.specs.declared.typed.TypedKind.{TypedKind, Name, Literal, One', Two', Cast', Select', Map', RowFold', Fold'}
use Rattle.shape_check.specs.Node as node
use Rattle.shape_check.specs.Node.{Node, elem_of, shape_of}
use Rattle.shape_check.specs.Typed.{node_with, node_of}
use Rattle.pass_plan.specs.declared.leaf.Leaf.{Leaf}
use Rattle.pass_plan.specs.declared.pass.PassKind.TheVariants as kinds
use Rattle.pass_plan.specs.Tree as tree
use Rattle.pass_plan.specs.Tree.{TreeOver, AtLeaf, height_of}
use Rattle.pass_plan.specs.Normal.{normalised}
use Rattle.expr_split.specs.declared.term.Term.{Term}
use Rattle.expr_split.specs.declared.drafts.Own.{Own}
use Rattle.expr_split.specs.declared.drafts.Plan.{Plan}
use Rattle.expr_split.specs.Cuts as cuts
use Rattle.expr_split.specs.Cuts.{Place, Inside, is_cut, whole_leaf, seen_if, as_row, own_of, seen_of, draft_of}
use Rattle.expr_split.specs.Terms.{term_of, drafts_of, IsOwn, IsSeen, IsCutOf, IsColumnOf}

pub height_some : {L : Type 0} (t : TreeOver L) → 1 ≤ height_of t
height_some (AtLeaf l) = omega arith
height_some (tree.Literal n) = omega arith
height_some (tree.One op elem a) = omega arith
height_some (tree.Two op elem a b) = omega arith
height_some (tree.Cast elem from a) = omega arith
height_some (tree.Move elem a) = omega arith
height_some (tree.Select elem c x y) = omega arith

elem_with : (kind : TypedKind) (elem : Elem) (shape : Extent) → elem_of (node_with kind elem shape) ≡ elem
elem_with (Name k) elem shape = refl
elem_with (Literal value) elem shape = refl
elem_with (One' op p a ea sa) elem shape = refl
elem_with (Two' op p a ea sa q b eb sb) elem shape = refl
elem_with (Cast' p a ea sa) elem shape = refl
elem_with (Select' p c ec sc q x ex sx r y ey sy) elem shape = refl
elem_with (Map' mapping p a ea sa) elem shape = refl
elem_with (RowFold' fold p a ea sa) elem shape = refl
elem_with (Fold' fold p a ea sa) elem shape = refl

shape_with : (kind : TypedKind) (elem : Elem) (shape : Extent) → shape_of (node_with kind elem shape) ≡ shape
shape_with (Name k) elem shape = refl
shape_with (Literal value) elem shape = refl
shape_with (One' op p a ea sa) elem shape = refl
shape_with (Two' op p a ea sa q b eb sb) elem shape = refl
shape_with (Cast' p a ea sa) elem shape = refl
shape_with (Select' p c ec sc q x ex sx r y ey sy) elem shape = refl
shape_with (Map' mapping p a ea sa) elem shape = refl
shape_with (RowFold' fold p a ea sa) elem shape = refl
shape_with (Fold' fold p a ea sa) elem shape = refl

pub elem_of-node : (a : Typed) → elem_of (node_of a) ≡ a.elem
elem_of-node a = elem_with a.kind a.elem a.shape

pub shape_of-node : (a : Typed) → shape_of (node_of a) ≡ a.shape
shape_of-node a = shape_with a.kind a.elem a.shape

-- a cut's leaf stands for it, and its pass was added
pub cut_seen : (place : Place) (e : Node) (names : List (TreeOver Leaf)) (before mid after : Plan) (own : Own) (t : Term) (elem : Elem) (shape : Extent)
    → elem_of e ≡ elem → shape_of e ≡ shape → is_cut place e ≡ true → IsOwn own before mid e (own_of names before.next e) → IsCutOf t elem shape own mid after
    → IsSeen t before after e (seen_of place names before.next e)
cut_seen place e names before mid after own t elem shape elem_is shape_is cut h g =
    let is = own_of names before.next e in
    let d : cuts.Draft = record { kind = own.kind; domain = own.domain; elem = own.elem; tree = normalised own.elem (term_of own.term) } in
    let same : d ≡ draft_of is = λ i. record { kind = h.kind i; domain = h.domain i; elem = h.elem i; tree = normalised (h.elem i) (h.term i) } in
    let all : drafts_of after ≡ drafts_of before ++ (is.passes ++ draft_of is ∷ []) =
    g.passes ∙ ap (λ m. m ++ d ∷ []) h.passes ∙ append_assoc (drafts_of before) is.passes (d ∷ []) ∙ ap (λ p. drafts_of before ++ (is.passes ++ p ∷ [])) same in
    let leaf : whole_leaf mid.next elem shape ≡ whole_leaf (before.next + length is.passes) (elem_of e) (shape_of e) = λ i. whole_leaf (h.counted i) (sym elem_is i) (sym shape_is i) in
    subst (λ (b : Bool). IsSeen t before after e (seen_if b (elem_of e) (shape_of e) before.next is)) (sym cut)
    (record {
      term_is = g.term_is ∙ ap AtLeaf leaf;
      passes = all;
      counted = omega (arith, g.counted, h.counted, length-append is.passes (draft_of is ∷ []));
      few = omega (arith, g.counted, h.few);
    })

pub cast_own : (whole : Node) (a : Typed) (elem from : Elem) (shape : Extent) (names : List (TreeOver Leaf)) (before after : Plan) (t u : Term)
    → whole ≡ node.Cast elem shape (node_of a) → from ≡ a.elem → IsSeen t before after (node_of a) (seen_of Inside names before.next (node_of a)) → term_of u ≡ tree.Cast elem from (term_of t)
    → IsOwn (record { kind = kinds.Map; domain = shape; elem = elem; term = u }) before after whole (own_of names before.next whole)
cast_own whole a elem from shape names before after t u is from_is h made =
    subst (λ (e : Node). IsOwn (record { kind = kinds.Map; domain = shape; elem = elem; term = u }) before after e (own_of names before.next e)) (sym is)
    (record {
      kind = refl;
      domain = refl;
      elem = refl;
      term = made ∙ (λ i. tree.Cast elem ((from_is ∙ sym (elem_of-node a)) i) (h.term_is i));
      passes = h.passes;
      counted = h.counted;
      few = omega (arith, h.few);
    })

pub rows_own : (whole : Node) (a : Typed) (elem : Elem) (shape domain : Extent) (fold : ops.Fold) (names : List (TreeOver Leaf)) (before after : Plan) (t : Term)
    → whole ≡ node.RowFold elem shape fold (node_of a) → domain ≡ a.shape → IsSeen t before after (node_of a) (seen_of Inside names before.next (node_of a))
    → IsOwn (record { kind = kinds.Reduce fold; domain = domain; elem = elem; term = t }) before after whole (own_of names before.next whole)
rows_own whole a elem shape domain fold names before after t is domain_is h =
    subst (λ (e : Node). IsOwn (record { kind = kinds.Reduce fold; domain = domain; elem = elem; term = t }) before after e (own_of names before.next e)) (sym is)
    (record { kind = refl; domain = domain_is ∙ sym (shape_of-node a); elem = refl; term = h.term_is; passes = h.passes; counted = h.counted; few = omega (arith, h.few) })

pub fold_own : (whole : Node) (a : Typed) (elem : Elem) (shape domain row : Extent) (fold : ops.Fold) (names : List (TreeOver Leaf)) (before mid after : Plan) (t u : Term)
    → whole ≡ node.Fold elem shape fold (node_of a) → domain ≡ a.shape → row ≡ as_row domain → IsSeen t before mid (node_of a) (seen_of Inside names before.next (node_of a))
    → IsCutOf u elem row (record { kind = kinds.Reduce fold; domain = domain; elem = elem; term = t }) mid after
    → IsOwn (record { kind = kinds.Reduce fold; domain = row; elem = elem; term = u }) before after whole (own_of names before.next whole)
fold_own whole a elem shape domain row fold names before mid after t u is domain_is row_is h g =
    let of = seen_of Inside names before.next (node_of a) in
    let dom : domain ≡ shape_of (node_of a) = domain_is ∙ sym (shape_of-node a) in
    let row' : row ≡ as_row (shape_of (node_of a)) = row_is ∙ ap as_row dom in
    let d : cuts.Draft = record { kind = kinds.Reduce fold; domain = domain; elem = elem; tree = normalised elem (term_of t) } in
    let first : cuts.Draft = record { kind = kinds.Reduce fold; domain = shape_of (node_of a); elem = elem; tree = normalised elem of.tree } in
    let same : d ≡ first = λ i. record { kind = kinds.Reduce fold; domain = dom i; elem = elem; tree = normalised elem (h.term_is i) } in
    subst (λ (e : Node). IsOwn (record { kind = kinds.Reduce fold; domain = row; elem = elem; term = u }) before after e (own_of names before.next e)) (sym is)
    (record {
      kind = refl;
      domain = row';
      elem = refl;
      term = g.term_is ∙ (λ i. AtLeaf (whole_leaf (h.counted i) elem (row' i)));
      passes = g.passes ∙ ap (λ m. m ++ d ∷ []) h.passes ∙ append_assoc (drafts_of before) of.passes (d ∷ []) ∙ ap (λ p. drafts_of before ++ (of.passes ++ p ∷ [])) same;
      counted = omega (arith, g.counted, h.counted, length-append of.passes (first ∷ []));
      few = omega (arith, g.counted, h.few);
    })

-- the same, as the code makes it: of rows that are this pass
pub column_own : (whole : Node) (a : Typed) (elem : Elem) (shape domain : Extent) (fold : ops.Fold) (names : List (TreeOver Leaf)) (before mid after : Plan) (t : Term) (rows own : Own)
    → whole ≡ node.Fold elem shape fold (node_of a) → domain ≡ a.shape → IsSeen t before mid (node_of a) (seen_of Inside names before.next (node_of a))
    → rows ≡ record { kind = kinds.Reduce fold; domain = domain; elem = elem; term = t } → IsColumnOf own rows mid after
    → IsOwn own before after whole (own_of names before.next whole)
column_own whole a elem shape domain fold names before mid after t rows own is domain_is h rows_is made =
    let column = subst (λ (r : Own). IsColumnOf own r mid after) rows_is made in
    let whole_is = fold_own whole a elem shape domain (as_row domain) fold names before mid after t own.term is domain_is refl h column.cut in
    record {
      kind = column.kind ∙ whole_is.kind;
      domain = column.domain ∙ whole_is.domain;
      elem = column.elem ∙ whole_is.elem;
      term = whole_is.term;
      passes = whole_is.passes;
      counted = whole_is.counted;
      few = whole_is.few;
    }

pub ok_same : {T E : Type 0} (r : Result T E) (P Q : T → Type 0) → ((x : T) → P x → Q x) → IfOk r P → IfOk r Q
ok_same (Ok x) P Q f h = f x h
ok_same (Err e) P Q f h = h
