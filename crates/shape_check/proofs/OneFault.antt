-- A program has at most one checked program, and at most one first fault.
use Rattle.std.proofs.Common.{◌≡◌, ℕ, List, [], take, refl, sym, ap, ◌∙◌, subst, arith, Option, None, Some, Bool, true, false, inl, inr}
use Rattle.std.specs.Prelude.{ℤ, slice_get}
use Rattle.ven_base.specs.declared.elem.Elem.{Elem}
use Rattle.array_syntax.specs.declared.program.Stmt.{Stmt}
use Rattle.array_syntax.specs.Tree.{Tree, Name, Literal, One, Two, Cast, Select, Shift, Rotate, Section, Stretch, Transpose, RowFold, Fold}
use Rattle.shape_check.specs.declared.fault.CheckFault.{CheckFault}
use Rattle.shape_check.specs.declared.fault.CheckFault.TheVariants.{Twice, Unknown, TypeMismatch, ShapeMismatch, LiteralAlone, LiteralRange, BadShape, BadSection, BadStretch, NoOutput, TooMuchWork}
use Rattle.shape_check.specs.Statement.{Statement}
use Rattle.shape_check.specs.Scope.{Scope, scope_of}
use Rattle.shape_check.specs.Typing.{AreTypings}
use Rattle.shape_check.specs.Faults.{Site, NameSite, ShapeSite, NodeSite, WholeSite, OutputSite, WorkSite, Spot, spots_from, literal_place, lone_literal, IsOut, IsOutBeside, IsFirstOut, BreaksAt, BreaksName, BreaksShape, BreaksWhole, BreaksOutput, BreaksWork, Breaks, rank_of, Occurs}
use Rattle.shape_check.specs.Laws.{HasOneTyping, HasOneFirstFault}
use Rattle.shape_check.proofs.Unique.{array_place}
use Rattle.shape_check.proofs.Programs.{IsDistinct-nil, typings_unique}

pub has_one_typing : HasOneTyping
has_one_typing program a b h l = typings_unique [] program a b IsDistinct-nil h.typings l.typings

-- ---- one literal out of range

same_place : (o : Option ℕ) (p q : ℕ) → o ≡ Some p → o ≡ Some q → p ≡ q
same_place o p q h l = cc

out_place : (elem : Elem) (tree : Tree) (p : ℕ) → IsOut elem tree p → literal_place tree ≡ Some p
out_place elem (Literal at n) p h = ap Some (sym h.0)
out_place elem tree p h = absurd h

beside_place : (scope : Scope) (literal other : Tree) (p : ℕ) → IsOutBeside scope literal other p → literal_place literal ≡ Some p
beside_place scope literal other p h = out_place h.type.elem literal p h.out

-- what has a type is no literal
typed_place : (scope : Scope) (literal other : Tree) (p : ℕ) → IsOutBeside scope literal other p → literal_place other ≡ None
typed_place scope literal other p h = array_place scope other h.has_type.node h.has_type.typing.spells h.has_type.no_literal

not_both : (scope : Scope) (a b : Tree) (p q : ℕ) → IsOutBeside scope a b p → IsOutBeside scope b a q → ⊥
not_both scope a b p q h l =
    let none : literal_place b ≡ None = typed_place scope a b p h in
    let some : literal_place b ≡ Some q = beside_place scope b a q l in
    let e : None ≡ Some q = sym none ∙ some in absurd (cc)

one_out : (scope : Scope) (tree : Tree) (p q : ℕ) → IsFirstOut scope tree p → IsFirstOut scope tree q → p ≡ q
one_out scope (Two at op a b) p q (inl h) (inl l) = same_place (literal_place a) p q (beside_place scope a b p h) (beside_place scope a b q l)
one_out scope (Two at op a b) p q (inl h) (inr l) = absurd (not_both scope a b p q h l)
one_out scope (Two at op a b) p q (inr h) (inl l) = absurd (not_both scope a b q p l h)
one_out scope (Two at op a b) p q (inr h) (inr l) = same_place (literal_place b) p q (beside_place scope b a p h) (beside_place scope b a q l)
one_out scope (Select at c x y) p q (inl h) (inl l) = same_place (literal_place x) p q (beside_place scope x c p h) (beside_place scope x c q l)
one_out scope (Select at c x y) p q (inl h) (inr l) = absurd (l.0 p h)
one_out scope (Select at c x y) p q (inr h) (inl l) = absurd (h.0 q l)
one_out scope (Select at c x y) p q (inr h) (inr l) = same_place (literal_place y) p q (beside_place scope y c p h.1) (beside_place scope y c q l.1)
one_out scope (Shift at a dr dc fill fill_at) p q h l = h.0 ∙ sym l.0
one_out scope (Name at name) p q h l = absurd h
one_out scope (Literal at n) p q h l = absurd h
one_out scope (One at op a) p q h l = absurd h
one_out scope (Cast at elem a) p q h l = absurd h
one_out scope (Rotate at a dr dc) p q h l = absurd h
one_out scope (Section at a r0 nr sr c0 nc sc) p q h l = absurd h
one_out scope (Stretch at a kr kc) p q h l = absurd h
one_out scope (Transpose at a) p q h l = absurd h
one_out scope (RowFold at fold a) p q h l = absurd h
one_out scope (Fold at fold a) p q h l = absurd h

-- ---- one fault of a rule

same_name : (scope : Scope) (name : List ℕ) (at : ℕ) (f g : CheckFault) → BreaksName scope name at f → BreaksName scope name at g → f ≡ g
same_name scope name at (Twice p) (Twice q) h l = ap Twice (h.0 ∙ sym l.0)
same_name scope name at (Twice p) g h l = absurd l
same_name scope name at f g h l = absurd h

same_shape : (rows cols : ℤ) (at : ℕ) (f g : CheckFault) → BreaksShape rows cols at f → BreaksShape rows cols at g → f ≡ g
same_shape rows cols at (BadShape p) (BadShape q) h l = ap BadShape (h.0 ∙ sym l.0)
same_shape rows cols at (BadShape p) g h l = absurd l
same_shape rows cols at f g h l = absurd h

same_whole : (tree : Tree) (f g : CheckFault) → BreaksWhole tree f → BreaksWhole tree g → f ≡ g
same_whole tree (LiteralAlone p) (LiteralAlone q) h l = ap LiteralAlone (same_place (literal_place tree) p q h l)
same_whole tree (LiteralAlone p) g h l = absurd l
same_whole tree f g h l = absurd h

same_output : (program : List Statement) (f g : CheckFault) → BreaksOutput program f → BreaksOutput program g → f ≡ g
same_output program NoOutput NoOutput h l = refl
same_output program NoOutput g h l = absurd l
same_output program f g h l = absurd h

same_work : (program : List Statement) (f g : CheckFault) → BreaksWork program f → BreaksWork program g → f ≡ g
same_work program (TooMuchWork m) (TooMuchWork n) h l = ap TooMuchWork (h.0 ∙ sym l.0)
same_work program (TooMuchWork m) g h l = absurd l
same_work program f g h l = absurd h

-- the rules of a node have different ranks
no_rule : CheckFault → Bool
no_rule (Unknown p) = false
no_rule (LiteralAlone p) = false
no_rule (TypeMismatch p) = false
no_rule (ShapeMismatch p) = false
no_rule (LiteralRange p) = false
no_rule (BadSection p) = false
no_rule (BadStretch p) = false
no_rule _ = true

is_rule : (scope : Scope) (tree : Tree) (f : CheckFault) → BreaksAt scope tree f → no_rule f ≡ false
unfolding no_rule
is_rule scope tree (Unknown p) h = refl
is_rule scope tree (LiteralAlone p) h = refl
is_rule scope tree (TypeMismatch p) h = refl
is_rule scope tree (ShapeMismatch p) h = refl
is_rule scope tree (LiteralRange p) h = refl
is_rule scope tree (BadSection p) h = refl
is_rule scope tree (BadStretch p) h = refl
is_rule scope tree f h = absurd h

same_rule : (scope : Scope) (tree : Tree) (f g : CheckFault) → BreaksAt scope tree f → BreaksAt scope tree g → no_rule f ≡ false → no_rule g ≡ false → rank_of f ≡ rank_of g → f ≡ g
unfolding no_rule
same_rule scope tree (Unknown p) (Unknown q) h l m n r = ap Unknown (h.0 ∙ sym l.0)
same_rule scope tree (LiteralAlone p) (LiteralAlone q) h l m n r = ap LiteralAlone (same_place (lone_literal tree) p q h l)
same_rule scope tree (TypeMismatch p) (TypeMismatch q) h l m n r = ap TypeMismatch (h.0 ∙ sym l.0)
same_rule scope tree (ShapeMismatch p) (ShapeMismatch q) h l m n r = ap ShapeMismatch (h.0 ∙ sym l.0)
same_rule scope tree (LiteralRange p) (LiteralRange q) h l m n r = ap LiteralRange (one_out scope tree p q h l)
same_rule scope tree (BadSection p) (BadSection q) h l m n r = ap BadSection (h.0 ∙ sym l.0)
same_rule scope tree (BadStretch p) (BadStretch q) h l m n r = ap BadStretch (h.0 ∙ sym l.0)
same_rule scope tree f g h l m n r = absurd (cc)

same_break : (earlier : List Statement) (site : Site) (f g : CheckFault) → Breaks earlier site f → Breaks earlier site g → rank_of f ≡ rank_of g → f ≡ g
same_break earlier (NameSite name at) f g h l r = same_name (scope_of earlier) name at f g h l
same_break earlier (ShapeSite rows cols at) f g h l r = same_shape rows cols at f g h l
same_break earlier (NodeSite tree) f g h l r = same_rule (scope_of earlier) tree f g h l (is_rule (scope_of earlier) tree f h) (is_rule (scope_of earlier) tree g l) r
same_break earlier (WholeSite tree) f g h l r = same_whole tree f g h l
same_break earlier OutputSite f g h l r = same_output earlier f g h l
same_break earlier WorkSite f g h l r = same_work earlier f g h l

-- ---- one first fault

same_spot : (o : Option Spot) (s t : Spot) → o ≡ Some s → o ≡ Some t → s ≡ t
same_spot o s t h l = cc

one_at_place : (program : List Stmt) (place : ℕ) (f g : CheckFault) → Occurs program place f → Occurs program place g → rank_of f ≡ rank_of g → f ≡ g
one_at_place program place f g h l r =
    let spot : l.spot ≡ h.spot = same_spot (slice_get (spots_from 0 program) place) l.spot h.spot l.here h.here in
    let typings = subst (λ (s : Spot). AreTypings [] (take s.before program) l.earlier) spot l.typings in
    let earlier : l.earlier ≡ h.earlier = typings_unique [] (take h.spot.before program) l.earlier h.earlier IsDistinct-nil typings h.typings in
    let breaks = subst (λ (e : List Statement). Breaks e h.spot.site g) earlier (subst (λ (s : Spot). Breaks l.earlier s.site g) spot l.breaks) in
    same_break h.earlier h.spot.site f g h.breaks breaks r

pub has_one_first_fault : HasOneFirstFault
has_one_first_fault program f g h l =
    let low = h.least_place l.place g l.occurs in
    let high = l.least_place h.place f h.occurs in
    let place : l.place ≡ h.place = omega arith in
    let there = subst (λ (p : ℕ). Occurs program p g) place l.occurs in
    let back = subst (λ (p : ℕ). Occurs program p f) (sym place) h.occurs in
    let less = h.least_rule g there in
    let more = l.least_rule f back in
    one_at_place program h.place f g h.occurs there (let same : rank_of f ≡ rank_of g = omega arith in same)
