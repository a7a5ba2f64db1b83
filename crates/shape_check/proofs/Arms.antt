-- What code answers at an arm and at an exit, against the verdict.
use Rattle.std.proofs.Common.{◌≡◌, ℕ, List, sym, ap, ◌∙◌, subst, arith, Bool, true, false, Ok, Err}
use Rattle.std.specs.Prelude.{ℤ, pos, negsuc, ◌<◌, ◌^◌, Result, IsErrAnd, if◌then◌else◌}
use Rattle.ven_base.specs.declared.elem.Elem.{Elem}
use Rattle.ven_base.specs.declared.ops.Fold.{Fold as Reduction}
use Rattle.ven_base.specs.declared.ops.Op1.{Op1}
use Rattle.ven_base.specs.declared.ops.Op2.{Op2}
use Rattle.ven_base.specs.Place.{IsMove}
use Rattle.std.specs.Int.{w64}
use Rattle.std.proofs.lemmas.Int.{ints, to_z-of_z}
use lib.Signed.{mag}
use mir.Val.{to_z, of_z}
use Rattle.array_syntax.specs.Limits.{IsSigned, IsNumber}
use Rattle.array_syntax.specs.declared.program.Expr.{Expr}
use Rattle.array_syntax.specs.declared.program.ExprKind.{ExprKind}
use Rattle.array_syntax.specs.declared.program.ExprKind.TheVariants as kinds
use Rattle.array_syntax.specs.Tree as trees
use Rattle.array_syntax.specs.Tree.{tree_of}
use Rattle.array_syntax.proofs.Trees.{tree_name, tree_literal, tree_one, tree_two, tree_cast, tree_select, tree_shift, tree_rotate, tree_section, tree_stretch, tree_transpose, tree_row_fold, tree_fold}
use Rattle.shape_check.specs.declared.fault.CheckFault.{CheckFault}
use Rattle.shape_check.specs.declared.fault.CheckFault.TheVariants.{Memory}
use Rattle.shape_check.specs.Judge.{chain, Refuses, Answers}

-- ---- exits

pub refuses_chain : {A B : Type 0} (v : Result A CheckFault) (f : A → Result B CheckFault) (fault : CheckFault) → Refuses v fault → Refuses (chain v f) fault
refuses_chain v f Memory h = tt
refuses_chain v f fault h = ap (λ r. chain r f) h

pub exit_refuses : {A B : Type 0} (view : B → A) (v : Result A CheckFault) (r : Result B CheckFault) (fault : CheckFault) → IsErrAnd r (λ y. y ≡ fault) → Refuses v fault → Answers view v r
exit_refuses view v (Ok x) fault h l = absurd h
exit_refuses view v (Err y) fault h l = subst (Refuses v) (sym h) l

-- the first part is refused
pub exit_chain : {A B C : Type 0} (view : C → B) (v : Result A CheckFault) (f : A → Result B CheckFault) (r : Result C CheckFault) (fault : CheckFault) → IsErrAnd r (λ y. y ≡ fault) → Refuses v fault → Answers view (chain v f) r
exit_chain view v f r fault h l = exit_refuses view (chain v f) r fault h (refuses_chain v f fault l)

-- the first part passes, and what comes of it answers
pub go_on : {A B C : Type 0} (view : C → B) (v : Result A CheckFault) (f : A → Result B CheckFault) (x : A) (r : Result C CheckFault) → v ≡ Ok x → Answers view (f x) r → Answers view (chain v f) r
go_on view v f x r h l = subst (λ (u : Result _ CheckFault). Answers view (chain u f) r) (sym h) l

pub same_verdict : {A B : Type 0} (view : B → A) (v w : Result A CheckFault) (r : Result B CheckFault) → v ≡ w → Answers view w r → Answers view v r
same_verdict view v w r h l = subst (λ (u : Result _ CheckFault). Answers view u r) (sym h) l

pub if_true : {A : Type 0} (b : Bool) (x y : A) → b ≡ true → (if b then x else y) ≡ x
if_true b x y h = ap (λ c. if c then x else y) h

pub if_false : {A : Type 0} (b : Bool) (x y : A) → b ≡ false → (if b then x else y) ≡ y
if_false b x y h = ap (λ c. if c then x else y) h

-- a number that a program may write lies in 64 bits
pub read_signed : (d : ℤ) → IsSigned d → to_z w64 (of_z w64 d) ≡ d
read_signed d h = to_z-of_z w64 d (record { sfits = in_word d h })
  where
    in_word : (z : ℤ) → IsSigned z → mag z < 2 ^ 63
    in_word (pos n) h = omega (arith, ints)
    in_word (negsuc n) h = omega (arith, ints)

pub signed_of : (n : ℤ) → IsNumber n → IsSigned n
signed_of n h = record { least = omega (arith, ints); greatest = h.greatest }

pub move_of : (d : ℤ) → IsSigned d → IsMove d
move_of d h = record { least = h.least; most = h.greatest }

-- ---- arms

arm : (e : Expr) (kind : ExprKind) → e.kind ≡ kind → tree_of e ≡ tree_of (record { at = e.at; kind = kind })
arm e kind h = ap (λ k. tree_of (record { at = e.at; kind = k })) h

pub at_name : (e : Expr) (name : List ℕ) → e.kind ≡ kinds.Name name → tree_of e ≡ trees.Name e.at name
at_name e name h = arm e (kinds.Name name) h ∙ tree_name e.at name

pub at_literal : (e : Expr) (n : ℤ) → e.kind ≡ kinds.Literal n → tree_of e ≡ trees.Literal e.at n
at_literal e n h = arm e (kinds.Literal n) h ∙ tree_literal e.at n

pub at_one : (e : Expr) (op : Op1) (a b : Expr) → e.kind ≡ kinds.One op a → b ≡ a → tree_of e ≡ trees.One e.at op (tree_of b)
at_one e op a b h same = arm e (kinds.One op a) h ∙ tree_one e.at op a ∙ ap (λ x. trees.One e.at op (tree_of x)) (sym same)

pub at_two : (e : Expr) (op : Op2) (a b c d : Expr) → e.kind ≡ kinds.Two op a b → c ≡ a → d ≡ b → tree_of e ≡ trees.Two e.at op (tree_of c) (tree_of d)
at_two e op a b c d h x y = arm e (kinds.Two op a b) h ∙ tree_two e.at op a b ∙ (λ k. trees.Two e.at op (tree_of (sym x k)) (tree_of (sym y k)))

pub at_cast : (e : Expr) (elem : Elem) (a b : Expr) → e.kind ≡ kinds.Cast elem a → b ≡ a → tree_of e ≡ trees.Cast e.at elem (tree_of b)
at_cast e elem a b h same = arm e (kinds.Cast elem a) h ∙ tree_cast e.at elem a ∙ ap (λ x. trees.Cast e.at elem (tree_of x)) (sym same)

pub at_select : (e a b c x y z : Expr) → e.kind ≡ kinds.Select a b c → x ≡ a → y ≡ b → z ≡ c → tree_of e ≡ trees.Select e.at (tree_of x) (tree_of y) (tree_of z)
at_select e a b c x y z h p q r = arm e (kinds.Select a b c) h ∙ tree_select e.at a b c ∙ (λ k. trees.Select e.at (tree_of (sym p k)) (tree_of (sym q k)) (tree_of (sym r k)))

pub at_shift : (e a b : Expr) (dr dc fill : ℤ) (fill_at : ℕ) → e.kind ≡ kinds.Shift a dr dc fill fill_at → b ≡ a → tree_of e ≡ trees.Shift e.at (tree_of b) dr dc fill fill_at
at_shift e a b dr dc fill fill_at h same = arm e (kinds.Shift a dr dc fill fill_at) h ∙ tree_shift e.at a dr dc fill fill_at ∙ ap (λ x. trees.Shift e.at (tree_of x) dr dc fill fill_at) (sym same)

pub at_rotate : (e a b : Expr) (dr dc : ℤ) → e.kind ≡ kinds.Rotate a dr dc → b ≡ a → tree_of e ≡ trees.Rotate e.at (tree_of b) dr dc
at_rotate e a b dr dc h same = arm e (kinds.Rotate a dr dc) h ∙ tree_rotate e.at a dr dc ∙ ap (λ x. trees.Rotate e.at (tree_of x) dr dc) (sym same)

pub at_section : (e a b : Expr) (r0 nr sr c0 nc sc : ℤ) → e.kind ≡ kinds.Section a r0 nr sr c0 nc sc → b ≡ a → tree_of e ≡ trees.Section e.at (tree_of b) r0 nr sr c0 nc sc
at_section e a b r0 nr sr c0 nc sc h same = arm e (kinds.Section a r0 nr sr c0 nc sc) h ∙ tree_section e.at a r0 nr sr c0 nc sc ∙ ap (λ x. trees.Section e.at (tree_of x) r0 nr sr c0 nc sc) (sym same)

pub at_stretch : (e a b : Expr) (kr kc : ℤ) → e.kind ≡ kinds.Stretch a kr kc → b ≡ a → tree_of e ≡ trees.Stretch e.at (tree_of b) kr kc
at_stretch e a b kr kc h same = arm e (kinds.Stretch a kr kc) h ∙ tree_stretch e.at a kr kc ∙ ap (λ x. trees.Stretch e.at (tree_of x) kr kc) (sym same)

pub at_transpose : (e a b : Expr) → e.kind ≡ kinds.Transpose a → b ≡ a → tree_of e ≡ trees.Transpose e.at (tree_of b)
at_transpose e a b h same = arm e (kinds.Transpose a) h ∙ tree_transpose e.at a ∙ ap (λ x. trees.Transpose e.at (tree_of x)) (sym same)

pub at_row_fold : (e : Expr) (fold : Reduction) (a b : Expr) → e.kind ≡ kinds.RowFold fold a → b ≡ a → tree_of e ≡ trees.RowFold e.at fold (tree_of b)
at_row_fold e fold a b h same = arm e (kinds.RowFold fold a) h ∙ tree_row_fold e.at fold a ∙ ap (λ x. trees.RowFold e.at fold (tree_of x)) (sym same)

pub at_fold : (e : Expr) (fold : Reduction) (a b : Expr) → e.kind ≡ kinds.Fold fold a → b ≡ a → tree_of e ≡ trees.Fold e.at fold (tree_of b)
at_fold e fold a b h same = arm e (kinds.Fold fold a) h ∙ tree_fold e.at fold a ∙ ap (λ x. trees.Fold e.at fold (tree_of x)) (sym same)
