-- The tree of an expression, by its form.
use Rattle.std.proofs.Common.{◌≡◌, ◌<◌, ◌^◌, ℕ, List, sym, ap, subst, refl, ◌∙◌, arith}
use Rattle.std.specs.Prelude.{ℤ, pos}
use Rattle.std.specs.Int.{w64}
use Rattle.std.proofs.lemmas.Int.{ints, to_z-of_z}
use lib.IntN.{negsuc}
use lib.Signed.{mag}
use mir.Val.{to_z, of_z}
use Rattle.array_syntax.specs.Limits.{IsSigned, IsNumber}
use Rattle.ven_base.specs.declared.elem.Elem.{Elem}
use Rattle.ven_base.specs.declared.ops.Fold.{Fold as Reduction}
use Rattle.ven_base.specs.declared.ops.Op1.{Op1}
use Rattle.ven_base.specs.declared.ops.Op2.{Op2}
use Rattle.array_syntax.specs.declared.program.Expr.{Expr, fold-Expr}
use Rattle.array_syntax.specs.declared.program.ExprKind.{ExprKind, out-ExprKind, roll-ExprKind, roll-out-ExprKind, fold-ExprKind, fold_out-ExprKind}
use Rattle.array_syntax.specs.declared.program.ExprKind.TheFolds.{map-ExprKind}
use Rattle.array_syntax.specs.declared.program.ExprKind.TheOpen.{ExprKind-F}
use Rattle.array_syntax.specs.declared.program.ExprKind.TheVariants as kinds
use Rattle.array_syntax.specs.Tree as trees
use Rattle.array_syntax.specs.Printed.{IsLiteral}
use Rattle.array_syntax.specs.Tree.{Tree, node_at, placed, tree_of}
use Rattle.array_syntax.proofs.Trees.{tree_rolled, tree_name, tree_literal, tree_one, tree_two, tree_cast, tree_select, tree_shift, tree_rotate, tree_section, tree_stretch, tree_transpose, tree_row_fold, tree_fold}

-- a number of the language, as code reads it
pub read_signed : (d : ℤ) → IsSigned d → to_z w64 (of_z w64 d) ≡ d
read_signed d h = to_z-of_z w64 d (record { sfits = in_word d h })
  where
    in_word : (z : ℤ) → IsSigned z → mag z < 2 ^ 63
    in_word (pos n) h = omega (arith, ints)
    in_word (negsuc n) h = omega (arith, ints)

pub read_number : (n : ℤ) → IsNumber n → to_z w64 (of_z w64 n) ≡ n
read_number n h = read_signed n (record { least = omega (arith, ints); greatest = h.greatest })

arm : (e : Expr) (kind : ExprKind) → e.kind ≡ kind → tree_of e ≡ tree_of (record { at = e.at; kind = kind })
arm e kind h = ap (λ k. tree_of (record { at = e.at; kind = k })) h

pub at_name : (e : Expr) (name : List ℕ) → e.kind ≡ kinds.Name name → tree_of e ≡ trees.Name e.at name
at_name e name h = arm e (kinds.Name name) h ∙ tree_name e.at name

pub at_literal : (e : Expr) (n : ℤ) → e.kind ≡ kinds.Literal n → tree_of e ≡ trees.Literal e.at n
at_literal e n h = arm e (kinds.Literal n) h ∙ tree_literal e.at n

pub at_one : (e : Expr) (op : Op1) (a b : Expr) → e.kind ≡ kinds.One op a → b ≡ a → tree_of e ≡ trees.One e.at op (tree_of b)
at_one e op a b h same = arm e (kinds.One op a) h ∙ tree_one e.at op a ∙ ap (λ x. trees.One e.at op (tree_of x)) (sym same)

pub at_two : (e : Expr) (op : Op2) (a b c d : Expr) → e.kind ≡ kinds.Two op a b → c ≡ a → d ≡ b → tree_of e ≡ trees.Two e.at op (tree_of c) (tree_of d)
at_two e op a b c d h x y = arm e (kinds.Two op a b) h ∙ tree_two e.at op a b ∙ (λ k. trees.Two e.at op (tree_of (sym x k)) (tree_of (sym y k)))

pub at_cast : (e : Expr) (elem : Elem) (a b : Expr) → e.kind ≡ kinds.Cast elem a → b ≡ a → tree_of e ≡ trees.Cast e.at elem (tree_of b)
at_cast e elem a b h same = arm e (kinds.Cast elem a) h ∙ tree_cast e.at elem a ∙ ap (λ x. trees.Cast e.at elem (tree_of x)) (sym same)

pub at_select : (e a b c x y z : Expr) → e.kind ≡ kinds.Select a b c → x ≡ a → y ≡ b → z ≡ c → tree_of e ≡ trees.Select e.at (tree_of x) (tree_of y) (tree_of z)
at_select e a b c x y z h p q r = arm e (kinds.Select a b c) h ∙ tree_select e.at a b c ∙ (λ k. trees.Select e.at (tree_of (sym p k)) (tree_of (sym q k)) (tree_of (sym r k)))

pub at_shift : (e a b : Expr) (dr dc fill : ℤ) (fill_at : ℕ) → e.kind ≡ kinds.Shift a dr dc fill fill_at → b ≡ a → tree_of e ≡ trees.Shift e.at (tree_of b) dr dc fill fill_at
at_shift e a b dr dc fill fill_at h same = arm e (kinds.Shift a dr dc fill fill_at) h ∙ tree_shift e.at a dr dc fill fill_at ∙ ap (λ x. trees.Shift e.at (tree_of x) dr dc fill fill_at) (sym same)

pub at_rotate : (e a b : Expr) (dr dc : ℤ) → e.kind ≡ kinds.Rotate a dr dc → b ≡ a → tree_of e ≡ trees.Rotate e.at (tree_of b) dr dc
at_rotate e a b dr dc h same = arm e (kinds.Rotate a dr dc) h ∙ tree_rotate e.at a dr dc ∙ ap (λ x. trees.Rotate e.at (tree_of x) dr dc) (sym same)

pub at_section : (e a b : Expr) (r0 nr sr c0 nc sc : ℤ) → e.kind ≡ kinds.Section a r0 nr sr c0 nc sc → b ≡ a → tree_of e ≡ trees.Section e.at (tree_of b) r0 nr sr c0 nc sc
at_section e a b r0 nr sr c0 nc sc h same = arm e (kinds.Section a r0 nr sr c0 nc sc) h ∙ tree_section e.at a r0 nr sr c0 nc sc ∙ ap (λ x. trees.Section e.at (tree_of x) r0 nr sr c0 nc sc) (sym same)

pub at_stretch : (e a b : Expr) (kr kc : ℤ) → e.kind ≡ kinds.Stretch a kr kc → b ≡ a → tree_of e ≡ trees.Stretch e.at (tree_of b) kr kc
at_stretch e a b kr kc h same = arm e (kinds.Stretch a kr kc) h ∙ tree_stretch e.at a kr kc ∙ ap (λ x. trees.Stretch e.at (tree_of x) kr kc) (sym same)

pub at_transpose : (e a b : Expr) → e.kind ≡ kinds.Transpose a → b ≡ a → tree_of e ≡ trees.Transpose e.at (tree_of b)
at_transpose e a b h same = arm e (kinds.Transpose a) h ∙ tree_transpose e.at a ∙ ap (λ x. trees.Transpose e.at (tree_of x)) (sym same)

pub at_row_fold : (e : Expr) (fold : Reduction) (a b : Expr) → e.kind ≡ kinds.RowFold fold a → b ≡ a → tree_of e ≡ trees.RowFold e.at fold (tree_of b)
at_row_fold e fold a b h same = arm e (kinds.RowFold fold a) h ∙ tree_row_fold e.at fold a ∙ ap (λ x. trees.RowFold e.at fold (tree_of x)) (sym same)

pub at_fold : (e : Expr) (fold : Reduction) (a b : Expr) → e.kind ≡ kinds.Fold fold a → b ≡ a → tree_of e ≡ trees.Fold e.at fold (tree_of b)
at_fold e fold a b h same = arm e (kinds.Fold fold a) h ∙ tree_fold e.at fold a ∙ ap (λ x. trees.Fold e.at fold (tree_of x)) (sym same)

-- one layer of an expression, with the trees of its operands
abbrev layer : ExprKind-F ExprKind Expr → ExprKind-F (ℕ → Tree) Tree
layer x = map-ExprKind ExprKind Expr (ℕ → Tree) Tree (fold-ExprKind (ℕ → Tree) Tree node_at placed) (fold-Expr (ℕ → Tree) Tree node_at placed) x

-- a tree is a literal only where the expression's form is one
pub literal_only : (e : Expr) → ((n : ℤ) → e.kind ≡ kinds.Literal n → ⊥) → ¬ IsLiteral (tree_of e)
literal_only e none lit = by (out-ExprKind e.kind) refl (subst IsLiteral opened lit)
  where
    opened : tree_of e ≡ node_at (layer (out-ExprKind e.kind)) e.at
    opened = tree_rolled e.at e.kind ∙ ap (λ f. f e.at) (fold_out-ExprKind (ℕ → Tree) Tree node_at placed e.kind)

    by : (x : ExprKind-F ExprKind Expr) → out-ExprKind e.kind ≡ x → IsLiteral (node_at (layer x) e.at) → ⊥
    by (ExprKind-F.Literal n) is here = none n (sym (roll-out-ExprKind e.kind) ∙ ap roll-ExprKind is ∙ kinds.rolls-Literal n)
    by (ExprKind-F.Name name) is here = here
    by (ExprKind-F.One op a) is here = here
    by (ExprKind-F.Two op a b) is here = here
    by (ExprKind-F.Cast elem a) is here = here
    by (ExprKind-F.Select c a b) is here = here
    by (ExprKind-F.Shift a dr dc fill fill_at) is here = here
    by (ExprKind-F.Rotate a dr dc) is here = here
    by (ExprKind-F.Section a r0 nr sr c0 nc sc) is here = here
    by (ExprKind-F.Stretch a kr kc) is here = here
    by (ExprKind-F.Transpose a) is here = here
    by (ExprKind-F.RowFold op a) is here = here
    by (ExprKind-F.Fold op a) is here = here
