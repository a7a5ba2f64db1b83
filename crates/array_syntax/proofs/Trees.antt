-- The tree of each form of expression.
use Rattle.std.proofs.Common.{◌≡◌, ℕ, List, refl, sym, ap, ◌∙◌}
use Rattle.std.specs.Prelude.{ℤ}
use Rattle.ven_base.specs.declared.elem.Elem.{Elem}
use Rattle.ven_base.specs.declared.ops.Fold.{Fold as Reduction}
use Rattle.ven_base.specs.declared.ops.Op1.{Op1}
use Rattle.ven_base.specs.declared.ops.Op2.{Op2}
use Rattle.array_syntax.specs.declared.program.Expr.{Expr, fold-roll-Expr}
use Rattle.array_syntax.specs.declared.program.ExprKind.{ExprKind, fold-roll-ExprKind, fold-ExprKind}
use Rattle.array_syntax.specs.declared.program.ExprKind.TheOpen.{ExprKind-F, Expr-F}
use Rattle.array_syntax.specs.declared.program.ExprKind.TheVariants as kinds
use Rattle.array_syntax.specs.Tree as trees
use Rattle.array_syntax.specs.Tree.{Tree, node_at, placed, tree_of}

abbrev pub expr : ℕ → ExprKind → Expr
expr at kind = record { at = at; kind = kind }

pub tree_rolled : (at : ℕ) (kind : ExprKind) → tree_of (expr at kind) ≡ fold-ExprKind (ℕ → Tree) Tree node_at placed kind at
unfolding tree_of
tree_rolled at kind = fold-roll-Expr (ℕ → Tree) Tree node_at placed (record { at = at; kind = kind })

pub tree_name : (at : ℕ) (name : List ℕ) → tree_of (expr at (kinds.Name name)) ≡ trees.Name at name
unfolding tree_of
tree_name at name = tree_rolled at (kinds.Name name) ∙ ap (λ k. fold-ExprKind (ℕ → Tree) Tree node_at placed k at) (sym (kinds.rolls-Name name)) ∙ ap (λ f. f at) (fold-roll-ExprKind (ℕ → Tree) Tree node_at placed (ExprKind-F.Name name))

pub tree_literal : (at : ℕ) (n : ℤ) → tree_of (expr at (kinds.Literal n)) ≡ trees.Literal at n
unfolding tree_of
tree_literal at n = tree_rolled at (kinds.Literal n) ∙ ap (λ k. fold-ExprKind (ℕ → Tree) Tree node_at placed k at) (sym (kinds.rolls-Literal n)) ∙ ap (λ f. f at) (fold-roll-ExprKind (ℕ → Tree) Tree node_at placed (ExprKind-F.Literal n))

pub tree_one : (at : ℕ) (op : Op1) (a : Expr) → tree_of (expr at (kinds.One op a)) ≡ trees.One at op (tree_of a)
unfolding tree_of
tree_one at op a = tree_rolled at (kinds.One op a) ∙ ap (λ k. fold-ExprKind (ℕ → Tree) Tree node_at placed k at) (sym (kinds.rolls-One op a)) ∙ ap (λ f. f at) (fold-roll-ExprKind (ℕ → Tree) Tree node_at placed (ExprKind-F.One op a))

pub tree_two : (at : ℕ) (op : Op2) (a b : Expr) → tree_of (expr at (kinds.Two op a b)) ≡ trees.Two at op (tree_of a) (tree_of b)
unfolding tree_of
tree_two at op a b = tree_rolled at (kinds.Two op a b) ∙ ap (λ k. fold-ExprKind (ℕ → Tree) Tree node_at placed k at) (sym (kinds.rolls-Two op a b)) ∙ ap (λ f. f at) (fold-roll-ExprKind (ℕ → Tree) Tree node_at placed (ExprKind-F.Two op a b))

pub tree_cast : (at : ℕ) (elem : Elem) (a : Expr) → tree_of (expr at (kinds.Cast elem a)) ≡ trees.Cast at elem (tree_of a)
unfolding tree_of
tree_cast at elem a = tree_rolled at (kinds.Cast elem a) ∙ ap (λ k. fold-ExprKind (ℕ → Tree) Tree node_at placed k at) (sym (kinds.rolls-Cast elem a)) ∙ ap (λ f. f at) (fold-roll-ExprKind (ℕ → Tree) Tree node_at placed (ExprKind-F.Cast elem a))

pub tree_select : (at : ℕ) (c a b : Expr) → tree_of (expr at (kinds.Select c a b)) ≡ trees.Select at (tree_of c) (tree_of a) (tree_of b)
unfolding tree_of
tree_select at c a b = tree_rolled at (kinds.Select c a b) ∙ ap (λ k. fold-ExprKind (ℕ → Tree) Tree node_at placed k at) (sym (kinds.rolls-Select c a b)) ∙ ap (λ f. f at) (fold-roll-ExprKind (ℕ → Tree) Tree node_at placed (ExprKind-F.Select c a b))

pub tree_shift : (at : ℕ) (a : Expr) (dr dc fill : ℤ) (fill_at : ℕ) → tree_of (expr at (kinds.Shift a dr dc fill fill_at)) ≡ trees.Shift at (tree_of a) dr dc fill fill_at
unfolding tree_of
tree_shift at a dr dc fill fill_at = tree_rolled at (kinds.Shift a dr dc fill fill_at) ∙ ap (λ k. fold-ExprKind (ℕ → Tree) Tree node_at placed k at) (sym (kinds.rolls-Shift a dr dc fill fill_at)) ∙ ap (λ f. f at) (fold-roll-ExprKind (ℕ → Tree) Tree node_at placed (ExprKind-F.Shift a dr dc fill fill_at))

pub tree_rotate : (at : ℕ) (a : Expr) (dr dc : ℤ) → tree_of (expr at (kinds.Rotate a dr dc)) ≡ trees.Rotate at (tree_of a) dr dc
unfolding tree_of
tree_rotate at a dr dc = tree_rolled at (kinds.Rotate a dr dc) ∙ ap (λ k. fold-ExprKind (ℕ → Tree) Tree node_at placed k at) (sym (kinds.rolls-Rotate a dr dc)) ∙ ap (λ f. f at) (fold-roll-ExprKind (ℕ → Tree) Tree node_at placed (ExprKind-F.Rotate a dr dc))

pub tree_section : (at : ℕ) (a : Expr) (r0 nr sr c0 nc sc : ℤ) → tree_of (expr at (kinds.Section a r0 nr sr c0 nc sc)) ≡ trees.Section at (tree_of a) r0 nr sr c0 nc sc
unfolding tree_of
tree_section at a r0 nr sr c0 nc sc = tree_rolled at (kinds.Section a r0 nr sr c0 nc sc) ∙ ap (λ k. fold-ExprKind (ℕ → Tree) Tree node_at placed k at) (sym (kinds.rolls-Section a r0 nr sr c0 nc sc)) ∙ ap (λ f. f at) (fold-roll-ExprKind (ℕ → Tree) Tree node_at placed (ExprKind-F.Section a r0 nr sr c0 nc sc))

pub tree_stretch : (at : ℕ) (a : Expr) (kr kc : ℤ) → tree_of (expr at (kinds.Stretch a kr kc)) ≡ trees.Stretch at (tree_of a) kr kc
unfolding tree_of
tree_stretch at a kr kc = tree_rolled at (kinds.Stretch a kr kc) ∙ ap (λ k. fold-ExprKind (ℕ → Tree) Tree node_at placed k at) (sym (kinds.rolls-Stretch a kr kc)) ∙ ap (λ f. f at) (fold-roll-ExprKind (ℕ → Tree) Tree node_at placed (ExprKind-F.Stretch a kr kc))

pub tree_transpose : (at : ℕ) (a : Expr) → tree_of (expr at (kinds.Transpose a)) ≡ trees.Transpose at (tree_of a)
unfolding tree_of
tree_transpose at a = tree_rolled at (kinds.Transpose a) ∙ ap (λ k. fold-ExprKind (ℕ → Tree) Tree node_at placed k at) (sym (kinds.rolls-Transpose a)) ∙ ap (λ f. f at) (fold-roll-ExprKind (ℕ → Tree) Tree node_at placed (ExprKind-F.Transpose a))

pub tree_row_fold : (at : ℕ) (op : Reduction) (a : Expr) → tree_of (expr at (kinds.RowFold op a)) ≡ trees.RowFold at op (tree_of a)
unfolding tree_of
tree_row_fold at op a = tree_rolled at (kinds.RowFold op a) ∙ ap (λ k. fold-ExprKind (ℕ → Tree) Tree node_at placed k at) (sym (kinds.rolls-RowFold op a)) ∙ ap (λ f. f at) (fold-roll-ExprKind (ℕ → Tree) Tree node_at placed (ExprKind-F.RowFold op a))

pub tree_fold : (at : ℕ) (op : Reduction) (a : Expr) → tree_of (expr at (kinds.Fold op a)) ≡ trees.Fold at op (tree_of a)
unfolding tree_of
tree_fold at op a = tree_rolled at (kinds.Fold op a) ∙ ap (λ k. fold-ExprKind (ℕ → Tree) Tree node_at placed k at) (sym (kinds.rolls-Fold op a)) ∙ ap (λ f. f at) (fold-roll-ExprKind (ℕ → Tree) Tree node_at placed (ExprKind-F.Fold op a))

-- all of them
pub ruleset tree_rules = (tree_name, tree_literal, tree_one, tree_two, tree_cast, tree_select, tree_shift, tree_rotate, tree_section, tree_stretch, tree_transpose, tree_row_fold, tree_fold)
