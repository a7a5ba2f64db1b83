-- Expressions as trees, which definitions go over by their cases. Each node has the place of its token.
use Rattle.std.specs.Prelude.{ℕ, ℤ, List}
use Rattle.ven_base.specs.declared.elem.Elem.{Elem}
use Rattle.ven_base.specs.declared.ops.Fold.{Fold as Reduction}
use Rattle.ven_base.specs.declared.ops.Op1.{Op1}
use Rattle.ven_base.specs.declared.ops.Op2.{Op2}
use Rattle.array_syntax.specs.declared.program.Expr.{Expr, fold-Expr}
use Rattle.array_syntax.specs.declared.program.ExprKind.{ExprKind}
use Rattle.array_syntax.specs.declared.program.ExprKind.TheOpen.{ExprKind-F, Expr-F}

pub data Tree : Type 0 where
  Name : (at : ℕ) (name : List ℕ) → Tree
  Literal : (at : ℕ) (n : ℤ) → Tree
  One : (at : ℕ) (op : Op1) (a : Tree) → Tree
  Two : (at : ℕ) (op : Op2) (a b : Tree) → Tree
  Cast : (at : ℕ) (elem : Elem) (a : Tree) → Tree
  Select : (at : ℕ) (c a b : Tree) → Tree
  Shift : (at : ℕ) (a : Tree) (dr dc fill : ℤ) (fill_at : ℕ) → Tree
  Rotate : (at : ℕ) (a : Tree) (dr dc : ℤ) → Tree
  Section : (at : ℕ) (a : Tree) (r0 nr sr c0 nc sc : ℤ) → Tree
  Stretch : (at : ℕ) (a : Tree) (kr kc : ℤ) → Tree
  Transpose : (at : ℕ) (a : Tree) → Tree
  RowFold : (at : ℕ) (op : Reduction) (a : Tree) → Tree
  Fold : (at : ℕ) (op : Reduction) (a : Tree) → Tree

-- a form of expression with its place, over the trees of its operands
abbrev pub node_at : ExprKind-F (ℕ → Tree) Tree → ℕ → Tree
node_at (ExprKind-F.Name name) at = Name at name
node_at (ExprKind-F.Literal n) at = Literal at n
node_at (ExprKind-F.One op a) at = One at op a
node_at (ExprKind-F.Two op a b) at = Two at op a b
node_at (ExprKind-F.Cast elem a) at = Cast at elem a
node_at (ExprKind-F.Select c a b) at = Select at c a b
node_at (ExprKind-F.Shift a dr dc fill fill_at) at = Shift at a dr dc fill fill_at
node_at (ExprKind-F.Rotate a dr dc) at = Rotate at a dr dc
node_at (ExprKind-F.Section a r0 nr sr c0 nc sc) at = Section at a r0 nr sr c0 nc sc
node_at (ExprKind-F.Stretch a kr kc) at = Stretch at a kr kc
node_at (ExprKind-F.Transpose a) at = Transpose at a
node_at (ExprKind-F.RowFold op a) at = RowFold at op a
node_at (ExprKind-F.Fold op a) at = Fold at op a

abbrev pub placed : Expr-F (ℕ → Tree) Tree → Tree
placed e = e.kind e.at

-- the tree of an expression: the same forms, places and operands
unfoldable pub tree_of : Expr → Tree
tree_of = fold-Expr (ℕ → Tree) Tree node_at placed
