-- Which checked program a program is: its own statements and expressions, with a type and a shape at each node by the
-- rules.
use Rattle.std.specs.Prelude.{◌≡◌, ◌≤◌, ℕ, ℤ, unsigned_abs, List, [], ◌∷◌, ◌++◌, Some, Contains, slice_get, true}
use Rattle.std.specs.List.{list_any}
use Rattle.ven_base.specs.declared.elem.Elem.{Elem}
use Rattle.ven_base.specs.declared.ops.Op1.{Op1}
use Rattle.ven_base.specs.declared.ops.Op2.{Op2}
use Rattle.ven_base.specs.declared.ops.Fold as ops
use Rattle.ven_base.specs.declared.mapping.Mapping.{Mapping}
use Rattle.ven_base.specs.declared.mapping.Mapping.TheVariants as maps
use Rattle.ven_base.specs.Extent.{Extent}
use Rattle.array_syntax.specs.declared.program.Stmt.{Stmt}
use Rattle.array_syntax.specs.declared.program.Stmt.TheVariants as stmts
use Rattle.array_syntax.specs.Tree as trees
use Rattle.array_syntax.specs.Tree.{Tree, tree_of}
use Rattle.shape_check.specs.Node as nodes
use Rattle.shape_check.specs.Node.{Node}
use Rattle.shape_check.specs.Statement.{Statement, Input, Let, Output, is_output}
use Rattle.shape_check.specs.Rules.{IsTyped, IsTypedStatement}
use Rattle.shape_check.specs.Scope.{Scope, entry_of, scope_names, scope_types}
use Rattle.shape_check.specs.Checked.{work_of, work_limit}

-- ---- the checked trees that an expression may be, whatever their types and shapes

pub record IsNamed (scope : Scope) (name : List ℕ) (e : Node) : Type 0 where
  pub elem : Elem
  pub shape : Extent
  pub k : ℕ
  pub is : e ≡ nodes.Name elem shape k
  pub declared : slice_get (scope_names scope) k ≡ Some name

pub record IsNumber (n : ℤ) (e : Node) : Type 0 where
  pub elem : Elem
  pub shape : Extent
  pub is : e ≡ nodes.Literal elem shape n

pub record IsOne (op : Op1) (A : Node → Type 0) (e : Node) : Type 0 where
  pub elem : Elem
  pub shape : Extent
  pub a : Node
  pub is : e ≡ nodes.One elem shape op a
  pub operand : A a

pub record IsTwo (op : Op2) (A B : Node → Type 0) (e : Node) : Type 0 where
  pub elem : Elem
  pub shape : Extent
  pub a : Node
  pub b : Node
  pub is : e ≡ nodes.Two elem shape op a b
  pub left : A a
  pub right : B b

pub record IsCast (elem : Elem) (A : Node → Type 0) (e : Node) : Type 0 where
  pub shape : Extent
  pub a : Node
  pub is : e ≡ nodes.Cast elem shape a
  pub operand : A a

pub record IsSelect (C X Y : Node → Type 0) (e : Node) : Type 0 where
  pub elem : Elem
  pub shape : Extent
  pub c : Node
  pub x : Node
  pub y : Node
  pub is : e ≡ nodes.Select elem shape c x y
  pub condition : C c
  pub chosen : X x
  pub other : Y y

pub record IsMap (mapping : Mapping) (A : Node → Type 0) (e : Node) : Type 0 where
  pub elem : Elem
  pub shape : Extent
  pub a : Node
  pub is : e ≡ nodes.Map elem shape mapping a
  pub operand : A a

pub record IsRowFold (fold : ops.Fold) (A : Node → Type 0) (e : Node) : Type 0 where
  pub elem : Elem
  pub shape : Extent
  pub a : Node
  pub is : e ≡ nodes.RowFold elem shape fold a
  pub operand : A a

pub record IsFold (fold : ops.Fold) (A : Node → Type 0) (e : Node) : Type 0 where
  pub elem : Elem
  pub shape : Extent
  pub a : Node
  pub is : e ≡ nodes.Fold elem shape fold a
  pub operand : A a

-- the numbers of a section and of a stretch have no sign
abbrev pub section_of : ℤ → ℤ → ℤ → ℤ → ℤ → ℤ → Mapping
section_of r0 nr sr c0 nc sc =
    maps.Section (unsigned_abs r0) (unsigned_abs nr) (unsigned_abs sr) (unsigned_abs c0) (unsigned_abs nc)
    (unsigned_abs sc)

abbrev pub stretch_of : ℤ → ℤ → Mapping
stretch_of kr kc = maps.Stretch (unsigned_abs kr) (unsigned_abs kc)

abbrev pub Spells : Scope → Tree → Node → Type 0
Spells scope (trees.Name at name) e = IsNamed scope name e
Spells scope (trees.Literal at n) e = IsNumber n e
Spells scope (trees.One at op a) e = IsOne op (Spells scope a) e
Spells scope (trees.Two at op a b) e = IsTwo op (Spells scope a) (Spells scope b) e
Spells scope (trees.Cast at elem a) e = IsCast elem (Spells scope a) e
Spells scope (trees.Select at c x y) e = IsSelect (Spells scope c) (Spells scope x) (Spells scope y) e
Spells scope (trees.Shift at a dr dc fill fill_at) e = IsMap (maps.Shift dr dc fill) (Spells scope a) e
Spells scope (trees.Rotate at a dr dc) e = IsMap (maps.Rotate dr dc) (Spells scope a) e
Spells scope (trees.Section at a r0 nr sr c0 nc sc) e = IsMap (section_of r0 nr sr c0 nc sc) (Spells scope a) e
Spells scope (trees.Stretch at a kr kc) e = IsMap (stretch_of kr kc) (Spells scope a) e
Spells scope (trees.Transpose at a) e = IsMap maps.Transpose (Spells scope a) e
Spells scope (trees.RowFold at fold a) e = IsRowFold fold (Spells scope a) e
Spells scope (trees.Fold at fold a) e = IsFold fold (Spells scope a) e

-- the checked tree that an expression is given: it is the expression's, and each of its nodes keeps its rule
pub record IsTyping (scope : Scope) (tree : Tree) (e : Node) : Type 0 where
  pub spells : Spells scope tree e
  pub typed : IsTyped (scope_types scope) e

-- ---- statements

abbrev pub extent_of : ℤ → ℤ → Extent
extent_of rows cols = record { rows = unsigned_abs rows; cols = unsigned_abs cols }

pub record IsValueOf (scope : Scope) (tree : Tree) (make : Node → Statement) (statement : Statement) : Type 0 where
  pub value : Node
  pub is : statement ≡ make value
  pub spells : Spells scope tree value

abbrev pub SpellsStatement : Scope → Stmt → Statement → Type 0
SpellsStatement scope (stmts.Input name at elem rows cols shape_at) statement =
    statement ≡ Input name elem (extent_of rows cols)
SpellsStatement scope (stmts.Let name at value) statement = IsValueOf scope (tree_of value) (Let name) statement
SpellsStatement scope (stmts.Output name at value) statement = IsValueOf scope (tree_of value) (Output name) statement

-- the checked statement that a statement is given: its name is new, and each rule is kept
pub record IsStatementTyping (scope : Scope) (stmt : Stmt) (statement : Statement) : Type 0 where
  pub spells : SpellsStatement scope stmt statement
  pub is_new : ¬ Contains (scope_names scope) (entry_of statement).0
  pub typed : IsTypedStatement (scope_types scope) statement

-- the checked statements that statements are given, one by one
abbrev pub AreTypings : Scope → List Stmt → List Statement → Type 0
AreTypings scope [] [] = Unit {0}
AreTypings scope [] (statement ∷ rest) = ⊥
AreTypings scope (stmt ∷ more) [] = ⊥
AreTypings scope (stmt ∷ more) (statement ∷ rest) =
    IsStatementTyping scope stmt statement × AreTypings (scope ++ entry_of statement ∷ []) more rest

-- the checked program that a program is given: it has an output, and its work is within the limit
pub record IsProgramTyping (stmts : List Stmt) (program : List Statement) : Type 0 where
  pub typings : AreTypings [] stmts program
  pub has_output : list_any is_output program ≡ true
  pub work : work_of program ≤ work_limit
