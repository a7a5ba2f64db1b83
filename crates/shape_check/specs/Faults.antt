-- The rules of checking, each with its place, and the first that a program breaks.
use Rattle.std.specs.Prelude.{◌≡◌, ◌≢◌, ◌≤◌, ◌<◌, ℕ, ℤ, ◌+◌, List, [], ◌∷◌, ◌++◌, map, take, Contains, Option, None, Some, slice_get, false}
use Rattle.std.specs.List.{list_any}
use Rattle.std.specs.Prelude.{◌⊎◌}
use Rattle.ven_base.specs.declared.elem.Elem.{Elem}
use Rattle.ven_base.specs.declared.mapping.Mapping.{Mapping}
use Rattle.ven_base.specs.Elem.{IsElement}
use Rattle.ven_base.specs.Extent.{IsExtent}
use Rattle.ven_base.specs.Mapping.{FitsShape}
use Rattle.array_syntax.specs.declared.program.Stmt.{Stmt}
use Rattle.array_syntax.specs.declared.program.Stmt.TheVariants as stmts
use Rattle.array_syntax.specs.Tree.{Tree, Name, Literal, One, Two, Cast, Select, Shift, Rotate, Section, Stretch, Transpose, RowFold, Fold, tree_of}
use Rattle.shape_check.specs.declared.typed.ArrayType.{ArrayType}
use Rattle.shape_check.specs.declared.fault.CheckFault.{CheckFault}
use Rattle.shape_check.specs.declared.fault.CheckFault.TheVariants.{Twice, Unknown, TypeMismatch, ShapeMismatch, LiteralAlone, LiteralRange, BadShape, BadSection, BadStretch, NoOutput, TooMuchWork, Memory}
use Rattle.shape_check.specs.Node.{Node, is_literal}
use Rattle.shape_check.specs.Statement.{Statement, is_output}
use Rattle.shape_check.specs.Rules.{type_of}
use Rattle.shape_check.specs.Scope.{Scope, scope_of, scope_names}
use Rattle.shape_check.specs.Typing.{IsTyping, AreTypings, section_of, stretch_of, extent_of}
use Rattle.shape_check.specs.Checked.{work_of, work_limit}

-- ---- the order of checking

-- the nodes of an expression: operands before their node, from left to right
abbrev pub parts_of : Tree → List Tree
parts_of (Name at name) = Name at name ∷ []
parts_of (Literal at n) = Literal at n ∷ []
parts_of (One at op a) = parts_of a ++ One at op a ∷ []
parts_of (Two at op a b) = parts_of a ++ (parts_of b ++ Two at op a b ∷ [])
parts_of (Cast at elem a) = parts_of a ++ Cast at elem a ∷ []
parts_of (Select at c x y) = parts_of c ++ (parts_of x ++ (parts_of y ++ Select at c x y ∷ []))
parts_of (Shift at a dr dc fill fill_at) = parts_of a ++ Shift at a dr dc fill fill_at ∷ []
parts_of (Rotate at a dr dc) = parts_of a ++ Rotate at a dr dc ∷ []
parts_of (Section at a r0 nr sr c0 nc sc) = parts_of a ++ Section at a r0 nr sr c0 nc sc ∷ []
parts_of (Stretch at a kr kc) = parts_of a ++ Stretch at a kr kc ∷ []
parts_of (Transpose at a) = parts_of a ++ Transpose at a ∷ []
parts_of (RowFold at fold a) = parts_of a ++ RowFold at fold a ∷ []
parts_of (Fold at fold a) = parts_of a ++ Fold at fold a ∷ []

-- what is looked at: the name that a statement declares, the shape of an input, a node, an expression as a whole; and
-- of the program its outputs and its work
pub data Site : Type 0 where
  NameSite : (name : List ℕ) (at : ℕ) → Site
  ShapeSite : (rows cols : ℤ) (at : ℕ) → Site
  NodeSite : (tree : Tree) → Site
  WholeSite : (tree : Tree) → Site
  OutputSite : Site
  WorkSite : Site

abbrev pub sites_in : Tree → List Site
sites_in tree = map NodeSite (parts_of tree) ++ WholeSite tree ∷ []

abbrev pub sites_of : Stmt → List Site
sites_of (stmts.Input name at elem rows cols shape_at) = NameSite name at ∷ ShapeSite rows cols shape_at ∷ []
sites_of (stmts.Let name at value) = NameSite name at ∷ sites_in (tree_of value)
sites_of (stmts.Output name at value) = NameSite name at ∷ sites_in (tree_of value)

-- a site, and how many statements come before its own
pub record Spot : Type 0 where
  pub before : ℕ
  pub site : Site

abbrev pub spot_at : ℕ → Site → Spot
spot_at before site = record { before = before; site = site }

-- the sites of a program in the order in which they are looked at
abbrev pub spots_from : ℕ → List Stmt → List Spot
spots_from n [] = spot_at n OutputSite ∷ spot_at n WorkSite ∷ []
spots_from n (stmt ∷ more) = map (spot_at n) (sites_of stmt) ++ spots_from (n + 1) more

-- ---- the rules of a node

-- where a node stands
abbrev pub place_of : Tree → ℕ
place_of (Name at name) = at
place_of (Literal at n) = at
place_of (One at op a) = at
place_of (Two at op a b) = at
place_of (Cast at elem a) = at
place_of (Select at c x y) = at
place_of (Shift at a dr dc fill fill_at) = at
place_of (Rotate at a dr dc) = at
place_of (Section at a r0 nr sr c0 nc sc) = at
place_of (Stretch at a kr kc) = at
place_of (Transpose at a) = at
place_of (RowFold at fold a) = at
place_of (Fold at fold a) = at

-- where a literal stands
abbrev pub literal_place : Tree → Option ℕ
literal_place (Literal at n) = Some at
literal_place _ = None

-- the first of two places, where both are there
abbrev pub first_of_both : Option ℕ → Option ℕ → Option ℕ
first_of_both (Some a) (Some b) = Some a
first_of_both a b = None

-- the first literal that stands alone: the only operand, the condition of a select, or both operands
abbrev pub lone_literal : Tree → Option ℕ
lone_literal (Name at name) = None
lone_literal (Literal at n) = None
lone_literal (One at op a) = literal_place a
lone_literal (Two at op a b) = first_of_both (literal_place a) (literal_place b)
lone_literal (Cast at elem a) = literal_place a
lone_literal (Select at c x y) = literal_place c
lone_literal (Shift at a dr dc fill fill_at) = literal_place a
lone_literal (Rotate at a dr dc) = literal_place a
lone_literal (Section at a r0 nr sr c0 nc sc) = literal_place a
lone_literal (Stretch at a kr kc) = literal_place a
lone_literal (Transpose at a) = literal_place a
lone_literal (RowFold at fold a) = literal_place a
lone_literal (Fold at fold a) = literal_place a

-- an expression that is no literal has this type and shape
pub record HasType (scope : Scope) (tree : Tree) (type : ArrayType) : Type 0 where
  pub node : Node
  pub typing : IsTyping scope tree node
  pub type_is : type_of node ≡ type
  pub no_literal : is_literal node ≡ false

-- two operands that aren't literals have two types, or two shapes
pub record DifferInType (scope : Scope) (a b : Tree) : Type 0 where
  pub left : ArrayType
  pub right : ArrayType
  pub has_left : HasType scope a left
  pub has_right : HasType scope b right
  pub differ : left.elem ≢ right.elem

pub record DifferInShape (scope : Scope) (a b : Tree) : Type 0 where
  pub left : ArrayType
  pub right : ArrayType
  pub has_left : HasType scope a left
  pub has_right : HasType scope b right
  pub differ : left.shape ≢ right.shape

-- such operands of one node
abbrev pub HasTwo : (Tree → Tree → Type 0) → Tree → Type 0
HasTwo Differ (Two at op a b) = Differ a b
HasTwo Differ (Select at c x y) = Differ c x ⊎ (Differ c y ⊎ Differ x y)
HasTwo Differ _ = ⊥

-- the literal at this place isn't a number of the type
abbrev pub IsOut : Elem → Tree → ℕ → Type 0
IsOut elem (Literal at n) p = (p ≡ at) × ¬ IsElement elem n
IsOut elem _ p = ⊥

-- nor of the type of the operand beside it
pub record IsOutBeside (scope : Scope) (literal other : Tree) (p : ℕ) : Type 0 where
  pub type : ArrayType
  pub has_type : HasType scope other type
  pub out : IsOut type.elem literal p

-- the fill of a shift isn't a number of the operand's type
pub record IsFillOut (scope : Scope) (operand : Tree) (fill : ℤ) : Type 0 where
  pub type : ArrayType
  pub has_type : HasType scope operand type
  pub out : ¬ IsElement type.elem fill

-- the first literal of a node that isn't in its type stands here
abbrev pub IsFirstOut : Scope → Tree → ℕ → Type 0
IsFirstOut scope (Two at op a b) p = IsOutBeside scope a b p ⊎ IsOutBeside scope b a p
IsFirstOut scope (Select at c x y) p =
    IsOutBeside scope x c p ⊎ (((q : ℕ) → ¬ IsOutBeside scope x c q) × IsOutBeside scope y c p)
IsFirstOut scope (Shift at a dr dc fill fill_at) p = (p ≡ fill_at) × IsFillOut scope a fill
IsFirstOut scope _ p = ⊥

-- the map can't be taken of the operand
pub record Misfits (scope : Scope) (operand : Tree) (mapping : Mapping) : Type 0 where
  pub type : ArrayType
  pub has_type : HasType scope operand type
  pub misfit : ¬ FitsShape mapping type.shape

abbrev pub IsBadSection : Scope → Tree → Type 0
IsBadSection scope (Section at a r0 nr sr c0 nc sc) = Misfits scope a (section_of r0 nr sr c0 nc sc)
IsBadSection scope _ = ⊥

abbrev pub IsBadStretch : Scope → Tree → Type 0
IsBadStretch scope (Stretch at a kr kc) = Misfits scope a (stretch_of kr kc)
IsBadStretch scope _ = ⊥

-- no earlier statement declares the name
abbrev pub IsUnknown : Scope → Tree → Type 0
IsUnknown scope (Name at name) = ¬ Contains (scope_names scope) name
IsUnknown scope _ = ⊥

-- the rules that a node may break
abbrev pub BreaksAt : Scope → Tree → CheckFault → Type 0
BreaksAt scope tree (Unknown p) = (p ≡ place_of tree) × IsUnknown scope tree
BreaksAt scope tree (LiteralAlone p) = lone_literal tree ≡ Some p
BreaksAt scope tree (TypeMismatch p) = (p ≡ place_of tree) × HasTwo (DifferInType scope) tree
BreaksAt scope tree (ShapeMismatch p) = (p ≡ place_of tree) × HasTwo (DifferInShape scope) tree
BreaksAt scope tree (LiteralRange p) = IsFirstOut scope tree p
BreaksAt scope tree (BadSection p) = (p ≡ place_of tree) × IsBadSection scope tree
BreaksAt scope tree (BadStretch p) = (p ≡ place_of tree) × IsBadStretch scope tree
BreaksAt scope tree _ = ⊥

-- the order of the rules of one site
abbrev pub rank_of : CheckFault → ℕ
rank_of (Unknown p) = 0
rank_of (LiteralAlone p) = 1
rank_of (TypeMismatch p) = 2
rank_of (ShapeMismatch p) = 3
rank_of (LiteralRange p) = 4
rank_of (BadSection p) = 5
rank_of (BadStretch p) = 6
rank_of _ = 0

-- ---- all rules

-- the name is an earlier statement's
abbrev pub BreaksName : Scope → List ℕ → ℕ → CheckFault → Type 0
BreaksName scope name at (Twice p) = (p ≡ at) × Contains (scope_names scope) name
BreaksName scope name at _ = ⊥

-- an input has no rows, no columns or too many elements
abbrev pub BreaksShape : ℤ → ℤ → ℕ → CheckFault → Type 0
BreaksShape rows cols at (BadShape p) = (p ≡ at) × ¬ IsExtent (extent_of rows cols)
BreaksShape rows cols at _ = ⊥

-- a literal is the whole expression
abbrev pub BreaksWhole : Tree → CheckFault → Type 0
BreaksWhole tree (LiteralAlone p) = literal_place tree ≡ Some p
BreaksWhole tree _ = ⊥

-- no statement is an output
abbrev pub BreaksOutput : List Statement → CheckFault → Type 0
BreaksOutput program NoOutput = list_any is_output program ≡ false
BreaksOutput program _ = ⊥

-- the work is above the limit
abbrev pub BreaksWork : List Statement → CheckFault → Type 0
BreaksWork program (TooMuchWork need) = (need ≡ work_of program) × (work_limit < need)
BreaksWork program _ = ⊥

-- a site after these statements breaks a rule
abbrev pub Breaks : List Statement → Site → CheckFault → Type 0
Breaks earlier (NameSite name at) fault = BreaksName (scope_of earlier) name at fault
Breaks earlier (ShapeSite rows cols at) fault = BreaksShape rows cols at fault
Breaks earlier (NodeSite tree) fault = BreaksAt (scope_of earlier) tree fault
Breaks earlier (WholeSite tree) fault = BreaksWhole tree fault
Breaks earlier OutputSite fault = BreaksOutput earlier fault
Breaks earlier WorkSite fault = BreaksWork earlier fault

-- the fault comes at this place of a program's order, where the statements before its own are checked
pub record Occurs (program : List Stmt) (place : ℕ) (fault : CheckFault) : Type 0 where
  pub spot : Spot
  pub here : slice_get (spots_from 0 program) place ≡ Some spot
  pub earlier : List Statement
  pub typings : AreTypings [] (take spot.before program) earlier
  pub breaks : Breaks earlier spot.site fault

-- the fault comes, and none at an earlier place, nor by an earlier rule of the same place
pub record IsFirstFault (program : List Stmt) (fault : CheckFault) : Type 0 where
  pub place : ℕ
  pub occurs : Occurs program place fault
  pub least_place : (p : ℕ) (f : CheckFault) → Occurs program p f → place ≤ p
  pub least_rule : (f : CheckFault) → Occurs program place f → rank_of fault ≤ rank_of f

-- what a checker may answer where it answers a fault: the first one, or that memory is wanting
abbrev pub IsAnswered : List Stmt → CheckFault → Type 0
IsAnswered program Memory = Unit {0}
IsAnswered program fault = IsFirstFault program fault
