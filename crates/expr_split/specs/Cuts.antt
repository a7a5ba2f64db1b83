-- How a checked program is cut into passes.
use Rattle.std.specs.Prelude.{ℕ, pos, ◌+◌, List, [], ◌∷◌, ◌++◌, get_or, length, Bool, true, false, ◌||◌, not, nat_lt}
use Rattle.ven_base.specs.declared.elem.Elem.{Elem}
use Rattle.ven_base.specs.declared.mapping.Mapping.{Mapping}
use Rattle.ven_base.specs.declared.mapping.Mapping.TheVariants.{Identity}
use Rattle.ven_base.specs.Extent.{Extent}
use Rattle.shape_check.specs.Node.{Node, Name, Literal, One, Two, Cast, Select, Map, RowFold, Fold, elem_of, shape_of}
use Rattle.shape_check.specs.Statement.{Statement, Input, Let, Output}
use Rattle.shape_check.specs.Occurrences.{uses_of, is_mapped}
use Rattle.pass_plan.specs.declared.leaf.Leaf.{Leaf}
use Rattle.pass_plan.specs.declared.pass.PassKind.{PassKind}
use Rattle.pass_plan.specs.declared.pass.PassKind.TheVariants as kinds
use Rattle.pass_plan.specs.Tree as tree
use Rattle.pass_plan.specs.Tree.{TreeOver, AtLeaf, height_of}
use Rattle.pass_plan.specs.Normal.{normalised}

-- ---- cuts

-- where a node stands: at the root of an output or of a let, as the operand of a map, or as another operand
pub data Place : Type 0 where
  AtOutput : Place
  AtLet : (asked : Bool) → Place
  UnderMap : Place
  Inside : Place

abbrev pub is_reduction : Node → Bool
is_reduction (RowFold elem shape fold a) = true
is_reduction (Fold elem shape fold a) = true
is_reduction _ = false

abbrev pub is_name : Node → Bool
is_name (Name elem shape k) = true
is_name _ = false

-- the rules of cuts: the root of an output; a reduction; the operand of a map that isn't a name; the root of a let that
-- asks for it
abbrev pub is_cut : Place → Node → Bool
is_cut AtOutput e = true
is_cut (AtLet asked) e = asked || is_reduction e
is_cut UnderMap e = not (is_name e)
is_cut Inside e = is_reduction e

-- the greatest height of a tree that is put in the place of a name
abbrev pub height_limit : ℕ
height_limit = 64

-- a let asks for it where its name occurs more than once, or as the operand of a map, or where its tree is higher than
-- that
abbrev pub let_asks : List Statement → ℕ → TreeOver Leaf → Bool
let_asks program k t = nat_lt 1 (uses_of program k) || (is_mapped program k || nat_lt height_limit (height_of t))

-- ---- trees and passes

-- a pass before its leaves have numbers: what it makes of the values of its tree, over arrays under maps
pub record Draft : Type 0 where
  pub kind : PassKind
  pub domain : Extent
  pub elem : Elem
  pub tree : TreeOver Leaf

-- a node as the root of a pass: the passes of the cuts below it, and its own, whose tree isn't normalised yet
pub record Own : Type 0 where
  pub passes : List Draft
  pub kind : PassKind
  pub domain : Extent
  pub elem : Elem
  pub tree : TreeOver Leaf

-- a node as an operand: the passes of the cuts in it, itself among them, and the tree that stands for it
pub record Seen : Type 0 where
  pub passes : List Draft
  pub tree : TreeOver Leaf

abbrev pub draft_of : Own → Draft
draft_of own = record { kind = own.kind; domain = own.domain; elem = own.elem; tree = normalised own.elem own.tree }

-- an array as it stands
abbrev pub whole_leaf : ℕ → Elem → Extent → Leaf
whole_leaf k elem shape = record { array = k; elem = elem; shape = shape; map = Identity }

-- a cut is a leaf of the array that its pass makes, the next one after those of the passes below it
abbrev pub seen_if : Bool → Elem → Extent → ℕ → Own → Seen
seen_if true elem shape base own =
    record {
      passes = own.passes ++ draft_of own ∷ [];
      tree = AtLeaf (whole_leaf (base + length own.passes) elem shape);
    }
seen_if false elem shape base own = record { passes = own.passes; tree = own.tree }

-- the leaf under a map
abbrev pub under : Mapping → TreeOver Leaf → TreeOver Leaf
under mapping (AtLeaf leaf) = AtLeaf (record leaf { map = mapping })
under mapping t = t

-- what stands where no tree does
abbrev pub no_tree : TreeOver Leaf
no_tree = tree.Literal (pos 0)

-- one row of as many columns as a shape has rows
abbrev pub as_row : Extent → Extent
as_row shape = record { rows = 1; cols = shape.rows }

-- a tree of the node's own type and shape
abbrev pub map_own : List Draft → Elem → Extent → TreeOver Leaf → Own
map_own passes elem shape t = record { passes = passes; kind = kinds.Map; domain = shape; elem = elem; tree = t }

-- by the trees of the names so far, where so many arrays are there
abbrev pub own_of : List (TreeOver Leaf) → ℕ → Node → Own
own_of names base (Name elem shape k) = map_own [] elem shape (get_or names k no_tree)
own_of names base (Literal elem shape value) = map_own [] elem shape (tree.Literal value)
own_of names base (One elem shape op a) =
    let of = seen_if (is_cut Inside a) (elem_of a) (shape_of a) base (own_of names base a) in
    map_own of.passes elem shape (tree.One op elem of.tree)
own_of names base (Two elem shape op a b) =
    let left = seen_if (is_cut Inside a) (elem_of a) (shape_of a) base (own_of names base a) in
    let next = base + length left.passes in
    let right = seen_if (is_cut Inside b) (elem_of b) (shape_of b) next (own_of names next b) in
    map_own (left.passes ++ right.passes) elem shape (tree.Two op elem left.tree right.tree)
own_of names base (Cast elem shape a) =
    let of = seen_if (is_cut Inside a) (elem_of a) (shape_of a) base (own_of names base a) in
    map_own of.passes elem shape (tree.Cast elem (elem_of a) of.tree)
own_of names base (Select elem shape c x y) =
    let first = seen_if (is_cut Inside c) (elem_of c) (shape_of c) base (own_of names base c) in
    let next = base + length first.passes in
    let second = seen_if (is_cut Inside x) (elem_of x) (shape_of x) next (own_of names next x) in
    let last = next + length second.passes in
    let third = seen_if (is_cut Inside y) (elem_of y) (shape_of y) last (own_of names last y) in
    let t = tree.Select elem first.tree second.tree third.tree in
    map_own (first.passes ++ (second.passes ++ third.passes)) elem shape t
own_of names base (Map elem shape mapping a) =
    let of = seen_if (is_cut UnderMap a) (elem_of a) (shape_of a) base (own_of names base a) in
    map_own of.passes elem shape (under mapping of.tree)
own_of names base (RowFold elem shape fold a) =
    let of = seen_if (is_cut Inside a) (elem_of a) (shape_of a) base (own_of names base a) in
    record { passes = of.passes; kind = kinds.Reduce fold; domain = shape_of a; elem = elem; tree = of.tree }
-- the rows first, to a column; then that column, seen as one row
own_of names base (Fold elem shape fold a) =
    let of = seen_if (is_cut Inside a) (elem_of a) (shape_of a) base (own_of names base a) in
    let rows : Own = record {
      passes = of.passes;
      kind = kinds.Reduce fold;
      domain = shape_of a;
      elem = elem;
      tree = of.tree;
    } in
    record {
      passes = of.passes ++ draft_of rows ∷ [];
      kind = kinds.Reduce fold;
      domain = as_row (shape_of a);
      elem = elem;
      tree = AtLeaf (whole_leaf (base + length of.passes) elem (as_row (shape_of a)));
    }

abbrev pub seen_of : Place → List (TreeOver Leaf) → ℕ → Node → Seen
seen_of place names base e = seen_if (is_cut place e) (elem_of e) (shape_of e) base (own_of names base e)

-- the passes of statements in their order, and the trees that all names stand for
pub record Planned : Type 0 where
  pub passes : List Draft
  pub names : List (TreeOver Leaf)

abbrev pub let_of : List Statement → List (TreeOver Leaf) → ℕ → Node → Seen
let_of program names base e = seen_of (AtLet (let_asks program (length names) (own_of names base e).tree)) names base e

-- the tree and the passes of a statement, where so many inputs came before it
abbrev pub statement_of : List Statement → ℕ → List (TreeOver Leaf) → ℕ → Statement → Seen
statement_of program taken names base (Input name elem shape) =
    record { passes = []; tree = AtLeaf (whole_leaf taken elem shape) }
statement_of program taken names base (Let name value) = let_of program names base value
statement_of program taken names base (Output name value) = seen_of AtOutput names base value

abbrev pub inputs_in : Statement → ℕ
inputs_in (Input name elem shape) = 1
inputs_in (Let name value) = 0
inputs_in (Output name value) = 0

abbrev pub plan_from : List Statement → ℕ → List (TreeOver Leaf) → ℕ → List Statement → Planned
plan_from program taken names base [] = record { passes = []; names = names }
plan_from program taken names base (s ∷ more) =
    let seen = statement_of program taken names base s in
    let rest = plan_from program (taken + inputs_in s) (names ++ seen.tree ∷ []) (base + length seen.passes) more in
    record { passes = seen.passes ++ rest.passes; names = rest.names }
