-- Sound splits: what lets passes be done one after another on arrays in memory.
use Rattle.std.specs.Prelude.{◌≡◌, ◌≢◌, ℕ, ◌+◌, ◌*◌, ◌≤◌, ◌<◌, ◌⊎◌, max, List, [], ◌∷◌, map, length, get_or, All, AllPairs, Contains}
use Rattle.ven_base.specs.declared.elem.Elem.{Elem}
use Rattle.ven_base.specs.declared.elem.Elem.TheVariants.{U8}
use Rattle.ven_base.specs.declared.entry.Entry.{Entry}
use Rattle.ven_base.specs.Elem.{size_of, IsElement}
use Rattle.ven_base.specs.Limits.{memory_limit}
use Rattle.ven_base.specs.Extent.{Extent, IsExtent, elements_of}
use Rattle.ven_base.specs.Grid.{Grid}
use Rattle.ven_base.specs.Mapping.{FitsShape, result_shape, fill_of}
use Rattle.pass_plan.specs.declared.leaf.Leaf.{Leaf}
use Rattle.pass_plan.specs.declared.split.ArrayPlace.{ArrayPlace}
use Rattle.pass_plan.specs.Tree.{TreeOver, nodes_of, leaves_of, with_leaves, TypesAgree}
use Rattle.pass_plan.specs.Normal.{IsNormal}
use Rattle.pass_plan.specs.Pass.{Pass, Arrays, no_leaf, result_of, pass_limit, node_limit}

pub record Split : Type 0 where
  pub passes : List Pass
  pub arrays : List ArrayPlace
  pub table : List Entry
  pub memory : ℕ

-- past the end of the arrays
abbrev pub no_place : ArrayPlace
no_place = record { elem = U8; shape = record { rows = 1; cols = 1 }; place = 0 }

-- ---- leaves by number

-- each number is at most one above all before it, and in the end there were so many: they are in the order of their
-- first occurrences
abbrev pub CountUp : List ℕ → (count all : ℕ) → Type 0
CountUp [] count all = count ≡ all
CountUp (k ∷ ks) count all = (k ≤ count) × CountUp ks (max count (k + 1)) all

-- two leaves are the same where array and map are
pub record IsSameLeaf (a b : Leaf) : Type 0 where
  pub array : a.array ≡ b.array
  pub map : a.map ≡ b.map

-- no two leaves are the same
abbrev pub AreDistinct : List Leaf → Type 0
AreDistinct leaves = AllPairs (λ a b. ¬ IsSameLeaf a b) leaves

-- a tree by the numbers of its leaves, each of which stands once, in the order of their first occurrence
pub record IsNumbering (tree : TreeOver Leaf) (leaves : List Leaf) (numbered : TreeOver ℕ) : Type 0 where
  pub is : with_leaves numbered (λ k. get_or leaves k no_leaf) ≡ tree
  pub counted : CountUp (leaves_of numbered) 0 (length leaves)
  pub once : AllPairs (λ a b. a ≢ b) leaves

-- ---- passes

-- the arrays that passes make
abbrev pub destinations_of : List Pass → List ℕ
destinations_of passes = map (λ (pass : Pass). pass.dest) passes

-- the leaf reads an array that there is, with its type and number of elements, which this pass and later ones don't
-- make, under a map that gives the domain
pub record IsSoundLeaf (arrays : List ArrayPlace) (later : List ℕ) (domain : Extent) (leaf : Leaf) : Type 0 where
  pub known : leaf.array < length arrays
  pub ready : ¬ Contains later leaf.array
  pub elem_is : (get_or arrays leaf.array no_place).elem ≡ leaf.elem
  pub as_many : elements_of (get_or arrays leaf.array no_place).shape ≡ elements_of leaf.shape
  pub shaped : IsExtent leaf.shape
  pub fits : FitsShape leaf.map leaf.shape
  pub gives : result_shape leaf.map leaf.shape ≡ domain
  pub fill : IsElement leaf.elem (fill_of leaf.map)

-- the pass makes an array that there is, of its type and with as many elements as its result has
pub record IsSoundResult (arrays : List ArrayPlace) (pass : Pass) : Type 0 where
  pub known : pass.dest < length arrays
  pub elem_is : (get_or arrays pass.dest no_place).elem ≡ pass.elem
  pub as_many : elements_of (get_or arrays pass.dest no_place).shape ≡ elements_of (result_of pass.kind pass.domain)

-- the types of a tree agree where these are its leaves: its root has this type, each literal is in the range of its
-- type, and each leaf is one of them
abbrev pub IsTyped : List Leaf → TreeOver ℕ → Elem → Type 0
IsTyped leaves tree elem =
    TypesAgree tree (λ k of. (k < length leaves) × ((get_or leaves k no_leaf).elem ≡ of)) (λ n of. IsElement of n) elem

-- the pass reads arrays that are there by then, and has a normalised tree whose types agree; `later` are the arrays
-- that it and later passes make
pub record IsSoundPass (arrays : List ArrayPlace) (later : List ℕ) (pass : Pass) : Type 0 where
  pub shaped : IsExtent pass.domain
  pub result : IsSoundResult arrays pass
  pub leaves : All (IsSoundLeaf arrays later pass.domain) pass.leaves
  pub numbered : CountUp (leaves_of pass.tree) 0 (length pass.leaves)
  pub distinct : AreDistinct pass.leaves
  pub normal : IsNormal pass.tree
  pub typed : IsTyped pass.leaves pass.tree pass.elem
  pub few_nodes : nodes_of pass.tree ≤ node_limit

abbrev pub AreSound : List ArrayPlace → List Pass → Type 0
AreSound arrays [] = Unit {0}
AreSound arrays (pass ∷ passes) = IsSoundPass arrays (destinations_of (pass ∷ passes)) pass × AreSound arrays passes

-- ---- splits

-- one past an array's last byte
abbrev pub end_of : ArrayPlace → ℕ
end_of array = array.place + elements_of array.shape * size_of array.elem

-- the arrays have shapes, lie in memory and share no byte
pub record ArePlaced (arrays : List ArrayPlace) (memory : ℕ) : Type 0 where
  pub shaped : All (λ a. IsExtent a.shape) arrays
  pub inside : All (λ a. end_of a ≤ memory) arrays
  pub apart : AllPairs (λ a b. (end_of a ≤ b.place) ⊎ (end_of b ≤ a.place)) arrays
  pub within : memory ≤ memory_limit

-- a split whose passes can be done one after another: no array is made twice
pub record IsSound (split : Split) : Type 0 where
  pub passes : AreSound split.arrays split.passes
  pub one_each : AllPairs (λ a b. a ≢ b) (destinations_of split.passes)
  pub placed : ArePlaced split.arrays split.memory
  pub few_passes : length split.passes ≤ pass_limit

-- ---- arrays at their places

-- the array has the type and the number of elements of its place
pub record IsArrayOf (place : ArrayPlace) (array : Grid) : Type 0 where
  pub elem_is : array.elem ≡ place.elem
  pub as_many : length array.values ≡ elements_of place.shape
  pub typed : All (IsElement place.elem) array.values

-- the leaves' arrays are those of their places
abbrev pub HasArrays : List ArrayPlace → Arrays → List Leaf → Type 0
HasArrays places arrays leaves =
    All (λ (leaf : Leaf). IsArrayOf (get_or places leaf.array no_place) (arrays leaf.array)) leaves
