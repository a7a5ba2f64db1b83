-- What the buffers of a tile hold between its steps, and what lists of instructions make of cells.
use Rattle.std.specs.Prelude.{◌≡◌, ℕ, ◌+◌, ◌*◌, ◌<◌, ◌≤◌, ℤ, true, List, [], ◌∷◌, length, map, Some}
use Rattle.ven_base.specs.declared.elem.Elem.{Elem}
use Rattle.ven_base.specs.Cell.{Cell}
use Rattle.ven_base.specs.Elem.{size_of, IsElement}
use Rattle.venice_isa.specs.declared.work.VecWork.{VecWork}
use Rattle.venice_isa.specs.Cell.{cell_at, flag_of, byte_of, part}
use Rattle.venice_isa.specs.Whole.{is_one, IsWhole}
use Rattle.venice_isa.specs.Laws.{SpellsNumber}
use Rattle.pass_plan.specs.Tree.{AtLeaf, Literal, One, Two, Cast, Move, Select, value_of, elem_of, is_computed}
use Rattle.pass_plan.specs.Normal.{is_comparison as is_compared}
use Rattle.buffer_lifetimes.specs.Step.{Tree}
use Rattle.buffer_lifetimes.specs.Order.{State}
use Rattle.vector_codegen.specs.Work.{Shape, Buffers, leaf_buffer, slot_buffer}
use Rattle.vector_codegen.specs.Fit.{buffer_count}
use Rattle.vector_codegen.proofs.Good.{IsGood, IsTileBuffer}

-- ---- types

-- a pass's leaves with their types, and its greatest element size
pub record Typing : Type 0 where
  pub leaves : ℕ
  pub leaf : ℕ → Elem
  pub most : ℕ

-- the tree gives numbers of the type that is asked, of no greater size, and each condition is a comparison
abbrev pub HasType : Tree → Typing → Elem → Type 0
HasType (AtLeaf k) typing asked = (k < typing.leaves) × (typing.leaf k ≡ asked) × (size_of asked ≤ typing.most)
HasType (Literal n) typing asked = IsElement asked n
HasType (One op elem a) typing asked = (elem ≡ asked) × (size_of elem ≤ typing.most) × HasType a typing elem
HasType (Two op elem a b) typing asked = (elem ≡ asked) × (size_of elem ≤ typing.most) × HasType a typing elem × HasType b typing elem
HasType (Cast elem from a) typing asked = (elem ≡ asked) × (size_of elem ≤ typing.most) × HasType a typing from
HasType (Move elem a) typing asked = (elem ≡ asked) × (size_of elem ≤ typing.most) × HasType a typing elem
HasType (Select elem c x y) typing asked = (elem ≡ asked) × (size_of elem ≤ typing.most) × HasType c typing elem × HasType x typing elem × HasType y typing elem × (is_compared c ≡ true)

-- ---- buffers

abbrev pub count_of : Shape → ℕ
count_of shape = shape.rows * shape.cols

-- where element i of a buffer stands
abbrev pub element_place : Shape → Elem → (buffer i : ℕ) → ℕ
element_place shape elem buffer i = buffer * shape.room + i * size_of elem

-- the cells of an element spell this number
abbrev pub Spells : Elem → List Cell → (place : ℕ) → ℤ → Type 0
Spells elem cells place n = SpellsNumber elem n (map byte_of (part cells place (size_of elem)))

-- the buffer holds these values
pub record Holds (shape : Shape) (elem : Elem) (cells : List Cell) (buffer : ℕ) (value : ℕ → ℤ) : Type 0 where
  pub each : (i : ℕ) → i < count_of shape → Spells elem cells (element_place shape elem buffer i) (value i)

-- its flags say where these values are 1
pub record IsFlagged (shape : Shape) (elem : Elem) (cells : List Cell) (buffer : ℕ) (value : ℕ → ℤ) : Type 0 where
  pub each : (i : ℕ) → i < count_of shape → flag_of (cell_at cells (element_place shape elem buffer i)) ≡ is_one (value i)

-- the values of a tree at all indices of the piece, where leaf k has value (leaf i k) at index i
abbrev pub values_of : (ℕ → ℕ → ℤ) → Tree → ℕ → ℤ
values_of leaf t i = value_of t (leaf i)

-- the buffer holds the tree's values, and a comparison's flags agree with them
pub record HoldsTree (shape : Shape) (leaf : ℕ → ℕ → ℤ) (cells : List Cell) (buffer : ℕ) (t : Tree) : Type 0 where
  pub numbers : Holds shape (elem_of t) cells buffer (values_of leaf t)
  pub flags : is_compared t ≡ true → IsFlagged shape (elem_of t) cells buffer (values_of leaf t)

-- the leaves' buffers hold the piece
abbrev pub HoldsLeaves : Shape → Buffers → Typing → (ℕ → ℕ → ℤ) → List Cell → Type 0
HoldsLeaves shape b typing leaf cells = (k : ℕ) → k < typing.leaves → Holds shape (typing.leaf k) cells (leaf_buffer b k) (λ i. leaf i k)

-- leaves' buffers hold the leaves' values, each slot that still has to be read its subtree's, and what stands behind the slots stood there at first
pub record AreHeld (shape : Shape) (b : Buffers) (typing : Typing) (leaf : ℕ → ℕ → ℤ) (first : List Cell) (state : State) (cells : List Cell) : Type 0 where
  pub long : length cells ≡ length first
  pub leaves : (k : ℕ) → k < typing.leaves → Holds shape (typing.leaf k) cells (leaf_buffer b k) (λ i. leaf i k)
  pub slots : (s : ℕ) (t : Tree) → state s ≡ Some t → (s < b.slots) × HasType t typing (elem_of t) × HoldsTree shape leaf cells (slot_buffer b s) t × (is_computed t ≡ true)
  pub rest : (p : ℕ) → (b.leaves * 2 + b.slots) * shape.room ≤ p → cell_at cells p ≡ cell_at first p

-- the piece has elements, they fit the buffers, and the buffers lie in the cells
pub record HasRoom (shape : Shape) (b : Buffers) (typing : Typing) (cells : ℕ) : Type 0 where
  pub some_rows : 0 < shape.rows
  pub some_cols : 0 < shape.cols
  pub fits : count_of shape * typing.most ≤ shape.room
  pub leaf_sizes : (k : ℕ) → k < typing.leaves → size_of (typing.leaf k) ≤ typing.most
  pub one_count : b.leaves ≡ typing.leaves
  pub half : b.in_half < 2
  pub out : b.out_half < 2
  pub inside : buffer_count b * shape.room ≤ cells

-- ---- instructions

-- the instruction takes cells that hold this to cells that hold that
pub record Takes (b : Buffers) (shape : Shape) (work : VecWork) (before : List Cell) (Holding : List Cell → Type 0) : Type 0 where
  pub good : IsGood (IsTileBuffer b) shape.room work
  pub takes : (after : List Cell) → IsWhole work before after → Holding after

-- one after another, each is good, and whatever its effect leaves, the rest goes on from there to cells of this kind
abbrev pub TakesAll : List VecWork → Buffers → Shape → List Cell → (List Cell → Type 0) → Type 0
TakesAll [] b shape cells Holding = Holding cells
TakesAll (work ∷ works) b shape cells Holding = IsGood (IsTileBuffer b) shape.room work × ((after : List Cell) → IsWhole work cells after → TakesAll works b shape after Holding)
