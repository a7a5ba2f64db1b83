-- The instructions of small tiles, as the definitions compute them.
use Rattle.std.specs.Prelude.{◌≡◌, ℕ, pos, negsuc, true, false, List, [], ◌∷◌}
use Rattle.ven_base.specs.declared.elem.Elem.{Elem}
use Rattle.ven_base.specs.declared.elem.Elem.TheVariants.{U8, U16}
use Rattle.ven_base.specs.declared.mapping.Mapping.TheVariants.{Identity}
use Rattle.ven_base.specs.declared.ops.Op1.TheVariants as op1
use Rattle.ven_base.specs.declared.ops.Op2.TheVariants as op2
use Rattle.ven_base.specs.declared.ops.Fold.TheVariants as fold
use Rattle.ven_base.specs.Extent.{Extent}
use Rattle.venice_isa.specs.declared.kind.VecKind.{VecKind}
use Rattle.venice_isa.specs.declared.work.VecWork.{VecWork}
use Rattle.pass_plan.specs.declared.leaf.Leaf.{Leaf}
use Rattle.pass_plan.specs.declared.pass.PassKind.{PassKind}
use Rattle.pass_plan.specs.declared.pass.PassKind.TheVariants.{Map, Reduce}
use Rattle.pass_plan.specs.Tree.{TreeOver, AtLeaf, Literal, One, Two, Move, Select}
use Rattle.pass_plan.specs.Pass.{Pass}
use Rattle.pass_plan.specs.Tile.{tile_of}
use Rattle.buffer_lifetimes.specs.OrderOf.{order_of}
use Rattle.dma_segments.specs.declared.segments.Fill.{Fill}
use Rattle.vector_codegen.specs.Kind.{two_kind, move_kind, conditional_kind}
use Rattle.vector_codegen.specs.TileList.{tile_list}

abbrev pub extent : (rows cols : ℕ) → Extent
extent rows cols = record { rows = rows; cols = cols }

-- a pass over whole arrays of one type, whose leaves are these arrays as they are
abbrev pub leaf_at : Elem → Extent → (array : ℕ) → Leaf
leaf_at elem shape array = record { array = array; elem = elem; shape = shape; map = Identity }

abbrev pub pass_with : PassKind → Elem → Extent → List Leaf → TreeOver ℕ → Pass
pass_with kind elem shape leaves tree =
    record { kind = kind; domain = shape; leaves = leaves; tree = tree; dest = 2; elem = elem }

-- the instructions of a tile in so many bytes of scratchpad, without fills
abbrev pub list_of : Pass → (spad t : ℕ) → List VecWork
list_of pass spad t = tile_list pass (tile_of pass spad) t [] (order_of pass.tree).steps

-- an instruction over so many elements of one row, with the steps that elements of this type have
abbrev pub of_one_row : VecKind → (size cols dst a b : ℕ) → VecWork
of_one_row kind size cols dst a b = record {
  kind = kind;
  vl = cols;
  rows = 1;
  dst = dst;
  a = a;
  b = b;
  dst_step = size;
  a_step = size;
  b_step = size;
}

-- ---- the passes

-- two bytes added at each index of one row of four
abbrev pub sum_of_two : Pass
sum_of_two =
    pass_with Map U8 (extent 1 4) (leaf_at U8 (extent 1 4) 0 ∷ leaf_at U8 (extent 1 4) 1 ∷ [])
    (Two op2.Add U8 (AtLeaf 0) (AtLeaf 1))

-- whether the first is greater
abbrev pub is_greater : Pass
is_greater =
    pass_with Map U8 (extent 1 4) (leaf_at U8 (extent 1 4) 0 ∷ leaf_at U8 (extent 1 4) 1 ∷ [])
    (Two op2.Gt U8 (AtLeaf 0) (AtLeaf 1))

-- bytes below 10, and 0 for the others
abbrev pub small_ones : Pass
small_ones =
    pass_with Map U8 (extent 1 3) (leaf_at U8 (extent 1 3) 0 ∷ [])
    (Move U8 (Select U8 (Two op2.Lt U8 (AtLeaf 0) (Literal (pos 10))) (AtLeaf 0) (Move U8 (Literal (pos 0)))))

-- the sums of two rows of nine, in tiles of four
abbrev pub row_sums : Pass
row_sums = pass_with (Reduce fold.Sum) U16 (extent 2 9) (leaf_at U16 (extent 2 9) 0 ∷ []) (Move U16 (AtLeaf 0))

-- the least of five bytes
abbrev pub least_of_five : Pass
least_of_five = pass_with (Reduce fold.Min) U8 (extent 1 5) (leaf_at U8 (extent 1 5) 0 ∷ []) (Move U8 (AtLeaf 0))

-- a pass over one row of four bytes, with a tree of the leaf
abbrev pub of_four : TreeOver ℕ → Pass
of_four tree = pass_with Map U8 (extent 1 4) (leaf_at U8 (extent 1 4) 0 ∷ []) tree

-- two elements from the cell 2 on get -1
abbrev pub two_filled : Fill
two_filled = record { at = 2; elem = U8; rows = 1; cols = 2; step = 0; value = negsuc 0 }

-- ---- their lists

pub record WorkedRows : Type 0 where
  -- buffers of four bytes: the leaves' halves at 0, 4, 8 and 12, the slot at 16, the output halves at 20 and 24
  pub added : list_of sum_of_two 28 0 ≡ of_one_row (two_kind op2.Add U8 false false false) 4 4 20 0 8 ∷ []
  -- greater, whose instruction is that of less, has its operands turned
  pub turned : list_of is_greater 28 0 ≡ of_one_row (two_kind op2.Gt U8 false false false) 4 4 20 8 0 ∷ []
  -- in 7 bytes each tile has one element: the last reads the other halves, at 1 and 3, and writes the other one, at 6
  pub one_element : list_of sum_of_two 7 3 ≡ of_one_row (two_kind op2.Add U8 false false false) 1 1 6 1 3 ∷ []
  -- a negation is 0 less the operand, the complement -1 less it
  pub negated : list_of (of_four (One op1.Neg U8 (AtLeaf 0))) 20 0
      ≡ of_one_row (two_kind op2.Sub U8 true false false) 4 4 12 0 0 ∷ []
  pub complement : list_of (of_four (One op1.Not U8 (AtLeaf 0))) 20 0
      ≡ of_one_row (two_kind op2.Sub U8 true false false) 4 4 12 4294967295 0 ∷ []
  -- a fill comes first; its number is a parameter of 32 bits
  pub filled : tile_list (of_four (Move U8 (AtLeaf 0))) (tile_of (of_four (Move U8 (AtLeaf 0))) 20) 0 (two_filled ∷ [])
      (order_of (Move U8 (AtLeaf 0))).steps
      ≡ record (of_one_row (move_kind U8 true false) 0 2 2 4294967295 0) { dst_step = 0 }
      ∷ of_one_row (move_kind U8 false false) 4 4 12 0 0 ∷ []
  -- the condition goes to the slot at 6 and the other choice to that at 9, then the move where the flags are set, and
  -- the root's
  pub chosen : list_of small_ones 18 0
      ≡ of_one_row (two_kind op2.Lt U8 false true false) 3 3 6 0 10
      ∷ of_one_row (move_kind U8 true false) 3 3 9 0 0
      ∷ of_one_row (conditional_kind U8 false) 3 3 9 0 6
      ∷ of_one_row (move_kind U8 false false) 3 3 12 9 0 ∷ []
  -- the first tile sets the sum in the output half at 24, from the leaf's half at 0
  pub first_tile : list_of row_sums 48 0
      ≡ record (of_one_row (move_kind U16 false true) 8 4 24 0 0) { dst_step = 2 } ∷ []
  -- the second sums into the partial result at 40, from the half at 8, and adds it
  pub second_tile : list_of row_sums 48 1
      ≡ record (of_one_row (move_kind U16 false true) 8 4 40 8 0) { dst_step = 2 }
      ∷ of_one_row (two_kind op2.Add U16 false false false) 2 1 24 24 40 ∷ []
  -- the first tile of the second row sets the other output half
  pub second_row : list_of row_sums 48 3
      ≡ record (of_one_row (move_kind U16 false true) 8 4 32 8 0) { dst_step = 2 } ∷ []
  -- five elements in the slot at 10 are halved to three and to two, which meet in the output half at 15
  pub halved : list_of least_of_five 30 0
      ≡ of_one_row (move_kind U8 false false) 5 5 10 0 0
      ∷ of_one_row (two_kind op2.Min U8 false false false) 5 2 10 10 13
      ∷ of_one_row (two_kind op2.Min U8 false false false) 5 1 10 10 12
      ∷ record (of_one_row (two_kind op2.Min U8 false false false) 5 1 15 11 10) { dst_step = 1 } ∷ []
