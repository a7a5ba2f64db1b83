-- Arrays: a type, a shape and the values, row by row.
use Rattle.std.specs.Prelude.{◌≡◌, ℕ, ℤ, pos, ◌+◌, ◌*◌, List, length, map, All, slice_index_or}
use Rattle.std.specs.List.{range_with_len, flat_map}
use Rattle.std.specs.Option.{option_map_or}
use Rattle.ven_base.specs.declared.elem.Elem.{Elem}
use Rattle.ven_base.specs.declared.ops.Op1.{Op1}
use Rattle.ven_base.specs.declared.ops.Op2.{Op2}
use Rattle.ven_base.specs.declared.mapping.Mapping.{Mapping}
use Rattle.ven_base.specs.Elem.{IsElement}
use Rattle.ven_base.specs.Operation.{applied1, applied2}
use Rattle.ven_base.specs.Extent.{Extent, IsExtent, IsIndex, elements_of}
use Rattle.ven_base.specs.Mapping.{source_of, fill_of, result_shape}

pub record Grid : Type 0 where
  pub elem : Elem
  pub shape : Extent
  pub values : List ℤ

-- an array has as many values as its shape has elements, each a number of its type
pub record IsGrid (grid : Grid) : Type 0 where
  pub shaped : IsExtent grid.shape
  pub filled : length grid.values ≡ elements_of grid.shape
  pub typed : All (IsElement grid.elem) grid.values

-- the value in row i and column j
abbrev pub value_at : Grid → ℕ → ℕ → ℤ
value_at grid i j = slice_index_or grid.values (i * grid.shape.cols + j) (pos 0)

-- the values in a row of so many columns, where this is the value in each column
abbrev pub row_values : ℕ → (ℕ → ℤ) → List ℤ
row_values cols f = map f (range_with_len 0 cols)

-- the values at all indices of a shape, row by row, where this is the value at each index
abbrev pub values_with : Extent → (ℕ → ℕ → ℤ) → List ℤ
values_with shape f = flat_map (λ i. row_values shape.cols (f i)) (range_with_len 0 shape.rows)

-- the array of this type and shape with this value at each index
abbrev pub grid_with : Elem → Extent → (ℕ → ℕ → ℤ) → Grid
grid_with elem shape f = record { elem = elem; shape = shape; values = values_with shape f }

-- the value at index (i, j) of the array's image under a mapping: that at the source, or the fill where there is none
abbrev pub mapped_at : Mapping → Grid → ℕ → ℕ → ℤ
mapped_at mapping grid i j =
    option_map_or (λ s. value_at grid s.0 s.1) (source_of mapping grid.shape i j) (fill_of mapping)

-- an array of the operand's type and shape, whose value at each index is the operation's result there
pub record IsPointwise1 (op : Op1) (operand result : Grid) : Type 0 where
  pub elem_is : result.elem ≡ operand.elem
  pub shape_is : result.shape ≡ operand.shape
  pub values_are : (i j : ℕ) → IsIndex result.shape i j
      → value_at result i j ≡ applied1 op operand.elem (value_at operand i j)

-- the same of two operands of one type and one shape
pub record IsPointwise2 (op : Op2) (left right result : Grid) : Type 0 where
  pub one_elem : left.elem ≡ right.elem
  pub one_shape : left.shape ≡ right.shape
  pub elem_is : result.elem ≡ left.elem
  pub shape_is : result.shape ≡ left.shape
  pub values_are : (i j : ℕ) → IsIndex result.shape i j
      → value_at result i j ≡ applied2 op left.elem (value_at left i j) (value_at right i j)

-- an array of the operand's type and the mapping's result shape, whose value at each index is that at its source, or
-- the fill
pub record IsMapped (mapping : Mapping) (operand result : Grid) : Type 0 where
  pub elem_is : result.elem ≡ operand.elem
  pub shape_is : result.shape ≡ result_shape mapping operand.shape
  pub values_are : (i j : ℕ) → IsIndex result.shape i j → value_at result i j ≡ mapped_at mapping operand i j
