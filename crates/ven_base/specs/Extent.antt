-- Shapes of arrays, and the indices in them.
use Rattle.std.specs.Prelude.{ℕ, ◌*◌, ◌≤◌, ◌<◌}

-- how many rows and columns an array has
pub record Extent : Type 0 where
  pub rows : ℕ
  pub cols : ℕ

-- how many elements an array of this shape has
abbrev pub elements_of : Extent → ℕ
elements_of shape = shape.rows * shape.cols

-- the most elements that an array may have
abbrev pub element_limit : ℕ
element_limit = 1048576

-- the shape of an array: at least one row and one column, and at most 1,048,576 elements
pub record IsExtent (shape : Extent) : Type 0 where
  pub some_rows : 1 ≤ shape.rows
  pub some_cols : 1 ≤ shape.cols
  pub within : elements_of shape ≤ element_limit

-- row i and column j are in the shape
pub record IsIndex (shape : Extent) (i j : ℕ) : Type 0 where
  pub row : i < shape.rows
  pub col : j < shape.cols
