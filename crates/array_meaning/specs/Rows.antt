-- Inner: the rows of a list of values.
use Rattle.std.specs.Prelude.{ℕ, ℤ, ◌*◌, List, take, drop, map}
use Rattle.std.specs.List.{range_with_len}
use Rattle.ven_base.specs.declared.elem.Elem.{Elem}
use Rattle.ven_base.specs.declared.ops.Fold.{Fold}
use Rattle.ven_base.specs.Extent.{Extent}
use Rattle.ven_base.specs.Folding.{folded}

-- the values of row i, where a row has so many
abbrev pub row_in : List ℤ → ℕ → ℕ → List ℤ
row_in values cols i = take cols (drop (i * cols) values)

-- the reductions of all rows
abbrev pub row_reductions : Fold → Elem → Extent → List ℤ → List ℤ
row_reductions fold elem shape values =
    map (λ i. folded fold elem (row_in values shape.cols i)) (range_with_len 0 shape.rows)
