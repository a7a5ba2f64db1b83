use Rattle.std.proofs.Common.{◌≡◌, ◌++◌}
use Rattle.std.specs.List.{range_with_len, flat_map}
use Rattle.ven_base.specs.Mapping.{result_shape}
use Rattle.shape_check.specs.Meaning.{row_values}
use Rattle.array_meaning.specs.Sources.{mapped_at}
use Rattle.array_meaning.proofs.maps.mapped_by.Given as goal

-- the rows so far, and of the next row the columns so far
abbrev pub invariant-loop-i : goal.invariant-loop-i
invariant-loop-i l =
    l.results.items ≡ flat_map (λ r. row_values (result_shape l.fn.mapping l.fn.of).cols (mapped_at l.fn.mapping l.fn.of l.values r)) (range_with_len 0 l.i)

abbrev pub invariant-loop-j : goal.invariant-loop-j
invariant-loop-j l =
    l.results.items
    ≡ flat_map (λ r. row_values (result_shape l.fn.mapping l.fn.of).cols (mapped_at l.fn.mapping l.fn.of l.values r)) (range_with_len 0 l.i)
    ++ row_values l.j (mapped_at l.fn.mapping l.fn.of l.values l.i)
