use Rattle.array_file.proofs.LargeNumbers.{no_large_value, no_large_shape}
use Rattle.array_file.proofs.laws.large_numbers.Goals as goal

pub returns-clause-values : goal.returns-clause-values
returns-clause-values c = no_large_value

pub returns-clause-shapes : goal.returns-clause-shapes
returns-clause-shapes c = no_large_shape
