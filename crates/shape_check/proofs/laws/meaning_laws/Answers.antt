use Rattle.shape_check.proofs.Meanings.{has_one_meaning, reduces_rows, reduces_arrays}
use Rattle.shape_check.proofs.Typing.{expr_at-IsElement}
use Rattle.shape_check.proofs.laws.meaning_laws.Goals as goal

pub returns : goal.returns
returns c = record {
  one_meaning = has_one_meaning;
  values_in_type = expr_at-IsElement;
  rows = reduces_rows;
  arrays = reduces_arrays;
}
