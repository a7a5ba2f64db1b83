use Rattle.pass_plan.proofs.Values.{value_of-normalised, value_of-numbered, pass_array-IsGrid}
use Rattle.pass_plan.proofs.laws.value_laws.Goals as goal

pub returns : goal.returns
returns c = record {
  normalising = λ elem tree at. value_of-normalised elem tree at;
  numbering = value_of-numbered;
  arrays = pass_array-IsGrid;
}
