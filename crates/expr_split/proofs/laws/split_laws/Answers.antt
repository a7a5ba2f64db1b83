use Rattle.std.proofs.Common.{length}
use Rattle.expr_split.specs.Places.{input_types, plan_of}
use Rattle.expr_split.proofs.Soundness.{split_sound, dests-are}
use Rattle.expr_split.proofs.Unique.{split_one}
use Rattle.expr_split.proofs.laws.split_laws.Goals as goal

pub returns : goal.returns
returns c = record {
  one = split_one;
  sound = split_sound;
  in_order = λ program split is. dests-are (length (input_types program)) (plan_of program).passes split.passes is.passes;
}
