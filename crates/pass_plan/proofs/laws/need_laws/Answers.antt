use Rattle.pass_plan.specs.Need.{pass_need}
use Rattle.pass_plan.proofs.Labels.{label-positive, label_few}
use Rattle.pass_plan.proofs.Sums.{each_below}
use Rattle.pass_plan.proofs.Tilings.{buffers_inside}
use Rattle.pass_plan.proofs.laws.need_laws.Goals as goal

pub returns : goal.returns
returns c = record {
  each = λ passes. each_below pass_need passes;
  buffers = buffers_inside;
  some_label = λ tree h. label-positive tree h;
  few_labels = λ tree. label_few tree;
}
