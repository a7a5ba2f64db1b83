use Rattle.good_images.proofs.Lower.{LowerLaws}
use Rattle.good_images.proofs.Images.{they_are_images}
use Rattle.good_images.proofs.Lists.{lists_leave_outputs}
use Rattle.good_images.proofs.Goods.{they_are_good, good_runs_halt}
use Rattle.good_images.proofs.laws.good_laws.Goals as goal

pub returns : goal.returns
returns c =
    let images = they_are_images c.split_laws.ensures.sound c.size_laws.ensures.needs c.table_laws.ensures.declared c.table_laws.ensures.arrays in
    let lower : LowerLaws = record {
      halts = c.no_hazard.ensures.halts;
      same = c.same_steps.ensures.same;
      sizes = c.finishing.ensures.sizes;
      sound = c.split_laws.ensures.sound;
      declared = c.table_laws.ensures.declared;
      sources = c.table_laws.ensures.sources;
      outputs = c.table_laws.ensures.outputs;
      pipelined = c.list_laws.ensures.pipelined;
      disciplined = c.list_laws.ensures.disciplined;
      inside = c.list_laws.ensures.inside;
      leave = c.list_laws.ensures.arrays;
    } in
    record {
      images = images;
      good = they_are_good lower images;
      leave = lists_leave_outputs lower images;
      halt = good_runs_halt;
    }
