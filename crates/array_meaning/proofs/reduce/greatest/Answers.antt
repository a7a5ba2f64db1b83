use Rattle.std.proofs.lemmas.Grind.{common_steps}
use Rattle.std.proofs.Common.{rules, arith}
use Rattle.array_meaning.proofs.reduce.greatest.Goals as goal

pub bounds-values-0 : goal.bounds-values-0
bounds-values-0 c = search rules

pub loop-value-init : goal.loop-value-init
loop-value-init c = search rules

pub offset_bounds-values-value-index : goal.offset_bounds-values-value-index
offset_bounds-values-value-index c = search rules

pub bounds-values-value-index : goal.bounds-values-value-index
bounds-values-value-index c = search rules

pub max-greatest-requires : goal.max-greatest-requires
max-greatest-requires c = search rules

pub loop-value-smaller : goal.loop-value-smaller
loop-value-smaller c = search rules

pub loop-value-preserved : goal.loop-value-preserved
loop-value-preserved c = grind (arith, common_steps)
