use Rattle.std.proofs.Common.{sym, subst, ◌∙◌}
use Rattle.pass_plan.specs.Shown.{pass_of}
use Rattle.vector_codegen.specs.Effect.{AreTileFills}
use Rattle.dma_schedule.proofs.Ready.{fills_are}
use Rattle.dma_schedule.proofs.tile_blocks.push_compute.Goals as goal

pub tile_ops-requires-clause-fills : goal.tile_ops-requires-clause-fills
tile_ops-requires-clause-fills c =
    subst (λ fills. AreTileFills (pass_of c.args.pass.now) c.args.tile c.args.t fills) (sym (c.deref.ensures.value ∙ c.in_ok-fills.ensures))
    (fills_are c.args.arrays.now (pass_of c.args.pass.now) c.args.tile c.requires.ready c.args.t c.requires.within)
