use Rattle.std.proofs.Common.{sym, subst}
use Rattle.pass_plan.specs.Pass.{Pass}
use Rattle.vector_codegen.specs.Effect.{IsSoundSomewhere}
use Rattle.vector_codegen.proofs.ExamplePasses.{sound}
use Rattle.plan_tests.proofs.instructions.works_of_row_sums.Goals as goal

pub tile_ops-requires-clause-sound : goal.tile_ops-requires-clause-sound
tile_ops-requires-clause-sound c = subst (λ (pass : Pass). IsSoundSomewhere pass) (sym c.in_ok-pass.ensures) sound
