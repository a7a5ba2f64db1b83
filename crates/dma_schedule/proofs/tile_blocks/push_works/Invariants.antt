use Rattle.std.proofs.Common.{◌≡◌, ◌++◌, map, take}
use Rattle.venice_isa.specs.declared.issue.Issue.TheVariants.{Vector}
use Rattle.dma_schedule.proofs.tile_blocks.push_works.Given as goal

abbrev pub invariant-loop-work : goal.invariant-loop-work
invariant-loop-work l = l.list.items ≡ l.fn.list.items ++ map (λ work. Vector work) (take l.work-index l.fn.works)
