use Rattle.std.proofs.Common.{◌∙◌, ap, sym}
use Rattle.std.specs.Prelude.{slice_get}
use Rattle.std.specs.Option.{option_copied}
use Rattle.ven_base.specs.Job.{works_of}
use Rattle.dma_engine.proofs.Kept.{work_behind, none_behind}
use Rattle.dma_engine.proofs.channel.ChannelUnit.work.Goals as goal
use Rattle.dma_engine.proofs.channel.ChannelUnit.work.Goals.{in_default-via-in-Some+else-k-eq0, in_default-via-in_default}

pub returns-in_default : goal.returns-in_default
returns-in_default g c =
    let first = c.self.inside.first in
    let others = c.self.inside.others.items in
    let found = sym c.get.ensures ∙ ap option_copied c.unwrap.ensures in
    elim c.in_default.branch [
      | in_default-via-in-Some+else-k-eq0 w ↦ ap (λ jobs. slice_get (works_of jobs) c.args.k) (sym c.self.view_is) ∙ work_behind first others c.args.k c.unwrap.result.now c.self.invariant.front w.if-k-eq0.false found
      | in_default-via-in_default w ↦ absurd (none_behind first others _ c.unwrap.result.now w.in_default.is c.self.invariant.front found)
    ]
