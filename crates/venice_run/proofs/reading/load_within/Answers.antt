use Rattle.std.proofs.Common.{ℕ, Vec, refl}
use Rattle.std.specs.Global.{Global}
use Rattle.venice_run.specs.Stage.{Goes}
use Rattle.venice_run.specs.Reading.{text_under, loads}
use Rattle.venice_run.proofs.Stages.{ends}
use Rattle.venice_run.proofs.reading.load_within.Goals as goal

pub returns-in_err-text-clause-read : goal.returns-in_err-text-clause-read
unfolding loads
returns-in_err-text-clause-read g c =
    ends (λ (text : Vec ℕ Global). text.items) _ _ c.from_residual.ensures.1 (rw c.limit.ensures at c.in_err-text.ensures.read)

pub returns-in-Some-clause-read : goal.returns-in-Some-clause-read
unfolding loads
returns-in-Some-clause-read g c = Goes _ (rw (c.limit.ensures, c.in-Some.is) at c.in_ok-text.ensures.read) refl

pub returns-in-None-clause-read : goal.returns-in-None-clause-read
unfolding loads
returns-in-None-clause-read g c = Goes _ (rw (c.limit.ensures, c.in-None.is) at c.in_ok-text.ensures.read) refl

pub returns-in-Some-clause-short : goal.returns-in-Some-clause-short
unfolding text_under
returns-in-Some-clause-short g c = (rw (c.limit.ensures, c.in-Some.is) at c.in_ok-text.ensures.read).1
