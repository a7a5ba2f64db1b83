use Rattle.std.proofs.Common.{List, ℕ}
use Rattle.venice_run.specs.Endings.{grant_ending}
use Rattle.venice_run.specs.Grants.{ReadsGrants, grants_in}
use Rattle.venice_run.proofs.Stages.{last_ends}
use Rattle.venice_run.proofs.grants.grants_of_text.Goals as goal

pub returns-in_err-read_grants : goal.returns-in_err-read_grants
unfolding grants_in
returns-in_err-read_grants c = last_ends grant_ending (ReadsGrants c.args.text.now) (λ (grants : List ℕ). grants) _ _ c.from_residual.ensures.1 c.in_err-read_grants.ensures

pub returns : goal.returns
unfolding grants_in
returns c = c.in_ok-read_grants.ensures
