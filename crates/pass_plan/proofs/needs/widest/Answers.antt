use Rattle.std.proofs.Common.{◌≡◌, ◌≤◌, ℕ, subst, sym, rules}
use Rattle.pass_plan.specs.Need.{widest_in}
use Rattle.pass_plan.specs.Shown.{pass_of}
use Rattle.pass_plan.proofs.Sums.{widest_few}
use Rattle.pass_plan.proofs.needs.widest.Goals as goal

pub returns-clause-few : goal.returns-clause-few
returns-clause-few c =
    let is : c.max-2.result ≡ widest_in (pass_of c.args.pass.now) = search rules in
    subst (λ (n : ℕ). n ≤ 4) (sym is) (widest_few (pass_of c.args.pass.now))
