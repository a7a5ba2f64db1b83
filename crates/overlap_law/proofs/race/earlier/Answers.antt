use Rattle.std.proofs.Common.{subst, Some, None}
use Rattle.overlap_law.specs.Search.{IsFirstWith}
use Rattle.overlap_law.proofs.Firsts.{found, not_found}
use Rattle.overlap_law.proofs.race.earlier.Goals as goal

pub returns-in-Some : goal.returns-in-Some
returns-in-Some c =
    found c.args.version c.args.list.now c.args.first c.args.earliest c.in-Some.second c.requires.so_far
    (subst (λ end. IsFirstWith c.args.version c.args.list.now c.args.first end (Some c.in-Some.second)) c.end_for.ensures (subst (IsFirstWith c.args.version c.args.list.now c.args.first c.end_for.result) c.in-Some.is c.race_with.ensures))

pub returns-in-None : goal.returns-in-None
returns-in-None c =
    not_found c.args.version c.args.list.now c.args.first c.args.earliest c.requires.so_far
    (subst (λ end. IsFirstWith c.args.version c.args.list.now c.args.first end None) c.end_for.ensures (subst (IsFirstWith c.args.version c.args.list.now c.args.first c.end_for.result) c.in-None.is c.race_with.ensures))
