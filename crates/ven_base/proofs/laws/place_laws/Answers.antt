use Rattle.ven_base.proofs.Congruence.{rem_below, rem_congruent}
use Rattle.ven_base.proofs.Places.{place_within-is}
use Rattle.ven_base.proofs.laws.place_laws.Goals as goal

pub returns : goal.returns
returns c = record {
  goes_round = λ n k h. (rem_below n k h, rem_congruent n k h);
  finds = place_within-is;
}
