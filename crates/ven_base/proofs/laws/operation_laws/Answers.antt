use Rattle.std.specs.Prelude.{◌^◌}
use Rattle.std.proofs.lemmas.Nat.{pow_pos}
use Rattle.ven_base.specs.Elem.{width_of, modulus_of}
use Rattle.ven_base.specs.Operation.{amount_of}
use Rattle.ven_base.proofs.Congruence.{rem_below, rem_congruent, div_floor}
use Rattle.ven_base.proofs.Wrapped.{width_pos, modulus_pos}
use Rattle.ven_base.proofs.Operations.{IsNearest-nearest}
use Rattle.ven_base.proofs.laws.operation_laws.Goals as goal

pub returns : goal.returns
returns c = record {
  amounts = λ elem y. (rem_below (width_of elem) y (width_pos elem), rem_congruent (width_of elem) y (width_pos elem));
  bits = λ elem x. (rem_below (modulus_of elem) x (modulus_pos elem), rem_congruent (modulus_of elem) x (modulus_pos elem));
  nearest = IsNearest-nearest;
  rounds_down = λ elem x y. div_floor (2 ^ amount_of elem y) x (pow_pos (amount_of elem y));
}
