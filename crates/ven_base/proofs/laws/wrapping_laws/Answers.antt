use Rattle.ven_base.proofs.Wrapped.{IsWrapped-wrapped, IsWrapped-is, wrapped_in, wrapped-wrapped, wrapped-add, wrapped-sub, wrapped-mul}
use Rattle.ven_base.proofs.laws.wrapping_laws.Goals as goal

pub returns : goal.returns
returns c = record {
  wraps_to_one = λ elem n w. (IsWrapped-is elem n w, λ e. rw e (IsWrapped-wrapped elem n));
  keeps_elements = wrapped_in;
  wraps_once = wrapped-wrapped;
  sums = wrapped-add;
  differences = wrapped-sub;
  products = wrapped-mul;
}
