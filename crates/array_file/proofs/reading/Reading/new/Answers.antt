use Rattle.std.proofs.Common.{[], length, arith, sym, ap, subst}
use Rattle.ven_io.specs.Tokens.{Here}
use Rattle.ven_base.specs.Pairs.{ArePairs}
use Rattle.array_file.specs.Reading.{Begin}
use Rattle.array_file.proofs.Functions.{no_arrays}
use Rattle.array_file.proofs.reading.Reading.new.Goals as goal

pub returns : goal.returns
returns c text = record {
  has = record {
    tokens = [];
    read = Here 0;
    within = omega arith;
    state = ap Begin c.new.ensures;
    good = subst ArePairs (sym c.new.ensures) no_arrays;
    begun = tt;
    few = omega (arith, ap length c.new.ensures);
  };
  fresh = (c.new.ensures, c.new-2.ensures.items);
}
