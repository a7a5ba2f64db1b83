use Rattle.expr_split.proofs.Lookup.{number-inserted}
use Rattle.expr_split.proofs.numbers.number_of.Goals as goal

pub returns : goal.returns
returns c =
    number-inserted c.args.leaf.now c.args.leaves.now.keys c.insert_full.new.self.keys c.in_ok-number.number c.in_ok-number.ensures.index c.in_ok-number.ensures.keys
