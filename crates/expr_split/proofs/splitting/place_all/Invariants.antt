use Rattle.std.proofs.Common.{◌≡◌, take}
use Rattle.expr_split.specs.Places.{places_from, end_from}
use Rattle.expr_split.proofs.splitting.place_all.Given as goal

abbrev pub invariant-loop-type_ : goal.invariant-loop-type_
invariant-loop-type_ l = record {
  arrays : l.placed.arrays.items ≡ places_from 0 (take l.type_-index l.types);
  end : l.placed.end ≡ end_from 0 (take l.type_-index l.types);
}
