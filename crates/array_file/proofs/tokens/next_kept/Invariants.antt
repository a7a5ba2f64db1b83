use Rattle.std.proofs.Common.{◌≤◌, ◌-◌, [], length}
use Rattle.ven_io.specs.Tokens.{TokensTo}
use Rattle.array_file.specs.Words.{language}
use Rattle.array_file.proofs.tokens.next_kept.Given as goal

abbrev pub invariant-loop-token : goal.invariant-loop-token
invariant-loop-token l = record {
  passed : TokensTo language l.text l.from [] l.place;
  within : l.place ≤ length l.text;
  after : l.from ≤ l.place;
}

abbrev pub decreases-loop-token : goal.decreases-loop-token
decreases-loop-token l = length l.text - l.place
