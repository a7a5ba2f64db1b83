use Rattle.std.proofs.Common.{◌≡◌, length, map}
use Rattle.array_syntax.specs.Words.{look_up}
use Rattle.array_syntax.proofs.words.look_up.Given as goal

abbrev pub invariant-loop-entries : goal.invariant-loop-entries
invariant-loop-entries l = look_up (map (λ entry. (entry.0.now, entry.1)) l.entries) l.bytes ≡ look_up (map (λ entry. (entry.0.now, entry.1)) l.initial.entries) l.bytes

abbrev pub decreases-loop-entries : goal.decreases-loop-entries
decreases-loop-entries l = length l.entries
