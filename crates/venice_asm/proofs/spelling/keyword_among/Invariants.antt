use Rattle.std.proofs.Common.{◌≡◌, length}
use Rattle.venice_asm.specs.Spelling.{keyword_among}
use Rattle.venice_asm.proofs.spelling.keyword_among.Given as goal

abbrev pub invariant-loop-items : goal.invariant-loop-items
invariant-loop-items g l =
    let spelling = g.T.Keyword.spelling in
    keyword_among spelling l.items l.bytes ≡ keyword_among spelling l.initial.items l.bytes

abbrev pub decreases-loop-items : goal.decreases-loop-items
decreases-loop-items g l = length l.items
