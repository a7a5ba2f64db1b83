use Rattle.std.proofs.Common.{sym, subst}
use Rattle.array_syntax.specs.Parsing.{HasRead}
use Rattle.array_syntax.specs.Reading.{Begin}
use Rattle.array_syntax.proofs.Parsed.{starts}
use Rattle.array_syntax.proofs.parsing.parse.Goals as goal

pub loop-next-init : goal.loop-next-init
loop-next-init c = subst (λ done. HasRead c.args.text.now 0 (Begin done) 0) (sym c.new.ensures) (starts c.args.text.now)
