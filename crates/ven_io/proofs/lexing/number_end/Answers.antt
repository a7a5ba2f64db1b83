use Rattle.std.proofs.lemmas.Bool.{both_ways}
use Rattle.ven_io.proofs.Standing.{decimal_stands, hexadecimal_stands}
use Rattle.ven_io.proofs.lexing.number_end.Goals as goal

pub returns-then-is_hexadecimal_at : goal.returns-then-is_hexadecimal_at
returns-then-is_hexadecimal_at c =
    hexadecimal_stands c.args.text.now c.args.start c.run_end.result (c.is_hexadecimal_at.ensures.0 c.if-is_hexadecimal_at.true) c.run_end.ensures

pub returns : goal.returns
returns c =
    decimal_stands c.args.text.now c.args.start c.run_end-2.result c.requires.in_text c.requires.first
    (λ hex. both_ways _ c.if-is_hexadecimal_at.false (c.is_hexadecimal_at.ensures.1 hex)) c.run_end-2.ensures
