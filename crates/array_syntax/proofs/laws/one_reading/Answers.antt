use Rattle.ven_io.proofs.Readers.{one_value}
use Rattle.array_syntax.specs.Grammar.{AreStatements}
use Rattle.array_syntax.specs.Reading.{reader}
use Rattle.array_syntax.proofs.Opening.{counted_node, node_counts, opens_deep, deep_opens, low_step}
use Rattle.array_syntax.proofs.Counting.{count_step}
use Rattle.array_syntax.proofs.TooHigh.{ends_high}
use Rattle.array_syntax.proofs.Kept.{keeps}
use Rattle.array_syntax.proofs.Turns.{taken_more, unread, token_refused, sign_refused}
use Rattle.array_syntax.proofs.Going.{follows}
use Rattle.array_syntax.proofs.Parsed.{blocks, ends, starts, word_taken, sign_answered, counted_on, advanced, nodes_on}
use Rattle.array_syntax.proofs.Shown.{lines_denote}
use Rattle.array_syntax.proofs.Texts.{one_program}
use Rattle.array_syntax.proofs.Forms.{at_one}
use Rattle.array_syntax.proofs.laws.one_reading.Goals as goal

pub returns-clause-tokens : goal.returns-clause-tokens
returns-clause-tokens c = one_value AreStatements reader follows

pub returns-clause-texts : goal.returns-clause-texts
returns-clause-texts c = one_program
