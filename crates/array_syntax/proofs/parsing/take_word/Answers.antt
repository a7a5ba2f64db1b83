use Rattle.array_syntax.specs.Grammar.{token}
use Rattle.array_syntax.specs.Steps.{begins_node}
use Rattle.array_syntax.proofs.Parsed.{nodes_on, one_by, none_by}
use Rattle.array_syntax.proofs.parsing.take_word.Goals as goal
use Rattle.array_syntax.proofs.parsing.take_word.Goals.{then-begins_node, else-begins_node}

pub advance-requires-clause-counted : goal.advance-requires-clause-counted
advance-requires-clause-counted c =
    let p = c.args.parsing in
    let more = begins_node p.phase c.args.word in
    nodes_on p.nodes c.if-begins_node.nodes p.phase p.stack (token c.args.raw.start c.args.word) c.requires.counted
    (elim c.if-begins_node.branch [
      | then-begins_node w ↦ one_by c.begins_node.result more p.nodes c.if-begins_node.nodes c.begins_node.ensures w.if-begins_node.true w.nodes-is
      | else-begins_node w ↦ none_by c.begins_node.result more p.nodes c.if-begins_node.nodes c.begins_node.ensures w.if-begins_node.false w.nodes-is
    ])
