use Rattle.std.proofs.Common.{length, ◌+◌, ◌≤◌}
use Rattle.std.specs.Prelude.{All}
use Rattle.dma_segments.specs.declared.segments.Segments.{Segments}
use Rattle.dma_segments.specs.Put.{PutPiece, HasLongRows, HasLongFillRows}
use Rattle.dma_segments.specs.Moves.{moves, command_limit, fill_limit}
use Rattle.dma_segments.proofs.Puts.{is_put, is_few, has_few_commands, has_few_fills, has_long_rows, has_long_fills, ok_one, ok_both}
use Rattle.dma_segments.proofs.reading.reads.Goals as goal

pub returns-clause-put : goal.returns-clause-put
returns-clause-put c =
    ok_both _ _ (λ (s : Segments). PutPiece c.args.leaf.now c.args.from.now c.args.piece c.args.buffer s.commands.items s.fills.items) c.listed.result c.listed.ensures.commands c.listed.ensures.fills
    (λ s commands fills. is_put c.args.leaf.now c.args.from.now c.args.piece c.args.buffer c.requires c.listed.ensures.shaped s.commands.items s.fills.items commands fills)

pub returns-clause-moves : goal.returns-clause-moves
returns-clause-moves c =
    ok_both _ _ (λ (s : Segments). length s.commands.items + length s.fills.items ≤ moves c.args.leaf.now.map c.args.piece) c.listed.result c.listed.ensures.commands c.listed.ensures.fills
    (λ s commands fills. is_few c.args.leaf.now c.args.from.now c.args.piece c.args.buffer c.requires c.listed.ensures.shaped s.commands.items s.fills.items commands fills)

pub returns-clause-few : goal.returns-clause-few
returns-clause-few c =
    ok_one _ (λ (s : Segments). length s.commands.items ≤ command_limit c.args.leaf.now.map c.args.piece) c.listed.result c.listed.ensures.commands
    (λ s commands. has_few_commands c.args.leaf.now c.args.from.now c.args.piece c.args.buffer c.requires c.listed.ensures.shaped s.commands.items commands)

pub returns-clause-few_fills : goal.returns-clause-few_fills
returns-clause-few_fills c =
    ok_one _ (λ (s : Segments). length s.fills.items ≤ fill_limit c.args.leaf.now.map) c.listed.result c.listed.ensures.fills
    (λ s fills. has_few_fills c.args.leaf.now c.args.from.now c.args.piece c.args.buffer c.requires c.listed.ensures.shaped s.fills.items fills)

pub returns-clause-large : goal.returns-clause-large
returns-clause-large c =
    ok_one _ (λ (s : Segments). All HasLongRows s.commands.items) c.listed.result c.listed.ensures.commands
    (λ s commands. has_long_rows c.args.leaf.now c.args.from.now c.args.piece c.args.buffer c.requires c.listed.ensures.shaped s.commands.items commands)

pub returns-clause-large_fills : goal.returns-clause-large_fills
returns-clause-large_fills c =
    ok_one _ (λ (s : Segments). All HasLongFillRows s.fills.items) c.listed.result c.listed.ensures.fills
    (λ s fills. has_long_fills c.args.leaf.now c.args.from.now c.args.piece c.args.buffer c.requires c.listed.ensures.shaped s.fills.items fills)
