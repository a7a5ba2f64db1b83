use Rattle.std.proofs.Common.{◌≡◌, ◌*◌, ◌<◌, ◌++◌, [], ◌∷◌, Some, ap, ◌∙◌, sym, subst, arith}
use Rattle.dma_segments.specs.declared.patches.Patch.{Patch}
use Rattle.dma_segments.specs.Patch.{with_rows_joined}
use Rattle.dma_segments.specs.WriteList.{whole_patch, write_list}
use Rattle.dma_segments.specs.ReadList.{sides_of}
use Rattle.dma_segments.specs.Rooms.{HasRoom}
use Rattle.dma_segments.proofs.Counts.{joined_from}
use Rattle.dma_segments.proofs.Takes.{takes, write_room, room_of, command_is}
use Rattle.dma_segments.proofs.Rooms.{joined_room}
use Rattle.dma_segments.proofs.writing.writes.Goals as goal

room : (c : goal.After-whole_patch-whole) → HasRoom (sides_of c.args.to.now.elem c.args.to.now c.args.buffer) (whole_patch c.args.to.now.shape c.args.piece)
room c = write_room c.args.to.now c.args.piece c.args.buffer c.requires.inside (omega arith) c.first_element-first.ensures.shaped c.requires.in_memory

pub with_rows_joined-patch-requires : goal.with_rows_joined-patch-requires
with_rows_joined-patch-requires c = subst (λ (p : Patch). p.rows * p.cols < 4294967296) (sym c.whole_patch-whole.ensures) (room c).all_fit

pub command-requires-clause-room : goal.command-requires-clause-room
command-requires-clause-room c =
    let whole = whole_patch c.args.to.now.shape c.args.piece in
    let there = write_room c.args.to.now c.args.piece c.args.buffer c.requires.inside (omega arith) c.first_element-first.ensures.shaped c.requires.in_memory in
    room_of c.args.to.now c.args.piece c.args.buffer c.requires.inside c.size.result c.size.ensures (with_rows_joined whole) c.with_rows_joined-patch.result
    (joined_room (sides_of c.args.to.now.elem c.args.to.now c.args.buffer) whole there)
    (c.with_rows_joined-patch.ensures ∙ ap with_rows_joined c.whole_patch-whole.ensures)

pub command-requires-clause-source : goal.command-requires-clause-source
command-requires-clause-source c =
    ap (λ (p : Patch). p.from) (c.with_rows_joined-patch.ensures ∙ ap with_rows_joined c.whole_patch-whole.ensures)
    ∙ joined_from (whole_patch c.args.to.now.shape c.args.piece) ∙ ap (λ m. Some m) (sym c.first_element-first.ensures.number)

listed : (c : goal.In_ok-push) → c.push.new.self.items ≡ write_list c.args.to.now c.args.piece c.args.buffer
listed c =
    c.in_ok-push.ensures.items ∙ ap (λ xs. xs ++ c.command.result ∷ []) c.new-commands.ensures.items
    ∙ ap (λ w. w ∷ []) (c.command.ensures
    ∙ command_is c.args.to.now c.args.piece c.args.buffer c.requires.inside c.size.result c.size.ensures c.with_rows_joined-patch.result
    (c.with_rows_joined-patch.ensures ∙ ap with_rows_joined c.whole_patch-whole.ensures) c.first_element-first.result c.first_element-first.ensures.number)

pub returns-clause-commands : goal.returns-clause-commands
returns-clause-commands c = listed c

pub returns-clause-takes : goal.returns-clause-takes
returns-clause-takes c = takes c.args.to.now c.args.piece c.args.buffer c.requires.inside c.push.new.self.items (listed c)
