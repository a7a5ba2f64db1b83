use Rattle.std.proofs.Common.{◌<◌, sym, subst}
use Rattle.pass_plan.specs.declared.split.ArrayPlace.{ArrayPlace}
use Rattle.pass_plan.specs.declared.parts.Piece.{Piece}
use Rattle.pass_plan.specs.Tile.{IsPieceOf}
use Rattle.pass_plan.specs.Sound.{end_of}
use Rattle.pass_plan.specs.Shown.{pass_of}
use Rattle.dma_schedule.specs.PipeList.{destination}
use Rattle.dma_schedule.proofs.Ready.{inside_made, made_few}
use Rattle.dma_schedule.proofs.tile_blocks.push_writes.Goals as goal

pub writes-requires-clause-inside : goal.writes-requires-clause-inside
writes-requires-clause-inside c =
    let pass = pass_of c.args.pass.now in
    subst (λ (to : ArrayPlace). IsPieceOf to.shape c.result_piece.result) (sym c.destination-to.ensures)
    (subst (λ (piece : Piece). IsPieceOf (destination c.args.arrays.now pass c.args.tile).shape piece) (sym c.result_piece.ensures)
    (inside_made c.args.arrays.now pass c.args.tile c.requires.ready c.args.t c.requires.within))

pub writes-requires-clause-in_memory : goal.writes-requires-clause-in_memory
writes-requires-clause-in_memory c =
    let few = made_few c.args.arrays.now (pass_of c.args.pass.now) c.args.tile c.requires.ready in
    subst (λ (to : ArrayPlace). end_of to < 4294967296) (sym c.destination-to.ensures) few
