use Rattle.std.proofs.Common.{arith, subst}
use Rattle.ven_base.specs.Extent.{IsExtent}
use Rattle.ven_base.specs.Mapping.{result_shape}
use Rattle.ven_base.proofs.Sources.{result_shape-IsExtent}
use Rattle.pass_plan.specs.declared.leaf.Leaf.{Leaf}
use Rattle.dma_segments.proofs.Rooms.{piece_small}
use Rattle.dma_segments.proofs.runs.column_runs.Goals as goal

pub repeated_runs-requires-clause-room : goal.repeated_runs-requires-clause-room
repeated_runs-requires-clause-room c =
    let leaf = c.args.leaf.now in
    let e : IsExtent leaf.shape = subst (λ (l : Leaf). IsExtent l.shape) c.leaf.view_is c.leaf.invariant in
    let small = piece_small (result_shape leaf.map leaf.shape) c.args.piece (result_shape-IsExtent leaf.map leaf.shape e c.requires.fits) c.requires.inside in
    omega (arith, small)
