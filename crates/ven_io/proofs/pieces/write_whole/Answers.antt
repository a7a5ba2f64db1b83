use Rattle.std.proofs.Common.{◌+◌, ◌-◌, ◌≤◌, length, drop, length-take, length-drop, arith}
use Rattle.ven_io.proofs.PieceLemmas.{Appends-on}
use Rattle.ven_io.proofs.pieces.write_whole.Goals as goal

pub loop-at-preserved : goal.loop-at-preserved
loop-at-preserved g c =
    let bytes = c.args.bytes.now in
    let at = c.loop-at.at in
    let fits : at + c.in-Ok.count ≤ length bytes =
    omega (arith, c.in-Ok.ensures.bound, c.loop-at.invariant.0, length-take (length bytes - at) (drop at bytes), length-drop at bytes) in
    (fits, Appends-on _ _ _ bytes at c.in-Ok.count c.loop-at.invariant.1 c.in-Ok.ensures.bytes)
