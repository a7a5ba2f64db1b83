use Rattle.std.proofs.Common.{subst, Ok, Err}
use Rattle.array_syntax.specs.Parsing.{IsReady}
use Rattle.array_syntax.specs.Reading.{state_of}
use Rattle.array_syntax.proofs.Parsed.{blocks, ends}
use Rattle.array_syntax.proofs.parsing.take_next.Goals as goal

pub returns-in-Err : goal.returns-in-Err
returns-in-Err c =
    let p = c.args.parsing in
    let s = state_of p.phase p.stack in
    blocks c.args.text.now p.from p.nodes s c.in-Err.fault c.block.result (subst (IsReady c.args.text.now p.from s p.nodes) c.in-Err.is c.requires.ready) c.block.ensures

pub returns-in-End : goal.returns-in-End
returns-in-End c =
    let p = c.args.parsing in
    let s = state_of p.phase p.stack in
    ends c.args.text.now p.from p.nodes s c.in-Ok.raw c.end_text.result (subst (IsReady c.args.text.now p.from s p.nodes) c.in-Ok.is c.requires.ready) c.in-End.is c.end_text.ensures
