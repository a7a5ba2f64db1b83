use Rattle.std.proofs.Common.{◌∙◌, sym, arith, []}
use Rattle.array_file.specs.Words.{language}
use Rattle.ven_io.specs.Tokens.{Here, Passed}
use Rattle.ven_io.proofs.Reached.{tokens_on}
use Rattle.array_file.proofs.Splitting.{token_ends}
use Rattle.array_file.proofs.tokens.next_kept.Goals as goal

pub loop-token-init : goal.loop-token-init
loop-token-init c = record { passed = Here c.args.from; within = c.requires.place; after = omega arith }

pub loop-token-preserved : goal.loop-token-preserved
loop-token-preserved c =
    let token = c.in-Ok.token in
    let v = c.loop-token.invariant in
    let ends = token_ends c.args.text.now c.loop-token.place token c.in-Ok.ensures.next in
    record {
      passed = tokens_on language c.args.text.now c.args.from c.loop-token.place token.end [] [] v.passed
          (Passed c.loop-token.place token.end token [] c.in-Ok.ensures.next (sym c.passes.ensures ∙ c.if-passes.true) (Here token.end));
      within = c.in-Ok.ensures.in_text;
      after = omega (arith, v.after, ends);
    }
