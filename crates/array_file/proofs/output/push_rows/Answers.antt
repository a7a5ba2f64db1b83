use Rattle.std.proofs.Common.{◌≡◌, ◌++◌, ◌∙◌, ◌-◌, length, drop, arith, sym, ap}
use Rattle.std.proofs.lemmas.List.{append-nil, length-drop}
use Rattle.array_file.specs.Output.{rows_text}
use Rattle.array_file.proofs.Rows.{row_turn, row_fits, left_over}
use Rattle.array_file.proofs.output.push_rows.Goals as goal

pub split_at-requires : goal.split_at-requires
split_at-requires c = row_fits _ c.loop-left.left c.args.cols c.loop-left-test.true c.loop-left.invariant.left

pub loop-left-preserved : goal.loop-left-preserved
loop-left-preserved c =
    let rest = c.loop-left.rest.now in
    let behind = c.split_at.ensures.back in
    record {
      text = row_turn c.loop-left.text.items c.push_row.new.text.items _ rest c.split_at.result.0.now c.split_at.result.1.now c.loop-left.left c.args.cols c.loop-left-test.true c.split_at.ensures.front behind c.in_ok-push_row.ensures c.loop-left.invariant.text;
      left = left_over (length rest) (length c.split_at.result.1.now) c.loop-left.left c.args.cols c.loop-left-test.true c.loop-left.invariant.left (ap length behind ∙ length-drop c.args.cols rest);
    }

pub returns : goal.returns
returns c =
    let none : c.loop-left.left ≡ 0 = omega arith in
    sym (append-nil c.loop-left.text.items) ∙ ap (λ n. c.loop-left.text.items ++ rows_text n c.args.cols c.loop-left.rest.now) (sym none) ∙ c.loop-left.invariant.text
