use Rattle.std.proofs.Common.{◌≡◌, ℕ, ◌++◌, ◌∷◌, [], ◌∙◌, sym, ap, arith}
use Rattle.std.specs.Int.{w64}
use Rattle.std.proofs.lemmas.Int.{to_z-of_z}
use Rattle.std.proofs.lemmas.List.FromFn.{map-range_with_len_more}
use mir.Val.{to_z, of_z}
use Rattle.ven_base.specs.Folding.{folded}
use Rattle.array_meaning.specs.Rows.{row_in}
use Rattle.array_meaning.proofs.reduce.rows_by.Goals as goal

pub loop-i-preserved : goal.loop-i-preserved
loop-i-preserved c =
    let f = λ (i : ℕ). folded c.args.fold c.args.elem (row_in c.args.values.now c.args.shape.cols i) in
    let read : to_z w64 (of_z w64 c.reduced.result) ≡ c.reduced.result = to_z-of_z w64 c.reduced.result (record { sfits = c.reduced.type_inv }) in
    let value = read ∙ c.reduced.ensures ∙ ap (folded c.args.fold c.args.elem) c.row-row.ensures.value in
    c.in_ok-push.ensures.items ∙ (λ k. c.loop-i.invariant k ++ value k ∷ []) ∙ sym (map-range_with_len_more f 0 c.loop-i.i c.loop-i.i (omega arith))
