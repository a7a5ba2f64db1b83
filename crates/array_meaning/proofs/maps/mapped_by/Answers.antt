use Rattle.std.proofs.Common.{◌≡◌, ℕ, ◌++◌, ◌∷◌, [], ◌∙◌, sym, ap, arith, append_assoc}
use Rattle.std.specs.Int.{w64}
use Rattle.std.specs.List.{range_with_len, flat_map}
use Rattle.std.proofs.lemmas.Int.{to_z-of_z}
use mir.Val.{to_z, of_z}
use Rattle.ven_base.specs.Extent.{Extent}
use Rattle.ven_base.specs.Mapping.{result_shape}
use Rattle.shape_check.specs.Meaning.{row_values}
use Rattle.array_meaning.specs.Sources.{mapped_at}
use Rattle.array_meaning.proofs.Loops.{row_more, rows_more}
use Rattle.array_meaning.proofs.maps.mapped_by.Goals as goal

pub loop-j-preserved : goal.loop-j-preserved
loop-j-preserved c =
    let f = mapped_at c.args.mapping c.args.of c.args.values.now in
    let cols = (result_shape c.args.mapping c.args.of).cols in
    let rows = flat_map (λ (r : ℕ). row_values cols (f r)) (range_with_len 0 c.loop-i.i) in
    let row = row_values c.loop-j.j (f c.loop-i.i) in
    let read : to_z w64 (of_z w64 c.value_from.result) ≡ c.value_from.result = to_z-of_z w64 c.value_from.result (record { sfits = c.value_from.type_inv }) in
    let value = read ∙ c.value_from.ensures in
    c.in_ok-push.ensures.items ∙ (λ k. c.loop-j.invariant k ++ value k ∷ []) ∙ append_assoc rows row (f c.loop-i.i c.loop-j.j ∷ [])
    ∙ ap (λ xs. rows ++ xs) (sym (row_more (f c.loop-i.i) c.loop-j.j))

pub loop-i-preserved : goal.loop-i-preserved
loop-i-preserved c =
    let f = mapped_at c.args.mapping c.args.of c.args.values.now in
    let cols = (result_shape c.args.mapping c.args.of).cols in
    let rows = flat_map (λ (r : ℕ). row_values cols (f r)) (range_with_len 0 c.loop-i.i) in
    let whole : c.loop-j.j ≡ cols = omega (arith, ap (λ (s : Extent). s.cols) c.result-to.ensures, ap (λ (s : Extent). s.cols) c.to.view_is) in
    c.loop-j.invariant ∙ ap (λ n. rows ++ row_values n (f c.loop-i.i)) whole ∙ sym (rows_more cols f c.loop-i.i)
