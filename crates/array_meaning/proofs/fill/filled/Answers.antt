use Rattle.std.proofs.Common.{◌≡◌, ◌++◌, ◌∷◌, [], ◌∙◌, sym, arith}
use Rattle.std.specs.Int.{w64}
use Rattle.std.proofs.lemmas.Int.{to_z-of_z}
use Rattle.std.proofs.lemmas.List.FromFn.{map-range_with_len_more}
use mir.Val.{to_z, of_z}
use Rattle.array_meaning.proofs.fill.filled.Goals as goal

pub loop-place-preserved : goal.loop-place-preserved
loop-place-preserved g c =
    let read : to_z w64 (of_z w64 c.value.result) ≡ c.value.result = to_z-of_z w64 c.value.result (record { sfits = c.value.type_inv }) in
    let value = read ∙ c.value.ensures in
    c.in_ok-push.ensures.items ∙ (λ k. c.loop-place.invariant k ++ value k ∷ [])
    ∙ sym (map-range_with_len_more (g.S.Source.value_at c.args.source.now) 0 c.loop-place.place c.loop-place.place (omega arith))
