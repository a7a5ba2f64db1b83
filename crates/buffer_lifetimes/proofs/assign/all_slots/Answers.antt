use Rattle.std.proofs.Common.{◌≡◌, ◌+◌, ◌∷◌, ◌++◌, [], ap, ◌∙◌, sym, arith}
use Rattle.std.specs.List.{range_with_len}
use Rattle.buffer_lifetimes.proofs.Evaluation.{one_more_slot}
use Rattle.buffer_lifetimes.proofs.assign.all_slots.Goals as goal

pub loop-slot-preserved : goal.loop-slot-preserved
loop-slot-preserved c =
    let k = c.loop-slot.slot in
    let e : k ≡ 0 + k = omega arith in
    c.in_ok-push.ensures.items ∙ ap (λ s. s ++ k ∷ []) c.loop-slot.invariant ∙ ap (λ j. range_with_len 0 k ++ j ∷ []) e ∙ sym (one_more_slot 0 k)
