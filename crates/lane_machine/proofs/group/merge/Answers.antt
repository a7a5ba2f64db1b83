use Rattle.std.proofs.Common.{◌∙◌, ◌≡◌, ◌<◌, ap, sym, subst, inl, inr, arith, set, get_or, length, cond}
use Rattle.std.specs.Prelude.{if◌then◌else◌}
use Rattle.std.proofs.lemmas.Bool.{cases_eq, cond-true, cond-false}
use Rattle.std.proofs.lemmas.List.{length-set, get_or-set_same, get_or-set_other}
use Rattle.std.proofs.lemmas.Nat.Bits.{shr_and_one}
use Rattle.spad_store.specs.Packed.{has_bit}
use Rattle.lane_machine.proofs.Flagged.{bit_is_one, bit_is_none}
use Rattle.lane_machine.proofs.group.merge.Goals as goal
use Rattle.lane_machine.proofs.group.merge.Goals.{then-moved-j-eq1, else-moved-j-eq1}

pub loop-j-preserved : goal.loop-j-preserved
loop-j-preserved c =
    let moved = c.args.moved in
    let new = c.args.new.now in
    let old = c.args.bytes.now in
    let i = c.loop-j.j in
    let bytes = c.loop-j.bytes in
    let byte = c.if-moved-j-eq1.bytes in
    let loop = c.loop-j.invariant in
    let is : byte ≡ (if has_bit moved i then get_or new i 0 else get_or bytes i 0) =
    elim c.if-moved-j-eq1.branch [
      | then-moved-j-eq1 w ↦ w.bytes-is ∙ sym (cond-true (has_bit moved i) (get_or new i 0) (get_or bytes i 0) (bit_is_one moved i (sym (shr_and_one moved i) ∙ w.if-moved-j-eq1.true)))
      | else-moved-j-eq1 w ↦ w.bytes-is ∙ sym (cond-false (has_bit moved i) (get_or new i 0) (get_or bytes i 0) (bit_is_none moved i (λ one. w.if-moved-j-eq1.false (shr_and_one moved i ∙ one))))
    ] in
    record {
      long = length-set bytes i byte ∙ loop.long;
      done = λ j below.
          elim (cases_eq j i) [
            | inl same ↦
                subst (λ j. get_or (set bytes i byte) j 0 ≡ (if has_bit moved j then get_or new j 0 else get_or old j 0)) (sym same)
                (get_or-set_same bytes i byte 0 (omega (arith, loop.long)) ∙ is ∙ ap (λ kept. cond (has_bit moved i) (get_or new i 0) kept) (loop.left i (omega arith)))
            | inr other ↦ get_or-set_other bytes i j byte 0 other ∙ loop.done j (omega arith)
          ];
      left = λ j from. get_or-set_other bytes i j byte 0 (omega arith) ∙ loop.left j (omega arith);
    }
