use Rattle.std.proofs.Common.{◌≡◌, ◌∙◌, ap, sym, arith, length, Some}
use Rattle.std.specs.Prelude.{slice_set}
use Rattle.venice_asm.specs.Meaning.{number_for}
use Rattle.venice_asm.specs.Parts.{target_operand}
use Rattle.venice_asm.specs.Resolving.{with_reference}
use Rattle.venice_asm.proofs.Resolved.{one_more, names_more, number_names, item_there, given_there, given_past}
use Rattle.venice_asm.proofs.assembling.resolve.Goals.{then-place-instrs, else-place-instrs}
use Rattle.venice_asm.proofs.assembling.resolve.Goals as goal

pub loop-reference-preserved : goal.loop-reference-preserved
loop-reference-preserved c =
    let labels = c.args.labels.now.entries in
    let references = c.args.references.now in
    let k = c.loop-reference.reference-index in
    let reference = c.reference-item.result in
    let now = c.loop-reference.instrs in
    let old = c.args.instrs.now in
    let there = item_there references k reference reference c.loop-reference-test.true c.reference-item.is in
    let number : number_for labels (target_operand reference.target) ≡ Some c.in-Some.n = sym c.number_named.ensures ∙ c.in-Some.is in
    let same = c.loop-reference.invariant.same in
    let less = c.if-n-instrs.true in
    let next : c.if-place-instrs.instrs ≡ with_reference labels reference now = elim c.if-place-instrs.branch [
      | then-place-instrs w ↦ (let jump = w.index-instrs-place.result in w.instrs-is ∙ ap (slice_set now reference.instr) w.with_target.ensures ∙ sym (given_there labels reference c.in-Some.n now jump number (item_there now reference.instr jump jump w.if-place-instrs.true w.index-instrs-place.is)))
      | else-place-instrs w ↦ (w.instrs-is ∙ sym (given_past labels reference c.in-Some.n now number w.if-place-instrs.false))
    ] in
    record {
      all = names_more labels (length old) references k reference there c.loop-reference.invariant.all (number_names labels (length old) reference c.in-Some.n number (omega (arith, same, less)));
      is = next ∙ sym (one_more labels references k reference old now there c.loop-reference.invariant.is);
      same = c.if-place-instrs.auto.instrs ∙ same;
    }
