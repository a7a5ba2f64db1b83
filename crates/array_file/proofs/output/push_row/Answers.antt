use Rattle.std.proofs.Common.{◌≡◌, ◌++◌, ℕ, List, ap, ◌∙◌, arith, rules, get_or}
use Rattle.std.specs.Prelude.{pos, ℤ}
use Rattle.std.specs.Fmt.{signed_decimal}
use Rattle.std.specs.Int.{w64, cast_signed, cast_unsigned}
use Rattle.std.specs.Int.RustNames.{FitsSigned}
use Rattle.std.proofs.lemmas.Int.{to_z-of_z}
use Rattle.array_file.proofs.Rows.{first_turn, later_turn}
use Rattle.array_file.proofs.output.push_row.Goals as goal
use Rattle.array_file.proofs.output.push_row.Goals.{then-j-gt0+in_ok-push, else-j-gt0, In_ok-extend_from_slice}

value_fits : (c : In_ok-extend_from_slice) → FitsSigned w64 (get_or c.args.row.now c.loop-j.j (pos 0))
value_fits c = search rules

pub loop-j-preserved : goal.loop-j-preserved
loop-j-preserved c =
    let value : ℤ = cast_signed w64 (cast_unsigned w64 (get_or c.args.row.now c.loop-j.j (pos 0))) in
    let value_is : value ≡ get_or c.args.row.now c.loop-j.j (pos 0) = to_z-of_z w64 (get_or c.args.row.now c.loop-j.j (pos 0)) (value_fits c) in
    let now : c.extend_from_slice.new.self.items ≡ c.if-j-gt0.text.items ++ signed_decimal value =
    c.in_ok-extend_from_slice.ensures.items ∙ ap (λ (t : List ℕ). c.if-j-gt0.text.items ++ t) (c.as_bytes.ensures.value ∙ c.format.ensures.text) in
    elim c.if-j-gt0.branch [
      | then-j-gt0+in_ok-push w ↦
          later_turn c.args.text.now.items c.loop-j.text.items c.if-j-gt0.text.items c.extend_from_slice.new.self.items c.args.row.now c.loop-j.j value
          w.if-j-gt0.true c.loop-j-test.true value_is c.loop-j.invariant (ap (λ v. v.items) w.text-is ∙ w.in_ok-push.ensures.items) now
      | else-j-gt0 w ↦
          first_turn c.args.text.now.items c.if-j-gt0.text.items c.extend_from_slice.new.self.items c.args.row.now c.loop-j.j value
          (omega arith) c.loop-j-test.true value_is (ap (λ v. v.items) w.text-is ∙ c.loop-j.invariant) now
    ]
