use Rattle.std.proofs.Common.{◌++◌, ap, ◌∙◌, rules, get_or}
use Rattle.std.specs.Prelude.{pos}
use Rattle.std.specs.Fmt.{signed_decimal}
use Rattle.std.specs.Int.{w64}
use Rattle.std.specs.Int.RustNames.{FitsSigned}
use Rattle.std.proofs.lemmas.Int.{to_z-of_z}
use Rattle.array_syntax.proofs.Lines.{number_put}
use Rattle.array_syntax.proofs.printing.print_numbers.Goals as goal
use Rattle.array_syntax.proofs.printing.print_numbers.Goals.{In_ok-print_number}

fits : (c : In_ok-print_number) → FitsSigned w64 (get_or c.args.numbers.now c.loop-n.n-index (pos 0))
fits c = search rules

pub loop-n-preserved : goal.loop-n-preserved
loop-n-preserved c =
    let n = get_or c.args.numbers.now c.loop-n.n-index (pos 0) in
    number_put c.args.text.now.items c.loop-n.text.items c.extend_from_slice.new.self.items c.print_number.new.text.items c.args.numbers.now c.loop-n.n-index (pos 0)
    c.loop-n-test.true c.loop-n.invariant c.in_ok-extend_from_slice.ensures.items
    (c.in_ok-print_number.ensures ∙ ap (λ z. c.extend_from_slice.new.self.items ++ signed_decimal z) (to_z-of_z w64 n (fits c)))
