use Rattle.std.proofs.Common.{◌≡◌, ◌++◌, ◌∙◌, sym, ap, subst, take, arith}
use Rattle.std.proofs.lemmas.List.{take_all}
use Rattle.array_file.specs.Faults.{DenotesArrays}
use Rattle.array_file.specs.Output.{array_text, arrays_text}
use Rattle.array_file.proofs.Rows.{next_text}
use Rattle.array_file.proofs.Spelled.{text_denotes}
use Rattle.array_file.proofs.output.write_arrays.Goals as goal

pub loop-k-preserved : goal.loop-k-preserved
loop-k-preserved c =
    c.in_ok-push_array.ensures ∙ ap (λ t. t ++ array_text c.name.result.now c.array.result.now) c.loop-k.invariant
    ∙ sym (next_text c.args.arrays.now c.loop-k.k c.name.result.now c.array.result.now c.name.ensures c.array.ensures)

pub returns-clause-denotes : goal.returns-clause-denotes
returns-clause-denotes c =
    let arrays = c.args.arrays.now in
    let all : take c.loop-k.k arrays ≡ arrays = take_all c.loop-k.k arrays (omega (arith, c.len-k-end.ensures.value)) in
    let is : c.loop-k.text.items ≡ arrays_text arrays = c.loop-k.invariant ∙ ap arrays_text all in
    subst (λ t. DenotesArrays t arrays) (sym is) (text_denotes arrays c.len-k-end.ensures.pairs)
