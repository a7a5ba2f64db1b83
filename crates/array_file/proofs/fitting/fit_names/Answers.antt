use Rattle.std.proofs.Common.{◌≡◌, length, subst, sym, arith, ◌∙◌}
use Rattle.std.proofs.lemmas.List.{length-map}
use Rattle.ven_base.specs.Pairs.{names_of}
use Rattle.array_file.specs.Fitting.{ListsInput}
use Rattle.array_file.specs.Matching.{NamesUpTo}
use Rattle.array_file.proofs.Fittings.{extra_misfit, all_fit, more_names}
use Rattle.array_file.proofs.Functions.{test_false}
use Rattle.array_file.proofs.fitting.fit_names.Goals as goal

pub returns-then-not-has_input : goal.returns-then-not-has_input
returns-then-not-has_input c =
    extra_misfit c.args.arrays.now c.args.table.now c.loop-k.k c.name-name.result.now c.requires c.loop-k.invariant c.name-name.ensures
    (test_false c.has_input.result (ListsInput c.args.table.now c.name-name.result.now) c.has_input.ensures c.if-not-has_input.true)

pub returns : goal.returns
returns c =
    let all : c.loop-k.k ≡ length (names_of c.args.arrays.now) = omega (arith, length-map c.args.arrays.now (λ p. p.0), c.len-k-end.ensures.value) in
    all_fit c.args.arrays.now c.args.table.now c.requires (subst (NamesUpTo c.args.arrays.now c.args.table.now) all c.loop-k.invariant)
