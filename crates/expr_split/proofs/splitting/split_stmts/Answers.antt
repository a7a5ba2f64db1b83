use Rattle.std.proofs.Common.{◌≡◌, ◌++◌, ◌≤◌, All, arith, rules, subst, sym, ap, ◌∙◌, List, length, map}
use Rattle.ven_base.specs.Limits.{memory_limit}
use Rattle.std.proofs.lemmas.List.{length-map}
use Rattle.shape_check.specs.declared.typed.ArrayType.{ArrayType}
use Rattle.shape_check.specs.Checked.{program_of}
use Rattle.expr_split.specs.Cuts.{Draft}
use Rattle.expr_split.specs.Terms.{plain_draft}
use Rattle.expr_split.specs.Places.{input_types as types_of_inputs}
use Rattle.expr_split.specs.Places.{draft_type as type_of_draft}
use Rattle.expr_split.specs.Places.{plan_of, end_from, array_types}
use Rattle.expr_split.specs.Placing.{IsSmallDraft}
use Rattle.expr_split.proofs.Totals.{few-passes, few-inputs, memory-few, small-trees}
use Rattle.expr_split.proofs.splitting.split_stmts.Goals as goal

pub overflow_cast-inputs : goal.overflow_cast-inputs
overflow_cast-inputs c =
    let counted : c.len-inputs.result ≡ length (types_of_inputs (program_of c.args.stmts.now)) = search rules in
    record { fits = omega (arith, few-inputs (program_of c.args.stmts.now) c.requires.program) }

pub plan_program-requires-clause-few : goal.plan_program-requires-clause-few
plan_program-requires-clause-few c =
    let counted : c.len-inputs.result ≡ length (types_of_inputs (program_of c.args.stmts.now)) = search rules in
    omega (arith, few-inputs (program_of c.args.stmts.now) c.requires.program, c.requires.program.limits.nodes)

pub number_passes-requires-clause-small : goal.number_passes-requires-clause-small
number_passes-requires-clause-small c =
    let program = program_of c.args.stmts.now in
    let same : (plan_of program).passes ≡ map plain_draft c.deref.result.now = sym c.in_ok-planned.ensures.passes ∙ ap (map plain_draft) (sym c.deref.ensures.value) in
    subst (All IsSmallDraft) same (λ k d low. omega (arith, small-trees program c.requires.program k d low))

pub number_passes-requires-clause-few : goal.number_passes-requires-clause-few
number_passes-requires-clause-few c =
    let program = program_of c.args.stmts.now in
    let same : (plan_of program).passes ≡ map plain_draft c.deref.result.now = sym c.in_ok-planned.ensures.passes ∙ ap (map plain_draft) (sym c.deref.ensures.value) in
    let counted : c.len-inputs.result ≡ length (types_of_inputs program) = search rules in
    let many = ap length same ∙ length-map c.deref.result.now plain_draft in
    omega (arith, few-inputs program c.requires.program, few-passes program c.requires.program)

pub place_all-requires : goal.place_all-requires
place_all-requires c =
    let program = program_of c.args.stmts.now in
    let all : c.deref-3.result.now ≡ array_types program =
    c.deref-3.ensures.value ∙ c.in_ok-push_draft_types.ensures
    ∙ (λ i. c.in_ok-types.ensures i ++ map type_of_draft (map plain_draft (c.deref-2.ensures.value i)))
    ∙ ap (λ (ds : List Draft). types_of_inputs program ++ map type_of_draft ds) c.in_ok-planned.ensures.passes in
    subst (λ (types : List ArrayType). end_from 0 types ≤ memory_limit) (sym all) (memory-few program c.requires.program)
