use Rattle.std.proofs.Common.{◌∙◌, ap, refl, subst}
use Rattle.ven_base.specs.Pairs.{ArePairs}
use Rattle.shape_check.specs.Checked.{program_of}
use Rattle.expr_split.specs.DeclaredTable.{input_table}
use Rattle.venice_run.proofs.inputs.fit_inputs.Goals as goal

pub returns-in-Ok-clause-fitted : goal.returns-in-Ok-clause-fitted
returns-in-Ok-clause-fitted c =
    let table = c.deref.ensures.value ∙ c.in_ok-table.ensures ∙ ap (λ stmts. input_table (program_of stmts)) (c.as_slice.ensures.value ∙ c.program.view_is) in
    (refl, rw table at c.in-Ok.ensures)

pub returns-in-Ok-clause-fits : goal.returns-in-Ok-clause-fits
returns-in-Ok-clause-fits c =
    let table = c.deref.ensures.value ∙ c.in_ok-table.ensures ∙ ap (λ stmts. input_table (program_of stmts)) (c.as_slice.ensures.value ∙ c.program.view_is) in
    rw table at c.in-Ok.ensures

pub returns-in-Ok-clause-inputs : goal.returns-in-Ok-clause-inputs
returns-in-Ok-clause-inputs c =
    let table = c.deref.ensures.value ∙ c.in_ok-table.ensures ∙ ap (λ stmts. input_table (program_of stmts)) (c.as_slice.ensures.value ∙ c.program.view_is) in
    c.table_fits.ensures.inputs _ _ (subst ArePairs c.arrays.view_is c.arrays.invariant) (rw table at c.in-Ok.ensures)

pub returns-in-Ok-clause-pairs : goal.returns-in-Ok-clause-pairs
returns-in-Ok-clause-pairs c = subst ArePairs c.arrays.view_is c.arrays.invariant
