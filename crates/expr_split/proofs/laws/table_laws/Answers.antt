use Rattle.expr_split.proofs.TableArrays.{tables_declared, entries_are_arrays, sources_are_inputs, outputs_are_left}
use Rattle.expr_split.proofs.laws.table_laws.Goals as goal

pub returns : goal.returns
returns c = record {
  declared = tables_declared;
  arrays = entries_are_arrays;
  sources = sources_are_inputs;
  outputs = outputs_are_left;
}
