use Rattle.array_meaning.specs.Store.{grids_of}
use Rattle.array_meaning.proofs.Statements.{operand_is_grid, operand_for}
use Rattle.array_meaning.proofs.outputs.array_of.Goals as goal

pub array_from-requires-clause-grid : goal.array_from-requires-clause-grid
array_from-requires-clause-grid c =
    operand_is_grid (grids_of c.args.arrays.now) c.args.stmt.now c.in-Some.value c.in_ok-operand-in-Some.operand c.requires.whole c.requires.ready c.in-Some.is c.in_ok-operand-in-Some.ensures

pub returns-in_ok-array_from-in-Some : goal.returns-in_ok-array_from-in-Some
returns-in_ok-array_from-in-Some c =
    operand_for c.args.inputs.now (grids_of c.args.arrays.now) c.args.stmt.now c.in-Some.value c.in_ok-operand-in-Some.operand c.in_ok-array_from-in-Some.field-0 c.requires.whole c.requires.ready c.in-Some.is c.in_ok-operand-in-Some.ensures c.in_ok-array_from-in-Some.ensures
