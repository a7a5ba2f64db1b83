use Rattle.shape_check.specs.Judge.{operand_of, type_beside, agree, two_of, array, chain}
use Rattle.shape_check.proofs.Arms.{exit_chain}
use Rattle.shape_check.proofs.rules.two.Goals as goal

pub returns-in_err-array_type : goal.returns-in_err-array_type
returns-in_err-array_type c =
    let left = operand_of c.args.left in
    let right = operand_of c.args.right in
    exit_chain operand_of (type_beside left right) (λ type. chain (agree c.args.at type left right) (λ both. array (two_of c.args.op type both))) c.from_residual.result c.in_err-array_type.field-0.0 c.from_residual.ensures.1 c.in_err-array_type.ensures
