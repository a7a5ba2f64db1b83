use Rattle.std.proofs.Common.{arith}
use Rattle.venice_run.proofs.Requests.{is_read, not_refused, not_plain}
use Rattle.venice_run.proofs.request.long_number_up_to.Goals as goal

pub returns-in_default : goal.returns-in_default
returns-in_default c = λ n in_range is.
    let m = is_read c.args.text.now c.args.most n c.in-Ok.number c.parse.result (omega arith) in_range.1 is c.parse.ensures.value.0 c.in-Ok.is in
    not_plain c.args.text.now c.in-Ok.number n c.is_plain.result m is c.if-is_plain.false c.is_plain.ensures.1

pub returns-in_default-2 : goal.returns-in_default-2
returns-in_default-2 c = λ n in_range is.
    omega (arith, in_range.0, in_range.1, is_read c.args.text.now c.args.most n c.in-Ok.number c.parse.result (omega arith) in_range.1 is c.parse.ensures.value.0 c.in-Ok.is)

pub returns-in_default-3 : goal.returns-in_default-3
returns-in_default-3 c = λ n in_range is.
    omega (arith, in_range.0, in_range.1, is_read c.args.text.now c.args.most n c.in-Ok.number c.parse.result (omega arith) in_range.1 is c.parse.ensures.value.0 c.in-Ok.is)

pub returns-in_default-4 : goal.returns-in_default-4
returns-in_default-4 c = λ n in_range is.
    not_refused c.args.text.now c.args.most n c.in_default.field-0 c.parse.result (omega arith) in_range.1 is c.parse.ensures.value.0 c.in_default.is
