use Rattle.std.proofs.Common.{◌≡◌, [], sym, ap, ◌∙◌, subst, Ok, List}
use Rattle.array_syntax.specs.declared.program.Stmt.{Stmt}
use Rattle.shape_check.specs.Checked.{program_of}
use Rattle.shape_check.specs.Faults.{IsAnswered}
use Rattle.shape_check.specs.Judge.{judge_all, judge_end, Refuses}
use Rattle.shape_check.proofs.Arms.{refuses_chain}
use Rattle.shape_check.proofs.Programs.{AllJudged, all_judged}
use Rattle.shape_check.proofs.Kept.{keep_rules}
use Rattle.shape_check.proofs.Loops.{answered, exit_answered, ok_answered, err_answered}
use Rattle.shape_check.proofs.checking.check.Goals as goal

pub returns-in_err-stmts-clause-fault : goal.returns-in_err-stmts-clause-fault
returns-in_err-stmts-clause-fault c =
    let stmts = c.args.program.stmts in
    let fault = c.in_err-stmts.field-0.0 in
    let refused : Refuses (judge_all [] stmts) fault = subst (λ (all : List Stmt). Refuses (judge_all [] all) fault) c.as_slice.ensures c.in_err-stmts.ensures.verdict in
    exit_answered c.from_residual.result fault (IsAnswered stmts) c.from_residual.ensures.1 (answered stmts c.requires.each fault (refuses_chain (judge_all [] stmts) judge_end fault refused))

pub ending-requires : goal.ending-requires
ending-requires c =
    let stmts = c.args.program.stmts in
    let all = program_of c.in_ok-stmts.stmts.items in
    let passed : judge_all [] stmts ≡ Ok all = ap (judge_all []) (sym c.as_slice.ensures) ∙ c.in_ok-stmts.ensures.verdict in
    let judged = subst (AllJudged stmts) passed (all_judged stmts c.requires.each) in
    record { whole = c.in_ok-stmts.ensures.whole; program = keep_rules c.args.program all c.requires judged.typings }

pub returns-clause-ok : goal.returns-clause-ok
returns-clause-ok c =
    let stmts = c.args.program.stmts in
    let all = program_of c.in_ok-stmts.stmts.items in
    let passed : judge_all [] stmts ≡ Ok all = ap (judge_all []) (sym c.as_slice.ensures) ∙ c.in_ok-stmts.ensures.verdict in
    ok_answered stmts all c.ending.result c.requires.each passed c.ending.ensures

pub returns-clause-fault : goal.returns-clause-fault
returns-clause-fault c =
    let stmts = c.args.program.stmts in
    let all = program_of c.in_ok-stmts.stmts.items in
    let passed : judge_all [] stmts ≡ Ok all = ap (judge_all []) (sym c.as_slice.ensures) ∙ c.in_ok-stmts.ensures.verdict in
    err_answered stmts all c.ending.result c.requires.each passed c.ending.ensures
