-- What the loops over statements keep, and what the checker answers in the end.
use Rattle.std.proofs.Common.{◌≡◌, ℕ, ◌+◌, ◌<◌, List, [], ◌∷◌, ◌++◌, length, drop, get_or, refl, sym, ap, ◌∙◌, subst, None, Some, Ok, Err, Option}
use Rattle.std.specs.Prelude.{Result, All, IfOk, IfErr, IsErrAnd, ◌||◌}
use Rattle.std.specs.List.{list_any}
use Rattle.std.proofs.lemmas.List.{drop_more}
use Rattle.ven_base.specs.declared.elem.Elem.{Elem}
use Rattle.ven_base.specs.Extent.{Extent}
use Rattle.array_syntax.specs.Limits.{KeepsStatement}
use Rattle.array_syntax.specs.declared.program.Stmt.{Stmt}
use Rattle.shape_check.specs.declared.typed.Typed.{Typed}
use Rattle.shape_check.specs.declared.checked.StmtKind.{StmtKind}
use Rattle.shape_check.specs.declared.checked.StmtKind.TheVariants as kinds
use Rattle.shape_check.specs.declared.checked.CheckedStmt.{CheckedStmt}
use Rattle.shape_check.specs.declared.fault.CheckFault.{CheckFault}
use Rattle.shape_check.specs.declared.fault.CheckFault.TheVariants.{Memory}
use Rattle.shape_check.specs.Statement.{Statement, name_of, is_output}
use Rattle.shape_check.specs.Scope.{Scope, scope_of}
use Rattle.shape_check.specs.Checked.{statement_with, statement_of, program_of}
use Rattle.shape_check.specs.Typing.{IsProgramTyping}
use Rattle.shape_check.specs.Faults.{IsAnswered}
use Rattle.shape_check.specs.Judge.{chain, judge_statement, judge_all, judge_end, judge_program, Refuses, Answers}
use Rattle.shape_check.proofs.Programs.{ProgramJudged, program_judged}

pub any_statement : (xs : List CheckedStmt) → list_any is_output (program_of xs) ≡ list_any (λ s. is_output (statement_of s)) xs
any_statement [] = refl
any_statement (x ∷ xs) = ap (λ b. is_output (statement_of x) || b) (any_statement xs)

pub name_with : (kind : StmtKind) (name : List ℕ) (elem : Elem) (shape : Extent) (value : Option Typed) → name_of (statement_with kind name elem shape value) ≡ name
name_with kinds.Input name elem shape None = refl
name_with kinds.Input name elem shape (Some value) = refl
name_with kinds.Let name elem shape None = refl
name_with kinds.Let name elem shape (Some value) = refl
name_with kinds.Output name elem shape None = refl
name_with kinds.Output name elem shape (Some value) = refl

-- the verdict on the rest is that on its first statement, and on what is left
pub step_verdict : (stmts : List Stmt) (earlier : List Statement) (i : ℕ) (stmt : Stmt) (names : Scope) → i < length stmts → stmt ≡ get_or stmts i stmt → judge_all [] stmts ≡ judge_all earlier (drop i stmts) → names ≡ scope_of earlier
    → judge_all [] stmts ≡ chain (judge_statement names stmt) (λ s. judge_all (earlier ++ s ∷ []) (drop (i + 1) stmts))
step_verdict stmts earlier i stmt names below is so_far same =
    let rest : drop i stmts ≡ stmt ∷ drop (i + 1) stmts = drop_more stmts i stmt below ∙ ap (λ s. s ∷ drop (i + 1) stmts) (sym is) in
    so_far ∙ ap (judge_all earlier) rest ∙ ap (λ n. chain (judge_statement n stmt) (λ s. judge_all (earlier ++ s ∷ []) (drop (i + 1) stmts))) (sym same)

pub push_verdict : (stmts : List Stmt) (earlier after : List Statement) (i : ℕ) (stmt : Stmt) (s : Statement) (names : Scope) → judge_all [] stmts ≡ chain (judge_statement names stmt) (λ t. judge_all (earlier ++ t ∷ []) (drop (i + 1) stmts))
    → judge_statement names stmt ≡ Ok s → after ≡ earlier ++ s ∷ [] → judge_all [] stmts ≡ judge_all after (drop (i + 1) stmts)
push_verdict stmts earlier after i stmt s names so_far h is =
    so_far ∙ ap (λ v. chain v (λ t. judge_all (earlier ++ t ∷ []) (drop (i + 1) stmts))) h ∙ ap (λ all. judge_all all (drop (i + 1) stmts)) (sym is)

-- ---- the answer

pub answered : (stmts : List Stmt) → All KeepsStatement stmts → (fault : CheckFault) → Refuses (judge_program stmts) fault → IsAnswered stmts fault
answered stmts keeps Memory h = tt
answered stmts keeps fault h = subst (ProgramJudged stmts) h (program_judged stmts keeps)

pub exit_answered : {A : Type 0} (r : Result A CheckFault) (fault : CheckFault) (P : CheckFault → Type 0) → IsErrAnd r (λ y. y ≡ fault) → P fault → IfErr r P
exit_answered (Ok x) fault P h l = absurd h
exit_answered (Err y) fault P h l = subst P (sym h) l

pub ok_answered : (stmts : List Stmt) (c : List Statement) (r : Result (List CheckedStmt) CheckFault) → All KeepsStatement stmts → judge_all [] stmts ≡ Ok c → Answers program_of (judge_end c) r → IfOk r (λ checked. IsProgramTyping stmts (program_of checked))
ok_answered stmts c (Err f) keeps h l = tt
ok_answered stmts c (Ok x) keeps h l = subst (ProgramJudged stmts) (ap (λ v. chain v judge_end) h ∙ l) (program_judged stmts keeps)

same_refusal : (v w : Result (List Statement) CheckFault) (fault : CheckFault) → v ≡ w → Refuses w fault → Refuses v fault
same_refusal v w fault is h = subst (λ (u : Result (List Statement) CheckFault). Refuses u fault) (sym is) h

pub err_answered : (stmts : List Stmt) (c : List Statement) (r : Result (List CheckedStmt) CheckFault) → All KeepsStatement stmts → judge_all [] stmts ≡ Ok c → Answers program_of (judge_end c) r → IfErr r (IsAnswered stmts)
err_answered stmts c (Ok x) keeps h l = tt
err_answered stmts c (Err f) keeps h l = answered stmts keeps f (same_refusal (judge_program stmts) (judge_end c) f (ap (λ v. chain v judge_end) h) l)
