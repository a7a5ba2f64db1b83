-- Inner: what holds of statements that keep their own rules, before the rules of the whole program are looked at.
use Rattle.std.specs.Prelude.{◌≢◌, ℕ, List, [], All}
use Rattle.std.specs.List.{AllPairs}
use Rattle.array_syntax.specs.Limits.{IsFreeName}
use Rattle.shape_check.specs.declared.checked.StmtKind.{StmtKind}
use Rattle.shape_check.specs.declared.checked.StmtKind.TheVariants as kinds
use Rattle.shape_check.specs.declared.checked.CheckedStmt.{CheckedStmt}
use Rattle.shape_check.specs.Node.{Node}
use Rattle.shape_check.specs.Statement.{Statement, Let, Output, names_of}
use Rattle.shape_check.specs.Rules.{AreTyped}
use Rattle.shape_check.specs.Checked.{program_of, IsWhole, IsWithinLimits}

pub record KeepRules (program : List Statement) : Type 0 where
  pub limits : IsWithinLimits program
  pub named : All IsFreeName (names_of program)
  pub distinct : AllPairs (λ a b. a ≢ b) (names_of program)
  pub typed : AreTyped [] program

pub record AreTypedStmts (stmts : List CheckedStmt) : Type 0 where
  pub whole : All IsWhole stmts
  pub program : KeepRules (program_of stmts)

-- the statement that an expression is the value of
abbrev pub valued : StmtKind → List ℕ → Node → Statement
valued kinds.Output name e = Output name e
valued kind name e = Let name e
