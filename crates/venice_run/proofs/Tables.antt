-- How a program's table of inputs is made, statement by statement.
use Rattle.std.proofs.Common.{◌≡◌, ℕ, ◌+◌, ◌<◌, ◌≤◌, List, ◌∷◌, ◌++◌, drop, length, get_or, sym, ap, ◌∙◌, append_assoc}
use Rattle.std.proofs.lemmas.List.{append-nil, drop_more, drop_all}
use Rattle.ven_base.specs.declared.entry.Entry.{Entry}
use Rattle.shape_check.specs.declared.checked.CheckedStmt.{CheckedStmt}
use Rattle.shape_check.specs.Checked.{program_of, statement_of}
use Rattle.expr_split.specs.DeclaredTable.{input_entry, input_table}

-- a turn of the loop over the statements, and its end
pub next_entry : (stmt : CheckedStmt) (before now all : List Entry) (stmts : List CheckedStmt) (j : ℕ) → stmt ≡ get_or stmts j stmt → j < length stmts
    → before ++ input_table (program_of (drop j stmts)) ≡ all → now ≡ before ++ input_entry (statement_of stmt) → now ++ input_table (program_of (drop (j + 1) stmts)) ≡ all
next_entry stmt before now all stmts j item lt so_far is =
    let rest = input_table (program_of (drop (j + 1) stmts)) in
    let cut : drop j stmts ≡ stmt ∷ drop (j + 1) stmts = drop_more stmts j stmt lt ∙ ap (λ (s : CheckedStmt). s ∷ drop (j + 1) stmts) (sym item) in
    ap (λ (t : List Entry). t ++ rest) is
    ∙ append_assoc before (input_entry (statement_of stmt)) rest
    ∙ ap (λ (s : List CheckedStmt). before ++ input_table (program_of s)) (sym cut)
    ∙ so_far

pub last_entry : (now all : List Entry) (stmts : List CheckedStmt) (j : ℕ) → length stmts ≤ j → now ++ input_table (program_of (drop j stmts)) ≡ all → now ≡ all
last_entry now all stmts j long is =
    sym (append-nil now) ∙ ap (λ (s : List CheckedStmt). now ++ input_table (program_of s)) (sym (drop_all j stmts long)) ∙ is
