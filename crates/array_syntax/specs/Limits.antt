-- The limits on programs.
use Rattle.std.specs.Prelude.{ℕ, ℤ, pos, ◌+◌, ◌≤◌, ◌≤ℤ◌, neg_ℤ, max, List, [], ◌∷◌, length, Contains, codes}
use Rattle.std.specs.List.{All}
use Rattle.ven_base.specs.Name.{IsName}
use Rattle.ven_io.specs.Number.{number_limit}
use Rattle.array_syntax.specs.Tree.{Tree, Name, Literal, One, Two, Cast, Select, Shift, Rotate, Section, Stretch, Transpose, RowFold, Fold, tree_of}
use Rattle.array_syntax.specs.declared.program.Program.{Program}
use Rattle.array_syntax.specs.declared.program.Stmt.{Stmt}
use Rattle.array_syntax.specs.declared.program.Stmt.TheVariants as stmts

-- the most statements of a program
abbrev pub most_statements : ℕ
most_statements = 256

-- the most nodes of a program
abbrev pub most_nodes : ℕ
most_nodes = 4096

-- the greatest height of an expression, and the most brackets and prefix signs that may be open at once
abbrev pub most_height : ℕ
most_height = 64

-- the functions that only this language keeps: elsewhere they are names
abbrev pub own_words : List (List ℕ)
own_words = codes "transpose" ∷ codes "sadd" ∷ codes "ssub" ∷ []

-- a name that a program may give
pub record IsFreeName (bytes : List ℕ) : Type 0 where
  pub name : IsName bytes
  pub free : ¬ Contains own_words bytes

-- a number that a program may write without a sign
pub record IsNumber (n : ℤ) : Type 0 where
  pub least : pos 0 ≤ℤ n
  pub greatest : n ≤ℤ pos number_limit

-- a number that a program may write with a sign or without
pub record IsSigned (n : ℤ) : Type 0 where
  pub least : neg_ℤ (pos number_limit) ≤ℤ n
  pub greatest : n ≤ℤ pos number_limit

-- the number of nodes
abbrev pub nodes : Tree → ℕ
nodes (Name at name) = 1
nodes (Literal at n) = 1
nodes (One at op a) = nodes a + 1
nodes (Two at op a b) = nodes a + nodes b + 1
nodes (Cast at elem a) = nodes a + 1
nodes (Select at c a b) = nodes c + nodes a + nodes b + 1
nodes (Shift at a dr dc fill fill_at) = nodes a + 1
nodes (Rotate at a dr dc) = nodes a + 1
nodes (Section at a r0 nr sr c0 nc sc) = nodes a + 1
nodes (Stretch at a kr kc) = nodes a + 1
nodes (Transpose at a) = nodes a + 1
nodes (RowFold at op a) = nodes a + 1
nodes (Fold at op a) = nodes a + 1

-- the height: that of the highest operand and one more
abbrev pub height : Tree → ℕ
height (Name at name) = 1
height (Literal at n) = 1
height (One at op a) = height a + 1
height (Two at op a b) = max (height a) (height b) + 1
height (Cast at elem a) = height a + 1
height (Select at c a b) = max (height c) (max (height a) (height b)) + 1
height (Shift at a dr dc fill fill_at) = height a + 1
height (Rotate at a dr dc) = height a + 1
height (Section at a r0 nr sr c0 nc sc) = height a + 1
height (Stretch at a kr kc) = height a + 1
height (Transpose at a) = height a + 1
height (RowFold at op a) = height a + 1
height (Fold at op a) = height a + 1

-- the names are free, and the numbers can be written, with a sign only in a literal, a shift and a rotation
abbrev pub IsWritable : Tree → Type 0
IsWritable (Name at name) = IsFreeName name
IsWritable (Literal at n) = IsSigned n
IsWritable (One at op a) = IsWritable a
IsWritable (Two at op a b) = IsWritable a × IsWritable b
IsWritable (Cast at elem a) = IsWritable a
IsWritable (Select at c a b) = IsWritable c × IsWritable a × IsWritable b
IsWritable (Shift at a dr dc fill fill_at) = IsWritable a × IsSigned dr × IsSigned dc × IsSigned fill
IsWritable (Rotate at a dr dc) = IsWritable a × IsSigned dr × IsSigned dc
IsWritable (Section at a r0 nr sr c0 nc sc) =
    IsWritable a × IsNumber r0 × IsNumber nr × IsNumber sr × IsNumber c0 × IsNumber nc × IsNumber sc
IsWritable (Stretch at a kr kc) = IsWritable a × IsNumber kr × IsNumber kc
IsWritable (Transpose at a) = IsWritable a
IsWritable (RowFold at op a) = IsWritable a
IsWritable (Fold at op a) = IsWritable a

-- an expression that keeps the limits on expressions
pub record KeepsHeight (tree : Tree) : Type 0 where
  pub writable : IsWritable tree
  pub low : height tree ≤ most_height

-- a statement that does
abbrev pub KeepsStatement : Stmt → Type 0
KeepsStatement (stmts.Input name at elem rows cols shape_at) = IsFreeName name × IsNumber rows × IsNumber cols
KeepsStatement (stmts.Let name at value) = IsFreeName name × KeepsHeight (tree_of value)
KeepsStatement (stmts.Output name at value) = IsFreeName name × KeepsHeight (tree_of value)

-- the nodes of a statement's expression
abbrev pub nodes_of : Stmt → ℕ
nodes_of (stmts.Input name at elem rows cols shape_at) = 0
nodes_of (stmts.Let name at value) = nodes (tree_of value)
nodes_of (stmts.Output name at value) = nodes (tree_of value)

-- the nodes of all statements
abbrev pub program_nodes : List Stmt → ℕ
program_nodes [] = 0
program_nodes (stmt ∷ rest) = nodes_of stmt + program_nodes rest

-- a program keeps the language's limits
pub record KeepsLimits (program : Program) : Type 0 where
  pub statements : length program.stmts ≤ most_statements
  pub nodes : program_nodes program.stmts ≤ most_nodes
  pub each : All KeepsStatement program.stmts
