-- Inner: what the code of the split asks of drafts and statements.
use Rattle.std.specs.Prelude.{◌≤◌, Bool, true, false}
use Rattle.shape_check.specs.Statement.{Statement, Input, Let, Output}
use Rattle.pass_plan.specs.Tree.{nodes_of}
use Rattle.expr_split.specs.Cuts.{Draft}

-- a draft of few nodes
abbrev pub IsSmallDraft : Draft → Type 0
IsSmallDraft d = nodes_of d.tree ≤ 8192

abbrev pub has_input : Statement → Bool
has_input (Input name elem shape) = true
has_input (Let name value) = false
has_input (Output name value) = false
