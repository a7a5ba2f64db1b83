-- The plan of a program: its split into passes, and whether a scratchpad holds what they need.
use Rattle.std.specs.Prelude.{◌≡◌, ℕ, ◌<◌, ◌≤◌, List, Result, Ok, Err}
use Rattle.ven_io.specs.Files.{Behaviour}
use Rattle.shape_check.specs.Statement.{Statement}
use Rattle.pass_plan.specs.Need.{need_of}
use Rattle.pass_plan.specs.Normal.{IsNormal}
use Rattle.pass_plan.specs.Pass.{Pass, node_limit}
use Rattle.pass_plan.specs.Sound.{Split}
use Rattle.pass_plan.specs.Tree.{nodes_of}
use Rattle.expr_split.specs.Places.{IsSplitOf}
use Rattle.venice_run.specs.declared.ending.Ending.TheVariants.{Refused}
use Rattle.venice_run.specs.declared.refusal.Refusal.TheVariants.{Scratchpad}
use Rattle.venice_run.specs.declared.refusal.Shortage.{Shortage}
use Rattle.venice_run.specs.Programs.{program_under}
use Rattle.venice_run.specs.Stage.{Stage, ◌>>=◌, ◌>>◌, step, gives}

-- the program's split
abbrev pub splits : List Statement → Stage Split
splits program = gives (IsSplitOf program)

-- Inner: the pass has a tree that has an order
pub record IsOrdered (pass : Pass) : Type 0 where
  pub normal : IsNormal pass.tree
  pub few_nodes : nodes_of pass.tree ≤ node_limit

-- the scratchpad holds so many bytes
abbrev pub HasRoom : ℕ → ℕ → Result (Unit {0}) Shortage → Type 0
HasRoom need spad (Ok _) = need ≤ spad
HasRoom need spad (Err shortage) = (spad < need) × (shortage ≡ record { need = need; have = spad })

abbrev pub has_room : ℕ → ℕ → Stage (Unit {0})
has_room need spad = step (λ shortage. Refused (Scratchpad shortage)) (HasRoom need spad)

-- ---- planned programs

-- a checked program and its split
pub record Planned : Type 0 where
  pub program : List Statement
  pub split : Split

-- this program's, where the scratchpad holds its need
unfoldable pub plan_of : List Statement → ℕ → Stage Planned
plan_of program spad = do
  split ← splits program
  has_room (need_of split.passes) spad
  gives (λ planned. planned ≡ record { program = program; split = split })

-- that of the program under the name
unfoldable pub plan_under : Behaviour → (program : List ℕ) → ℕ → Stage Planned
plan_under files program spad = do
  checked ← program_under files program
  plan_of checked spad
