-- Inner: which requests are of which command, and the words of numbers.
use Rattle.std.specs.Prelude.{◌≡◌, ℕ, List, decimal, Some, None}
use Rattle.venice_run.specs.declared.request.Request.{Request}
use Rattle.venice_run.specs.declared.request.Request.TheVariants.{Run, Build, Eval, Check, Explain, Exec, Asm, Disasm}
use Rattle.venice_run.specs.declared.request.Resources.{Resources}
use Rattle.venice_run.specs.Words.{AreInRange}

-- `run` without GRANTS, and with it
abbrev pub IsFreeRun : Request → Type 0
IsFreeRun (Run program inputs image lanes spad None) = Unit {0}
IsFreeRun _ = ⊥

abbrev pub IsGrantedRun : Request → Type 0
IsGrantedRun (Run program inputs image lanes spad (Some grants)) = Unit {0}
IsGrantedRun _ = ⊥

abbrev pub IsBuild : Request → Type 0
IsBuild (Build program image spad) = Unit {0}
IsBuild _ = ⊥

abbrev pub IsEval : Request → Type 0
IsEval (Eval program inputs) = Unit {0}
IsEval _ = ⊥

abbrev pub IsCheck : Request → Type 0
IsCheck (Check program spad) = Unit {0}
IsCheck _ = ⊥

abbrev pub IsExplain : Request → Type 0
IsExplain (Explain program) = Unit {0}
IsExplain _ = ⊥

-- `exec` without GRANTS, and with it
abbrev pub IsFreeExec : Request → Type 0
IsFreeExec (Exec image inputs resources None) = Unit {0}
IsFreeExec _ = ⊥

abbrev pub IsGrantedExec : Request → Type 0
IsGrantedExec (Exec image inputs resources (Some grants)) = Unit {0}
IsGrantedExec _ = ⊥

abbrev pub IsAsm : Request → Type 0
IsAsm (Asm text image) = Unit {0}
IsAsm _ = ⊥

abbrev pub IsDisasm : Request → Type 0
IsDisasm (Disasm image) = Unit {0}
IsDisasm _ = ⊥

-- the three words spell what a run may use
pub record SpellResources (lanes spad budget : List ℕ) (resources : Resources) : Type 0 where
  pub in_range : AreInRange resources
  pub lanes_are : lanes ≡ decimal resources.lanes
  pub spad_is : spad ≡ decimal resources.spad
  pub budget_is : budget ≡ decimal resources.budget
