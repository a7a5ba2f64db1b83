-- A step of the host: what it is to the rest of the machine, and the host after it.
use Rattle.std.specs.Prelude.{ℕ, if◌then◌else◌, Bool, true, false, List, Option, Some, None}
use Rattle.venice_isa.specs.declared.instr.Instr.{Instr}
use Rattle.venice_isa.specs.declared.issue.Issue.{Issue}
use Rattle.venice_isa.specs.declared.issue.Issue.TheVariants.{Vector, Read, Write, TWait}
use Rattle.venice_isa.specs.declared.host.Deed.{Deed}
use Rattle.venice_isa.specs.declared.host.Deed.TheVariants.{Halts, Moves, Passes}
use Rattle.venice_isa.specs.Host.{Host, deed, next}
use Rattle.host_core.specs.declared.waiting.Waiting.{Waiting}
use Rattle.host_core.specs.declared.step.Step.{Step}
use Rattle.host_core.specs.declared.step.Step.TheVariants.{Issued, Moved, Waits, Halted}
use Rattle.host_core.specs.Pass.{lets_go_on}

-- a work is issued; a wait that is passed concerns the host alone
abbrev pub issued : Issue → Step
issued (Vector work) = Issued (Vector work)
issued (Read work) = Issued (Read work)
issued (Write work) = Issued (Write work)
issued _ = Moved

-- the step, where the host may go on
abbrev pub step_made : Deed → Step
step_made Halts = Halted
step_made Moves = Moved
step_made (Passes issue) = issued issue

-- the step, where so many works are unfinished
abbrev pub step_of : Waiting → Deed → Step
step_of waiting deed = if lets_go_on waiting deed then step_made deed else Waits

-- the host after it, which is the same where it waits, and at the end of the run
abbrev pub host_after : Waiting → List Instr → Host → Host
host_after waiting instrs host = if lets_go_on waiting (deed instrs host) then next instrs host else host

-- the tag that is waited for
abbrev pub wanted_of : Issue → Option ℕ
wanted_of (TWait tag) = Some tag
wanted_of _ = None

abbrev pub wanted_by : Deed → Option ℕ
wanted_by (Passes issue) = wanted_of issue
wanted_by _ = None

-- it concerns the host alone, which then waits for nothing
abbrev pub moves : Deed → Bool
moves Moves = true
moves _ = false
