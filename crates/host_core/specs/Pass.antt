-- Whether the host may go on, by the numbers of unfinished works.
use Rattle.std.specs.Prelude.{nat_lt, nat_le, ◌==◌, ◌&&◌, Bool, true}
use Rattle.venice_isa.specs.Limits.{vector_places, transfer_places}
use Rattle.venice_isa.specs.declared.issue.Issue.{Issue}
use Rattle.venice_isa.specs.declared.issue.Issue.TheVariants.{Vector, Read, Write, RWait, WWait, VWait, TWait}
use Rattle.venice_isa.specs.declared.host.Deed.{Deed}
use Rattle.venice_isa.specs.declared.host.Deed.TheVariants.{Halts, Moves, Passes}
use Rattle.host_core.specs.declared.waiting.Waiting.{Waiting}

-- an issue needs a place in its queue, and a wait its condition
abbrev pub may_pass : Waiting → Issue → Bool
may_pass waiting (Vector work) = nat_lt waiting.vector vector_places
may_pass waiting (Read work) = nat_lt waiting.read transfer_places
may_pass waiting (Write work) = nat_lt waiting.write transfer_places
may_pass waiting (RWait most) = nat_le waiting.read most
may_pass waiting (WWait most) = nat_le waiting.write most
may_pass waiting VWait = waiting.vector == 0
may_pass waiting (TWait tag) = waiting.tagged == 0

-- the end of the run needs that nothing is unfinished; what concerns the host alone needs nothing
abbrev pub may_go_on : (idle : Bool) → Waiting → Deed → Bool
may_go_on idle waiting Halts = idle
may_go_on idle waiting Moves = true
may_go_on idle waiting (Passes issue) = may_pass waiting issue

-- nothing is unfinished
abbrev pub is_idle : Waiting → Bool
is_idle waiting = (waiting.vector == 0) && (waiting.read == 0) && (waiting.write == 0)

-- whether the host may go on by these numbers alone
abbrev pub lets_go_on : Waiting → Deed → Bool
lets_go_on waiting deed = may_go_on (is_idle waiting) waiting deed
