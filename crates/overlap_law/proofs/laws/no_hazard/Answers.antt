use Rattle.overlap_law.proofs.InFlight.{in_flight_until_ended}
use Rattle.overlap_law.proofs.EveryRun.{no_hazard, disciplined_runs_halt}
use Rattle.overlap_law.proofs.laws.no_hazard.Goals as goal

pub returns-clause-none : goal.returns-clause-none
returns-clause-none c = no_hazard

pub returns-clause-halts : goal.returns-clause-halts
returns-clause-halts c = disciplined_runs_halt

pub returns-clause-in_flight : goal.returns-clause-in_flight
returns-clause-in_flight c = in_flight_until_ended
