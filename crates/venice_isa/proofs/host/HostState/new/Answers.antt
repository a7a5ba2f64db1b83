use Rattle.venice_isa.proofs.HostSteps.{zeros}
use Rattle.venice_isa.proofs.host.HostState.new.Goals as goal

pub returns : goal.returns
returns c = λ i. record { register = λ r. zeros 32 r i; parameter = λ field. zeros 14 field i; tag = 0; place = 0 }
