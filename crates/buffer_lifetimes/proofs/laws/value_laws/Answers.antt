use Rattle.buffer_lifetimes.proofs.Values.{gives_values}
use Rattle.buffer_lifetimes.proofs.laws.value_laws.Goals as goal

pub returns : goal.returns
returns c = gives_values
