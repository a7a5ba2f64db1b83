use Rattle.buffer_lifetimes.proofs.Lawful.{has_order}
use Rattle.buffer_lifetimes.proofs.Counts.{counts_steps}
use Rattle.buffer_lifetimes.proofs.Parts.{works_out_parts, ends_with_root, one_size_in_place}
use Rattle.buffer_lifetimes.proofs.Types.{parts_are_typed, parts_are_normal}
use Rattle.buffer_lifetimes.proofs.laws.order_laws.Goals as goal

pub returns : goal.returns
returns c = record { has = has_order; counts = counts_steps; parts = works_out_parts; typed = parts_are_typed; normal = parts_are_normal; ends = ends_with_root; sizes = one_size_in_place }
