use Rattle.std.proofs.Common.{◌≡◌, ◌+◌, ◌-◌, length}
use Rattle.std.specs.Prelude.{ℕ, List}
use Rattle.venice_isa.specs.Cell.{overwritten}
use Rattle.venice_isa.specs.Element.{low_bytes}
use Rattle.venice_machine.proofs.arrays.put_low.Given as goal

-- what is left to put
pub record IsLeft (place count number k rest : ℕ) (before memory : List ℕ) : Type 0 where
  pub same : length memory ≡ length before
  pub left : overwritten memory (place + k) (low_bytes (count - k) rest) ≡ overwritten before place (low_bytes count number)

abbrev pub invariant-loop-k : goal.invariant-loop-k
invariant-loop-k l = IsLeft l.place l.count l.number l.k l.rest l.fn.memory l.memory
