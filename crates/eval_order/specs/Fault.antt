-- What the answers of `held` say.
use Rattle.std.specs.Prelude.{◌≡◌, ℕ, ◌<◌, ◌≤◌, List, length, get_or}
use Rattle.eval_order.specs.declared.fault.HeldFault.{HeldFault}
use Rattle.eval_order.specs.declared.fault.HeldFault.TheVariants.{NotAnOrder, Memory}
use Rattle.eval_order.specs.Order.{Tree, IsFault}

-- the fault names the first place at which the list is no order
abbrev pub IsHeldFault : Tree → List ℕ → HeldFault → Type 0
IsHeldFault tree order (NotAnOrder at) = IsFault tree order at
IsHeldFault tree order Memory = Unit {0}

-- one of the numbers is at least this
abbrev pub SomeIsAtLeast : ℕ → List ℕ → Type 0
SomeIsAtLeast n xs = (t : ℕ) × (t < length xs) × (n ≤ get_or xs t 0)

-- the greatest of the numbers
pub record IsGreatest (n : ℕ) (xs : List ℕ) : Type 0 where
  pub most : (t : ℕ) → t < length xs → get_or xs t 0 ≤ n
  pub one : (t : ℕ) × (t < length xs) × (get_or xs t 0 ≡ n)
