-- The order of faults: which of several comes first.
use Rattle.std.specs.Prelude.{◌≡◌, ◌⊎◌, ℕ, ◌<◌, ◌≤◌}

-- the fault holds, and every other that holds has a greater place, or the same place and no lesser rank
pub record IsFirst {F : Type 0} (holds : F → Type 0) (place rank : F → ℕ) (fault : F) : Type 0 where
  pub here : holds fault
  pub first : (other : F) → holds other → (place fault < place other) ⊎ ((place fault ≡ place other) × (rank fault ≤ rank other))
