-- Inner: the flags of a group's elements as bits, one for each of their bytes.
use Rattle.std.specs.Prelude.{◌≡◌, ℕ, ◌+◌, ◌*◌, ◌<◌, ◌≤◌, Bool, false}
use Rattle.ven_base.specs.declared.elem.Elem.{Elem}
use Rattle.ven_base.specs.Elem.{size_of}
use Rattle.spad_store.specs.Packed.{has_bit}

-- all bytes of an element have its flag, and there is none behind so many elements
pub record HasFlags (elem : Elem) (count : ℕ) (flag : ℕ → Bool) (bits : ℕ) : Type 0 where
  pub each : (k p : ℕ) → k < count → p < size_of elem → has_bit bits (k * size_of elem + p) ≡ flag k
  pub behind : (j : ℕ) → count * size_of elem ≤ j → has_bit bits j ≡ false
