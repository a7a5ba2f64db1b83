-- Inner: the elements of a group, which stands at the beginning of 16 bytes.
use Rattle.std.specs.Prelude.{◌≡◌, ℕ, zero, suc, ◌*◌, ◌<◌, max, ℤ, pos, ◌+ℤ◌, List, length}
use Rattle.ven_base.specs.declared.elem.Elem.{Elem}
use Rattle.ven_base.specs.Elem.{size_of}
use Rattle.venice_isa.specs.Cell.{part}
use Rattle.venice_isa.specs.Element.{number_of, bytes_of}

-- the bytes of element k
abbrev pub element_bytes : Elem → List ℕ → ℕ → List ℕ
element_bytes elem bytes k = part bytes (k * size_of elem) (size_of elem)

-- its number
abbrev pub element_in : Elem → List ℕ → ℕ → ℤ
element_in elem bytes k = number_of elem (element_bytes elem bytes k)

-- the size of the wider of two types
abbrev pub wider : Elem → Elem → ℕ
wider elem from = max (size_of elem) (size_of from)

-- so many first elements are these numbers
pub record HasNumbers (elem : Elem) (count : ℕ) (number : ℕ → ℤ) (bytes : List ℕ) : Type 0 where
  pub long : length bytes ≡ 16
  pub each : (k : ℕ) → k < count → element_in elem bytes k ≡ number k

-- so many first elements are spelled as these numbers are
pub record HasSpelled (elem : Elem) (count : ℕ) (number : ℕ → ℤ) (bytes : List ℕ) : Type 0 where
  pub long : length bytes ≡ 16
  pub each : (k : ℕ) → k < count → element_bytes elem bytes k ≡ bytes_of elem (number k)

-- the sum of so many first elements
abbrev pub sum_of_elements : Elem → List ℕ → ℕ → ℤ
sum_of_elements elem bytes zero = pos 0
sum_of_elements elem bytes (suc count) = sum_of_elements elem bytes count +ℤ element_in elem bytes count
