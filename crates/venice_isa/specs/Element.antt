-- How bytes spell the numbers of an element type: little-endian, and in two's complement.
use Rattle.std.specs.Prelude.{ℕ, zero, suc, ◌+◌, ◌*◌, ◌/◌, ◌%◌, ℤ, pos, List, [], ◌∷◌, map, Bool}
use Rattle.ven_base.specs.declared.elem.Elem.{Elem}
use Rattle.ven_base.specs.Elem.{size_of}
use Rattle.ven_base.specs.Operation.{bits_of}
use Rattle.ven_base.specs.Wrap.{wrapped}
use Rattle.ven_base.specs.Cell.{Cell}
use Rattle.venice_isa.specs.Cell.{byte_of, part}

-- the number that bytes spell, the lowest byte first
abbrev pub little_endian : List ℕ → ℕ
little_endian [] = 0
little_endian (byte ∷ bytes) = byte + 256 * little_endian bytes

-- so many bytes of a number, the lowest first
abbrev pub low_bytes : ℕ → ℕ → List ℕ
low_bytes zero n = []
low_bytes (suc count) n = n % 256 ∷ low_bytes count (n / 256)

-- the bytes of a number of the type
abbrev pub bytes_of : Elem → ℤ → List ℕ
bytes_of elem n = low_bytes (size_of elem) (bits_of elem n)

-- the number of the type that bytes spell
abbrev pub number_of : Elem → List ℕ → ℤ
number_of elem bytes = wrapped elem (pos (little_endian bytes))

-- the number of the element that stands at a place
abbrev pub number_at : Elem → List Cell → ℕ → ℤ
number_at elem cells place = number_of elem (map byte_of (part cells place (size_of elem)))

-- the cells of an element: its number's bytes, each with the same flag
abbrev pub spelled : Elem → ℤ → Bool → List Cell
spelled elem n flag = map (λ byte. (byte, flag)) (bytes_of elem n)
