-- The bytes of a number, and the number that bytes spell.
use Rattle.std.proofs.Common.{◌≡◌, ℕ, zero, suc, ◌+◌, ◌*◌, ◌/◌, ◌%◌, ◌^◌, ◌<◌, ap, sym, ◌∙◌, refl, arith, lit<, List, [], ◌∷◌, length}
use Rattle.std.specs.Prelude.{ℤ, pos, negsuc, All, ◌<ℤ◌}
use Rattle.std.specs.Int.{int_rem_euclid}
use Rattle.std.proofs.lemmas.Int.{ints}
use Rattle.std.proofs.Math.Nat.{pow-suc}
use Rattle.std.proofs.lemmas.Nat.{mod_below, div_below, div-mul-add, mod-mul-add, div-add-mod'}
use Rattle.std.proofs.lemmas.List.Elements.{All-from_recursion, All-cons, All-head, All-tail}
use Rattle.ven_base.specs.declared.elem.Elem.{Elem}
use Rattle.ven_base.specs.declared.elem.Elem.TheVariants.{U8, I8, U16, I16, U32, I32}
use Rattle.ven_base.specs.Elem.{size_of, modulus_of, IsElement}
use Rattle.ven_base.specs.Wrap.{AreCongruent, wrapped}
use Rattle.ven_base.specs.Operation.{bits_of}
use Rattle.ven_base.proofs.Congruence.{AreCongruent-sym, AreCongruent-trans, euclid, rem_range, near_same}
use Rattle.ven_base.proofs.Wrapped.{modulus_pos, IsWrapped-is, IsWrapped-wrapped}
use Rattle.venice_isa.specs.Element.{little_endian, low_bytes, bytes_of}
use Rattle.venice_isa.specs.Laws.{SpellsNumber}

-- ---- lists of bytes and natural numbers

pub low_bytes_length : (count n : ℕ) → length (low_bytes count n) ≡ count
low_bytes_length zero n = refl
low_bytes_length (suc count) n = ap suc (low_bytes_length count (n / 256))

low_bytes_each : (count n : ℕ) → All (λ byte. byte < 2 ^ 8) (low_bytes count n)
low_bytes_each zero n = All-from_recursion (λ byte. byte < 2 ^ 8) [] tt
low_bytes_each (suc count) n = All-cons (λ byte. byte < 2 ^ 8) (n % 256) (low_bytes count (n / 256)) (mod_below n 256 (lit< tt)) (low_bytes_each count (n / 256))

-- one byte more
power_on : (count n : ℕ) → n < 256 ^ suc count → n < 256 ^ count * 256
power_on count n below = omega (arith, pow-suc 256 count)

power_from : (count n : ℕ) → n < 256 * 256 ^ count → n < 256 ^ suc count
power_from count n below = omega (arith, pow-suc 256 count)

-- a number is spelled by its bytes, where it has no more
low_bytes_spell : (count n : ℕ) → n < 256 ^ count → little_endian (low_bytes count n) ≡ n
low_bytes_spell zero n below = omega arith
low_bytes_spell (suc count) n below =
    let rest : n / 256 < 256 ^ count = div_below n 256 (256 ^ count) (lit< tt) (power_on count n below) in
    omega (arith, low_bytes_spell count (n / 256) rest, div-add-mod' n 256)

-- bytes spell a number that has no more
spelled_below : (bytes : List ℕ) → All (λ byte. byte < 2 ^ 8) bytes → little_endian bytes < 256 ^ length bytes
spelled_below [] each = lit< tt
spelled_below (byte ∷ bytes) each =
    let first : byte < 2 ^ 8 = All-head (λ byte. byte < 2 ^ 8) byte bytes each in
    let rest : little_endian bytes < 256 ^ length bytes = spelled_below bytes (All-tail (λ byte. byte < 2 ^ 8) byte bytes each) in
    power_from (length bytes) (byte + 256 * little_endian bytes) (omega arith)

-- and that number has these bytes
spelled_again : (bytes : List ℕ) → All (λ byte. byte < 2 ^ 8) bytes → low_bytes (length bytes) (little_endian bytes) ≡ bytes
spelled_again [] each = refl
spelled_again (byte ∷ bytes) each =
    let first : byte < 2 ^ 8 = All-head (λ byte. byte < 2 ^ 8) byte bytes each in
    let rest = little_endian bytes in
    let turned : byte + 256 * rest ≡ rest * 256 + byte = omega arith in
    let low : (byte + 256 * rest) % 256 ≡ byte = ap (λ n. n % 256) turned ∙ mod-mul-add rest 256 byte first in
    let high : (byte + 256 * rest) / 256 ≡ rest = ap (λ n. n / 256) turned ∙ div-mul-add rest 256 byte first in
    ap (λ b. b ∷ low_bytes (length bytes) ((byte + 256 * rest) / 256)) low ∙ ap (λ n. byte ∷ low_bytes (length bytes) n) high ∙ ap (λ more. byte ∷ more) (spelled_again bytes (All-tail (λ byte. byte < 2 ^ 8) byte bytes each))

-- ---- elements

-- as many numbers as an element's bytes spell
pub byte_power : (elem : Elem) → 256 ^ size_of elem ≡ modulus_of elem
byte_power U8 = refl
byte_power I8 = refl
byte_power U16 = refl
byte_power I16 = refl
byte_power U32 = refl
byte_power I32 = refl

-- the bits of a number are what is left of it
bits_left : (elem : Elem) (n : ℤ) → int_rem_euclid n (pos (modulus_of elem)) ≡ pos (bits_of elem n)
bits_left elem (pos n) = refl
bits_left elem (negsuc n) = refl

pub bits_below : (elem : Elem) (n : ℤ) → bits_of elem n < modulus_of elem
bits_below elem n =
    let range = rem_range (modulus_of elem) n (modulus_pos elem) in
    let left = bits_left elem n in
    let below : pos (bits_of elem n) <ℤ pos (modulus_of elem) = rw left at range.1 in
    omega (arith, ints, below)

bits_congruent : (elem : Elem) (n : ℤ) → AreCongruent (modulus_of elem) n (pos (bits_of elem n))
bits_congruent elem n = rw (bits_left elem n) at (euclid (modulus_of elem) n (modulus_pos elem))

-- a number of the type is what its bits wrap to
bits_wrap : (elem : Elem) (n : ℤ) → IsElement elem n → wrapped elem (pos (bits_of elem n)) ≡ n
bits_wrap elem n range =
    sym (IsWrapped-is elem (pos (bits_of elem n)) n (record { in_range = range; congruent = AreCongruent-sym (modulus_of elem) n (pos (bits_of elem n)) (bits_congruent elem n) }))

-- what a number wraps to has its bits
pub wrap_bits : (elem : Elem) (bits : ℕ) → bits < modulus_of elem → bits_of elem (wrapped elem (pos bits)) ≡ bits
wrap_bits elem bits below =
    let m = modulus_of elem in
    let n = wrapped elem (pos bits) in
    let same : pos (bits_of elem n) ≡ pos bits =
    near_same m (pos 0) (pos (bits_of elem n)) (pos bits)
    (AreCongruent-sym m (pos bits) (pos (bits_of elem n)) (AreCongruent-trans m (pos bits) n (pos (bits_of elem n)) (IsWrapped-wrapped elem (pos bits)).congruent (bits_congruent elem n)))
    (omega (arith, ints)) (omega (arith, ints, bits_below elem n)) (omega (arith, ints)) (omega (arith, ints)) in
    omega (arith, ints, same)

pub bytes_spell : (elem : Elem) (n : ℤ) → IsElement elem n → SpellsNumber elem n (bytes_of elem n)
bytes_spell elem n range =
    let fits : bits_of elem n < 256 ^ size_of elem = omega (arith, bits_below elem n, byte_power elem) in
    record {
      count = low_bytes_length (size_of elem) (bits_of elem n);
      each = low_bytes_each (size_of elem) (bits_of elem n);
      number = ap (λ bits. wrapped elem (pos bits)) (low_bytes_spell (size_of elem) (bits_of elem n) fits) ∙ bits_wrap elem n range;
    }

pub one_spelling : (elem : Elem) (n : ℤ) (bytes : List ℕ) → SpellsNumber elem n bytes → bytes ≡ bytes_of elem n
one_spelling elem n bytes spelling =
    let below : little_endian bytes < modulus_of elem = omega (arith, spelled_below bytes spelling.each, ap (λ k. 256 ^ k) spelling.count, byte_power elem) in
    let bits : bits_of elem n ≡ little_endian bytes = ap (bits_of elem) (sym spelling.number) ∙ wrap_bits elem (little_endian bytes) below in
    sym (spelled_again bytes spelling.each) ∙ ap (λ count. low_bytes count (little_endian bytes)) spelling.count ∙ ap (low_bytes (size_of elem)) (sym bits)
