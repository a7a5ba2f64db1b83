-- Sums over programs by number, and over lists.
use Rattle.std.proofs.Common.{◌≡◌, ℕ, zero, suc, ◌+◌, ◌*◌, ◌<◌, ◌≤◌, List, [], ◌∷◌, length, get_or, refl, sym, ap, ◌∙◌, arith}
use Rattle.std.specs.Prelude.{sum_by}
use Rattle.std.proofs.lemmas.List.Sums.{sum_by-cons}
use Rattle.host_programs.specs.Program.{Program, Idle, Both}
use Rattle.transfer_programs.proofs.CostSteps.{total}
use Rattle.host_codegen.specs.Sequence.{each_of}
use Rattle.host_codegen.proofs.Sequences.{between_holds, below_power}

-- the sum of the first so many numbers' own
abbrev pub sum_of_each : (count : ℕ) → (ℕ → ℕ) → ℕ
sum_of_each zero size = 0
sum_of_each (suc n) size = sum_of_each n size + size n

abbrev pub sum_from : (first count : ℕ) → (ℕ → ℕ) → ℕ
sum_from first count size = sum_of_each count (λ k. size (first + k))

pub sums_both : (first a b : ℕ) (size : ℕ → ℕ) → sum_from first (a + b) size ≡ sum_from first a size + sum_from (first + a) b size
sums_both first a zero size =
    let none : a + 0 ≡ a = omega arith in
    let same = ap (λ n. sum_from first n size) none in
    omega (arith, same)
sums_both first a (suc b) size =
    let next : a + suc b ≡ suc (a + b) = omega arith in
    let last : first + (a + b) ≡ first + a + b = omega arith in
    let one = ap (λ n. sum_from first n size) next in
    let same = ap size last in
    omega (arith, one, same, sums_both first a b size)

pub sums_whole : (count : ℕ) (size : ℕ → ℕ) → sum_from 0 count size ≡ sum_of_each count size
sums_whole zero size = refl
sums_whole (suc n) size =
    let here : 0 + n ≡ n = omega arith in
    let same = ap size here in
    omega (arith, same, sums_whole n size)

-- where that of two is the sum of both, as instructions and steps
pub each_sums : (measure : Program → ℕ) → measure Idle ≡ 0 → ((p q : Program) → measure (Both p q) ≡ measure p + measure q) → (each : ℕ → Program) (count : ℕ)
    → measure (each_of count each) ≡ sum_of_each count (λ n. measure (each n))
each_sums measure idle adds each count =
    let size : ℕ → ℕ = λ n. measure (each n) in
    between_holds each 0 count (λ first n p. measure p ≡ sum_from first n size) count 0 count (record {
      none = λ first. idle;
      one = λ n above below. let here : n ≡ n + 0 = omega arith in let same = ap size here in omega (arith, same);
      both = λ first a b p q is_p is_q. omega (arith, adds p q, is_p, is_q, sums_both first a b size);
    }) (omega arith) (omega arith) (below_power count)
    ∙ sums_whole count size

-- a sum of numbers that are small
pub sum_few : (count most : ℕ) (size : ℕ → ℕ) → ((n : ℕ) → n < count → size n ≤ most) → sum_of_each count size ≤ count * most
sum_few zero most size few = omega arith
sum_few (suc n) most size few = omega (arith, sum_few n most size (λ k below. few k (omega arith)), few n (omega arith))

-- ---- sums over lists

shifted : {A : Type 0} (g : A → ℕ) (x : A) (xs : List A) (none : A) (n : ℕ) → sum_from 1 n (λ k. g (get_or (x ∷ xs) k none)) ≡ sum_of_each n (λ k. g (get_or xs k none))
shifted g x xs none zero = refl
shifted g x xs none (suc n) =
    let next : 1 + n ≡ suc n = omega arith in
    let same = ap (λ k. g (get_or (x ∷ xs) k none)) next in
    omega (arith, same, shifted g x xs none n)

-- those of the places of a list are those of its members
pub sums_over : {A : Type 0} (g : A → ℕ) (none : A) (xs : List A) → sum_of_each (length xs) (λ k. g (get_or xs k none)) ≡ total g xs
sums_over g none [] = refl
sums_over g none (x ∷ xs) =
    let size : ℕ → ℕ = λ k. g (get_or (x ∷ xs) k none) in
    let first : length (x ∷ xs) ≡ 1 + length xs = omega arith in
    let one = ap (λ n. sum_of_each n size) first in
    omega (arith, one, sym (sums_whole (1 + length xs) size), sums_both 0 1 (length xs) size, shifted g x xs none (length xs), sums_over g none xs)

-- what is added up by two functions
pub sums_added : (count : ℕ) (f g : ℕ → ℕ) → sum_of_each count (λ n. f n + g n) ≡ sum_of_each count f + sum_of_each count g
sums_added zero f g = refl
sums_added (suc n) f g = omega (arith, sums_added n f g)

pub sums_most : (count : ℕ) (f g : ℕ → ℕ) → ((n : ℕ) → n < count → f n ≤ g n) → sum_of_each count f ≤ sum_of_each count g
sums_most zero f g most = omega arith
sums_most (suc n) f g most = omega (arith, most n (omega arith), sums_most n f g (λ k below. most k (omega (arith, below))))

pub sums_times : (count m : ℕ) (f : ℕ → ℕ) → sum_of_each count (λ n. f n * m) ≡ sum_of_each count f * m
sums_times zero m f = omega arith
sums_times (suc n) m f = omega (arith, sums_times n m f)

-- the sum of the library is this one
pub total_is : {A : Type 0} (g : A → ℕ) (xs : List A) → sum_by g xs ≡ total g xs
total_is g [] = refl
total_is g (x ∷ xs) = omega (arith, sum_by-cons g x xs, total_is g xs)
