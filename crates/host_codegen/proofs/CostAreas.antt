-- The tiles of a pass have together no more elements than its domain.
use Rattle.std.proofs.Common.{◌≡◌, ℕ, zero, suc, ◌+◌, ◌-◌, ◌*◌, ◌/◌, ◌%◌, ◌<◌, ◌≤◌, min, refl, sym, ap, ◌∙◌, arith}
use Rattle.std.specs.Int.{div_ceil}
use Rattle.std.proofs.lemmas.Nat.{div-mul-add, mod-mul-add, mul-le}
use Rattle.ven_base.specs.Extent.{Extent, elements_of}
use Rattle.pass_plan.specs.declared.parts.Tile.{Tile}
use Rattle.pass_plan.specs.Tile.{across, tiles_of, piece_of}
use Rattle.host_codegen.proofs.CostSums.{sum_of_each, sum_from, sums_both, sums_whole}

-- lengths that a tile's side cuts off have no more together than there is
cut_sum : (all side n : ℕ) → sum_of_each n (λ i. min side (all - i * side)) ≤ min all (n * side)
cut_sum all side zero = omega arith
cut_sum all side (suc n) = omega (arith, cut_sum all side n)

scaled_sum : (c n : ℕ) (k : ℕ → ℕ) → sum_of_each n (λ j. c * k j) ≡ c * sum_of_each n k
scaled_sum c zero k = omega arith
scaled_sum c (suc n) k = omega (arith, scaled_sum c n k)

same_sum : (count : ℕ) (f g : ℕ → ℕ) → ((n : ℕ) → n < count → f n ≡ g n) → sum_of_each count f ≡ sum_of_each count g
same_sum zero f g same = refl
same_sum (suc n) f g same = omega (arith, same n (omega arith), same_sum n f g (λ k below. same k (omega (arith, below))))

-- a grid's sum is by rows
grid_sum : (width n : ℕ) (g k : ℕ → ℕ) → sum_of_each (n * width) (λ t. g (t / width) * k (t % width)) ≡ sum_of_each n g * sum_of_each width k
grid_sum width zero g k =
    let none : 0 * width ≡ 0 = omega arith in
    omega (arith, ap (λ m. sum_of_each m (λ t. g (t / width) * k (t % width))) none)
grid_sum width (suc n) g k =
    let cell : ℕ → ℕ = λ t. g (t / width) * k (t % width) in
    let all : suc n * width ≡ n * width + width = omega arith in
    let whole = ap (λ m. sum_of_each m cell) all in
    let row = same_sum width (λ j. cell (n * width + j)) (λ j. g n * k j) (λ j below.
    ap (λ q. g q * k ((n * width + j) % width)) (div-mul-add n width j below) ∙ ap (λ r. g n * k r) (mod-mul-add n width j below)) in
    let start : 0 + n * width ≡ n * width = omega arith in
    omega (arith, whole, sym (sums_whole (n * width + width) cell), sums_both 0 (n * width) width cell, ap (λ m. sum_from m width cell) start, sums_whole (n * width) cell, row, scaled_sum (g n) width k, grid_sum width n g k)

abbrev pub area_of : Extent → Tile → (t : ℕ) → ℕ
area_of domain tile t = (piece_of domain tile t).h * (piece_of domain tile t).w

pub areas_few : (domain : Extent) (tile : Tile) → sum_of_each (tiles_of domain tile) (area_of domain tile) ≤ elements_of domain
areas_few domain tile =
    let wide = across domain tile in
    let high = div_ceil domain.rows tile.h in
    let turned : wide * high ≡ high * wide = omega arith in
    let whole = ap (λ n. sum_of_each n (area_of domain tile)) turned in
    let grid = grid_sum wide high (λ i. min tile.h (domain.rows - i * tile.h)) (λ j. min tile.w (domain.cols - j * tile.w)) in
    let rows = cut_sum domain.rows tile.h high in
    let columns = cut_sum domain.cols tile.w wide in
    let most = mul-le (sum_of_each high (λ i. min tile.h (domain.rows - i * tile.h))) (sum_of_each wide (λ j. min tile.w (domain.cols - j * tile.w))) domain.rows domain.cols (omega (arith, rows)) (omega (arith, columns)) in
    omega (arith, whole, grid, most)
