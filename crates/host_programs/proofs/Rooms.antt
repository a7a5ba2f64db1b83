-- Numbers of registers, of which more than 255 count as 255.
use Rattle.std.proofs.Common.{◌≡◌, ℕ, min, max, arith}

pub at_most : (a b x y r : ℕ) → x ≡ min a 255 → y ≡ min b 255 → r ≡ max x y → r ≡ min (max a b) 255
at_most a b x y r is_x is_y is_r = omega (arith, is_x, is_y, is_r)

pub at_least_one : (a x r : ℕ) → x ≡ min a 255 → r ≡ max x 1 → r ≡ min (max a 1) 255
at_least_one a x r is_x is_r = omega (arith, is_x, is_r)
