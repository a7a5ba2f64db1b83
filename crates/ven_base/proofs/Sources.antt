-- Laws of index maps: the source of each index of the result lies in the operand.
use Rattle.std.proofs.Common.{◌≡◌, ℕ, ◌+◌, ◌-◌, ◌*◌, ◌/◌, ◌<◌, ◌≤◌, refl, ap, ◌∙◌, arith, IfSome, Option, None, Some}
use Rattle.std.specs.Prelude.{ℤ, pos, negsuc, ◌+ℤ◌, Bool, true, false, nat_lt, if◌then◌else◌}
use Rattle.std.proofs.lemmas.Bool.{ltb-true}
use Rattle.std.proofs.lemmas.Int.{ints}
use Rattle.std.proofs.lemmas.Nat.{div-mul-add}
use Rattle.std.proofs.Math.Nat.{div-lt_iff_lt-mul, add-mul-div_right, add_comm, mul-le-mul, mul-le-mul_left, mul-le-mul_right}
use Rattle.ven_base.specs.declared.mapping.Mapping.{Mapping}
use Rattle.ven_base.specs.declared.mapping.Mapping.TheVariants.{Identity, Shift, Rotate, Section, Stretch, Transpose}
use Rattle.ven_base.specs.Extent.{Extent, IsExtent, IsIndex}
use Rattle.ven_base.specs.Place.{place_within, place_round, IsCut}
use Rattle.ven_base.specs.Mapping.{source_of, result_shape, FitsShape, index_of_both}
use Rattle.ven_base.proofs.Congruence.{rem_below}

-- a place that is one of the n places is below n
place_within_below : (n : ℕ) (k : ℤ) → IfSome (place_within n k) (λ p. p < n)
place_within_below n (negsuc k) = tt
place_within_below n (pos k) = by (nat_lt k n) refl
  where
    by : (t : Bool) → nat_lt k n ≡ t → IfSome (if t then Some k else None) (λ p. p < n)
    by true e = ltb-true k n e
    by false e = tt

cut_below : (n first count step i : ℕ) → IsCut n first count step → i < count → first + i * step < n
cut_below n first count step i h below = let l : i ≤ count - 1 = omega arith in omega (arith, mul-le-mul_right step l)

block_after : (a w b : ℕ) → 1 ≤ w → (a * w + b) / w ≡ a + b / w
block_after a w b h = let sum : a * w + b ≡ b + a * w = omega arith in ap (λ n. n / w) sum ∙ add-mul-div_right b a h ∙ add_comm (b / w) a

repeat_below : (n times i : ℕ) → 0 < times → i < n * times → i / times < n
repeat_below n times i some h = (div-lt_iff_lt-mul some).1 h

-- the source of an index of the result is an index of the operand
pub source_of-inside : (mapping : Mapping) (shape : Extent) (i j : ℕ) → IsExtent shape → FitsShape mapping shape → IsIndex (result_shape mapping shape) i j → IfSome (source_of mapping shape i j) (λ s. IsIndex shape s.0 s.1)
source_of-inside Identity shape i j e f at = at
source_of-inside (Shift dr dc fill) shape i j e f at = both (place_within shape.rows (pos i +ℤ dr)) (place_within shape.cols (pos j +ℤ dc)) (place_within_below shape.rows (pos i +ℤ dr)) (place_within_below shape.cols (pos j +ℤ dc))
  where
    both : (r c : Option ℕ) → IfSome r (λ p. p < shape.rows) → IfSome c (λ p. p < shape.cols) → IfSome (index_of_both r c) (λ s. IsIndex shape s.0 s.1)
    both None c p q = tt
    both (Some x) None p q = tt
    both (Some x) (Some y) p q = record { row = p; col = q }
source_of-inside (Rotate dr dc) shape i j e f at = record { row = rem_below shape.rows (pos i +ℤ dr) (omega arith); col = rem_below shape.cols (pos j +ℤ dc) (omega arith) }
source_of-inside (Section r0 nr sr c0 nc sc) shape i j e f at = record { row = cut_below shape.rows r0 nr sr i f.0 at.row; col = cut_below shape.cols c0 nc sc j f.1 at.col }
source_of-inside (Stretch kr kc) shape i j e f at = record { row = repeat_below shape.rows kr i f.some_rows at.row; col = repeat_below shape.cols kc j f.some_cols at.col }
source_of-inside Transpose shape i j e f at = record { row = at.col; col = at.row }

-- ---- a piece of the result, whose first row is r and whose first column is c

-- a piece of a section is a section, that begins further on
pub source_of-section_piece : (r0 nr sr c0 nc sc h w : ℕ) (shape : Extent) (r c i j : ℕ)
    → source_of (Section (r0 + r * sr) h sr (c0 + c * sc) w sc) shape i j ≡ source_of (Section r0 nr sr c0 nc sc) shape (r + i) (c + j)
source_of-section_piece r0 nr sr c0 nc sc h w shape r c i j =
    let row : (r0 + r * sr) + i * sr ≡ r0 + (r + i) * sr = omega arith in
    let col : (c0 + c * sc) + j * sc ≡ c0 + (c + j) * sc = omega arith in
    λ k. Some (row k, col k)

-- and it fits, where the piece lies in the result
pub IsCut-piece : (n first count step start size : ℕ) → IsCut n first count step → 1 ≤ size → start + size ≤ count → IsCut n (first + start * step) size step
IsCut-piece n first count step start size h some within =
    let l : start + (size - 1) ≤ count - 1 = omega arith in
    record { some = some; moves = h.moves; inside = omega (arith, h.inside, mul-le-mul_right step l) }

-- a piece of a shift is a shift of as much more, and of a rotation a rotation
pub source_of-shift_piece : (dr dc fill : ℤ) (shape : Extent) (r c i j : ℕ)
    → source_of (Shift (pos r +ℤ dr) (pos c +ℤ dc) fill) shape i j ≡ source_of (Shift dr dc fill) shape (r + i) (c + j)
source_of-shift_piece dr dc fill shape r c i j =
    let row : pos i +ℤ (pos r +ℤ dr) ≡ pos (r + i) +ℤ dr = omega (arith, ints) in
    let col : pos j +ℤ (pos c +ℤ dc) ≡ pos (c + j) +ℤ dc = omega (arith, ints) in
    λ k. index_of_both (place_within shape.rows (row k)) (place_within shape.cols (col k))

pub source_of-rotate_piece : (dr dc : ℤ) (shape : Extent) (r c i j : ℕ)
    → source_of (Rotate (pos r +ℤ dr) (pos c +ℤ dc)) shape i j ≡ source_of (Rotate dr dc) shape (r + i) (c + j)
source_of-rotate_piece dr dc shape r c i j =
    let row : pos i +ℤ (pos r +ℤ dr) ≡ pos (r + i) +ℤ dr = omega (arith, ints) in
    let col : pos j +ℤ (pos c +ℤ dc) ≡ pos (c + j) +ℤ dc = omega (arith, ints) in
    λ k. Some (place_round shape.rows (row k), place_round shape.cols (col k))

-- a stretch repeats each element of its operand over a block of kr rows and kc columns
pub source_of-stretch_block : (kr kc : ℕ) (shape : Extent) (i j r c : ℕ) → r < kr → c < kc
    → source_of (Stretch kr kc) shape (i * kr + r) (j * kc + c) ≡ Some (i, j)
source_of-stretch_block kr kc shape i j r c h l =
    let row = div-mul-add i kr r h in
    let col = div-mul-add j kc c l in
    λ k. Some (row k, col k)

-- a piece of a stretch that begins at a whole block is a stretch of a piece of the operand
pub source_of-stretch_piece : (kr kc : ℕ) (shape : Extent) (r c i j : ℕ) → 1 ≤ kr → 1 ≤ kc
    → source_of (Stretch kr kc) shape (r * kr + i) (c * kc + j) ≡ Some (r + i / kr, c + j / kc)
source_of-stretch_piece kr kc shape r c i j h l =
    let row : (r * kr + i) / kr ≡ r + i / kr = block_after r kr i h in
    let col : (c * kc + j) / kc ≡ c + j / kc = block_after c kc j l in
    λ k. Some (row k, col k)

-- and it fits
pub FitsShape-stretch_piece : (kr kc : ℕ) (shape piece : Extent) → FitsShape (Stretch kr kc) shape → piece.rows ≤ shape.rows → piece.cols ≤ shape.cols → FitsShape (Stretch kr kc) piece
FitsShape-stretch_piece kr kc shape piece f h l =
    let fewer = mul-le-mul (mul-le-mul_right kr h) (mul-le-mul_right kc l) in
    record { some_rows = f.some_rows; some_cols = f.some_cols; within = omega (arith, f.within) }

-- ---- the shape of the result

-- places that are cut from n places are at most n
cut_at_most : (n first count step : ℕ) → IsCut n first count step → count ≤ n
cut_at_most n first count step h = let far : (count - 1) * 1 ≤ (count - 1) * step = mul-le-mul_left (count - 1) h.moves in omega (arith, h.inside, h.some)

-- the result of a mapping that fits has a shape
pub result_shape-IsExtent : (mapping : Mapping) (shape : Extent) → IsExtent shape → FitsShape mapping shape → IsExtent (result_shape mapping shape)
result_shape-IsExtent Identity shape e f = e
result_shape-IsExtent (Shift dr dc fill) shape e f = e
result_shape-IsExtent (Rotate dr dc) shape e f = e
result_shape-IsExtent (Section r0 nr sr c0 nc sc) shape e f =
    let rows = mul-le-mul_right nc (cut_at_most shape.rows r0 nr sr f.0) in
    let cols = mul-le-mul_left shape.rows (cut_at_most shape.cols c0 nc sc f.1) in
    record { some_rows = f.0.some; some_cols = f.1.some; within = omega (arith, e.within) }
result_shape-IsExtent (Stretch kr kc) shape e f =
    let rows = mul-le-mul e.some_rows f.some_rows in
    let cols = mul-le-mul e.some_cols f.some_cols in
    record { some_rows = rows; some_cols = cols; within = f.within }
result_shape-IsExtent Transpose shape e f = record { some_rows = e.some_cols; some_cols = e.some_rows; within = omega (arith, e.within) }

-- a factor of few elements is at most as many
pub factor_within : (a b n : ℕ) → 1 ≤ b → a * b ≤ n → a ≤ n
factor_within a b n some h = let more = mul-le-mul_left a some in omega arith
