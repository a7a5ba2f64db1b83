-- What holds of the definitions, for every number, list, shape and index.
use Rattle.std.specs.Prelude.{◌≡◌, ◌↔◌, ℕ, ℤ, pos, ◌+◌, ◌*◌, ◌^◌, ◌<◌, ◌≤◌, ◌+ℤ◌, ◌-ℤ◌, ◌*ℤ◌, ◌≤ℤ◌, ◌<ℤ◌, List, ◌∷◌, ◌++◌, map, fold, All, IfSome, Some, ◌/◌}
use Rattle.std.specs.List.{flat_map}
use Rattle.ven_base.specs.declared.elem.Elem.{Elem}
use Rattle.ven_base.specs.declared.ops.Fold.{Fold}
use Rattle.ven_base.specs.declared.ops.Op1.{Op1}
use Rattle.ven_base.specs.declared.ops.Op2.{Op2}
use Rattle.ven_base.specs.declared.ops.Op2.TheVariants.{Shr}
use Rattle.ven_base.specs.declared.mapping.Mapping.{Mapping}
use Rattle.ven_base.specs.declared.mapping.Mapping.TheVariants.{Shift, Rotate, Section, Stretch}
use Rattle.ven_base.specs.Elem.{width_of, modulus_of, IsElement}
use Rattle.ven_base.specs.Wrap.{AreCongruent, IsWrapped, wrapped}
use Rattle.ven_base.specs.Operation.{amount_of, bits_of, exact2}
use Rattle.ven_base.specs.Saturation.{IsNearest, nearest}
use Rattle.ven_base.specs.Folding.{total_of, folded, IsFolded, joined}
use Rattle.ven_base.specs.Extent.{Extent, IsExtent, IsIndex}
use Rattle.ven_base.specs.Mapping.{source_of, result_shape, FitsShape}
use Rattle.ven_base.specs.Place.{place_within, place_round, IsCut}
use Rattle.ven_base.specs.Grid.{Grid, IsGrid, value_at, IsPointwise1, IsPointwise2, IsMapped}

-- ---- wrapping

-- a number wraps to one number alone, that of the range that it is congruent to
abbrev pub WrapsToOne : Type 0
WrapsToOne = (elem : Elem) (n w : ℤ) → IsWrapped elem n w ↔ (w ≡ wrapped elem n)

-- a number of the type wraps to itself, so to wrap twice is to wrap once
abbrev pub KeepsElements : Type 0
KeepsElements = (elem : Elem) (n : ℤ) → IsElement elem n → wrapped elem n ≡ n

abbrev pub WrapsOnce : Type 0
WrapsOnce = (elem : Elem) (n : ℤ) → wrapped elem (wrapped elem n) ≡ wrapped elem n

-- sums, differences and products may be wrapped at each step or once
abbrev pub WrapsSums : Type 0
WrapsSums = (elem : Elem) (a b : ℤ) → wrapped elem (wrapped elem a +ℤ wrapped elem b) ≡ wrapped elem (a +ℤ b)

abbrev pub WrapsDifferences : Type 0
WrapsDifferences = (elem : Elem) (a b : ℤ) → wrapped elem (wrapped elem a -ℤ wrapped elem b) ≡ wrapped elem (a -ℤ b)

abbrev pub WrapsProducts : Type 0
WrapsProducts = (elem : Elem) (a b : ℤ) → wrapped elem (wrapped elem a *ℤ wrapped elem b) ≡ wrapped elem (a *ℤ b)

-- ---- operations

-- the amount of a shift is the number below the width that is congruent to the operand modulo the width
abbrev pub ReducesAmounts : Type 0
ReducesAmounts = (elem : Elem) (y : ℤ)
    → (amount_of elem y < width_of elem) × AreCongruent (width_of elem) y (pos (amount_of elem y))

-- the bits of a number are the number below 2 to the width that is congruent to it modulo 2 to the width
abbrev pub ReducesBits : Type 0
ReducesBits = (elem : Elem) (x : ℤ)
    → (bits_of elem x < modulus_of elem) × AreCongruent (modulus_of elem) x (pos (bits_of elem x))

-- a shift to the right rounds down: its result times the power of two is at most x, and one more times the power is
-- above x
abbrev pub RoundsDown : Type 0
RoundsDown = (elem : Elem) (x y : ℤ) →
    let power = pos (2 ^ amount_of elem y) in
    ((exact2 Shr elem x y *ℤ power) ≤ℤ x) × (x <ℤ ((exact2 Shr elem x y +ℤ pos 1) *ℤ power))

-- saturation gives a number of the type, and no other is nearer
abbrev pub ReachesNearest : Type 0
ReachesNearest = (elem : Elem) (n : ℤ) → IsNearest elem n (nearest elem n)

-- ---- reductions

-- the wrapped sum of a list doesn't depend on how the list is cut
abbrev pub CutsSums : Type 0
CutsSums = (elem : Elem) (xs ys : List ℤ)
    → wrapped elem (wrapped elem (total_of xs) +ℤ wrapped elem (total_of ys)) ≡ wrapped elem (total_of (xs ++ ys))

-- nor on how many parts it is cut into
abbrev pub CutsSumsIntoParts : Type 0
CutsSumsIntoParts = (elem : Elem) (parts : List (List ℤ))
    → wrapped elem (total_of (map (λ part. wrapped elem (total_of part)) parts))
    ≡ wrapped elem (total_of (flat_map (λ part. part) parts))

-- a sum that begins at a number of the type and is wrapped at each step is the sum that is wrapped once
abbrev pub WrapsEachStep : Type 0
WrapsEachStep = (elem : Elem) (start : ℤ) (xs : List ℤ) → IsElement elem start
    → fold (λ sum x. wrapped elem (sum +ℤ x)) start xs ≡ wrapped elem (start +ℤ total_of xs)

-- the least and the greatest of a list are values of it, and bounds
abbrev pub ReachesBounds : Type 0
ReachesBounds = (fold : Fold) (elem : Elem) (x : ℤ) (xs : List ℤ)
    → IsFolded fold elem (x ∷ xs) (folded fold elem (x ∷ xs))

-- a list has one reduction
abbrev pub HasOneReduction : Type 0
HasOneReduction = (fold : Fold) (elem : Elem) (xs : List ℤ) (r s : ℤ) → IsFolded fold elem xs r
    → IsFolded fold elem xs s → r ≡ s

-- the reductions of the parts of a list make that of the whole
abbrev pub JoinsReductions : Type 0
JoinsReductions = (fold : Fold) (elem : Elem) (xs ys : List ℤ) (r s : ℤ) → IsFolded fold elem xs r
    → IsFolded fold elem ys s → IsFolded fold elem (xs ++ ys) (joined fold elem r s)

-- a reduction of numbers of a type is a number of it
abbrev pub ReducesInType : Type 0
ReducesInType = (fold : Fold) (elem : Elem) (xs : List ℤ) (r : ℤ) → All (IsElement elem) xs → IsFolded fold elem xs r
    → IsElement elem r

-- ---- places

-- going round n places gives the place below n that is congruent to k modulo n
abbrev pub GoesRound : Type 0
GoesRound = (n : ℕ) (k : ℤ) → 0 < n → (place_round n k < n) × AreCongruent n k (pos (place_round n k))

-- a number is one of the n places exactly where it is a number from 0 on, below n
abbrev pub FindsPlaces : Type 0
FindsPlaces = (n : ℕ) (k : ℤ) (q : ℕ) → (place_within n k ≡ Some q) ↔ ((k ≡ pos q) × (q < n))

-- ---- index maps

-- the source of an index of the result is an index of the operand
abbrev pub SourcesAreInside : Type 0
SourcesAreInside = (mapping : Mapping) (shape : Extent) (i j : ℕ) → IsExtent shape → FitsShape mapping shape
    → IsIndex (result_shape mapping shape) i j → IfSome (source_of mapping shape i j) (λ s. IsIndex shape s.0 s.1)

-- the result has a shape
abbrev pub ResultsAreShapes : Type 0
ResultsAreShapes = (mapping : Mapping) (shape : Extent) → IsExtent shape → FitsShape mapping shape
    → IsExtent (result_shape mapping shape)

-- a piece of a section, from row r and column c of the result on, is a section that begins further on
abbrev pub CutsSections : Type 0
CutsSections = (r0 nr sr c0 nc sc h w : ℕ) (shape : Extent) (r c i j : ℕ)
    → source_of (Section (r0 + r * sr) h sr (c0 + c * sc) w sc) shape i j
    ≡ source_of (Section r0 nr sr c0 nc sc) shape (r + i) (c + j)

-- and it fits, where the piece lies in the result
abbrev pub FitsPieces : Type 0
FitsPieces = (n first count step start size : ℕ) → IsCut n first count step → 1 ≤ size → start + size ≤ count
    → IsCut n (first + start * step) size step

-- a piece of a stretch that begins at a whole block, row r * kr and column c * kc of the result, is a stretch of the
-- operand from row r and column c on
abbrev pub CutsStretches : Type 0
CutsStretches = (kr kc : ℕ) (shape : Extent) (r c i j : ℕ) → 1 ≤ kr → 1 ≤ kc
    → source_of (Stretch kr kc) shape (r * kr + i) (c * kc + j) ≡ Some (r + i / kr, c + j / kc)

-- and it fits, where the stretch of the whole operand does
abbrev pub FitsStretches : Type 0
FitsStretches = (kr kc : ℕ) (shape piece : Extent) → FitsShape (Stretch kr kc) shape → piece.rows ≤ shape.rows
    → piece.cols ≤ shape.cols → FitsShape (Stretch kr kc) piece

-- a piece of a shift is a shift of as much more, and a piece of a rotation a rotation
abbrev pub CutsShifts : Type 0
CutsShifts = (dr dc fill : ℤ) (shape : Extent) (r c i j : ℕ)
    → source_of (Shift (pos r +ℤ dr) (pos c +ℤ dc) fill) shape i j ≡ source_of (Shift dr dc fill) shape (r + i) (c + j)

abbrev pub CutsRotations : Type 0
CutsRotations = (dr dc : ℤ) (shape : Extent) (r c i j : ℕ)
    → source_of (Rotate (pos r +ℤ dr) (pos c +ℤ dc)) shape i j ≡ source_of (Rotate dr dc) shape (r + i) (c + j)

-- a stretch repeats each element over a block of kr rows and kc columns
abbrev pub RepeatsBlocks : Type 0
RepeatsBlocks = (kr kc : ℕ) (shape : Extent) (i j r c : ℕ) → r < kr → c < kc
    → source_of (Stretch kr kc) shape (i * kr + r) (j * kc + c) ≡ Some (i, j)

-- ---- arrays

-- two arrays of one type and one shape with one value at each index are one
abbrev pub HasOneArray : Type 0
HasOneArray = (a b : Grid) → IsGrid a → IsGrid b → a.elem ≡ b.elem → a.shape ≡ b.shape
    → ((i j : ℕ) → IsIndex a.shape i j → value_at a i j ≡ value_at b i j) → a ≡ b

-- so an operation at each index gives one array, and a mapping does
abbrev pub HasOnePointwise1 : Type 0
HasOnePointwise1 = (op : Op1) (operand a b : Grid) → IsGrid a → IsGrid b → IsPointwise1 op operand a
    → IsPointwise1 op operand b → a ≡ b

abbrev pub HasOnePointwise2 : Type 0
HasOnePointwise2 = (op : Op2) (left right a b : Grid) → IsGrid a → IsGrid b → IsPointwise2 op left right a
    → IsPointwise2 op left right b → a ≡ b

abbrev pub HasOneMapped : Type 0
HasOneMapped = (mapping : Mapping) (operand a b : Grid) → IsGrid a → IsGrid b → IsMapped mapping operand a
    → IsMapped mapping operand b → a ≡ b
