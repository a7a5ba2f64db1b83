use Rattle.std.proofs.Common.{◌≡◌, ◌<◌, ◌^◌, ℕ, ap, ◌∙◌, arith, rules, w64, of_z, to_z}
use Rattle.std.specs.Prelude.{ℤ, pos, ◌+ℤ◌, ◌-ℤ◌, ◌*ℤ◌, FitsSigned, bit_and, bit_or, bit_xor}
use Rattle.std.specs.Int.{int_div_euclid}
use Rattle.std.proofs.lemmas.Int.{ints, to_z-of_z}
use Rattle.std.proofs.lemmas.Nat.{and_mod, or_mod, xor_mod, and_le_l, or_lt, xor_lt, pow_below}
use lib.Signed.{mag_shr, shr_z}
use mir.ValLaws.{of_z_fits}
use Rattle.ven_base.specs.declared.elem.Elem.{Elem}
use Rattle.ven_base.specs.Operation.{amount_of}
use Rattle.ven_base.specs.Wrap.{wrapped}
use Rattle.ven_base.specs.Saturation.{nearest}
use Rattle.ven_base.proofs.MachineWords.{wrapped-product, wrapped-bitwise}
use Rattle.ven_base.proofs.Operations.{is_wrapped, element_small, IsElement-one_or_zero, IsElement-min, IsElement-max, IsElement-shifted, shr-is}
use Rattle.ven_base.proofs.apply.apply2.Goals as goal

-- the amount is that of the definition
amount-is : (elem : Elem) (y : ℤ) (k : ℕ) → FitsSigned w64 y → k ≡ amount_of elem (to_z w64 (of_z w64 y)) → k ≡ amount_of elem y
amount-is elem y k f e = e ∙ ap (amount_of elem) (to_z-of_z w64 y f)

pub returns-in-Add : goal.returns-in-Add
returns-in-Add c =
    let x = element_small c.args.elem c.args.x c.requires.left in
    let y = element_small c.args.elem c.args.y c.requires.right in
    let fits : FitsSigned w64 c.wrap_word.result = search rules in
    let same : to_z w64 (of_z w64 (to_z w64 (of_z w64 c.args.x) +ℤ to_z w64 (of_z w64 c.args.y))) ≡ c.args.x +ℤ c.args.y = omega (arith, ints) in
    rw c.in-Add.is (to_z-of_z w64 c.wrap_word.result fits ∙ c.wrap_word.ensures ∙ ap (wrapped c.args.elem) same)

pub returns-in-Sub : goal.returns-in-Sub
returns-in-Sub c =
    let x = element_small c.args.elem c.args.x c.requires.left in
    let y = element_small c.args.elem c.args.y c.requires.right in
    let fits : FitsSigned w64 c.wrap_word-in-Sub.result = search rules in
    let same : to_z w64 (of_z w64 (to_z w64 (of_z w64 c.args.x) -ℤ to_z w64 (of_z w64 c.args.y))) ≡ c.args.x -ℤ c.args.y = omega (arith, ints) in
    rw c.in-Sub.is (to_z-of_z w64 c.wrap_word-in-Sub.result fits ∙ c.wrap_word-in-Sub.ensures ∙ ap (wrapped c.args.elem) same)

pub returns-in-Mul : goal.returns-in-Mul
returns-in-Mul c =
    let fits : FitsSigned w64 c.wrap_word-in-Mul.result = search rules in
    rw c.in-Mul.is (to_z-of_z w64 c.wrap_word-in-Mul.result fits ∙ c.wrap_word-in-Mul.ensures ∙ wrapped-product c.args.elem c.args.x c.args.y c.ranges.x c.ranges.y)

pub returns-in-And : goal.returns-in-And
returns-in-And c =
    let fits : FitsSigned w64 c.wrap_word-in-And.result = search rules in
    let x = (of_z_fits w64 c.args.x c.ranges.x).fits in
    let small : bit_and (of_z w64 c.args.x) (of_z w64 c.args.y) < 2 ^ 64 = omega (arith, and_le_l (of_z w64 c.args.x) (of_z w64 c.args.y)) in
    rw c.in-And.is (to_z-of_z w64 c.wrap_word-in-And.result fits ∙ c.wrap_word-in-And.ensures ∙ wrapped-bitwise bit_and c.args.elem c.args.x c.args.y and_mod small c.ranges.x c.ranges.y)

pub returns-in-Or : goal.returns-in-Or
returns-in-Or c =
    let fits : FitsSigned w64 c.wrap_word-in-Or.result = search rules in
    let x = (of_z_fits w64 c.args.x c.ranges.x).fits in
    let y = (of_z_fits w64 c.args.y c.ranges.y).fits in
    let small = or_lt 64 (of_z w64 c.args.x) (of_z w64 c.args.y) x y in
    rw c.in-Or.is (to_z-of_z w64 c.wrap_word-in-Or.result fits ∙ c.wrap_word-in-Or.ensures ∙ wrapped-bitwise bit_or c.args.elem c.args.x c.args.y or_mod small c.ranges.x c.ranges.y)

pub returns-in-Xor : goal.returns-in-Xor
returns-in-Xor c =
    let fits : FitsSigned w64 c.wrap_word-in-Xor.result = search rules in
    let x = (of_z_fits w64 c.args.x c.ranges.x).fits in
    let y = (of_z_fits w64 c.args.y c.ranges.y).fits in
    let small = xor_lt 64 (of_z w64 c.args.x) (of_z w64 c.args.y) x y in
    rw c.in-Xor.is (to_z-of_z w64 c.wrap_word-in-Xor.result fits ∙ c.wrap_word-in-Xor.ensures ∙ wrapped-bitwise bit_xor c.args.elem c.args.x c.args.y xor_mod small c.ranges.x c.ranges.y)

pub returns-in-Shl : goal.returns-in-Shl
returns-in-Shl c =
    let fits : FitsSigned w64 c.wrap_word-in-Shl.result = search rules in
    let power : FitsSigned w64 (pos (2 ^ c.amount.result)) = record { sfits = omega (arith, pow_below c.amount.result 32 c.amount.ensures.within) } in
    let k = amount-is c.args.elem c.args.y c.amount.result c.ranges.y c.amount.ensures.value in
    rw c.in-Shl.is (to_z-of_z w64 c.wrap_word-in-Shl.result fits ∙ c.wrap_word-in-Shl.ensures ∙ wrapped-product c.args.elem c.args.x (pos (2 ^ c.amount.result)) c.ranges.x power
    ∙ ap (λ n. wrapped c.args.elem (c.args.x *ℤ pos (2 ^ n))) k)

pub returns-in-Shr : goal.returns-in-Shr
returns-in-Shr c =
    let power = 2 ^ c.amount-in-Shr.result in
    let fits : FitsSigned w64 (shr_z c.args.x power) = record { sfits = omega (arith, mag_shr c.args.x power, c.ranges.x.sfits) } in
    let k = amount-is c.args.elem c.args.y c.amount-in-Shr.result c.ranges.y c.amount-in-Shr.ensures.value in
    let value : to_z w64 (of_z w64 (shr_z (to_z w64 (of_z w64 c.args.x)) power)) ≡ int_div_euclid c.args.x (pos (2 ^ amount_of c.args.elem c.args.y)) =
    ap (λ (x : ℤ). to_z w64 (of_z w64 (shr_z x power))) (to_z-of_z w64 c.args.x c.ranges.x) ∙ to_z-of_z w64 (shr_z c.args.x power) fits ∙ shr-is c.args.x power
    ∙ ap (λ n. int_div_euclid c.args.x (pos (2 ^ n))) k in
    rw c.in-Shr.is (is_wrapped c.args.elem _ _ value (IsElement-shifted c.args.elem c.args.x (amount_of c.args.elem c.args.y) c.requires.left))

pub returns-in-Min : goal.returns-in-Min
returns-in-Min c = rw c.in-Min.is (is_wrapped c.args.elem _ _ (search rules) (IsElement-min c.args.elem c.args.x c.args.y c.requires.left c.requires.right))

pub returns-in-Max : goal.returns-in-Max
returns-in-Max c = rw c.in-Max.is (is_wrapped c.args.elem _ _ (search rules) (IsElement-max c.args.elem c.args.x c.args.y c.requires.left c.requires.right))

pub returns-in-Eq : goal.returns-in-Eq
returns-in-Eq c = rw c.in-Eq.is (is_wrapped c.args.elem _ _ (search rules) (IsElement-one_or_zero c.args.elem _))

pub returns-in-Ne : goal.returns-in-Ne
returns-in-Ne c = rw c.in-Ne.is (is_wrapped c.args.elem _ _ (search rules) (IsElement-one_or_zero c.args.elem _))

pub returns-in-Lt : goal.returns-in-Lt
returns-in-Lt c = rw c.in-Lt.is (is_wrapped c.args.elem _ _ (search rules) (IsElement-one_or_zero c.args.elem _))

pub returns-in-Le : goal.returns-in-Le
returns-in-Le c = rw c.in-Le.is (is_wrapped c.args.elem _ _ (search rules) (IsElement-one_or_zero c.args.elem _))

pub returns-in-Gt : goal.returns-in-Gt
returns-in-Gt c = rw c.in-Gt.is (is_wrapped c.args.elem _ _ (search rules) (IsElement-one_or_zero c.args.elem _))

pub returns-in-Ge : goal.returns-in-Ge
returns-in-Ge c = rw c.in-Ge.is (is_wrapped c.args.elem _ _ (search rules) (IsElement-one_or_zero c.args.elem _))

pub returns-in-SatAdd : goal.returns-in-SatAdd
returns-in-SatAdd c =
    let x = element_small c.args.elem c.args.x c.requires.left in
    let y = element_small c.args.elem c.args.y c.requires.right in
    let fits : FitsSigned w64 c.nearest.result = search rules in
    let same : to_z w64 (of_z w64 (to_z w64 (of_z w64 c.args.x) +ℤ to_z w64 (of_z w64 c.args.y))) ≡ c.args.x +ℤ c.args.y = omega (arith, ints) in
    rw c.in-SatAdd.is (to_z-of_z w64 c.nearest.result fits ∙ c.nearest.ensures ∙ ap (nearest c.args.elem) same)

pub returns-in-SatSub : goal.returns-in-SatSub
returns-in-SatSub c =
    let x = element_small c.args.elem c.args.x c.requires.left in
    let y = element_small c.args.elem c.args.y c.requires.right in
    let fits : FitsSigned w64 c.nearest-in-SatSub.result = search rules in
    let same : to_z w64 (of_z w64 (to_z w64 (of_z w64 c.args.x) -ℤ to_z w64 (of_z w64 c.args.y))) ≡ c.args.x -ℤ c.args.y = omega (arith, ints) in
    rw c.in-SatSub.is (to_z-of_z w64 c.nearest-in-SatSub.result fits ∙ c.nearest-in-SatSub.ensures ∙ ap (nearest c.args.elem) same)
