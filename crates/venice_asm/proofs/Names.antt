-- The spellings are names.
use Rattle.std.proofs.Common.{◌≡◌, ◌↔◌, IsTrue, ℕ, zero, suc, ◌+◌, ◌*◌, ◌<◌, ◌≤◌, ◌^◌, ◌%◌, Bool, true, false, List, [], ◌∷◌, length, refl, arith, length-append}
use Rattle.std.specs.Prelude.{decimal}
use Rattle.std.specs.List.{list_all, list_any}
use Rattle.std.specs.Str.{bytes_eq}
use Rattle.std.proofs.lemmas.Bool.{and_from, and_parts}
use Rattle.std.proofs.lemmas.Bool.Decides.{nat_tests}
use Rattle.std.proofs.lemmas.Fmt.{decimal_by_steps}
use Rattle.ven_base.specs.declared.elem.Elem.{Elem}
use Rattle.ven_base.specs.declared.elem.Elem.TheVariants.{U8, I8, U16, I16, U32, I32}
use Rattle.ven_base.specs.Name.{is_digit, is_name_byte, reserved_words, IsReserved}
use Rattle.ven_base.proofs.Words.{any_is-Contains}
use Rattle.venice_isa.specs.declared.op.VecOp.{VecOp}
use Rattle.venice_isa.specs.declared.op.VecOp.TheVariants as ops
use Rattle.venice_asm.specs.declared.head.Head.{Head}
use Rattle.venice_asm.specs.declared.head.Head.TheVariants as heads
use Rattle.venice_asm.specs.Label.{IsLabel}
use Rattle.venice_asm.specs.Lines.{is_reserved}
use Rattle.venice_asm.specs.Spelling.{head_word, type_word, operation_word, parameter_word, direction_word, transfer_word, register_word, letter, sum_word}
use Rattle.venice_asm.proofs.Spelled.{spelled}

-- ---- reserved words

pub reserved_is : (r : Bool) (bytes : List ℕ) → IsTrue r ↔ IsReserved bytes → r ≡ is_reserved bytes
unfolding is_reserved
reserved_is r bytes h = by r (list_any (bytes_eq bytes) reserved_words) (any_is-Contains (list_any (bytes_eq bytes) reserved_words) bytes reserved_words refl) h
  where
    by : (a b : Bool) → IsTrue b ↔ IsReserved bytes → IsTrue a ↔ IsReserved bytes → a ≡ b
    by true true f g = refl
    by false false f g = refl
    by true false f g = let e : false ≡ true = f.1 (g.0 refl) in absurd (cc)
    by false true f g = let e : false ≡ true = g.1 (f.0 refl) in absurd (cc)

pub not_reserved : (bytes : List ℕ) → ¬ IsReserved bytes → is_reserved bytes ≡ false
unfolding is_reserved
not_reserved bytes free = by (list_any (bytes_eq bytes) reserved_words) (any_is-Contains (list_any (bytes_eq bytes) reserved_words) bytes reserved_words refl)
  where
    by : (b : Bool) → IsTrue b ↔ IsReserved bytes → b ≡ false
    by true f = absurd (free (f.0 refl))
    by false f = refl

-- ---- names

pub head_label : (head : Head) → IsLabel (head_word head)
head_label heads.Version = record { token = (refl, refl); short = omega arith }
head_label heads.Spad = record { token = (refl, refl); short = omega arith }
head_label heads.Memory = record { token = (refl, refl); short = omega arith }
head_label heads.Array = record { token = (refl, refl); short = omega arith }
head_label heads.Halt = record { token = (refl, refl); short = omega arith }
head_label heads.Li = record { token = (refl, refl); short = omega arith }
head_label heads.Addi = record { token = (refl, refl); short = omega arith }
head_label heads.Add = record { token = (refl, refl); short = omega arith }
head_label heads.Sub = record { token = (refl, refl); short = omega arith }
head_label heads.Mul = record { token = (refl, refl); short = omega arith }
head_label heads.Div = record { token = (refl, refl); short = omega arith }
head_label heads.Bnz = record { token = (refl, refl); short = omega arith }
head_label heads.Blt = record { token = (refl, refl); short = omega arith }
head_label heads.Jmp = record { token = (refl, refl); short = omega arith }
head_label heads.Set = record { token = (refl, refl); short = omega arith }
head_label heads.Vec = record { token = (refl, refl); short = omega arith }
head_label heads.Dma = record { token = (refl, refl); short = omega arith }
head_label heads.Rwait = record { token = (refl, refl); short = omega arith }
head_label heads.Wwait = record { token = (refl, refl); short = omega arith }
head_label heads.Vwait = record { token = (refl, refl); short = omega arith }
head_label heads.Tag = record { token = (refl, refl); short = omega arith }
head_label heads.Twait = record { token = (refl, refl); short = omega arith }

pub operation_label : (op : VecOp) → IsLabel (operation_word op)
operation_label ops.Mov = record { token = (refl, refl); short = omega arith }
operation_label ops.Cast = record { token = (refl, refl); short = omega arith }
operation_label ops.Add = record { token = (refl, refl); short = omega arith }
operation_label ops.Sub = record { token = (refl, refl); short = omega arith }
operation_label ops.Mul = record { token = (refl, refl); short = omega arith }
operation_label ops.And = record { token = (refl, refl); short = omega arith }
operation_label ops.Or = record { token = (refl, refl); short = omega arith }
operation_label ops.Xor = record { token = (refl, refl); short = omega arith }
operation_label ops.Shl = record { token = (refl, refl); short = omega arith }
operation_label ops.Shr = record { token = (refl, refl); short = omega arith }
operation_label ops.Min = record { token = (refl, refl); short = omega arith }
operation_label ops.Max = record { token = (refl, refl); short = omega arith }
operation_label ops.Abs = record { token = (refl, refl); short = omega arith }
operation_label ops.Eq = record { token = (refl, refl); short = omega arith }
operation_label ops.Ne = record { token = (refl, refl); short = omega arith }
operation_label ops.Lt = record { token = (refl, refl); short = omega arith }
operation_label ops.Le = record { token = (refl, refl); short = omega arith }
operation_label ops.Cmov = record { token = (refl, refl); short = omega arith }
operation_label ops.Sadd = record { token = (refl, refl); short = omega arith }
operation_label ops.Ssub = record { token = (refl, refl); short = omega arith }

pub type_label : (elem : Elem) → IsLabel (type_word elem)
type_label U8 = record { token = (refl, refl); short = omega arith }
type_label I8 = record { token = (refl, refl); short = omega arith }
type_label U16 = record { token = (refl, refl); short = omega arith }
type_label I16 = record { token = (refl, refl); short = omega arith }
type_label U32 = record { token = (refl, refl); short = omega arith }
type_label I32 = record { token = (refl, refl); short = omega arith }

pub parameter_label : (number : ℕ) → number < 14 → IsLabel (parameter_word number)
parameter_label zero lt = record { token = (refl, refl); short = omega arith }
parameter_label (suc zero) lt = record { token = (refl, refl); short = omega arith }
parameter_label (suc (suc zero)) lt = record { token = (refl, refl); short = omega arith }
parameter_label (suc (suc (suc zero))) lt = record { token = (refl, refl); short = omega arith }
parameter_label (suc (suc (suc (suc zero)))) lt = record { token = (refl, refl); short = omega arith }
parameter_label (suc (suc (suc (suc (suc zero))))) lt = record { token = (refl, refl); short = omega arith }
parameter_label (suc (suc (suc (suc (suc (suc zero)))))) lt = record { token = (refl, refl); short = omega arith }
parameter_label (suc (suc (suc (suc (suc (suc (suc zero))))))) lt = record { token = (refl, refl); short = omega arith }
parameter_label (suc (suc (suc (suc (suc (suc (suc (suc zero)))))))) lt = record { token = (refl, refl); short = omega arith }
parameter_label (suc (suc (suc (suc (suc (suc (suc (suc (suc zero))))))))) lt = record { token = (refl, refl); short = omega arith }
parameter_label (suc (suc (suc (suc (suc (suc (suc (suc (suc (suc zero)))))))))) lt = record { token = (refl, refl); short = omega arith }
parameter_label (suc (suc (suc (suc (suc (suc (suc (suc (suc (suc (suc zero))))))))))) lt = record { token = (refl, refl); short = omega arith }
parameter_label (suc (suc (suc (suc (suc (suc (suc (suc (suc (suc (suc (suc zero)))))))))))) lt = record { token = (refl, refl); short = omega arith }
parameter_label (suc (suc (suc (suc (suc (suc (suc (suc (suc (suc (suc (suc (suc zero))))))))))))) lt = record { token = (refl, refl); short = omega arith }
parameter_label (suc (suc (suc (suc (suc (suc (suc (suc (suc (suc (suc (suc (suc (suc k)))))))))))))) lt = absurd (omega arith)

pub direction_label : (b : Bool) → IsLabel (direction_word b)
direction_label false = record { token = (refl, refl); short = omega arith }
direction_label true = record { token = (refl, refl); short = omega arith }

pub transfer_label : (b : Bool) → IsLabel (transfer_word b)
transfer_label false = record { token = (refl, refl); short = omega arith }
transfer_label true = record { token = (refl, refl); short = omega arith }

pub one_letter_label : (a : Bool) → IsLabel (letter a ∷ [])
one_letter_label false = record { token = (refl, refl); short = omega arith }
one_letter_label true = record { token = (refl, refl); short = omega arith }

pub two_letter_label : (a b : Bool) → IsLabel (letter a ∷ letter b ∷ [])
two_letter_label false false = record { token = (refl, refl); short = omega arith }
two_letter_label false true = record { token = (refl, refl); short = omega arith }
two_letter_label true false = record { token = (refl, refl); short = omega arith }
two_letter_label true true = record { token = (refl, refl); short = omega arith }

pub sum_label : IsLabel sum_word
sum_label = record { token = (refl, refl); short = omega arith }

-- ---- registers

digit_in_name : (b : ℕ) → is_digit b ≡ true → is_name_byte b ≡ true
digit_in_name b digit = grind (arith, nat_tests)

digits_in_name : (digits : List ℕ) → list_all is_digit digits ≡ true → list_all is_name_byte digits ≡ true
digits_in_name [] all = refl
digits_in_name (b ∷ digits) all =
    let both = and_parts (is_digit b) (list_all is_digit digits) all in
    and_from (is_name_byte b) (list_all is_name_byte digits) (digit_in_name b both.0) (digits_in_name digits both.1)

-- a small number has few digits
abbrev IsShort : ℕ → List ℕ → Type 0
IsShort n digits = 5 * length digits ≤ n + 5

few_digits : (n : ℕ) → n < 2 ^ 64 → IsShort n (decimal n)
few_digits n small = decimal_by_steps IsShort (λ k lt. omega arith) (λ k ds ge h. omega (arith, length-append ds ((48 + k % 10) ∷ []), h)) n small

pub register_label : (number : ℕ) → number < 32 → IsLabel (register_word number)
register_label number lt =
    let digits = spelled number (omega arith) in
    let short = few_digits number (omega arith) in
    record { token = (refl, and_from (is_name_byte 114) (list_all is_name_byte (decimal number)) refl (digits_in_name (decimal number) digits.each)); short = omega (arith, short) }
