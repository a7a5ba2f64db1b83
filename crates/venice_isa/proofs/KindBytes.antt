-- The bytes of vector instructions, and the numbers of operations and types.
use Rattle.std.proofs.Common.{◌≡◌, ◌≢◌, ℕ, zero, suc, ◌+◌, ◌*◌, ◌/◌, ◌%◌, ◌<◌, Bool, true, false, cond, eqb, ltb, ◌&&◌, List, [], ◌∷◌, Option, Some, None, refl, sym, ap, ◌∙◌, inl, inr, arith}
use Rattle.std.specs.Prelude.{IsTrue, slice_get}
use Rattle.std.specs.Option.{IsSome, IfSome, IsSomeAnd, is_some}
use Rattle.std.proofs.Math.Bool.{Bool-set}
use Rattle.std.proofs.lemmas.Bool.{cases_Bool, ltb-true, lt-ltb, eqb-true, eq-eqb, cond-true, cond-false}
use mathlib.Core.HLevel.{is_prop→PathP, →_prop}
use mathlib.Core.Sum.{⊎_set}
use Rattle.ven_base.specs.declared.elem.Elem.{Elem}
use Rattle.ven_base.specs.declared.elem.Elem.TheVariants.{U8, I8, U16, I16, U32, I32}
use Rattle.venice_isa.specs.declared.op.VecOp.{VecOp}
use Rattle.venice_isa.specs.declared.op.VecOp.TheVariants as ops
use Rattle.venice_isa.specs.declared.kind.VecKind.{VecKind}
use Rattle.venice_isa.specs.Mode.{IsMode, allows_mode}
use Rattle.venice_isa.specs.Parts.{HasParts}
use Rattle.venice_isa.specs.Form.{operations, element_types, allows_mode_byte, allows_types_byte}
use Rattle.venice_isa.specs.Encoding.{operation_number, type_number, bit, mode_byte, types_byte, high_type, is_cast, HasBytes}

-- ---- tables

-- each item has its place's number, from k on
abbrev Numbered : {A : Type 0} → (A → ℕ) → ℕ → List A → Type 0
Numbered f k [] = Unit {0}
Numbered f k (x ∷ xs) = (f x ≡ k) × Numbered f (k + 1) xs

numbered : {A : Type 0} (f : A → ℕ) (k : ℕ) (xs : List A) (n : ℕ) (x : A) → Numbered f k xs → slice_get xs n ≡ Some x → f x ≡ n + k
numbered f k [] n x all e = absurd cc
numbered f k (y ∷ ys) zero x all e =
    let same : y ≡ x = cc in
    let first : f x ≡ k = ap f (sym same) ∙ all.0 in
    omega arith
numbered f k (y ∷ ys) (suc n) x all e =
    let rest : f x ≡ n + (k + 1) = numbered f (k + 1) ys n x all.1 e in
    omega arith

pub operation_is : (n : ℕ) (op : VecOp) → slice_get operations n ≡ Some op → operation_number op ≡ n
operation_is n op e =
    let all : Numbered operation_number 0 operations = (refl, (refl, (refl, (refl, (refl, (refl, (refl, (refl, (refl, (refl, (refl, (refl, (refl, (refl, (refl, (refl, (refl, (refl, (refl, (refl, tt)))))))))))))))))))) in
    let found : operation_number op ≡ n + 0 = numbered operation_number 0 operations n op all e in
    omega arith

pub type_is : (n : ℕ) (elem : Elem) → slice_get element_types n ≡ Some elem → type_number elem ≡ n
type_is n elem e =
    let all : Numbered type_number 0 element_types = (refl, (refl, (refl, (refl, (refl, (refl, tt)))))) in
    let found : type_number elem ≡ n + 0 = numbered type_number 0 element_types n elem all e in
    omega arith

pub operation_again : (op : VecOp) → slice_get operations (operation_number op) ≡ Some op
operation_again ops.Mov = refl
operation_again ops.Cast = refl
operation_again ops.Add = refl
operation_again ops.Sub = refl
operation_again ops.Mul = refl
operation_again ops.And = refl
operation_again ops.Or = refl
operation_again ops.Xor = refl
operation_again ops.Shl = refl
operation_again ops.Shr = refl
operation_again ops.Min = refl
operation_again ops.Max = refl
operation_again ops.Abs = refl
operation_again ops.Eq = refl
operation_again ops.Ne = refl
operation_again ops.Lt = refl
operation_again ops.Le = refl
operation_again ops.Cmov = refl
operation_again ops.Sadd = refl
operation_again ops.Ssub = refl

pub type_again : (elem : Elem) → slice_get element_types (type_number elem) ≡ Some elem
type_again U8 = refl
type_again I8 = refl
type_again U16 = refl
type_again I16 = refl
type_again U32 = refl
type_again I32 = refl

type_below : (elem : Elem) → type_number elem < 6
type_below U8 = omega arith
type_below I8 = omega arith
type_below U16 = omega arith
type_below I16 = omega arith
type_below U32 = omega arith
type_below I32 = omega arith

same_operation : (k j : VecOp) → operation_number k ≡ operation_number j → k ≡ j
same_operation k j e = cc (operation_again k, operation_again j, ap (slice_get operations) e)

same_type : (k j : Elem) → type_number k ≡ type_number j → k ≡ j
same_type k j e = cc (type_again k, type_again j, ap (slice_get element_types) e)

-- ---- casts

cast_is : (op : VecOp) → is_cast op ≡ true → op ≡ ops.Cast
cast_is ops.Mov e = absurd cc
cast_is ops.Cast e = refl
cast_is ops.Add e = absurd cc
cast_is ops.Sub e = absurd cc
cast_is ops.Mul e = absurd cc
cast_is ops.And e = absurd cc
cast_is ops.Or e = absurd cc
cast_is ops.Xor e = absurd cc
cast_is ops.Shl e = absurd cc
cast_is ops.Shr e = absurd cc
cast_is ops.Min e = absurd cc
cast_is ops.Max e = absurd cc
cast_is ops.Abs e = absurd cc
cast_is ops.Eq e = absurd cc
cast_is ops.Ne e = absurd cc
cast_is ops.Lt e = absurd cc
cast_is ops.Le e = absurd cc
cast_is ops.Cmov e = absurd cc
cast_is ops.Sadd e = absurd cc
cast_is ops.Ssub e = absurd cc

no_cast : (op : VecOp) → is_cast op ≡ false → op ≢ ops.Cast
no_cast op plain e =
    let cast : is_cast op ≡ true = ap is_cast e in
    cc

-- the operand's type is the results' unless it is cast
pub from_is_one : (op : VecOp) (elem from : Elem) → (is_cast op ≡ false → from ≡ elem) → op ≢ ops.Cast → from ≡ elem
from_is_one op elem from plain other = elim (cases_Bool (is_cast op)) [ inl e ↦ absurd (other (cast_is op e)) | inr e ↦ plain e ]

-- ---- bits

bit_again : (n : ℕ) → n < 2 → bit (eqb n 1) ≡ n
bit_again zero small = refl
bit_again (suc zero) small = refl
bit_again (suc (suc n)) small = absurd (omega arith)

bit_below : (b : Bool) → bit b < 2
bit_below true = omega arith
bit_below false = omega arith

same_bit : (a b : Bool) → bit a ≡ bit b → a ≡ b
same_bit true true e = refl
same_bit true false e = absurd (omega arith)
same_bit false true e = absurd (omega arith)
same_bit false false e = refl

bit_is_one : (b : Bool) → eqb (bit b) 1 ≡ b
bit_is_one true = refl
bit_is_one false = refl

-- the bits of a mode below 8 make it up
mode_again : (mode : ℕ) → mode < 8 → bit (eqb (mode % 2) 1) + 2 * bit (eqb (mode / 2 % 2) 1) + 4 * bit (eqb (mode / 4) 1) ≡ mode
mode_again mode small =
    let a = bit_again (mode % 2) (omega arith) in
    let b = bit_again (mode / 2 % 2) (omega arith) in
    let c = bit_again (mode / 4) (omega arith) in
    let parts : mode % 2 + 2 * (mode / 2 % 2) + 4 * (mode / 4) ≡ mode = omega arith in
    omega (arith, a, b, c, parts)

-- ---- from the bytes to a kind

and_first : (a b : Bool) → IsTrue (a && b) → a ≡ true
and_first true b e = refl
and_first false b e = absurd cc

and_second : (a b : Bool) → IsTrue (a && b) → b ≡ true
and_second true b e = e
and_second false b e = absurd cc

pub mode_small : (op : VecOp) (mode : ℕ) → IsTrue (allows_mode_byte (Some op) mode) → mode < 8
mode_small op mode ok = ltb-true mode 8 (and_first (ltb mode 8) (allows_mode op (eqb (mode / 2 % 2) 1) (eqb (mode / 4) 1)) ok)

pub mode_allowed : (op : VecOp) (mode : ℕ) → IsTrue (allows_mode_byte (Some op) mode) → IsTrue (allows_mode op (eqb (mode / 2 % 2) 1) (eqb (mode / 4) 1))
mode_allowed op mode ok = and_second (ltb mode 8) (allows_mode op (eqb (mode / 2 % 2) 1) (eqb (mode / 4) 1)) ok

-- the types of a byte, as they are read
pub record AreTypes (op : VecOp) (types : ℕ) (elem from : Elem) : Type 0 where
  pub elem_is : slice_get element_types (types % 16) ≡ Some elem
  pub from_cast : is_cast op ≡ true → slice_get element_types (types / 16) ≡ Some from
  pub from_plain : is_cast op ≡ false → from ≡ elem

high_plain : (op : VecOp) (types : ℕ) → is_cast op ≡ false → IsTrue (allows_types_byte (Some op) types) → types / 16 ≡ 0
high_plain op types plain ok =
    let second : cond (is_cast op) (is_some (slice_get element_types (types / 16))) (eqb (types / 16) 0) ≡ true = and_second (is_some (slice_get element_types (types % 16))) (cond (is_cast op) (is_some (slice_get element_types (types / 16))) (eqb (types / 16) 0)) ok in
    eqb-true (types / 16) 0 (sym (cond-false (is_cast op) (is_some (slice_get element_types (types / 16))) (eqb (types / 16) 0) plain) ∙ second)

types_again : (op : VecOp) (types : ℕ) (elem from : Elem) → IsTrue (allows_types_byte (Some op) types) → AreTypes op types elem from → type_number elem + 16 * high_type op from ≡ types
types_again op types elem from ok are =
    let low : type_number elem ≡ types % 16 = type_is (types % 16) elem are.elem_is in
    let high : high_type op from ≡ types / 16 = elim (cases_Bool (is_cast op)) [
      | inl cast ↦ cond-true (is_cast op) (type_number from) 0 cast ∙ type_is (types / 16) from (are.from_cast cast)
      | inr plain ↦ cond-false (is_cast op) (type_number from) 0 plain ∙ sym (high_plain op types plain ok)
    ] in
    omega (arith, low, high)

pub record IsRead (operation mode types : ℕ) (op : VecOp) (elem from : Elem) : Type 0 where
  pub operation_is : slice_get operations operation ≡ Some op
  pub mode_is : IsTrue (allows_mode_byte (Some op) mode)
  pub types_is : IsTrue (allows_types_byte (Some op) types)
  pub are : AreTypes op types elem from

pub read_mode : (operation mode types : ℕ) (op : VecOp) (elem from : Elem) → IsRead operation mode types op elem from → IsMode op elem from (eqb (mode / 2 % 2) 1) (eqb (mode / 4) 1)
read_mode operation mode types op elem from read = record {
  allowed = mode_allowed op mode read.mode_is;
  one_type = from_is_one op elem from read.are.from_plain;
}

read_bytes : (operation mode types : ℕ) (op : VecOp) (elem from : Elem) (kind : VecKind) → IsRead operation mode types op elem from → HasParts kind op elem from (eqb (mode % 2) 1) (eqb (mode / 2 % 2) 1) (eqb (mode / 4) 1) → HasBytes operation mode types kind
read_bytes operation mode types op elem from kind read parts = record {
  operation_is = ap operation_number parts.op_is ∙ operation_is operation op read.operation_is;
  mode_is =
      let a : bit kind.a_scalar ≡ bit (eqb (mode % 2) 1) = ap bit parts.a_scalar_is in
      let b : bit kind.b_scalar ≡ bit (eqb (mode / 2 % 2) 1) = ap bit parts.b_scalar_is in
      let c : bit kind.acc ≡ bit (eqb (mode / 4) 1) = ap bit parts.acc_is in
      omega (arith, a, b, c, mode_again mode (mode_small op mode read.mode_is));
  types_is =
      let low : type_number kind.elem ≡ type_number elem = ap type_number parts.elem_is in
      let high : high_type kind.op kind.from ≡ high_type op from = ap (λ o. high_type o kind.from) parts.op_is ∙ ap (high_type op) parts.from_is in
      omega (arith, low, high, types_again op types elem from read.types_is read.are);
}

pub kind_read : (operation mode types : ℕ) (op : VecOp) (elem from : Elem) (made : Option VecKind) → IsRead operation mode types op elem from → IsSome made → IfSome made (λ kind. HasParts kind op elem from (eqb (mode % 2) 1) (eqb (mode / 2 % 2) 1) (eqb (mode / 4) 1)) → IsSomeAnd made (HasBytes operation mode types)
kind_read operation mode types op elem from None read some parts = absurd cc
kind_read operation mode types op elem from (Some kind) read some parts = read_bytes operation mode types op elem from kind read parts

-- ---- from a kind to its bytes

elem_set : IsSet Elem
elem_set = hlevel ⊎_set

kind_path : (k j : VecKind) → k.op ≡ j.op → k.elem ≡ j.elem → k.from ≡ j.from → k.a_scalar ≡ j.a_scalar → k.b_scalar ≡ j.b_scalar → k.acc ≡ j.acc → k ≡ j
kind_path k j op elem from a b acc = λ i. record {
  op = op i;
  elem = elem i;
  from = from i;
  a_scalar = a i;
  b_scalar = b i;
  acc = acc i;
  mode_allowed = is_prop→PathP (λ i. IsTrue (allows_mode (op i) (b i) (acc i))) (λ i. Bool-set (allows_mode (op i) (b i) (acc i)) true) k.mode_allowed j.mode_allowed i;
  one_type = is_prop→PathP (λ i. op i ≢ ops.Cast → from i ≡ elem i) (λ i. →_prop (elem_set (from i) (elem i))) k.one_type j.one_type i;
}

-- a kind has its bytes alone
pub same_kind : (k j : VecKind) → operation_number k.op ≡ operation_number j.op → mode_byte k ≡ mode_byte j → types_byte k ≡ types_byte j → k ≡ j
same_kind k j operations_same modes_same types_same =
    let op_same : k.op ≡ j.op = same_operation k.op j.op operations_same in
    let ka = bit_below k.a_scalar in
    let kb = bit_below k.b_scalar in
    let ja = bit_below j.a_scalar in
    let jb = bit_below j.b_scalar in
    let a : k.a_scalar ≡ j.a_scalar = same_bit k.a_scalar j.a_scalar (omega arith) in
    let b : k.b_scalar ≡ j.b_scalar = same_bit k.b_scalar j.b_scalar (omega arith) in
    let c : k.acc ≡ j.acc = same_bit k.acc j.acc (omega arith) in
    let kt = type_below k.elem in
    let jt = type_below j.elem in
    let elem_same : k.elem ≡ j.elem = same_type k.elem j.elem (omega arith) in
    let high_same : high_type k.op k.from ≡ high_type j.op j.from = omega arith in
    let from_same : k.from ≡ j.from = elim (cases_Bool (is_cast k.op)) [
      | inl cast ↦
          let cast' : is_cast j.op ≡ true = ap is_cast (sym op_same) ∙ cast in
          same_type k.from j.from (sym (cond-true (is_cast k.op) (type_number k.from) 0 cast) ∙ high_same ∙ cond-true (is_cast j.op) (type_number j.from) 0 cast')
      | inr plain ↦
          let plain' : is_cast j.op ≡ false = ap is_cast (sym op_same) ∙ plain in
          k.one_type (no_cast k.op plain) ∙ elem_same ∙ sym (j.one_type (no_cast j.op plain'))
    ] in
    kind_path k j op_same elem_same from_same a b c

-- the bytes of a kind are allowed
kind_mode : (k : VecKind) → IsTrue (allows_mode_byte (Some k.op) (mode_byte k))
kind_mode k =
    let a = bit_below k.a_scalar in
    let b = bit_below k.b_scalar in
    let c = bit_below k.acc in
    let small : ltb (mode_byte k) 8 ≡ true = lt-ltb (mode_byte k) 8 (omega arith) in
    let second : mode_byte k / 2 % 2 ≡ bit k.b_scalar = omega arith in
    let third : mode_byte k / 4 ≡ bit k.acc = omega arith in
    let b_is : eqb (mode_byte k / 2 % 2) 1 ≡ k.b_scalar = ap (λ n. eqb n 1) second ∙ bit_is_one k.b_scalar in
    let c_is : eqb (mode_byte k / 4) 1 ≡ k.acc = ap (λ n. eqb n 1) third ∙ bit_is_one k.acc in
    ap (λ t. t && allows_mode k.op (eqb (mode_byte k / 2 % 2) 1) (eqb (mode_byte k / 4) 1)) small
    ∙ ap (λ t. allows_mode k.op t (eqb (mode_byte k / 4) 1)) b_is
    ∙ ap (allows_mode k.op k.b_scalar) c_is
    ∙ k.mode_allowed

kind_types : (k : VecKind) → IsTrue (allows_types_byte (Some k.op) (types_byte k))
kind_types k =
    let t = type_below k.elem in
    let low : types_byte k % 16 ≡ type_number k.elem = omega arith in
    let high : types_byte k / 16 ≡ high_type k.op k.from = omega arith in
    let low_there : is_some (slice_get element_types (types_byte k % 16)) ≡ true = ap (λ n. is_some (slice_get element_types n)) low ∙ ap is_some (type_again k.elem) in
    let high_there : cond (is_cast k.op) (is_some (slice_get element_types (types_byte k / 16))) (eqb (types_byte k / 16) 0) ≡ true =
    elim (cases_Bool (is_cast k.op)) [
      | inl cast ↦
          let here : types_byte k / 16 ≡ type_number k.from = high ∙ cond-true (is_cast k.op) (type_number k.from) 0 cast in
          cond-true (is_cast k.op) (is_some (slice_get element_types (types_byte k / 16))) (eqb (types_byte k / 16) 0) cast
          ∙ ap (λ n. is_some (slice_get element_types n)) here ∙ ap is_some (type_again k.from)
      | inr plain ↦
          let here : types_byte k / 16 ≡ 0 = high ∙ cond-false (is_cast k.op) (type_number k.from) 0 plain in
          cond-false (is_cast k.op) (is_some (slice_get element_types (types_byte k / 16))) (eqb (types_byte k / 16) 0) plain
          ∙ eq-eqb (types_byte k / 16) 0 here
    ] in
    ap (λ t. t && cond (is_cast k.op) (is_some (slice_get element_types (types_byte k / 16))) (eqb (types_byte k / 16) 0)) low_there ∙ high_there

pub kind_mode_allowed : (k : VecKind) → IsTrue (allows_mode_byte (slice_get operations (operation_number k.op)) (mode_byte k))
kind_mode_allowed k = ap (λ o. allows_mode_byte o (mode_byte k)) (operation_again k.op) ∙ kind_mode k

pub kind_types_allowed : (k : VecKind) → IsTrue (allows_types_byte (slice_get operations (operation_number k.op)) (types_byte k))
kind_types_allowed k = ap (λ o. allows_types_byte o (types_byte k)) (operation_again k.op) ∙ kind_types k
