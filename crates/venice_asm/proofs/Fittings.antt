-- What the functions on operands answer.
use Rattle.std.proofs.Common.{◌≡◌, ◌≢◌, ◌⊎◌, inl, inr, min, ℕ, zero, suc, ◌+◌, ◌<◌, ◌≤◌, ◌^◌, Bool, true, false, List, [], ◌∷◌, length, drop, Some, None, refl, sym, ap, subst, ◌∙◌, arith}
use Rattle.std.specs.Prelude.{nat_lt, if◌then◌else◌}
use Rattle.std.specs.List.{list_all}
use Rattle.std.specs.Option.{option_map}
use Rattle.std.specs.Str.{bytes_eq}
use Rattle.std.proofs.lemmas.Bool.{and_from, and_parts, cases_lt}
use Rattle.std.proofs.lemmas.Bool.Decides.{nat_tests}
use Rattle.ven_base.specs.Name.{is_digit}
use Rattle.ven_io.specs.Number.{digits_value, value_of, number_limit}
use Rattle.ven_io.specs.Token.{IsNumberToken}
use Rattle.venice_asm.specs.Words.{too_large}
use Rattle.venice_asm.specs.declared.fitting.Misfit.{Misfit}
use Rattle.venice_asm.specs.declared.fitting.Misfit.TheVariants as misfits
use Rattle.venice_isa.specs.declared.instr.Version.{Version}
use Rattle.venice_asm.specs.declared.head.Kind.{Kind}
use Rattle.venice_asm.specs.declared.head.Kind.TheVariants as kinds
use Rattle.venice_asm.specs.declared.operand.Operand.{Operand}
use Rattle.venice_asm.specs.declared.operand.Operand.TheVariants as operands
use Rattle.venice_asm.specs.declared.word.Word.TheVariants as words
use Rattle.venice_asm.specs.Fitting.{IsRegisterOf, IsNoRegister, IsMisfit, number_from, is_plain_decimal, register_named, number_operand, IsOutside}
use Rattle.venice_asm.specs.Lines.{in_range, register_bound}
use Rattle.venice_asm.specs.Spelling.{parameter_words, parameter_word}
use Rattle.venice_asm.proofs.Registers.{none_some, value_below}
use Rattle.venice_asm.proofs.Spelled.{not_hexadecimal}

-- kinds without a range of their own
pub own_range : (kind : Kind) (operand : Operand) → kind ≢ kinds.Version → kind ≢ kinds.ModeFlags → kind ≢ kinds.NoSum → in_range kinds.Number operand ≡ in_range kind operand
own_range kinds.Version operand version flags sum = absurd (version refl)
own_range kinds.ModeFlags operand version flags sum = absurd (flags refl)
own_range kinds.NoSum operand version flags sum = absurd (sum refl)
own_range kind operand version flags sum = refl

pub no_number : (operand : Operand) → ((n : ℕ) → operand ≢ operands.Number n) → in_range kinds.Number operand ≡ in_range kinds.Version operand
no_number (operands.Number n) other = absurd (other n refl)
no_number operand other = refl

pub no_two_letters : (operand : Operand) → ((a b : Bool) → operand ≢ operands.ModeAB a b) → in_range kinds.Number operand ≡ in_range kinds.ModeFlags operand
no_two_letters (operands.ModeAB a b) other = absurd (other a b refl)
no_two_letters operand other = refl

-- the next parameter's word
pub next_parameter : (k : ℕ) (bytes : List ℕ) → k < 14 → number_from k (drop k parameter_words) bytes ≡ (if bytes_eq bytes (parameter_word k) then Some k else number_from (k + 1) (drop (k + 1) parameter_words) bytes)
next_parameter zero bytes lt = refl
next_parameter (suc zero) bytes lt = refl
next_parameter (suc (suc zero)) bytes lt = refl
next_parameter (suc (suc (suc zero))) bytes lt = refl
next_parameter (suc (suc (suc (suc zero)))) bytes lt = refl
next_parameter (suc (suc (suc (suc (suc zero))))) bytes lt = refl
next_parameter (suc (suc (suc (suc (suc (suc zero)))))) bytes lt = refl
next_parameter (suc (suc (suc (suc (suc (suc (suc zero))))))) bytes lt = refl
next_parameter (suc (suc (suc (suc (suc (suc (suc (suc zero)))))))) bytes lt = refl
next_parameter (suc (suc (suc (suc (suc (suc (suc (suc (suc zero))))))))) bytes lt = refl
next_parameter (suc (suc (suc (suc (suc (suc (suc (suc (suc (suc zero)))))))))) bytes lt = refl
next_parameter (suc (suc (suc (suc (suc (suc (suc (suc (suc (suc (suc zero))))))))))) bytes lt = refl
next_parameter (suc (suc (suc (suc (suc (suc (suc (suc (suc (suc (suc (suc zero)))))))))))) bytes lt = refl
next_parameter (suc (suc (suc (suc (suc (suc (suc (suc (suc (suc (suc (suc (suc zero))))))))))))) bytes lt = refl
next_parameter (suc (suc (suc (suc (suc (suc (suc (suc (suc (suc (suc (suc (suc (suc k)))))))))))))) bytes lt = absurd (omega arith)

-- a number that is too large
pub outside_number : (version : Version) (kind : Kind) (n m : ℕ) (operand : Operand) → number_limit < n → number_operand kind m ≡ Some operand → IsOutside version kind (words.Number n)
outside_number version kinds.Version n m operand large e = record { operand = operands.Number n; is = refl; outside = grind (arith, nat_tests) }
outside_number version kinds.Number n m operand large e = record { operand = operands.Number n; is = refl; outside = grind (arith, nat_tests) }
outside_number version kinds.Target n m operand large e = record { operand = operands.Number n; is = refl; outside = grind (arith, nat_tests) }
outside_number version kinds.Rows n m operand large e = record { operand = operands.Rows n; is = refl; outside = grind (arith, nat_tests) }
outside_number version kinds.Columns n m operand large e = record { operand = operands.Columns n; is = refl; outside = grind (arith, nat_tests) }
outside_number version kind n m operand large e = absurd (none_some operand e)

-- the number of a register's name
plain_value : (digits : List ℕ) → is_plain_decimal digits ≡ true → (list_all is_digit digits ≡ true)
plain_value [] h = refl
plain_value (b ∷ digits) h = (and_parts (list_all is_digit (b ∷ digits)) _ h).0

ten_powers : (k : ℕ) → k ≤ 30 → 10 ^ k ≤ 10 ^ 30
ten_powers zero le = omega arith
ten_powers (suc zero) le = omega arith
ten_powers (suc (suc zero)) le = omega arith
ten_powers (suc (suc (suc zero))) le = omega arith
ten_powers (suc (suc (suc (suc zero)))) le = omega arith
ten_powers (suc (suc (suc (suc (suc zero))))) le = omega arith
ten_powers (suc (suc (suc (suc (suc (suc zero)))))) le = omega arith
ten_powers (suc (suc (suc (suc (suc (suc (suc zero))))))) le = omega arith
ten_powers (suc (suc (suc (suc (suc (suc (suc (suc zero)))))))) le = omega arith
ten_powers (suc (suc (suc (suc (suc (suc (suc (suc (suc zero))))))))) le = omega arith
ten_powers (suc (suc (suc (suc (suc (suc (suc (suc (suc (suc zero)))))))))) le = omega arith
ten_powers (suc (suc (suc (suc (suc (suc (suc (suc (suc (suc (suc zero))))))))))) le = omega arith
ten_powers (suc (suc (suc (suc (suc (suc (suc (suc (suc (suc (suc (suc zero)))))))))))) le = omega arith
ten_powers (suc (suc (suc (suc (suc (suc (suc (suc (suc (suc (suc (suc (suc zero))))))))))))) le = omega arith
ten_powers (suc (suc (suc (suc (suc (suc (suc (suc (suc (suc (suc (suc (suc (suc zero)))))))))))))) le = omega arith
ten_powers (suc (suc (suc (suc (suc (suc (suc (suc (suc (suc (suc (suc (suc (suc (suc zero))))))))))))))) le = omega arith
ten_powers (suc (suc (suc (suc (suc (suc (suc (suc (suc (suc (suc (suc (suc (suc (suc (suc zero)))))))))))))))) le = omega arith
ten_powers (suc (suc (suc (suc (suc (suc (suc (suc (suc (suc (suc (suc (suc (suc (suc (suc (suc zero))))))))))))))))) le = omega arith
ten_powers (suc (suc (suc (suc (suc (suc (suc (suc (suc (suc (suc (suc (suc (suc (suc (suc (suc (suc zero)))))))))))))))))) le = omega arith
ten_powers (suc (suc (suc (suc (suc (suc (suc (suc (suc (suc (suc (suc (suc (suc (suc (suc (suc (suc (suc zero))))))))))))))))))) le = omega arith
ten_powers (suc (suc (suc (suc (suc (suc (suc (suc (suc (suc (suc (suc (suc (suc (suc (suc (suc (suc (suc (suc zero)))))))))))))))))))) le = omega arith
ten_powers (suc (suc (suc (suc (suc (suc (suc (suc (suc (suc (suc (suc (suc (suc (suc (suc (suc (suc (suc (suc (suc zero))))))))))))))))))))) le = omega arith
ten_powers (suc (suc (suc (suc (suc (suc (suc (suc (suc (suc (suc (suc (suc (suc (suc (suc (suc (suc (suc (suc (suc (suc zero)))))))))))))))))))))) le = omega arith
ten_powers (suc (suc (suc (suc (suc (suc (suc (suc (suc (suc (suc (suc (suc (suc (suc (suc (suc (suc (suc (suc (suc (suc (suc zero))))))))))))))))))))))) le = omega arith
ten_powers (suc (suc (suc (suc (suc (suc (suc (suc (suc (suc (suc (suc (suc (suc (suc (suc (suc (suc (suc (suc (suc (suc (suc (suc zero)))))))))))))))))))))))) le = omega arith
ten_powers (suc (suc (suc (suc (suc (suc (suc (suc (suc (suc (suc (suc (suc (suc (suc (suc (suc (suc (suc (suc (suc (suc (suc (suc (suc zero))))))))))))))))))))))))) le = omega arith
ten_powers (suc (suc (suc (suc (suc (suc (suc (suc (suc (suc (suc (suc (suc (suc (suc (suc (suc (suc (suc (suc (suc (suc (suc (suc (suc (suc zero)))))))))))))))))))))))))) le = omega arith
ten_powers (suc (suc (suc (suc (suc (suc (suc (suc (suc (suc (suc (suc (suc (suc (suc (suc (suc (suc (suc (suc (suc (suc (suc (suc (suc (suc (suc zero))))))))))))))))))))))))))) le = omega arith
ten_powers (suc (suc (suc (suc (suc (suc (suc (suc (suc (suc (suc (suc (suc (suc (suc (suc (suc (suc (suc (suc (suc (suc (suc (suc (suc (suc (suc (suc zero)))))))))))))))))))))))))))) le = omega arith
ten_powers (suc (suc (suc (suc (suc (suc (suc (suc (suc (suc (suc (suc (suc (suc (suc (suc (suc (suc (suc (suc (suc (suc (suc (suc (suc (suc (suc (suc (suc zero))))))))))))))))))))))))))))) le = omega arith
ten_powers (suc (suc (suc (suc (suc (suc (suc (suc (suc (suc (suc (suc (suc (suc (suc (suc (suc (suc (suc (suc (suc (suc (suc (suc (suc (suc (suc (suc (suc (suc zero)))))))))))))))))))))))))))))) le = omega arith
ten_powers (suc (suc (suc (suc (suc (suc (suc (suc (suc (suc (suc (suc (suc (suc (suc (suc (suc (suc (suc (suc (suc (suc (suc (suc (suc (suc (suc (suc (suc (suc (suc k))))))))))))))))))))))))))))))) le = absurd (omega arith)

pub register_value : (digits : List ℕ) → is_plain_decimal digits ≡ true → length digits ≤ 30 → (register_named (114 ∷ digits) ≡ Some (digits_value 10 digits)) × (value_of digits ≡ digits_value 10 digits)
register_value digits plain short =
    let all = plain_value digits plain in
    let below = value_below digits all in
    let most = ten_powers (length digits) short in
    let lt : digits_value 10 digits < 10 ^ 30 = omega arith in
    let small : nat_lt (digits_value 10 digits) register_bound ≡ true = grind (arith, nat_tests) in (
      ap (λ t. if t then Some (digits_value 10 digits) else None) (and_from (is_plain_decimal digits) (nat_lt (digits_value 10 digits) register_bound) plain small),
      rw (not_hexadecimal digits all) refl,
    )

pub plain_token : (digits : List ℕ) → is_plain_decimal digits ≡ true → IsNumberToken digits
plain_token [] h = let e : false ≡ true = h in absurd (cc)
plain_token (b ∷ digits) h = inl (omega arith, plain_value (b ∷ digits) h)

pub is_register : (digits : List ℕ) (n number : ℕ) → is_plain_decimal digits ≡ true → length digits ≤ 30 → n ≡ min (value_of digits) too_large → n < 32 → number ≡ n → IsRegisterOf (114 ∷ digits) number
is_register digits n number plain short is lt same =
    let h = register_value digits plain short in
    let value : digits_value 10 digits ≡ number = let v = h.1 in omega arith in
    (h.0 ∙ ap (λ v. Some v) value, (let small : number < 32 = omega arith in grind (arith, nat_tests)))

pub no_register : (digits : List ℕ) (n : ℕ) → is_plain_decimal digits ≡ true → length digits ≤ 30 → n ≡ min (value_of digits) too_large → (n < 32 → ⊥) → IsNoRegister (114 ∷ digits) misfits.Range
no_register digits n plain short is ge =
    let h = register_value digits plain short in
    let large : 32 ≤ digits_value 10 digits = let v = h.1 in by (cases_lt n 32) v in
    (digits_value 10 digits, h.0, grind (arith, nat_tests))
  where
    by : (n < 32) ⊎ (32 ≤ n) → value_of digits ≡ digits_value 10 digits → 32 ≤ digits_value 10 digits
    by (inl lt) v = absurd (ge lt)
    by (inr le) v = omega arith

pub not_below : (n : ℕ) → (n < 4294967296 → ⊥) → number_limit < n
not_below n h = by (cases_lt n 4294967296)
  where
    by : (n < 4294967296) ⊎ (4294967296 ≤ n) → number_limit < n
    by (inl lt) = absurd (h lt)
    by (inr le) = omega arith

pub register_misfit : (version : Version) (kind : Kind) (bytes : List ℕ) (misfit : Misfit) → kind ≡ kinds.Register → IsNoRegister bytes misfit → IsMisfit version kind (words.Name bytes) misfit
register_misfit version kind bytes misfit is h = subst (λ k. IsMisfit version k (words.Name bytes) misfit) (sym is) (by misfit h)
  where
    by : (m : Misfit) → IsNoRegister bytes m → IsMisfit version kinds.Register (words.Name bytes) m
    by misfits.Unexpected g = ap (option_map operands.Register) g
    by misfits.Range (number, named, large) = record { operand = operands.Register number; is = ap (option_map operands.Register) named; outside = large }
