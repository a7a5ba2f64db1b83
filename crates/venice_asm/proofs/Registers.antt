-- The names of registers, and the numbers that they spell.
use Rattle.std.proofs.Common.{◌≡◌, ◌⊎◌, inl, inr, ℕ, zero, suc, ◌+◌, ◌*◌, ◌^◌, ◌/◌, ◌%◌, ◌<◌, ◌≤◌, Bool, true, false, ◌||◌, ◌&&◌, List, [], ◌∷◌, ◌++◌, length, get_or, Some, None, refl, sym, ap, subst, ◌∙◌, arith, append_assoc, length-append}
use Rattle.std.specs.Prelude.{decimal, nat_lt, not, if◌then◌else◌, ◌==◌}
use Rattle.std.specs.List.{list_all}
use Rattle.std.proofs.Math.Nat.{pow-zero, pow-succ'}
use Rattle.std.proofs.lemmas.Bool.{cases_lt, and_parts, and_from}
use Rattle.std.proofs.lemmas.Bool.Decides.{nat_tests}
use Rattle.std.proofs.lemmas.Fmt.{decimal_by_steps_wide, decimal_step_wide, decimal_digit}
use Rattle.std.proofs.lemmas.List.{get_or_append_left, append-nil}
use Rattle.ven_base.specs.Name.{is_digit}
use Rattle.ven_io.specs.Number.{digit_value, digits_value}
use Rattle.venice_asm.specs.Fitting.{is_plain_decimal, register_named}
use Rattle.venice_asm.specs.Lines.{register_bound}
use Rattle.venice_asm.specs.Spelling.{register_word}
use Rattle.venice_asm.proofs.Spelled.{digits_push, all_push, digit_small, digit_says}

pub none_some : {X : Type 0} (x : X) → None ≡ Some x → ⊥
none_some x e = cc

pub some_is : {X : Type 0} (x y : X) → Some x ≡ Some y → x ≡ y
some_is x y e = cc

-- ---- a number's digits are plain

record IsPlain (n : ℕ) (digits : List ℕ) : Type 0 where
  some : 0 < length digits
  each : list_all is_digit digits ≡ true
  value : digits_value 10 digits ≡ n
  lead : 0 < n → 48 < get_or digits 0 0
  one : n < 10 → length digits ≡ 1

plain : (n : ℕ) → n < 10 ^ 64 → IsPlain n (decimal n)
plain n small = decimal_by_steps_wide IsPlain
    (λ k lt. record {
      some = omega arith;
      each = and_from (is_digit (48 + k)) true (digit_small k lt) refl;
      value = rw pow-zero (let d = digit_says k lt in omega arith);
      lead = λ pos. omega arith;
      one = λ lt. refl;
    })
    (λ k ds ge h.
    let d : k % 10 < 10 = omega arith in
    record {
      some = omega (arith, length-append ds ((48 + k % 10) ∷ []));
      each = all_push is_digit ds (48 + k % 10) h.each (digit_small (k % 10) d);
      value = digits_push 10 ds (48 + k % 10) ∙ (let v = h.value in let l = digit_says (k % 10) d in omega (arith, v, l));
      lead = λ pos. let first = get_or_append_left ds ((48 + k % 10) ∷ []) 0 0 h.some in let high = h.lead (omega arith) in omega (arith, first, high);
      one = λ lt. absurd (omega arith);
    })
    n small

is_plain : (n : ℕ) (digits : List ℕ) → IsPlain n digits → is_plain_decimal digits ≡ true
is_plain n [] h = let some = h.some in absurd (omega arith)
is_plain n (b ∷ digits) h = and_from (list_all is_digit (b ∷ digits)) (not (b == 48) || (length digits == 0)) h.each (by (cases_lt 0 n))
  where
    by : (0 < n) ⊎ (n ≤ 0) → (not (b == 48) || (length digits == 0)) ≡ true
    by (inl pos) = let high = h.lead pos in grind (arith, nat_tests)
    by (inr le) = let short = h.one (omega arith) in grind (arith, nat_tests)

pub register_read : (n : ℕ) → nat_lt n register_bound ≡ true → register_named (register_word n) ≡ Some n
register_read n lt =
    let small : n < 10 ^ 30 = grind (arith, nat_tests) in
    let h = plain n (omega arith) in
    let test : (is_plain_decimal (decimal n) && nat_lt (digits_value 10 (decimal n)) register_bound) ≡ true =
    and_from (is_plain_decimal (decimal n)) (nat_lt (digits_value 10 (decimal n)) register_bound) (is_plain n (decimal n) h) (ap (λ v. nat_lt v register_bound) h.value ∙ lt) in
    ap (λ t. if t then Some (digits_value 10 (decimal n)) else None) test ∙ ap (λ v. Some v) h.value

-- ---- plain digits are a number's

digit_of : (c : ℕ) → is_digit c ≡ true → (48 + digit_value c ≡ c) × (digit_value c < 10)
digit_of c digit = (grind (arith, nat_tests), grind (arith, nat_tests))

pub value_below : (digits : List ℕ) → list_all is_digit digits ≡ true → digits_value 10 digits < 10 ^ length digits
value_below [] all = rw pow-zero (omega arith)
value_below (c ∷ digits) all =
    let both = and_parts (is_digit c) (list_all is_digit digits) all in
    let d = (digit_of c both.0).1 in
    let rest = value_below digits both.1 in
    rw (pow-succ' 10 (length digits)) (bound (digit_value c) (10 ^ length digits) (digits_value 10 digits) d rest)
  where
    bound : (d p v : ℕ) → d < 10 → v < p → d * p + v < 10 * p
    bound zero p v lt below = omega arith
    bound (suc d) p v lt below = by (cases_lt (suc d) 9)
      where
        at : (e : ℕ) → e ≤ 9 → e * p ≤ 9 * p
        at zero le = omega arith
        at (suc zero) le = omega arith
        at (suc (suc zero)) le = omega arith
        at (suc (suc (suc zero))) le = omega arith
        at (suc (suc (suc (suc zero)))) le = omega arith
        at (suc (suc (suc (suc (suc zero))))) le = omega arith
        at (suc (suc (suc (suc (suc (suc zero)))))) le = omega arith
        at (suc (suc (suc (suc (suc (suc (suc zero))))))) le = omega arith
        at (suc (suc (suc (suc (suc (suc (suc (suc zero)))))))) le = omega arith
        at (suc (suc (suc (suc (suc (suc (suc (suc (suc zero))))))))) le = omega arith
        at (suc (suc (suc (suc (suc (suc (suc (suc (suc (suc k)))))))))) le = absurd (omega arith)

        by : (suc d < 9) ⊎ (9 ≤ suc d) → suc d * p + v < 10 * p
        by c = let le = at (suc d) (omega arith) in omega arith

-- the number of n's digits and these behind them
abbrev value_after : ℕ → List ℕ → ℕ
value_after n [] = n
value_after n (c ∷ digits) = value_after (n * 10 + digit_value c) digits

after_is : (n : ℕ) (digits : List ℕ) → value_after n digits ≡ n * 10 ^ length digits + digits_value 10 digits
after_is n [] = rw pow-zero (omega arith)
after_is n (c ∷ digits) =
    after_is (n * 10 + digit_value c) digits
    ∙ rw (pow-succ' 10 (length digits)) (regroup n (digit_value c) (10 ^ length digits) (digits_value 10 digits))
  where
    regroup : (n d p v : ℕ) → (n * 10 + d) * p + v ≡ n * (10 * p) + (d * p + v)
    regroup n d p v = omega arith

after_more : (n : ℕ) (digits : List ℕ) → n ≤ value_after n digits
after_more n [] = omega arith
after_more n (c ∷ digits) = let more = after_more (n * 10 + digit_value c) digits in omega arith

spelled_after : (n : ℕ) (digits : List ℕ) → 0 < n → list_all is_digit digits ≡ true → value_after n digits < 10 ^ 64 → decimal (value_after n digits) ≡ decimal n ++ digits
spelled_after n [] pos all small = sym (append-nil (decimal n))
spelled_after n (c ∷ digits) pos all small =
    let both = and_parts (is_digit c) (list_all is_digit digits) all in
    let d = digit_of c both.0 in
    let m : ℕ = n * 10 + digit_value c in
    let more = after_more m digits in
    let front : m / 10 ≡ n = let below = d.1 in omega arith in
    let last : 48 + m % 10 ≡ c = let below = d.1 in let is = d.0 in omega arith in
    spelled_after m digits (omega arith) both.1 small
    ∙ ap (λ t. t ++ digits) (decimal_step_wide m (omega arith) (omega arith) ∙ ap (λ k. decimal k ++ ((48 + m % 10) ∷ [])) front ∙ ap (λ k. decimal n ++ (k ∷ [])) last)
    ∙ append_assoc (decimal n) (c ∷ []) digits

plain_digits : (digits : List ℕ) → is_plain_decimal digits ≡ true → digits_value 10 digits < 10 ^ 64 → decimal (digits_value 10 digits) ≡ digits
plain_digits [] h small = let e : false ≡ true = h in absurd (cc)
plain_digits (c ∷ digits) h small = by (cases_lt 48 c)
  where
    parts : (list_all is_digit (c ∷ digits) ≡ true) × ((not (c == 48) || (length digits == 0)) ≡ true)
    parts = and_parts (list_all is_digit (c ∷ digits)) (not (c == 48) || (length digits == 0)) h

    both : (is_digit c ≡ true) × (list_all is_digit digits ≡ true)
    both = and_parts (is_digit c) (list_all is_digit digits) parts.0

    is : digits_value 10 (c ∷ digits) ≡ value_after (digit_value c) digits
    is = sym (after_is (digit_value c) digits)

    first : decimal (digit_value c) ≡ c ∷ []
    first = let d = digit_of c both.0 in decimal_digit (digit_value c) d.1 ∙ ap (λ b. b ∷ []) d.0

    by : (48 < c) ⊎ (c ≤ 48) → decimal (digits_value 10 (c ∷ digits)) ≡ c ∷ digits
    by (inl high) =
        let d = (digit_of c both.0).0 in
        ap decimal is ∙ spelled_after (digit_value c) digits (omega arith) both.1 (subst (λ v. v < 10 ^ 64) is small) ∙ ap (λ t. t ++ digits) first
    by (inr low) = alone digits (let two = parts.1 in let digit = both.0 in grind (arith, nat_tests))
      where
        alone : (ds : List ℕ) → length ds ≡ 0 → decimal (digits_value 10 (c ∷ ds)) ≡ c ∷ ds
        alone [] none = ap decimal (sym (after_is (digit_value c) [])) ∙ first
        alone (x ∷ ds) none = absurd (omega arith)

pub register_said : (bytes : List ℕ) (n : ℕ) → register_named bytes ≡ Some n → (nat_lt n register_bound ≡ true) × (register_word n ≡ bytes)
register_said [] n e = absurd (none_some n e)
register_said (b ∷ digits) n e = by ((b == 114) && (is_plain_decimal digits && nat_lt (digits_value 10 digits) register_bound)) refl e
  where
    by : (t : Bool) → ((b == 114) && (is_plain_decimal digits && nat_lt (digits_value 10 digits) register_bound)) ≡ t → (if t then Some (digits_value 10 digits) else None) ≡ Some n → (nat_lt n register_bound ≡ true) × (register_word n ≡ b ∷ digits)
    by true on is =
        let outer = and_parts (b == 114) (is_plain_decimal digits && nat_lt (digits_value 10 digits) register_bound) on in
        let inner = and_parts (is_plain_decimal digits) (nat_lt (digits_value 10 digits) register_bound) outer.1 in
        let value = some_is (digits_value 10 digits) n is in
        let letter : 114 ≡ b = let test = outer.0 in grind (arith, nat_tests) in
        let small : digits_value 10 digits < 10 ^ 64 = let test = inner.1 in let low : digits_value 10 digits < 10 ^ 30 = grind (arith, nat_tests) in omega arith in (
          ap (λ v. nat_lt v register_bound) (sym value) ∙ inner.1,
          ap (λ v. 114 ∷ decimal v) (sym value) ∙ ap (λ ds. 114 ∷ ds) (plain_digits digits inner.0 small) ∙ ap (λ c. c ∷ digits) letter,
        )
    by false off is = absurd (none_some n is)
