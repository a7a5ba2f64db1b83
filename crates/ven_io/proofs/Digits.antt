-- The value of digits, one after another, and the texts of numbers.
use Rattle.std.proofs.Common.{◌≡◌, ℕ, suc, ◌+◌, ◌*◌, ◌^◌, ◌<◌, ◌≤◌, min, Bool, true, false, cond, List, [], ◌∷◌, ◌++◌, length, get_or, take, refl, sym, ap, subst, ◌∙◌, arith, inl, inr, ◌||◌, ◌&&◌}
use Rattle.std.specs.Prelude.{slice_range, nat_le}
use Rattle.std.specs.List.{list_all}
use Rattle.std.proofs.Math.Nat.{pow-zero, pow-succ', mul-le-mul_left}
use Rattle.std.proofs.lemmas.Bool.{cases_lt, or_left}
use Rattle.std.proofs.lemmas.List.{length-append, length-drop, get_or-drop, take_more, take_rest, nil_from_length}
use Rattle.ven_base.specs.Name.{is_digit}
use Rattle.ven_io.specs.declared.runs.Run.{Run}
use Rattle.ven_io.specs.declared.runs.Run.TheVariants.{Digits, HexDigits}
use Rattle.ven_io.specs.Token.{is_hex_digit}
use Rattle.ven_io.specs.Number.{digit_value, digits_value, is_digit_of, is_hexadecimal, base_of, digits_start, digits_of, value_of, IsNumeral}
use Rattle.ven_io.specs.Runs.{is_in_run, digits_run, IsRun}
use Rattle.ven_io.proofs.Places.{list_all_from, list_all_to}

regroup : (a b p v d : ℕ) → a * (b * p) + (v * b + d) ≡ (a * p + v) * b + d
regroup a b p v d = omega arith

-- one more digit at the end
digits_value_push : (base : ℕ) (xs : List ℕ) (d : ℕ) → digits_value base (xs ++ d ∷ []) ≡ digits_value base xs * base + digit_value d
digits_value_push base [] d = rw pow-zero (omega arith)
digits_value_push base (x ∷ xs) d =
    let len : length (xs ++ d ∷ []) ≡ suc (length xs) = omega (arith, length-append xs (d ∷ [])) in
    rw (len, pow-succ' base (length xs), digits_value_push base xs d) (regroup (digit_value x) base (base ^ length xs) (digits_value base xs) (digit_value d))

pub digits_value_more : (base : ℕ) (xs : List ℕ) (i : ℕ) → i < length xs → digits_value base (take (i + 1) xs) ≡ digits_value base (take i xs) * base + digit_value (get_or xs i 0)
digits_value_more base xs i lt = ap (digits_value base) (take_more xs i 0 lt) ∙ digits_value_push base (take i xs) (get_or xs i 0)

-- a value that was cut at a limit goes on as the value itself
pub capped_more : (v base d limit : ℕ) → 1 ≤ base → min (min v limit * base + d) limit ≡ min (v * base + d) limit
capped_more v base d limit least =
    elim (cases_lt v limit) [
      | inl lt ↦ let here : min v limit ≡ v = omega arith in rw here refl
      | inr le ↦
          let here : min v limit ≡ limit = omega arith in
          let more : base * limit ≤ base * v = mul-le-mul_left base le in
          let some : limit * 1 ≤ limit * base = mul-le-mul_left limit least in
          rw here (omega (arith, more, some))
    ]

-- ---- the texts of numbers

run_is_at : (hex : Bool) (b : ℕ) → is_in_run (cond hex HexDigits Digits) b ≡ is_digit_of (cond hex 16 10) b
run_is_at true b = refl
run_is_at false b = refl

hex_digit_at : (hex : Bool) (b : ℕ) → is_digit_of (cond hex 16 10) b ≡ true → is_hex_digit b ≡ true
hex_digit_at true b digit = digit
hex_digit_at false b digit = or_left (is_digit b || (nat_le 97 b && nat_le b 102)) (nat_le 65 b && nat_le b 70) (or_left (is_digit b) (nat_le 97 b && nat_le b 102) digit)

-- the bytes in the run are the digits of the base
run_is : (text : List ℕ) (b : ℕ) → is_in_run (digits_run text) b ≡ is_digit_of (base_of text) b
run_is text b = run_is_at (is_hexadecimal text) b

-- the run of digits, as far as it goes
pub record IsDigitsRun (text : List ℕ) (end : ℕ) : Type 0 where
  pub start : digits_start text ≤ length text
  pub run : IsRun (is_in_run (digits_run text)) text (digits_start text) end

digit_places : (text : List ℕ) (k : ℕ) → get_or (digits_of text) k 0 ≡ get_or text (digits_start text + k) 0
digit_places text k = get_or-drop (digits_start text) text k 0

pub all_digits : (text : List ℕ) (end : ℕ) → IsDigitsRun text end → length text ≤ end → list_all (is_digit_of (base_of text)) (digits_of text) ≡ true
all_digits text end digits whole =
    let len = length-drop (digits_start text) text in
    list_all_from (is_digit_of (base_of text)) (digits_of text) (λ k lt.
    ap (is_digit_of (base_of text)) (digit_places text k)
    ∙ sym (run_is text (get_or text (digits_start text + k) 0))
    ∙ digits.run.same (digits_start text + k) (omega arith) (omega (arith, len, digits.start)))

pub all_hex_digits : (text : List ℕ) → list_all (is_digit_of (base_of text)) (digits_of text) ≡ true → list_all is_hex_digit (digits_of text) ≡ true
all_hex_digits text all =
    list_all_from is_hex_digit (digits_of text) (λ k lt. hex_digit_at (is_hexadecimal text) (get_or (digits_of text) k 0) (list_all_to (is_digit_of (base_of text)) (digits_of text) all k lt))

pub numeral : (text : List ℕ) (end : ℕ) → IsDigitsRun text end → length text ≤ end → (digits_start text ≡ length text → ⊥) → IsNumeral text
numeral text end digits whole some =
    let len = length-drop (digits_start text) text in
    record { some = omega (arith, len, digits.start, some); each = all_digits text end digits whole }

pub no_digit : (text : List ℕ) → digits_start text ≡ length text → digits_of text ≡ []
no_digit text at_end = nil_from_length (digits_of text) (omega (arith, length-drop (digits_start text) text))

pub digits_part : (text : List ℕ) → slice_range text (digits_start text) (length text) ≡ digits_of text
digits_part text = take_rest text (digits_start text)

-- the same, where the run, its start and the base go by names of their own
pub digits_run_from : (text : List ℕ) (start end : ℕ) (run : Run) → start ≡ digits_start text → run ≡ digits_run text → start ≤ length text → IsRun (is_in_run run) text start end → IsDigitsRun text end
digits_run_from text start end run start_is run_is le runs =
    record {
      start = subst (λ (s : ℕ). s ≤ length text) start_is le;
      run = subst (λ (s : ℕ). IsRun (is_in_run (digits_run text)) text s end) start_is (subst (λ (r : Run). IsRun (is_in_run r) text start end) run_is runs);
    }

pub hex_digits_from : (text : List ℕ) (start end : ℕ) → start ≡ digits_start text → IsDigitsRun text end → length text ≤ end → list_all is_hex_digit (slice_range text start (length text)) ≡ true
hex_digits_from text start end start_is digits whole =
    ap (λ (s : ℕ). list_all is_hex_digit (slice_range text s (length text))) start_is ∙ ap (list_all is_hex_digit) (digits_part text) ∙ all_hex_digits text (all_digits text end digits whole)

pub value_from : (text : List ℕ) (start base value : ℕ) → start ≡ digits_start text → base ≡ base_of text → value ≡ min (digits_value base (slice_range text start (length text))) (2 ^ 32) → value ≡ min (value_of text) (2 ^ 32)
value_from text start base value start_is base_is e =
    e ∙ ap (λ (s : ℕ). min (digits_value base (slice_range text s (length text))) (2 ^ 32)) start_is
    ∙ ap (λ (xs : List ℕ). min (digits_value base xs) (2 ^ 32)) (digits_part text)
    ∙ ap (λ (b : ℕ). min (digits_value b (digits_of text)) (2 ^ 32)) base_is
