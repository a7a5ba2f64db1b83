-- What tokens say.
use Rattle.std.proofs.Common.{◌≡◌, ℕ, ◌≤◌, Bool, true, false, IsTrue, ◌↔◌, List, length, Option, Some, None, refl, sym, ap, ◌∙◌, arith, Contains}
use Rattle.std.specs.Prelude.{nat_le, not, ◌&&◌, if◌then◌else◌}
use Rattle.std.specs.List.{list_any}
use Rattle.std.specs.Str.{bytes_eq}
use Rattle.ven_base.specs.Name.{IsNameToken, IsName, IsReserved, reserved_words, name_limit}
use Rattle.ven_base.proofs.Words.{any_is-Contains}
use Rattle.array_file.specs.declared.word.Word.TheVariants as words
use Rattle.array_file.specs.Words.{is_kept, name_word}

-- the test of a free name, both ways
free_is : (bytes : List ℕ) → IsNameToken bytes → (b : Bool) → (nat_le (length bytes) name_limit && not (is_kept bytes)) ≡ b → (IsTrue b ↔ IsName bytes)
free_is bytes token b is = by (nat_le (length bytes) name_limit) refl (is_kept bytes) refl
  where
    kept : IsTrue (is_kept bytes) ↔ IsReserved bytes
    kept = any_is-Contains (is_kept bytes) bytes reserved_words refl

    by : (short : Bool) → nat_le (length bytes) name_limit ≡ short → (k : Bool) → is_kept bytes ≡ k → (IsTrue b ↔ IsName bytes)
    by true le false free = (
      λ t. record { token = token; short = grind arith; free = λ r. let on : is_kept bytes ≡ true = kept.1 r in let e : true ≡ false = sym on ∙ free in absurd (cc) },
      λ h. sym is ∙ ap (λ s. s && not (is_kept bytes)) le ∙ ap not free,
    )
    by true le true taken = (
      λ t. let off : b ≡ false = sym is ∙ ap (λ s. s && not (is_kept bytes)) le ∙ ap not taken in let e : true ≡ false = sym t ∙ off in absurd (cc),
      λ h. absurd (h.free (kept.0 taken)),
    )
    by false long k any = (
      λ t. let off : b ≡ false = sym is ∙ ap (λ s. s && not (is_kept bytes)) long in let e : true ≡ false = sym t ∙ off in absurd (cc),
      λ h. let short = h.short in absurd (grind arith),
    )

named : (bytes name : List ℕ) (b : Bool) → IsTrue b → name ≡ bytes → Some (words.Name name) ≡ (if b then Some (words.Name bytes) else None)
named bytes name true on is = ap (λ n. Some (words.Name n)) is
named bytes name false on is = let e : false ≡ true = on in absurd (cc)

unnamed : (bytes : List ℕ) (b : Bool) → ¬ IsTrue b → None ≡ (if b then Some (words.Name bytes) else None)
unnamed bytes true off = absurd (off refl)
unnamed bytes false off = refl

pub name_is : (bytes name : List ℕ) → IsNameToken bytes → IsName bytes → name ≡ bytes → Some (words.Name name) ≡ name_word None bytes
name_is bytes name token is same = named bytes name _ ((free_is bytes token _ refl).1 is) same

pub no_name_is : (bytes : List ℕ) → IsNameToken bytes → ¬ IsName bytes → None ≡ name_word None bytes
no_name_is bytes token not_so = unnamed bytes _ (λ t. not_so ((free_is bytes token _ refl).0 t))
