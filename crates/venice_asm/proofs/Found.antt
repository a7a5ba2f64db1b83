-- Labels by their names.
use Rattle.std.proofs.Common.{◌≡◌, ℕ, zero, suc, ◌<◌, Bool, true, false, List, [], ◌∷◌, map, length, get_or, Some, None, refl, sym, ap, ◌∙◌, arith, Contains}
use Rattle.std.specs.Prelude.{if◌then◌else◌}
use Rattle.std.specs.Map.{lookup}
use Rattle.std.specs.Str.{bytes_eq}
use Rattle.std.specs.Cmp.Lexicographic.{nat_list_eq_equiv}
use Rattle.ven_base.proofs.Words.{same_bytes}
use Rattle.venice_asm.specs.Meaning.{number_among}
use Rattle.venice_asm.proofs.Registers.{none_some}

pub lookup_is : (labels : List (List ℕ × ℕ)) (name : List ℕ) → lookup (bytes_eq name) labels ≡ number_among labels name
lookup_is [] name = refl
lookup_is (label ∷ labels) name = ap (λ rest. if bytes_eq name label.0 then Some label.1 else rest) (lookup_is labels name)

abbrev pub names : List (List ℕ × ℕ) → List (List ℕ)
names labels = map (λ (label : List ℕ × ℕ). label.0) labels

-- a label that is found is there
pub found_there : (labels : List (List ℕ × ℕ)) (name : List ℕ) (n : ℕ) → number_among labels name ≡ Some n → Contains (names labels) name
found_there [] name n e = absurd (none_some n e)
found_there (label ∷ labels) name n e = by (λ f. found_there labels name n f) (bytes_eq name label.0) refl e
  where
    by : (number_among labels name ≡ Some n → Contains (names labels) name) → (t : Bool) → bytes_eq name label.0 ≡ t → (if t then Some label.1 else number_among labels name) ≡ Some n → Contains (names (label ∷ labels)) name
    by more true is f = (0, omega arith, sym (same_bytes name label.0 is))
    by more false is f = let (k, lt, there) = more f in (suc k, omega arith, there)

itself : (name : List ℕ) → bytes_eq name name ≡ true
itself name = nat_list_eq_equiv.refl name

-- and one that is there is found
pub there_found : (labels : List (List ℕ × ℕ)) (name : List ℕ) → number_among labels name ≡ None → Contains (names labels) name → ⊥
there_found [] name e (k, lt, is) = absurd (omega arith)
there_found (label ∷ labels) name e (k, lt, is) = by (λ f g. there_found labels name f g) k lt is (bytes_eq name label.0) refl e
  where
    by : (number_among labels name ≡ None → Contains (names labels) name → ⊥) → (j : ℕ) → j < length (names (label ∷ labels)) → get_or (names (label ∷ labels)) j name ≡ name → (t : Bool) → bytes_eq name label.0 ≡ t → (if t then Some label.1 else number_among labels name) ≡ None → ⊥
    by more j below there true same f = none_some label.1 (sym f)
    by more zero below there false same f = let wrong : false ≡ true = sym same ∙ ap (bytes_eq name) there ∙ itself name in absurd (cc)
    by more (suc j) below there false same f = more f (j, omega arith, there)
