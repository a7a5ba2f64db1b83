-- How a name lies in its places, and how a word is looked up.
use Rattle.std.proofs.Common.{◌≡◌, ℕ, List, ◌++◌, length, drop, replicate, refl, sym, ap, ◌∙◌, Bool, true, false, ◌↔◌, Contains, IsTrue}
use Rattle.std.specs.List.{list_any}
use Rattle.std.specs.Str.{bytes_eq}
use Rattle.std.specs.Cmp.Lexicographic.{nat_list_eq_equiv}
use Rattle.std.proofs.lemmas.List.{drop-replicate}
use Rattle.std.proofs.Math.Seq.{take-append_seam}
use Rattle.std.proofs.lemmas.Map.Views.{Contains-from_any, list_any-from_Contains}
use Rattle.std.proofs.lemmas.Slice.Eq.{bytes_eq-Decides}
use Rattle.ven_base.specs.Name.{IsName}
use Rattle.ven_base.specs.Stored.{IsStored}

-- a name that is written over the first of 31 zeros
pub IsStored-written : (name : List ℕ) → IsName name → IsStored (name ++ drop (length name) (replicate 31 0)) (length name)
IsStored-written name h =
    let front = take-append_seam name (drop (length name) (replicate 31 0)) in
    record { is_padded = rw front (ap (λ rest. name ++ rest) (sym (drop-replicate (length name) 31 0))); len_is = ap length front; is_name = rw front h }

-- two lists of bytes that compare as equal are one
pub same_bytes : (xs ys : List ℕ) → bytes_eq xs ys ≡ true → xs ≡ ys
same_bytes xs ys h = (bytes_eq-Decides xs ys).0 h

-- a look-up finds the words of the list alone
pub any_is-Contains : (r : Bool) (bytes : List ℕ) (words : List (List ℕ)) → r ≡ list_any (bytes_eq bytes) words → IsTrue r ↔ Contains words bytes
any_is-Contains true bytes words e = (λ _. Contains-from_any same_bytes bytes words (sym e), λ _. refl)
any_is-Contains false bytes words e = (λ h. cc, λ h. let t : false ≡ true = e ∙ list_any-from_Contains nat_list_eq_equiv bytes words h in absurd (cc))
