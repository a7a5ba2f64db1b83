-- What a look-up of a name finds.
use Rattle.std.proofs.Common.{◌≡◌, ℕ, zero, suc, List, [], ◌∷◌, get_or, refl, sym, ap, ◌∙◌, subst, arith, Option, None, Some, true, false, Contains, map, is_some}
use Rattle.std.specs.Prelude.{position, slice_get}
use Rattle.std.specs.Map.{lookup}
use Rattle.std.specs.Str.{bytes_eq}
use Rattle.std.specs.Cmp.Lexicographic.{nat_list_eq_equiv}
use Rattle.std.proofs.Common.{inl, inr}
use Rattle.std.proofs.lemmas.List.{length-map}
use Rattle.std.proofs.lemmas.List.Quantifiers.{position-Some}
use Rattle.std.proofs.lemmas.Map.Views.{Contains-keys_from_lookup, IsSome-lookup_from_Contains}
use Rattle.std.proofs.lemmas.Option.{slice_get_cases, get_or_from_slice_get}
use Rattle.indexmap.proofs.MapLemmas.{some_index}
use Rattle.ven_base.proofs.Words.{same_bytes}
use Rattle.shape_check.specs.declared.typed.ArrayType.{ArrayType}
use Rattle.shape_check.specs.Scope.{Scope, scope_names}
use Rattle.shape_check.specs.Judge.{find, find_at}

pub get_map : {X Y : Type 0} (f : X → Y) (xs : List X) (k : ℕ) (x : X) → slice_get xs k ≡ Some x → slice_get (map f xs) k ≡ Some (f x)
get_map f [] k x h = absurd (let e : None ≡ Some x = h in cc)
get_map f (y ∷ xs) zero x h = let same : y ≡ x = let e : Some y ≡ Some x = h in cc in ap (λ v. Some (f v)) same
get_map f (y ∷ xs) (suc k) x h = get_map f xs k x h

same_some : {X : Type 0} (x y : X) → Some x ≡ Some y → x ≡ y
same_some x y h = cc

-- the place that a name has is that of an entry
record Entry (scope : Scope) (name : List ℕ) (k : ℕ) : Type 0 where
  type : ArrayType
  entry : slice_get scope k ≡ Some (name, type)

entry_at : (scope : Scope) (name : List ℕ) (k : ℕ) → position (bytes_eq name) (scope_names scope) ≡ Some k → Entry scope name k
entry_at scope name k h =
    let place = position-Some (bytes_eq name) (scope_names scope) k [] h in
    let within = place.0 in
    elim ((slice_get_cases scope k).1) [
      | inl e ↦
          let named : get_or (scope_names scope) k [] ≡ e.0.0 = get_or_from_slice_get (scope_names scope) k e.0.0 [] (get_map (λ (p : List ℕ × ArrayType). p.0) scope k e.0 e.2) in
          let same : name ≡ e.0.0 = same_bytes name (get_or (scope_names scope) k []) place.1 ∙ named in
          record { type = e.0.1; entry = e.2 ∙ ap (λ (n : List ℕ). Some (n, e.0.1)) (sym same) }
      | inr past ↦ absurd (omega (arith, length-map scope (λ (p : List ℕ × ArrayType). p.0), within, past.0))
    ]

pub find-known : (scope : Scope) (name : List ℕ) (k : ℕ) (type : ArrayType) → find scope name ≡ Some (k, type) → slice_get scope k ≡ Some (name, type)
find-known scope name k type h = by (position (bytes_eq name) (scope_names scope)) refl h
  where
    by : (r : Option ℕ) → position (bytes_eq name) (scope_names scope) ≡ r → find_at scope r ≡ Some (k, type) → slice_get scope k ≡ Some (name, type)
    by None e g = absurd (let no : None ≡ Some (k, type) = g in cc)
    by (Some p) e g =
        let entry = entry_at scope name p e in
        let found : find_at scope (Some p) ≡ Some (p, entry.type) = rw (entry.entry) refl in
        let both : Some (p, entry.type) ≡ Some (k, type) = sym found ∙ g in
        let pair : (p, entry.type) ≡ (k, type) = same_some (p, entry.type) (k, type) both in
        let place : p ≡ k = ap (λ (q : ℕ × ArrayType). q.0) pair in
        let same : entry.type ≡ type = ap (λ (q : ℕ × ArrayType). q.1) pair in
        let P : ℕ → Type 0 = λ q. slice_get scope q ≡ Some (name, type) in
        subst P place (entry.entry ∙ ap (λ (t : ArrayType). Some (name, t)) same)

pub find-some : (scope : Scope) (name : List ℕ) → is_some (find scope name) ≡ is_some (position (bytes_eq name) (scope_names scope))
find-some scope name = by (position (bytes_eq name) (scope_names scope)) refl
  where
    by : (r : Option ℕ) → position (bytes_eq name) (scope_names scope) ≡ r → is_some (find_at scope r) ≡ is_some r
    by None e = refl
    by (Some p) e = let entry = entry_at scope name p e in let found : find_at scope (Some p) ≡ Some (p, entry.type) = rw (entry.entry) refl in ap is_some found

-- a look-up finds the names of the scope alone
pub find-lookup : (scope : Scope) (name : List ℕ) → is_some (find scope name) ≡ is_some (lookup (bytes_eq name) scope)
find-lookup scope name = find-some scope name ∙ some_index (bytes_eq name) scope

pub find-contains : (scope : Scope) (name : List ℕ) → is_some (find scope name) ≡ true → Contains (scope_names scope) name
find-contains scope name h = Contains-keys_from_lookup same_bytes name scope (sym (find-lookup scope name) ∙ h)

pub find-absent : (scope : Scope) (name : List ℕ) → is_some (find scope name) ≡ false → ¬ Contains (scope_names scope) name
find-absent scope name h c =
    let there : is_some (lookup (bytes_eq name) scope) ≡ true = IsSome-lookup_from_Contains nat_list_eq_equiv name scope c in
    absurd (let e : false ≡ true = sym h ∙ find-lookup scope name ∙ there in cc)

none_of : {X : Type 0} (o : Option X) → is_some o ≡ false → o ≡ None
none_of None h = refl
none_of (Some x) h = absurd (let e : true ≡ false = h in cc)

pub lookup-none : (scope : Scope) (name : List ℕ) → find scope name ≡ None → lookup (bytes_eq name) scope ≡ None
lookup-none scope name h = none_of (lookup (bytes_eq name) scope) (sym (find-lookup scope name) ∙ ap is_some h)

pub find_none : (scope : Scope) (name : List ℕ) → find scope name ≡ None → is_some (find scope name) ≡ false
find_none scope name h = ap is_some h
