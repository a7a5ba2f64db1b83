-- Lists of pairs with distinct names: what a look-up finds, and one pair more.
use Rattle.std.proofs.Common.{◌≡◌, ◌≢◌, ℕ, ◌-◌, ◌<◌, ◌^◌, List, [], ◌∷◌, ◌++◌, length, refl, sym, ap, subst, ◌∙◌, arith, true, false, ◌↔◌, Contains, IsSome, IfSome, is_some, Option, None, Some}
use Rattle.std.specs.Option.{option_copied}
use Rattle.std.specs.Cmp.Lexicographic.{nat_list_eq_equiv}
use Rattle.std.proofs.lemmas.List.{map-append, length-append}
use Rattle.std.proofs.lemmas.List.Elements.{All-push, Contains-get_or}
use Rattle.std.proofs.lemmas.List.Quantifiers.{all_pairs_push}
use Rattle.std.proofs.lemmas.Map.Views.{Contains-keys_from_lookup, IsSome-lookup_from_Contains, IfSome-lookup}
use denote.Ref.{Bor}
use Rattle.ven_base.specs.Name.{IsName}
use Rattle.ven_base.specs.Grid.{Grid, IsGrid}
use Rattle.ven_base.specs.Pairs.{Pairs, ArePairs, names_of, arrays_of, array_named}
use Rattle.ven_base.proofs.Words.{same_bytes}

-- a look-up finds the names of the list
pub array_named-found : (pairs : Pairs) (name : List ℕ) → IsSome (array_named pairs name) ↔ Contains (names_of pairs) name
array_named-found pairs name = (Contains-keys_from_lookup same_bytes name pairs, IsSome-lookup_from_Contains nat_list_eq_equiv name pairs)

-- and what it finds stands beside the name
pub array_named-pair : (pairs : Pairs) (name : List ℕ) → IfSome (array_named pairs name) (λ grid. Contains pairs (name, grid))
array_named-pair pairs name = IfSome-lookup same_bytes name pairs

-- a name that isn't there isn't found
pub absent_name : (pairs : Pairs) (name : List ℕ) → is_some (array_named pairs name) ≡ false → ¬ Contains (names_of pairs) name
absent_name pairs name h c = let t : is_some (array_named pairs name) ≡ true = (array_named-found pairs name).1 c in absurd (let e : false ≡ true = sym h ∙ t in cc)

-- one pair more, whose name is new
pub ArePairs-push : (pairs : Pairs) (name : List ℕ) (grid : Grid) → ArePairs pairs → IsName name → IsGrid grid → ¬ Contains (names_of pairs) name → length pairs < 2 ^ 32 - 1 → ArePairs (pairs ++ (name, grid) ∷ [])
ArePairs-push pairs name grid h n g new room =
    let names = map-append (λ (p : List ℕ × Grid). p.0) pairs ((name, grid) ∷ []) in
    let grids = map-append (λ (p : List ℕ × Grid). p.1) pairs ((name, grid) ∷ []) in
    record {
      distinct = rw names (all_pairs_push (λ (x y : List ℕ). x ≢ y) (names_of pairs) name h.distinct (λ k d below e. new (rw e at (Contains-get_or (names_of pairs) k d below))));
      named = rw names (All-push IsName (names_of pairs) name h.named n);
      arrays = rw grids (All-push IsGrid (arrays_of pairs) grid h.arrays g);
      counted = rw length-append (omega arith);
    }

-- what a reference that was found refers to
pub copied_some : {X : Type 0} (r : Option (Bor X)) (o : Option X) → option_copied r ≡ o → is_some r ≡ is_some o
copied_some None o e = ap is_some e
copied_some (Some x) o e = ap is_some e

pub copied_if : {X : Type 0} (P : X → Type 0) (r : Option (Bor X)) (o : Option X) → option_copied r ≡ o → IfSome o P → IfSome r (λ x. P x.now)
copied_if P None o e h = tt
copied_if P (Some x) o e h = subst (λ (v : Option _). IfSome v P) (sym e) h

pub none_of : {X : Type 0} (o : Option X) → is_some o ≡ false → o ≡ None
none_of None h = refl
none_of (Some x) h = absurd (let e : true ≡ false = h in cc)
