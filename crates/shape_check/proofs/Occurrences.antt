-- How often names occur, and where they may.
use Rattle.std.proofs.Common.{◌≡◌, ℕ, zero, suc, ◌<◌, List, [], ◌∷◌, ◌++◌, length, take, map, sym, ap, ◌∙◌, subst, arith, append_assoc, Some, cond}
use Rattle.std.specs.Prelude.{All, slice_get, ◌==◌, ◌≤◌}
use Rattle.std.specs.List.{count_by}
use Rattle.std.proofs.lemmas.Grind.{flat_map-append}
use Rattle.std.proofs.lemmas.List.{append-nil, length-map, length-take}
use Rattle.std.proofs.lemmas.List.Elements.{All-nil, All-cons, All-append, All-weaker}
use Rattle.std.proofs.lemmas.List.Sums.{sum_by-append}
use Rattle.std.proofs.lemmas.Option.{slice_get_within}
use Rattle.shape_check.specs.Node.{Node, Name, Literal, One, Two, Cast, Select, Map, RowFold, Fold}
use Rattle.shape_check.specs.Statement.{Statement, Input, Let, Output, in_value}
use Rattle.shape_check.specs.declared.typed.ArrayType.{ArrayType}
use Rattle.shape_check.specs.Rules.{declared_type, IsTyped, IsTypedStatement, AreTyped}
use Rattle.shape_check.specs.Occurrences.{names_in, all_names}
use Rattle.shape_check.specs.Laws.{CountsUses, NamesAreEarlier}

pub uses_of-append : CountsUses
uses_of-append program more k =
    ap (count_by (λ j. j == k)) (flat_map-append (in_value [] names_in) program more) ∙ sum_by-append (λ j. cond (j == k) 1 0) (all_names program) (all_names more)

-- an expression sees names of earlier statements alone
pub names_in-below : (types : List ArrayType) (e : Node) → IsTyped types e → All (λ k. k < length types) (names_in e)
names_in-below types (Name elem shape k) h = All-cons (λ n. n < length types) k [] (slice_get_within types k (record { elem = elem; shape = shape }) h) (All-nil (λ n. n < length types))
names_in-below types (Literal elem shape value) h = All-nil (λ n. n < length types)
names_in-below types (One elem shape op a) h = names_in-below types a h.0
names_in-below types (Two elem shape op a b) h = All-append (λ n. n < length types) (names_in a) (names_in b) (names_in-below types a h.0) (names_in-below types b h.1)
names_in-below types (Cast elem shape a) h = names_in-below types a h.0
names_in-below types (Select elem shape c x y) h =
    All-append (λ n. n < length types) (names_in c) (names_in x ++ names_in y) (names_in-below types c h.0)
    (All-append (λ n. n < length types) (names_in x) (names_in y) (names_in-below types x h.1) (names_in-below types y h.2))
names_in-below types (Map elem shape mapping a) h = names_in-below types a h.0
names_in-below types (RowFold elem shape fold a) h = names_in-below types a h.0
names_in-below types (Fold elem shape fold a) h = names_in-below types a h.0

-- a statement keeps its rules, where the names are those of the statements before it
pub AreTyped-at : (types : List ArrayType) (program : List Statement) (k : ℕ) (s : Statement) → AreTyped types program → slice_get program k ≡ Some s → IsTypedStatement (types ++ map declared_type (take k program)) s
AreTyped-at types [] k s h found = absurd (cc)
AreTyped-at types (t ∷ program) zero s h found =
    let same : t ≡ s = cc in
    subst (λ (u : Statement). IsTypedStatement (types ++ []) u) same (subst (λ (all : List ArrayType). IsTypedStatement all t) (sym (append-nil types)) h.0)
AreTyped-at types (t ∷ program) (suc k) s h found =
    subst (λ (all : List ArrayType). IsTypedStatement all s) (append_assoc types (declared_type t ∷ []) (map declared_type (take k program)))
    (AreTyped-at (types ++ declared_type t ∷ []) program k s h.1 found)

typed_below : (types : List ArrayType) (s : Statement) → IsTypedStatement types s → All (λ k. k < length types) (in_value [] names_in s)
typed_below types (Input name elem shape) h = All-nil (λ n. n < length types)
typed_below types (Let name value) h = names_in-below types value h.0
typed_below types (Output name value) h = names_in-below types value h.0

pub names_are_earlier : NamesAreEarlier
names_are_earlier program k s checked found =
    let types = map declared_type (take k program) in
    let counted : length types ≤ k = omega (arith, length-map (take k program) declared_type, length-take k program) in
    All-weaker (λ n. n < length types) (λ n. n < k) (λ n below. omega arith) (in_value [] names_in s) (typed_below types s (AreTyped-at [] program k s checked.typed found))
