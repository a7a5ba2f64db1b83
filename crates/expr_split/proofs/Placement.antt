-- The loops that number passes, place arrays and make the table.
use Rattle.std.proofs.Common.{◌≡◌, ℕ, zero, suc, ◌+◌, ◌<◌, ◌≤◌, List, [], ◌∷◌, ◌++◌, length, get_or, take, drop, drop-cons, take-append-drop, refl, sym, ap, ◌∙◌, subst, arith, append_assoc, All}
use Rattle.std.proofs.Common.{inl, inr, Bool, true, false, not, Option, None, Some}
use Rattle.std.specs.Prelude.{map, MatchOption}
use Rattle.std.proofs.lemmas.Bool.{cases_lt}
use Rattle.ven_base.specs.declared.elem.Elem.{Elem}
use Rattle.ven_base.specs.declared.entry.Entry.{Entry}
use Rattle.ven_base.specs.Extent.{Extent}
use Rattle.shape_check.specs.declared.typed.Typed.{Typed}
use Rattle.shape_check.specs.declared.checked.StmtKind.{StmtKind}
use Rattle.shape_check.specs.declared.checked.StmtKind.TheVariants as kinds
use Rattle.std.proofs.lemmas.List.{append-nil, length-map, map-append, get_or-map, take_more}
use Rattle.shape_check.specs.declared.typed.ArrayType.{ArrayType}
use Rattle.shape_check.specs.Statement.{Statement}
use Rattle.shape_check.specs.declared.checked.CheckedStmt.{CheckedStmt}
use Rattle.shape_check.specs.Checked.{statement_with, statement_of, program_of, HasValue, IsWhole}
use Rattle.pass_plan.specs.declared.split.ArrayPlace.{ArrayPlace}
use Rattle.pass_plan.specs.declared.pass.Pass as decl
use Rattle.pass_plan.specs.Pass.{Pass}
use Rattle.pass_plan.specs.Shown.{pass_of, passes_of}
use Rattle.pass_plan.specs.declared.leaf.Leaf.{Leaf}
use Rattle.pass_plan.specs.Tree.{TreeOver}
use Rattle.expr_split.specs.declared.drafts.Draft as code
use Rattle.expr_split.specs.declared.term.Term.{Term}
use Rattle.pass_plan.specs.Sound.{no_place}
use Rattle.expr_split.specs.Cuts.{Draft, no_tree}
use Rattle.expr_split.specs.Places.{input_type, input_types, draft_type, round_up, bytes_of, places_from, end_from, array_under, entry_of, table_from, IsPassOf, ArePassesOf}
use Rattle.expr_split.specs.Terms.{term_of, plain_draft}
use Rattle.expr_split.specs.Placing.{IsSmallDraft, has_input}
use Rattle.expr_split.proofs.Seen.{elem_of-node, shape_of-node}
use Rattle.expr_split.proofs.Loops.{map_take_more}
use Rattle.expr_split.proofs.Soundness.{end-from}

input_types-append : (xs ys : List Statement) → input_types (xs ++ ys) ≡ input_types xs ++ input_types ys
input_types-append [] ys = refl
input_types-append (x ∷ xs) ys = ap (λ ts. input_type x ++ ts) (input_types-append xs ys) ∙ sym (append_assoc (input_type x) (input_types xs) (input_types ys))

pub inputs_more : (stmts : List CheckedStmt) (i : ℕ) (stmt : CheckedStmt) (before after : List ArrayType) → i < length stmts → stmt ≡ get_or stmts i stmt → before ≡ input_types (take i (program_of stmts)) → after ≡ before ++ input_type (statement_of stmt)
    → after ≡ input_types (take (i + 1) (program_of stmts))
inputs_more stmts i stmt before after low is so_far here =
    let s = statement_of stmt in
    here ∙ ap (λ ts. ts ++ input_type s) so_far ∙ ap (λ ts. input_types (take i (program_of stmts)) ++ ts) (sym (append-nil (input_type s)))
    ∙ sym (input_types-append (take i (program_of stmts)) (s ∷ [])) ∙ ap input_types (sym (map_take_more statement_of stmts i stmt low is))

pub types_more : (drafts : List code.Draft) (i : ℕ) (d : code.Draft) (start before after : List ArrayType) (type : ArrayType) → i < length drafts → d ≡ get_or drafts i d → before ≡ start ++ map draft_type (take i (map plain_draft drafts)) → type ≡ draft_type (plain_draft d) → after ≡ before ++ type ∷ []
    → after ≡ start ++ map draft_type (take (i + 1) (map plain_draft drafts))
types_more drafts i d start before after type low is so_far made here =
    let one = take i (map plain_draft drafts) in
    here ∙ ap (λ ts. ts ++ type ∷ []) so_far ∙ append_assoc start (map draft_type one) (type ∷ []) ∙ ap (λ t. start ++ (map draft_type one ++ t ∷ [])) made
    ∙ ap (λ ts. start ++ ts) (sym (map-append draft_type one (plain_draft d ∷ [])) ∙ ap (map draft_type) (sym (map_take_more plain_draft drafts i d low is)))

passes-append : (dest : ℕ) (ds : List Draft) (ps : List Pass) (d : Draft) (p : Pass) → ArePassesOf dest ds ps → IsPassOf (dest + length ds) d p → ArePassesOf dest (ds ++ d ∷ []) (ps ++ p ∷ [])
passes-append dest [] [] d p h one = let same : dest + 0 ≡ dest = omega arith in (subst (λ (n : ℕ). IsPassOf n d p) same one, tt)
passes-append dest [] (q ∷ ps) d p h one = absurd h
passes-append dest (e ∷ ds) [] d p h one = absurd h
passes-append dest (e ∷ ds) (q ∷ ps) d p h one =
    let same : dest + length (e ∷ ds) ≡ dest + 1 + length ds = omega arith in (h.0, passes-append (dest + 1) ds ps d p h.1 (subst (λ (n : ℕ). IsPassOf n d p) same one))

pub passes_more : (first dest : ℕ) (drafts : List code.Draft) (i : ℕ) (d : code.Draft) (before after : List decl.Pass) (p : decl.Pass) → i < length drafts → d ≡ get_or drafts i d → dest ≡ first + i
    → ArePassesOf first (take i (map plain_draft drafts)) (passes_of before) → IsPassOf dest (plain_draft d) (pass_of p) → after ≡ before ++ p ∷ [] → ArePassesOf first (take (i + 1) (map plain_draft drafts)) (passes_of after)
passes_more first dest drafts i d before after p low is counted h one here =
    let ds = take i (map plain_draft drafts) in
    let many : length ds ≡ i = taken_length i (map plain_draft drafts) (omega (arith, length-map drafts plain_draft)) in
    let at : dest ≡ first + length ds = omega arith in
    let all = passes-append first ds (passes_of before) (plain_draft d) (pass_of p) h (subst (λ (n : ℕ). IsPassOf n (plain_draft d) (pass_of p)) at one) in
    let same : passes_of before ++ pass_of p ∷ [] ≡ passes_of after = sym (map-append pass_of before (p ∷ [])) ∙ ap passes_of (sym here) in
    subst (λ (x : List Draft). ArePassesOf first x (passes_of after)) (sym (map_take_more plain_draft drafts i d low is)) (subst (λ (x : List Pass). ArePassesOf first (ds ++ plain_draft d ∷ []) x) same all)
  where
    taken_length : {X : Type 0} (n : ℕ) (xs : List X) → n ≤ length xs → length (take n xs) ≡ n
    taken_length zero xs h = refl
    taken_length (suc n) [] h = absurd (omega arith)
    taken_length (suc n) (x ∷ xs) h = ap suc (taken_length n xs (omega arith))

one_more : {X : Type 0} (xs : List X) (i : ℕ) (x : X) → i < length xs → x ≡ get_or xs i x → take (i + 1) xs ≡ take i xs ++ x ∷ []
one_more xs i x low is = take_more xs i x low ∙ ap (λ y. take i xs ++ y ∷ []) (sym is)

places_from-append : (start : ℕ) (xs ys : List ArrayType) → places_from start (xs ++ ys) ≡ places_from start xs ++ places_from (end_from start xs) ys
places_from-append start [] ys = refl
places_from-append start (x ∷ xs) ys =
    let first : ArrayPlace = record { elem = x.elem; shape = x.shape; place = round_up start } in
    ap (λ ps. first ∷ ps) (places_from-append (round_up start + bytes_of x) xs ys)

end_from-append : (start : ℕ) (xs ys : List ArrayType) → end_from start (xs ++ ys) ≡ end_from (end_from start xs) ys
end_from-append start [] ys = refl
end_from-append start (x ∷ xs) ys = end_from-append (round_up start + bytes_of x) xs ys

pub places_more : (types : List ArrayType) (i : ℕ) (type : ArrayType) (before after : List ArrayPlace) (end : ℕ) → i < length types → type ≡ get_or types i type → before ≡ places_from 0 (take i types) → end ≡ end_from 0 (take i types)
    → after ≡ before ++ places_from end (type ∷ []) → after ≡ places_from 0 (take (i + 1) types)
places_more types i type before after end low is so_far end_is here =
    here ∙ ap (λ ps. ps ++ places_from end (type ∷ [])) so_far ∙ ap (λ n. places_from 0 (take i types) ++ places_from n (type ∷ [])) end_is
    ∙ sym (places_from-append 0 (take i types) (type ∷ [])) ∙ ap (places_from 0) (sym (one_more types i type low is))

pub end_more : (types : List ArrayType) (i : ℕ) (type : ArrayType) (end after : ℕ) → i < length types → type ≡ get_or types i type → end ≡ end_from 0 (take i types) → after ≡ end_from end (type ∷ []) → after ≡ end_from 0 (take (i + 1) types)
end_more types i type end after low is end_is here =
    here ∙ ap (λ n. end_from n (type ∷ [])) end_is ∙ sym (end_from-append 0 (take i types) (type ∷ [])) ∙ ap (end_from 0) (sym (one_more types i type low is))

pub end_low : (types : List ArrayType) (i : ℕ) (type : ArrayType) (end : ℕ) → i < length types → type ≡ get_or types i type → end ≡ end_from 0 (take i types) → end_from end (type ∷ []) ≤ end_from 0 types
end_low types i type end low is end_is =
    let all : types ≡ take (i + 1) types ++ drop (i + 1) types = sym (take-append-drop (i + 1) types) in
    let next : end_from end (type ∷ []) ≡ end_from 0 (take (i + 1) types) = end_more types i type end (end_from end (type ∷ [])) low is end_is refl in
    let split : end_from 0 types ≡ end_from (end_from 0 (take (i + 1) types)) (drop (i + 1) types) = ap (end_from 0) all ∙ end_from-append 0 (take (i + 1) types) (drop (i + 1) types) in
    omega (arith, next, split, end-from (end_from 0 (take (i + 1) types)) (drop (i + 1) types))

-- ---- the table

drop_map : {X Y : Type 0} (f : X → Y) (xs : List X) (i : ℕ) (x : X) → i < length xs → x ≡ get_or xs i x → drop i (map f xs) ≡ f x ∷ drop (i + 1) (map f xs)
drop_map f xs i x low is =
    let inside : i < length (map f xs) = subst (λ n. i < n) (sym (length-map xs f)) low in
    let next : suc i ≡ i + 1 = omega arith in
    drop-cons (map f xs) i (f x) inside ∙ ap (λ y. y ∷ drop (suc i) (map f xs)) (get_or-map f xs i x (f x) low ∙ ap f (sym is)) ∙ ap (λ n. f x ∷ drop n (map f xs)) next

drop_past : {X : Type 0} (xs : List X) (n : ℕ) → length xs ≤ n → drop n xs ≡ []
drop_past [] zero h = refl
drop_past [] (suc n) h = refl
drop_past (x ∷ xs) zero h = absurd (omega arith)
drop_past (x ∷ xs) (suc n) h = drop_past xs n (omega arith)

pub table_more : (places : List ArrayPlace) (stmts : List CheckedStmt) (terms : List Term) (i : ℕ) (stmt : CheckedStmt) (term : Term) → i < length stmts → stmt ≡ get_or stmts i stmt → i < length terms → term ≡ get_or terms i term
    → table_from places (drop i (program_of stmts)) (drop i (map term_of terms)) ≡ entry_of places (statement_of stmt) (term_of term) ++ table_from places (drop (i + 1) (program_of stmts)) (drop (i + 1) (map term_of terms))
table_more places stmts terms i stmt term low is low' is' =
    let p = drop_map statement_of stmts i stmt low is in
    let q = drop_map term_of terms i term low' is' in
    λ k. table_from places (p k) (q k)

pub table_none : (places : List ArrayPlace) (stmts : List CheckedStmt) (terms : List Term) (i : ℕ) (stmt : CheckedStmt) → i < length stmts → stmt ≡ get_or stmts i stmt → length terms ≤ i
    → table_from places (drop i (program_of stmts)) (drop i (map term_of terms)) ≡ table_from places (drop (i + 1) (program_of stmts)) (drop (i + 1) (map term_of terms))
table_none places stmts terms i stmt low is past =
    let p = drop_map statement_of stmts i stmt low is in
    let many = length-map terms term_of in
    let q : drop i (map term_of terms) ≡ [] = drop_past (map term_of terms) i (omega arith) in
    let r : drop (i + 1) (map term_of terms) ≡ [] = drop_past (map term_of terms) (i + 1) (omega arith) in
    (λ k. table_from places (p k) (q k)) ∙ sym (none (drop (i + 1) (program_of stmts))) ∙ ap (table_from places (drop (i + 1) (program_of stmts))) (sym r)
  where
    none : (ss : List Statement) → table_from places ss [] ≡ []
    none [] = refl
    none (s ∷ ss) = refl

pub table_end : (places : List ArrayPlace) (stmts : List CheckedStmt) (terms : List Term) (i : ℕ) → length stmts ≤ i → table_from places (drop i (program_of stmts)) (drop i (map term_of terms)) ≡ []
table_end places stmts terms i past =
    let many = length-map stmts statement_of in
    let q : drop i (program_of stmts) ≡ [] = drop_past (program_of stmts) i (omega arith) in
    ap (λ ss. table_from places ss (drop i (map term_of terms))) q

pub small_at : (drafts : List code.Draft) (i : ℕ) (d : code.Draft) → All IsSmallDraft (map plain_draft drafts) → i < length drafts → d ≡ get_or drafts i d → IsSmallDraft (plain_draft d)
small_at drafts i d small low is =
    let inside : i < length (map plain_draft drafts) = subst (λ n. i < n) (sym (length-map drafts plain_draft)) low in
    subst IsSmallDraft (get_or-map plain_draft drafts i d (plain_draft d) low ∙ ap plain_draft (sym is)) (small i (plain_draft d) inside)

-- the next statement's entry, where its name has a tree
pub table_step : (places : List ArrayPlace) (stmts : List CheckedStmt) (terms : List Term) (i : ℕ) (stmt : CheckedStmt) (all before after : List Entry) → i < length stmts → stmt ≡ get_or stmts i stmt
    → all ≡ before ++ table_from places (drop i (program_of stmts)) (drop i (map term_of terms))
    → (i < length terms → after ≡ before ++ entry_of places (statement_of stmt) (get_or (map term_of terms) i no_tree)) → (length terms ≤ i → after ≡ before)
    → all ≡ after ++ table_from places (drop (i + 1) (program_of stmts)) (drop (i + 1) (map term_of terms))
table_step places stmts terms i stmt all before after low is so_far there none =
    let rest = table_from places (drop (i + 1) (program_of stmts)) (drop (i + 1) (map term_of terms)) in
    let many = length-map terms term_of in
    elim (cases_lt i (length terms)) [
      | inl some ↦
          let t = get_or (map term_of terms) i no_tree in
          let p = drop_map statement_of stmts i stmt low is in
          let next : suc i ≡ i + 1 = omega arith in
          let q : drop i (map term_of terms) ≡ t ∷ drop (i + 1) (map term_of terms) = drop-cons (map term_of terms) i no_tree (omega arith) ∙ ap (λ n. t ∷ drop n (map term_of terms)) next in
          so_far ∙ ap (λ es. before ++ es) (λ k. table_from places (p k) (q k)) ∙ sym (append_assoc before (entry_of places (statement_of stmt) t) rest) ∙ ap (λ es. es ++ rest) (sym (there some))
      | inr past ↦ so_far ∙ ap (λ es. before ++ es) (table_none places stmts terms i stmt low is past) ∙ ap (λ es. es ++ rest) (sym (none past))
    ]

-- the entry of a statement that is no let
entry_with : (places : List ArrayPlace) (t : TreeOver Leaf) (place : ℕ) (kind : StmtKind) (name : List ℕ) (elem : Elem) (shape : Extent) (value : Option Typed) → ¬ (kind ≡ kinds.Let) → place ≡ (get_or places (array_under t) no_place).place
    → MatchOption value (kind ≡ kinds.Input) (λ v. (v.elem ≡ elem) × (v.shape ≡ shape))
    → ◌≡◌ {A = List Entry} (record { name = name; output = not (has_input (statement_with kind name elem shape value)); elem = elem; shape = shape; place = place } ∷ []) (entry_of places (statement_with kind name elem shape value) t)
entry_with places t place kinds.Input name elem shape None other at h = λ k. record { name = name; output = false; elem = elem; shape = shape; place = at k } ∷ []
entry_with places t place kinds.Input name elem shape (Some v) other at h = λ k. record { name = name; output = false; elem = elem; shape = shape; place = at k } ∷ []
entry_with places t place kinds.Let name elem shape value other at h = absurd (other refl)
entry_with places t place kinds.Output name elem shape None other at h = λ k. record { name = name; output = false; elem = elem; shape = shape; place = at k } ∷ []
entry_with places t place kinds.Output name elem shape (Some v) other at h =
    let e = sym (elem_of-node v ∙ h.0) in
    let s = sym (shape_of-node v ∙ h.1) in
    λ k. record { name = name; output = true; elem = e k; shape = s k; place = at k } ∷ []

whole_parts : (kind : StmtKind) (stmt : CheckedStmt) (value : Option Typed) → stmt.kind ≡ kind → MatchOption value (stmt.kind ≡ kinds.Input) (HasValue stmt) → MatchOption value (kind ≡ kinds.Input) (λ v. (v.elem ≡ stmt.elem) × (v.shape ≡ stmt.shape))
whole_parts kind stmt None same h = sym same ∙ h
whole_parts kind stmt (Some v) same h = (h.elem_is, h.shape_is)

pub entry_is : (places : List ArrayPlace) (t : TreeOver Leaf) (place : ℕ) (stmt : CheckedStmt) (output : Bool) → ¬ (stmt.kind ≡ kinds.Let) → place ≡ (get_or places (array_under t) no_place).place → output ≡ not (has_input (statement_of stmt)) → IsWhole stmt
    → ◌≡◌ {A = List Entry} (record { name = stmt.name; output = output; elem = stmt.elem; shape = stmt.shape; place = place } ∷ []) (entry_of places (statement_of stmt) t)
entry_is places t place stmt output other at out whole =
    ap (λ (o : Bool). let es : List Entry = record { name = stmt.name; output = o; elem = stmt.elem; shape = stmt.shape; place = place } ∷ [] in es) out
    ∙ entry_with places t place stmt.kind stmt.name stmt.elem stmt.shape stmt.value other at (whole_parts stmt.kind stmt stmt.value refl whole)
