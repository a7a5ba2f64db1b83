-- The passes of a program's statements leave its names' arrays.
use Rattle.std.proofs.Common.{◌≡◌, ℕ, zero, suc, ◌+◌, ◌<◌, ◌≤◌, List, [], ◌∷◌, ◌++◌, length, get_or, refl, sym, ap, ◌∙◌, subst, arith, append_assoc, length-append, Bool, true, false, Some, inl, inr}
use Rattle.std.specs.Prelude.{pos, ◌*◌, unwrap_or, ◌==◌, ◌||◌, ◌⊎◌, nat_lt, slice_get, slice_index_or}
use Rattle.std.specs.List.{list_any, flat_map}
use Rattle.std.proofs.lemmas.Bool.{eq-eqb}
use Rattle.std.proofs.lemmas.Grind.{flat_map-append}
use Rattle.std.proofs.lemmas.List.{append-nil, get_or_at, get_or_append_left}
use Rattle.std.proofs.lemmas.Option.{slice_get_within}
use Rattle.ven_base.specs.Grid.{Grid, value_at}
use Rattle.ven_base.specs.Pairs.{Pairs}
use Rattle.shape_check.specs.declared.typed.ArrayType.{ArrayType}
use Rattle.shape_check.specs.Node.{Node, Name, Literal, One, Two, Cast, Select, Map, RowFold, Fold, elem_of, shape_of}
use Rattle.shape_check.specs.Statement.{Statement, Input, Let, Output, in_value}
use Rattle.shape_check.specs.Occurrences.{names_under_maps, own_name, uses_of, is_mapped}
use Rattle.shape_check.specs.Rules.{IsTyped, IsTypedStatement, AreTyped, declared_type}
use Rattle.shape_check.specs.Meaning.{no_grid, expr_at, array_of, input_array, statement_array, arrays_from, outputs_of, FitsStatement, FitInputs}
use Rattle.shape_check.specs.Laws.{Stands}
use Rattle.shape_check.proofs.Typing.{Stands-AreShapes}
use Rattle.shape_check.proofs.Meanings.{Stands-push, statement_array-IsArrayIn}
use Rattle.pass_plan.specs.declared.leaf.Leaf.{Leaf}
use Rattle.pass_plan.specs.Tree.{TreeOver, height_of}
use Rattle.pass_plan.specs.Pass.{Arrays}
use Rattle.ven_base.proofs.Made.{grid_with-at}
use Rattle.expr_split.specs.Cuts.{AtOutput, AtLet, is_reduction, height_limit, let_asks, Draft, Own, draft_of, seen_if, no_tree, own_of, seen_of, let_of, statement_of, inputs_in, plan_from}
use Rattle.expr_split.specs.Places.{input_types, input_type, plan_of, input_grid, input_grids, no_array, first_arrays, left_by, outputs_left}
use Rattle.expr_split.specs.Laws.{KeepsMeaning}
use Rattle.expr_split.proofs.Runs.{run, run-below, run-append, arrays_after-is}
use Rattle.expr_split.proofs.Expressions.{Agree, Holds, IsWhole, NamesHold, NamesHold-later, NameIsWhole, MapsStand, own_right, expression_right, cut_array}

-- ---- maps' operands

or_more : (b c d : Bool) → (b || c) ≡ true → (c ≡ true → d ≡ true) → (b || d) ≡ true
or_more true c d h f = refl
or_more false c d h f = f h

or_right : (b c : Bool) → c ≡ true → (b || c) ≡ true
or_right true c h = refl
or_right false c h = h

or_left : (b c : Bool) → b ≡ true → (b || c) ≡ true
or_left true c h = refl
or_left false c h = cc

pub any_left : (p : ℕ → Bool) (xs ys : List ℕ) → list_any p xs ≡ true → list_any p (xs ++ ys) ≡ true
any_left p [] ys h = cc
any_left p (x ∷ xs) ys h = or_more (p x) (list_any p xs) (list_any p (xs ++ ys)) h (λ r. any_left p xs ys r)

pub any_right : (p : ℕ → Bool) (xs ys : List ℕ) → list_any p ys ≡ true → list_any p (xs ++ ys) ≡ true
any_right p [] ys h = h
any_right p (x ∷ xs) ys h = or_right (p x) (list_any p (xs ++ ys)) (any_right p xs ys h)

any_only : (k : ℕ) → list_any (λ j. j == k) (k ∷ []) ≡ true
any_only k = ap (λ b. b || false) (eq-eqb k k refl)

-- the names that occur among these as the operand of a map are whole arrays
abbrev pub AreWhole : List ArrayType → List (TreeOver Leaf) → List ℕ → Type 0
AreWhole types names mapped = (k : ℕ) (type : ArrayType) → slice_get types k ≡ Some type → list_any (λ j. j == k) mapped ≡ true → IsWhole type.elem type.shape (get_or names k no_tree)

name_stands : (types : List ArrayType) (names : List (TreeOver Leaf)) (a : Node) → IsTyped types a → AreWhole types names (own_name a) → NameIsWhole names a
name_stands types names (Name elem shape k) typed h = h k (record { elem = elem; shape = shape }) typed (any_only k)
name_stands types names (Literal elem shape value) typed h = tt
name_stands types names (One elem shape op a) typed h = tt
name_stands types names (Two elem shape op a b) typed h = tt
name_stands types names (Cast elem shape a) typed h = tt
name_stands types names (Select elem shape c x y) typed h = tt
name_stands types names (Map elem shape mapping a) typed h = tt
name_stands types names (RowFold elem shape fold a) typed h = tt
name_stands types names (Fold elem shape fold a) typed h = tt

whole_left : (types : List ArrayType) (names : List (TreeOver Leaf)) (xs ys : List ℕ) → AreWhole types names (xs ++ ys) → AreWhole types names xs
whole_left types names xs ys h = λ k type found m. h k type found (any_left (λ j. j == k) xs ys m)

whole_right : (types : List ArrayType) (names : List (TreeOver Leaf)) (xs ys : List ℕ) → AreWhole types names (xs ++ ys) → AreWhole types names ys
whole_right types names xs ys h = λ k type found m. h k type found (any_right (λ j. j == k) xs ys m)

pub maps_stand : (types : List ArrayType) (names : List (TreeOver Leaf)) (e : Node) → IsTyped types e → AreWhole types names (names_under_maps e) → MapsStand names e
maps_stand types names (Name elem shape k) typed h = tt
maps_stand types names (Literal elem shape value) typed h = tt
maps_stand types names (One elem shape op a) typed h = maps_stand types names a typed.0 h
maps_stand types names (Two elem shape op a b) typed h = (
  maps_stand types names a typed.0 (whole_left types names (names_under_maps a) (names_under_maps b) h),
  maps_stand types names b typed.1 (whole_right types names (names_under_maps a) (names_under_maps b) h),
)
maps_stand types names (Cast elem shape a) typed h = maps_stand types names a typed.0 h
maps_stand types names (Select elem shape c x y) typed h =
    let rest = whole_right types names (names_under_maps c) (names_under_maps x ++ names_under_maps y) h in (
      maps_stand types names c typed.0 (whole_left types names (names_under_maps c) (names_under_maps x ++ names_under_maps y) h),
      maps_stand types names x typed.1 (whole_left types names (names_under_maps x) (names_under_maps y) rest),
      maps_stand types names y typed.2 (whole_right types names (names_under_maps x) (names_under_maps y) rest),
    )
maps_stand types names (Map elem shape mapping a) typed h = (
  name_stands types names a typed.0 (whole_left types names (own_name a) (names_under_maps a) h),
  maps_stand types names a typed.0 (whole_right types names (own_name a) (names_under_maps a) h),
)
maps_stand types names (RowFold elem shape fold a) typed h = maps_stand types names a typed.0 h
maps_stand types names (Fold elem shape fold a) typed h = maps_stand types names a typed.0 h

-- what occurs in a statement occurs in the program
pub mapped_here : (program done rest : List Statement) (s : Statement) (k : ℕ) → program ≡ done ++ s ∷ rest → list_any (λ j. j == k) (in_value [] names_under_maps s) ≡ true → is_mapped program k ≡ true
mapped_here program done rest s k is h =
    let f = in_value [] names_under_maps in
    let all : flat_map f program ≡ flat_map f done ++ (f s ++ flat_map f rest) = ap (flat_map f) is ∙ flat_map-append f done (s ∷ rest) in
    ap (list_any (λ j. j == k)) all ∙ any_right (λ j. j == k) (flat_map f done) (f s ++ flat_map f rest) (any_left (λ j. j == k) (f s) (flat_map f rest) h)

-- ---- one more name

-- the last of a list, or one of those before it
pub get_push : {X : Type 0} (xs : List X) (y x : X) (k : ℕ) → slice_get (xs ++ y ∷ []) k ≡ Some x → (slice_get xs k ≡ Some x) ⊎ ((k ≡ length xs) × (y ≡ x))
get_push [] y x zero h = inr (refl, let e : Some y ≡ Some x = h in cc)
get_push [] y x (suc k) h = absurd (cc)
get_push (z ∷ xs) y x zero h = inl h
get_push (z ∷ xs) y x (suc k) h = elim (get_push xs y x k h) [ inl a ↦ inl a | inr a ↦ inr (let same = a.0 in omega arith, a.1) ]

-- what is known of the statements so far
record State (program done : List Statement) (types : List ArrayType) (values : List Grid) (base : ℕ) (arrays : Arrays) (names : List (TreeOver Leaf)) : Type 0 where
  counted_names : length names ≡ length done
  counted_types : length types ≡ length done
  counted_values : length values ≡ length done
  holds : NamesHold types values base arrays names
  stands : Stands types values
  whole : (k : ℕ) (type : ArrayType) → slice_get types k ≡ Some type → is_mapped program k ≡ true → IsWhole type.elem type.shape (get_or names k no_tree)

-- a statement's tree has its array's values, and is its array where a map or an output asks for it
record IsHere (program : List Statement) (s : Statement) (name : ℕ) (array : Grid) (n : ℕ) (arrays : Arrays) (t : TreeOver Leaf) : Type 0 where
  holds : Holds (declared_type s).shape (value_at array) n arrays t
  whole : is_mapped program name ≡ true → IsWhole (declared_type s).elem (declared_type s).shape t

push_counted : {X Y : Type 0} (xs : List X) (ys : List Y) (x : X) (y : Y) → length xs ≡ length ys → length (xs ++ x ∷ []) ≡ length (ys ++ y ∷ [])
push_counted xs ys x y h = omega (arith, length-append xs (x ∷ []), length-append ys (y ∷ []))

state_push : (program done : List Statement) (inputs : Pairs) (types : List ArrayType) (values : List Grid) (base : ℕ) (arrays : Arrays) (names : List (TreeOver Leaf)) (s : Statement) (ds : List Draft) (t : TreeOver Leaf)
    → State program done types values base arrays names → IsTypedStatement types s → FitsStatement inputs s → IsHere program s (length names) (statement_array inputs values s) (base + length ds) (run base ds arrays) t
    → State program (done ++ s ∷ []) (types ++ declared_type s ∷ []) (values ++ statement_array inputs values s ∷ []) (base + length ds) (run base ds arrays) (names ++ t ∷ [])
state_push program done inputs types values base arrays names s ds t state typed fit here =
    let type = declared_type s in
    let a = statement_array inputs values s in
    let d = λ (u : ArrayType). no_grid u.elem u.shape in
    let n = base + length ds in
    let after = run base ds arrays in
    let many : length values ≡ length types = state.counted_values ∙ sym state.counted_types in
    let many' : length names ≡ length types = state.counted_names ∙ sym state.counted_types in
    record {
      counted_names = push_counted names done t s state.counted_names;
      counted_types = push_counted types done type s state.counted_types;
      counted_values = push_counted values done a s state.counted_values;
      holds = λ k u found.
          elim (get_push types type u k found) [
            | inl before ↦
                let low = slice_get_within types k u before in
                let v : k < length values = omega arith in
                let w : k < length names = omega arith in
                subst (λ (g : Grid). Holds u.shape (value_at g) n after (get_or (names ++ t ∷ []) k no_tree)) (sym (get_or_append_left values (a ∷ []) (d u) k v))
                (subst (λ (x : TreeOver Leaf). Holds u.shape (value_at (slice_index_or values k (d u))) n after x) (sym (get_or_append_left names (t ∷ []) no_tree k w))
                (NamesHold-later types values base arrays names ds state.holds k u before))
            | inr last ↦
                let v : length values ≡ k = many ∙ sym last.0 in
                let w : length names ≡ k = many' ∙ sym last.0 in
                subst (λ (g : Grid). Holds u.shape (value_at g) n after (get_or (names ++ t ∷ []) k no_tree)) (sym (get_or_at values a [] (d u) k v))
                (subst (λ (x : TreeOver Leaf). Holds u.shape (value_at a) n after x) (sym (get_or_at names t [] no_tree k w))
                (subst (λ (x : ArrayType). Holds x.shape (value_at a) n after t) last.1 here.holds))
          ];
      stands = Stands-push types values type a many state.stands (statement_array-IsArrayIn inputs types values s state.stands typed fit);
      whole = λ k u found mapped.
          elim (get_push types type u k found) [
            | inl before ↦
                let low = slice_get_within types k u before in
                let w : k < length names = omega arith in
                subst (λ (x : TreeOver Leaf). IsWhole u.elem u.shape x) (sym (get_or_append_left names (t ∷ []) no_tree k w)) (state.whole k u before mapped)
            | inr last ↦
                let w : length names ≡ k = many' ∙ sym last.0 in
                subst (λ (x : TreeOver Leaf). IsWhole u.elem u.shape x) (sym (get_or_at names t [] no_tree k w))
                (subst (λ (x : ArrayType). IsWhole x.elem x.shape t) last.1 (here.whole (ap (is_mapped program) w ∙ mapped)))
          ];
    }

-- ---- one statement

whole_if_cut : (cut : Bool) (e : Node) (base : ℕ) (own : Own) → cut ≡ true → IsWhole (elem_of e) (shape_of e) (seen_if cut (elem_of e) (shape_of e) base own).tree
whole_if_cut true e base own h = record { array = base + length own.passes; leaf = refl }
whole_if_cut false e base own h = absurd cc

pub let_whole : (program : List Statement) (names : List (TreeOver Leaf)) (base : ℕ) (e : Node) → is_mapped program (length names) ≡ true → IsWhole (elem_of e) (shape_of e) (let_of program names base e).tree
let_whole program names base e h =
    let tall = nat_lt height_limit (height_of (own_of names base e).tree) in
    let asks : let_asks program (length names) (own_of names base e).tree ≡ true =
    or_right (nat_lt 1 (uses_of program (length names))) (is_mapped program (length names) || tall) (or_left (is_mapped program (length names)) tall h) in
    whole_if_cut (let_asks program (length names) (own_of names base e).tree || is_reduction e) e base (own_of names base e) (or_left (let_asks program (length names) (own_of names base e).tree) (is_reduction e) asks)

Holds-array : (values : List Grid) (e : Node) (n : ℕ) (arrays : Arrays) (t : TreeOver Leaf) → Holds (shape_of e) (expr_at values e) n arrays t → Holds (shape_of e) (value_at (array_of values e)) n arrays t
Holds-array values e n arrays t h = record { at = λ other agree i j index. h.at other agree i j index ∙ sym (grid_with-at (elem_of e) (shape_of e) (expr_at values e) i j index) }

-- the outputs that a statement has
abbrev out_of : Statement → Grid → Pairs
out_of (Input name elem shape) array = []
out_of (Let name value) array = []
out_of (Output name value) array = (name, array) ∷ []

outputs_of-cons : (s : Statement) (more : List Statement) (a : Grid) (rest : List Grid) → outputs_of (s ∷ more) (a ∷ rest) ≡ out_of s a ++ outputs_of more rest
outputs_of-cons (Input name elem shape) more a rest = refl
outputs_of-cons (Let name value) more a rest = refl
outputs_of-cons (Output name value) more a rest = refl

maps_here : (program done rest : List Statement) (s : Statement) (e : Node) (types : List ArrayType) (values : List Grid) (base : ℕ) (arrays : Arrays) (names : List (TreeOver Leaf)) → program ≡ done ++ s ∷ rest → State program done types values base arrays names → IsTyped types e
    → in_value [] names_under_maps s ≡ names_under_maps e → MapsStand names e
maps_here program done rest s e types values base arrays names is state typed same =
    maps_stand types names e typed (λ k type found m. state.whole k type found (mapped_here program done rest s k is (ap (list_any (λ j. j == k)) same ∙ m)))

-- the inputs are the first arrays, and this many came before
record InputsStand (inputs : Pairs) (stmts : List Statement) (grids before : List Grid) (taken base : ℕ) (arrays : Arrays) : Type 0 where
  grids_are : grids ≡ before ++ input_grids inputs stmts
  taken_is : taken ≡ length before
  stand : (k : ℕ) → k < length grids → arrays k ≡ get_or grids k no_array
  within : length grids ≤ base

here_right : (program done rest : List Statement) (inputs : Pairs) (types : List ArrayType) (values : List Grid) (base : ℕ) (arrays : Arrays) (names : List (TreeOver Leaf)) (grids before : List Grid) (taken : ℕ) (s : Statement)
    → program ≡ done ++ s ∷ rest → State program done types values base arrays names → IsTypedStatement types s → FitsStatement inputs s → InputsStand inputs (s ∷ rest) grids before taken base arrays
    → let seen = statement_of program taken names base s in IsHere program s (length names) (statement_array inputs values s) (base + length seen.passes) (run base seen.passes arrays) seen.tree
here_right program done rest inputs types values base arrays names grids before taken (Input name elem shape) is state typed fit stand =
    let array = input_array inputs name elem shape in
    let within : taken < length grids = omega (arith, stand.taken_is, ap length stand.grids_are, length-append before (array ∷ input_grids inputs rest)) in
    let here : arrays taken ≡ array =
    stand.stand taken within ∙ ap (λ g. get_or g taken no_array) stand.grids_are ∙ get_or_at before array (input_grids inputs rest) no_array taken (sym stand.taken_is) in
    record {
      holds = record { at = λ other agree i j index. ap (λ g. value_at (record { elem = elem; shape = shape; values = g.values }) i j) (agree.below taken (omega (arith, stand.within)) ∙ here) ∙ same_values i j };
      whole = λ m. record { array = taken; leaf = refl };
    }
  where
    same_values : (i j : ℕ) → value_at (record { elem = elem; shape = shape; values = (input_array inputs name elem shape).values }) i j ≡ value_at (input_array inputs name elem shape) i j
    same_values i j =
        let shape_is : (input_array inputs name elem shape).shape ≡ shape = ap (λ o. (unwrap_or o (no_grid elem shape)).shape) fit.found ∙ fit.shape_is in
        ap (λ e. slice_index_or (input_array inputs name elem shape).values (i * e.cols + j) (pos 0)) (sym shape_is)
here_right program done rest inputs types values base arrays names grids before taken (Let name value) is state typed fit stand =
    let asked = let_asks program (length names) (own_of names base value).tree in
    let seen = let_of program names base value in
    let maps = maps_here program done rest (Let name value) value types values base arrays names is state typed.0 refl in
    record {
      holds = Holds-array values value (base + length seen.passes) (run base seen.passes arrays) seen.tree (expression_right types values names (Stands-AreShapes types values state.stands) (AtLet asked) base arrays value state.holds typed.0 maps);
      whole = let_whole program names base value;
    }
here_right program done rest inputs types values base arrays names grids before taken (Output name value) is state typed fit stand =
    let seen = seen_of AtOutput names base value in
    let maps = maps_here program done rest (Output name value) value types values base arrays names is state typed.0 refl in
    record {
      holds = Holds-array values value (base + length seen.passes) (run base seen.passes arrays) seen.tree (expression_right types values names (Stands-AreShapes types values state.stands) AtOutput base arrays value state.holds typed.0 maps);
      whole = λ m. record { array = base + length (own_of names base value).passes; leaf = refl };
    }

-- an output's array is left there
output_right : (program done rest : List Statement) (inputs : Pairs) (types : List ArrayType) (values : List Grid) (base : ℕ) (arrays : Arrays) (names : List (TreeOver Leaf)) (taken : ℕ) (s : Statement) (last : Arrays)
    → program ≡ done ++ s ∷ rest → State program done types values base arrays names → IsTypedStatement types s
    → let seen = statement_of program taken names base s in Agree (base + length seen.passes) (run base seen.passes arrays) last → left_by last s seen.tree ≡ out_of s (statement_array inputs values s)
output_right program done rest inputs types values base arrays names taken (Input name elem shape) last is state typed agree = refl
output_right program done rest inputs types values base arrays names taken (Let name value) last is state typed agree = refl
output_right program done rest inputs types values base arrays names taken (Output name value) last is state typed agree =
    let own = own_of names base value in
    let maps = maps_here program done rest (Output name value) value types values base arrays names is state typed.0 refl in
    let right = own_right types values names (Stands-AreShapes types values state.stands) base arrays value state.holds typed.0 maps in
    let array = agree.below (base + length own.passes) (omega (arith, length-append own.passes (draft_of own ∷ []))) ∙ cut_array values base arrays value own right in
    ap (λ g. (name, g) ∷ []) array

-- ---- all statements

-- the names' trees and arrays of the rest of a program, and that its outputs are left
record Rest (inputs : Pairs) (last : Arrays) (stmts : List Statement) (names all_names : List (TreeOver Leaf)) (values all_values : List Grid) : Type 0 where
  new_names : List (TreeOver Leaf)
  new_values : List Grid
  names_are : all_names ≡ names ++ new_names
  values_are : all_values ≡ values ++ new_values
  outputs : outputs_left last stmts new_names ≡ outputs_of stmts new_values

input_counted : (inputs : Pairs) (s : Statement) → length (input_grid inputs s) ≡ inputs_in s
input_counted inputs (Input name elem shape) = refl
input_counted inputs (Let name value) = refl
input_counted inputs (Output name value) = refl

inputs_next : (inputs : Pairs) (s : Statement) (more : List Statement) (grids before : List Grid) (taken base : ℕ) (arrays : Arrays) (ds : List Draft) → InputsStand inputs (s ∷ more) grids before taken base arrays
    → InputsStand inputs more grids (before ++ input_grid inputs s) (taken + inputs_in s) (base + length ds) (run base ds arrays)
inputs_next inputs s more grids before taken base arrays ds h = record {
  grids_are = h.grids_are ∙ sym (append_assoc before (input_grid inputs s) (input_grids inputs more));
  taken_is = omega (arith, h.taken_is, input_counted inputs s, length-append before (input_grid inputs s));
  stand = λ k low. run-below base ds arrays k (omega (arith, h.within)) ∙ h.stand k low;
  within = omega (arith, h.within);
}

rest_right : (program done stmts : List Statement) (inputs : Pairs) (types : List ArrayType) (values : List Grid) (base : ℕ) (arrays : Arrays) (names : List (TreeOver Leaf)) (grids before : List Grid) (taken : ℕ)
    → program ≡ done ++ stmts → State program done types values base arrays names → AreTyped types stmts → FitInputs stmts inputs → InputsStand inputs stmts grids before taken base arrays
    → let plan = plan_from program taken names base stmts in Rest inputs (run base plan.passes arrays) stmts names plan.names values (arrays_from inputs values stmts)
rest_right program done [] inputs types values base arrays names grids before taken is state typed fit stand =
    record { new_names = []; new_values = []; names_are = sym (append-nil names); values_are = sym (append-nil values); outputs = refl }
rest_right program done (s ∷ more) inputs types values base arrays names grids before taken is state typed fit stand =
    let seen = statement_of program taken names base s in
    let a = statement_array inputs values s in
    let next = base + length seen.passes in
    let mid = run base seen.passes arrays in
    let plan = plan_from program (taken + inputs_in s) (names ++ seen.tree ∷ []) next more in
    let here = here_right program done more inputs types values base arrays names grids before taken s is state typed.0 fit.0 stand in
    let pushed = state_push program done inputs types values base arrays names s seen.passes seen.tree state typed.0 fit.0 here in
    let rest = rest_right program (done ++ s ∷ []) more inputs (types ++ declared_type s ∷ []) (values ++ a ∷ []) next mid (names ++ seen.tree ∷ []) grids (before ++ input_grid inputs s) (taken + inputs_in s)
    (is ∙ sym (append_assoc done (s ∷ []) more)) pushed typed.1 fit.1 (inputs_next inputs s more grids before taken base arrays seen.passes stand) in
    let last = run next plan.passes mid in
    let one = output_right program done more inputs types values base arrays names taken s last is state typed.0 (record { below = λ k low. run-below next plan.passes mid k low }) in
    let all : outputs_left last (s ∷ more) (seen.tree ∷ rest.new_names) ≡ outputs_of (s ∷ more) (a ∷ rest.new_values) =
    ap (λ p. p ++ outputs_left last more rest.new_names) one ∙ ap (λ p. out_of s a ++ p) rest.outputs ∙ sym (outputs_of-cons s more a rest.new_values) in
    record {
      new_names = seen.tree ∷ rest.new_names;
      new_values = a ∷ rest.new_values;
      names_are = rest.names_are ∙ append_assoc names (seen.tree ∷ []) rest.new_names;
      values_are = rest.values_are ∙ append_assoc values (a ∷ []) rest.new_values;
      outputs = ap (λ r. outputs_left r (s ∷ more) (seen.tree ∷ rest.new_names)) (run-append base seen.passes plan.passes arrays) ∙ all;
    }

start : (program : List Statement) (base : ℕ) (arrays : Arrays) → State program [] [] [] base arrays []
start program base arrays = record {
  counted_names = refl;
  counted_types = refl;
  counted_values = refl;
  holds = λ k type found. absurd cc;
  stands = record { counted = omega arith; each = λ k type d found. absurd cc };
  whole = λ k type found m. absurd cc;
}

pub inputs_counted : (inputs : Pairs) (stmts : List Statement) → length (input_grids inputs stmts) ≡ length (input_types stmts)
inputs_counted inputs [] = refl
inputs_counted inputs (s ∷ more) =
    omega (arith, length-append (input_grid inputs s) (input_grids inputs more), length-append (input_type s) (input_types more), inputs_counted inputs more, one s)
  where
    one : (s : Statement) → length (input_grid inputs s) ≡ length (input_type s)
    one (Input name elem shape) = refl
    one (Let name value) = refl
    one (Output name value) = refl

pub keeps_meaning : KeepsMeaning
keeps_meaning program split inputs checked fit is =
    let grids = input_grids inputs program in
    let base = length (input_types program) in
    let arrays = first_arrays grids in
    let plan = plan_of program in
    let rest = rest_right program [] program inputs [] [] base arrays [] grids [] 0 refl (start program base arrays) checked.typed fit
    (record { grids_are = refl; taken_is = refl; stand = λ k low. refl; within = omega (arith, inputs_counted inputs program) }) in
    ap (λ r. outputs_left r program plan.names) (arrays_after-is base plan.passes split.passes arrays is.passes)
    ∙ ap (λ n. outputs_left (run base plan.passes arrays) program n) rest.names_are ∙ rest.outputs ∙ ap (outputs_of program) (sym rest.values_are)
