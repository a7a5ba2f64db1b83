-- The table of a checked program's split: its entries stand for arrays, each for one of its own.
use Rattle.std.proofs.Common.{◌≡◌, ◌≢◌, ℕ, ◌+◌, ◌<◌, ◌≤◌, List, [], ◌∷◌, ◌++◌, length, get_or, refl, sym, ap, ◌∙◌, subst, arith, append_assoc, length-append, Bool, true, false, Some, All, inl, inr}
use Rattle.std.specs.Prelude.{slice_get, map, ◌⊎◌, AllPairs}
use Rattle.std.specs.List.{AllZip}
use Rattle.std.proofs.lemmas.List.{append-nil, length-map, map-append}
use Rattle.std.proofs.lemmas.List.Elements.{All-nil, All-cons, All-weaker}
use Rattle.std.proofs.lemmas.Option.{slice_get_within}
use Rattle.ven_base.specs.declared.elem.Elem.{Elem}
use Rattle.ven_base.specs.declared.entry.Entry.{Entry}
use Rattle.ven_base.specs.Extent.{Extent}
use Rattle.shape_check.specs.declared.typed.ArrayType.{ArrayType}
use Rattle.shape_check.specs.Node.{Node, Name, Literal, One, Two, Cast, Select, Map, RowFold, Fold, elem_of, shape_of}
use Rattle.shape_check.specs.Statement.{Statement, Input, Let, Output}
use Rattle.shape_check.specs.Rules.{IsTyped, AreTyped, declared_type, type_of}
use Rattle.pass_plan.specs.declared.leaf.Leaf.{Leaf}
use Rattle.pass_plan.specs.declared.split.ArrayPlace.{ArrayPlace}
use Rattle.pass_plan.specs.Tree.{TreeOver}
use Rattle.pass_plan.specs.Sound.{no_place}
use Rattle.expr_split.specs.Cuts.{Draft, draft_of, own_of, statement_of, inputs_in, plan_from}
use Rattle.expr_split.specs.DeclaredTable.{declared_table, unplaced}
use Rattle.expr_split.specs.Places.{input_type, input_types, draft_type, places_from, table_from}
use Rattle.expr_split.proofs.Good.{get_more, get_here}
use Rattle.expr_split.proofs.Soundness.{input_length, pairs_cons, place-at, places-length}

-- ---- the trees of statements

-- those of these statements, one each
abbrev pub new_trees : List Statement → ℕ → List (TreeOver Leaf) → ℕ → List Statement → List (TreeOver Leaf)
new_trees program taken names base [] = []
new_trees program taken names base (s ∷ more) =
    let seen = statement_of program taken names base s in
    seen.tree ∷ new_trees program (taken + inputs_in s) (names ++ seen.tree ∷ []) (base + length seen.passes) more

pub names-are : (program : List Statement) (taken : ℕ) (names : List (TreeOver Leaf)) (base : ℕ) (stmts : List Statement)
    → (plan_from program taken names base stmts).names ≡ names ++ new_trees program taken names base stmts
names-are program taken names base [] = sym (append-nil names)
names-are program taken names base (s ∷ more) =
    let seen = statement_of program taken names base s in
    let next = new_trees program (taken + inputs_in s) (names ++ seen.tree ∷ []) (base + length seen.passes) more in
    names-are program (taken + inputs_in s) (names ++ seen.tree ∷ []) (base + length seen.passes) more ∙ append_assoc names (seen.tree ∷ []) next

-- ---- the entries without places

pub table-declared : (places : List ArrayPlace) (program : List Statement) (taken : ℕ) (names : List (TreeOver Leaf)) (base : ℕ) (stmts : List Statement)
    → map unplaced (table_from places stmts (new_trees program taken names base stmts)) ≡ declared_table stmts
table-declared places program taken names base [] = refl
table-declared places program taken names base (Input name elem shape ∷ more) =
    let s = Input name elem shape in
    let seen = statement_of program taken names base s in
    let entry : Entry = record { name = name; output = false; elem = elem; shape = shape; place = 0 } in
    ap (λ (rest : List Entry). entry ∷ rest) (table-declared places program (taken + inputs_in s) (names ++ seen.tree ∷ []) (base + length seen.passes) more)
table-declared places program taken names base (Let name value ∷ more) =
    let s = Let name value in
    let seen = statement_of program taken names base s in
    table-declared places program (taken + inputs_in s) (names ++ seen.tree ∷ []) (base + length seen.passes) more
table-declared places program taken names base (Output name value ∷ more) =
    let s = Output name value in
    let seen = statement_of program taken names base s in
    let entry : Entry = record { name = name; output = true; elem = elem_of value; shape = shape_of value; place = 0 } in
    ap (λ (rest : List Entry). entry ∷ rest) (table-declared places program (taken + inputs_in s) (names ++ seen.tree ∷ []) (base + length seen.passes) more)

-- ---- the numbers of arrays

-- what a node's own pass makes has the node's type and shape
own-type : (types : List ArrayType) (names : List (TreeOver Leaf)) (base : ℕ) (e : Node) → IsTyped types e
    → draft_type (draft_of (own_of names base e)) ≡ type_of e
own-type types names base (Name elem shape k) typed = refl
own-type types names base (Literal elem shape value) typed = refl
own-type types names base (One elem shape op a) typed = refl
own-type types names base (Two elem shape op a b) typed = refl
own-type types names base (Cast elem shape a) typed = refl
own-type types names base (Select elem shape c x y) typed = refl
own-type types names base (Map elem shape mapping a) typed = refl
own-type types names base (RowFold elem shape fold a) typed = ap (λ (s : Extent). let t : ArrayType = record { elem = elem; shape = s } in t)
    (sym typed.1.shape_is)
own-type types names base (Fold elem shape fold a) typed = ap (λ (s : Extent). let t : ArrayType = record { elem = elem; shape = s } in t)
    (sym typed.1.shape_is)

-- the number of an input's or an output's array
abbrev pub number_of : ℕ → List (TreeOver Leaf) → ℕ → Statement → List ℕ
number_of taken names base (Input name elem shape) = taken ∷ []
number_of taken names base (Let name value) = []
number_of taken names base (Output name value) = (base + length (own_of names base value).passes) ∷ []

abbrev pub numbers : List Statement → ℕ → List (TreeOver Leaf) → ℕ → List Statement → List ℕ
numbers program taken names base [] = []
numbers program taken names base (s ∷ more) =
    let seen = statement_of program taken names base s in
    number_of taken names base s ++ numbers program (taken + inputs_in s) (names ++ seen.tree ∷ []) (base + length seen.passes) more

-- the inputs and the passes of these statements are the last of all
pub record AreLast (inputs : List ArrayType) (drafts : List Draft) (program : List Statement) (taken : ℕ) (names : List (TreeOver Leaf)) (base : ℕ)
    (stmts : List Statement) : Type 0 where
  pub before : List ArrayType
  pub done : List Draft
  pub inputs_are : inputs ≡ before ++ input_types stmts
  pub taken_is : taken ≡ length before
  pub drafts_are : drafts ≡ done ++ (plan_from program taken names base stmts).passes
  pub base_is : base ≡ length inputs + length done

pub next : (inputs : List ArrayType) (drafts : List Draft) (program : List Statement) (taken : ℕ) (names : List (TreeOver Leaf)) (base : ℕ) (s : Statement)
    (more : List Statement)
    → AreLast inputs drafts program taken names base (s ∷ more)
    → let seen = statement_of program taken names base s in AreLast inputs drafts program (taken + inputs_in s) (names ++ seen.tree ∷ [])
    (base + length seen.passes) more
next inputs drafts program taken names base s more h =
    let seen = statement_of program taken names base s in
    let rest = plan_from program (taken + inputs_in s) (names ++ seen.tree ∷ []) (base + length seen.passes) more in
    record {
      before = h.before ++ input_type s;
      done = h.done ++ seen.passes;
      inputs_are = h.inputs_are ∙ sym (append_assoc h.before (input_type s) (input_types more));
      taken_is = omega (arith, h.taken_is, input_length s, length-append h.before (input_type s));
      drafts_are = h.drafts_are ∙ sym (append_assoc h.done seen.passes rest.passes);
      base_is = omega (arith, h.base_is, length-append h.done seen.passes);
    }

-- ---- entries stand where their arrays do

-- the array with this number stands where the entry says, with its type and shape
pub record StandsIn (places : List ArrayPlace) (entry : Entry) (number : ℕ) : Type 0 where
  pub known : number < length places
  pub is : get_or places number no_place ≡ record { elem = entry.elem; shape = entry.shape; place = entry.place }

abbrev entry_for : List ArrayPlace → List ℕ → Bool → ArrayType → ℕ → Entry
entry_for places name output type k =
    record { name = name; output = output; elem = type.elem; shape = type.shape; place = (get_or places k no_place).place }

stands-at : (all : List ArrayType) (name : List ℕ) (output : Bool) (type : ArrayType) (k : ℕ) → slice_get all k ≡ Some type
    → StandsIn (places_from 0 all) (entry_for (places_from 0 all) name output type k) k
stands-at all name output type k h =
    let at = place-at 0 all k type h in
    record {
      known = omega (arith, slice_get_within all k type h, places-length 0 all);
      is = λ i. record { elem = at.elem_is i; shape = at.shape_is i; place = (get_or (places_from 0 all) k no_place).place };
    }

module _ (inputs : List ArrayType) (drafts : List Draft) where
  abbrev pub all_types : List ArrayType
  all_types = inputs ++ map draft_type drafts

  abbrev pub all_places : List ArrayPlace
  all_places = places_from 0 all_types

  pub input-stands : (program : List Statement) (taken : ℕ) (names : List (TreeOver Leaf)) (base : ℕ) (name : List ℕ) (elem : Elem) (shape : Extent)
      (more : List Statement)
      → AreLast inputs drafts program taken names base (Input name elem shape ∷ more)
      → StandsIn all_places (entry_for all_places name false (record { elem = elem; shape = shape }) taken) taken
  input-stands program taken names base name elem shape more h =
      let type : ArrayType = record { elem = elem; shape = shape } in
      stands-at all_types name false type taken
      (get_more inputs (map draft_type drafts) taken type
      (ap (λ l. slice_get l taken) h.inputs_are ∙ get_here h.before type (input_types more) taken (sym h.taken_is)))

  pub output-stands : (types : List ArrayType) (program : List Statement) (taken : ℕ) (names : List (TreeOver Leaf)) (base : ℕ) (name : List ℕ)
      (value : Node) (more : List Statement)
      → IsTyped types value → AreLast inputs drafts program taken names base (Output name value ∷ more)
      → let number = base + length (own_of names base value).passes in StandsIn all_places (entry_for all_places name true (type_of value) number) number
  output-stands types program taken names base name value more typed h =
      let own = own_of names base value in
      let d = draft_of own in
      let seen = statement_of program taken names base (Output name value) in
      let rest = (plan_from program (taken + inputs_in (Output name value)) (names ++ seen.tree ∷ []) (base + length seen.passes) more).passes in
      let front = h.done ++ own.passes in
      let drafts_are : drafts ≡ front ++ d ∷ rest =
      h.drafts_are ∙ ap (λ l. h.done ++ l) (append_assoc own.passes (d ∷ []) rest) ∙ sym (append_assoc h.done own.passes (d ∷ rest)) in
      let all_are : all_types ≡ (inputs ++ map draft_type front) ++ draft_type d ∷ map draft_type rest =
      ap (λ l. inputs ++ map draft_type l) drafts_are ∙ ap (λ l. inputs ++ l) (map-append draft_type front (d ∷ rest)) ∙ sym
      (append_assoc inputs (map draft_type front) (draft_type d ∷ map draft_type rest)) in
      let number = base + length own.passes in
      let many : length (inputs ++ map draft_type front) ≡ number =
      omega (arith, h.base_is, length-append inputs (map draft_type front), length-map front draft_type, length-append h.done own.passes) in
      stands-at all_types name true (type_of value) number
      (ap (λ l. slice_get l number) all_are ∙ get_here (inputs ++ map draft_type front) (draft_type d) (map draft_type rest) number many ∙ ap Some
      (own-type types names base value typed))

  pub table-stands : (types : List ArrayType) (program : List Statement) (taken : ℕ) (names : List (TreeOver Leaf)) (base : ℕ) (stmts : List Statement)
      → AreTyped types stmts → AreLast inputs drafts program taken names base stmts
      → AllZip (StandsIn all_places) (table_from all_places stmts (new_trees program taken names base stmts)) (numbers program taken names base stmts)
  table-stands types program taken names base [] typed h = tt
  table-stands types program taken names base (Input name elem shape ∷ more) typed h =
      let s = Input name elem shape in
      let seen = statement_of program taken names base s in (
        input-stands program taken names base name elem shape more h,
        table-stands (types ++ declared_type s ∷ []) program (taken + inputs_in s) (names ++ seen.tree ∷ []) (base + length seen.passes) more typed.1
            (next inputs drafts program taken names base s more h),
      )
  table-stands types program taken names base (Let name value ∷ more) typed h =
      let s = Let name value in
      let seen = statement_of program taken names base s in
      table-stands (types ++ declared_type s ∷ []) program (taken + inputs_in s) (names ++ seen.tree ∷ []) (base + length seen.passes) more typed.1
      (next inputs drafts program taken names base s more h)
  table-stands types program taken names base (Output name value ∷ more) typed h =
      let s = Output name value in
      let seen = statement_of program taken names base s in (
        output-stands types program taken names base name value more typed.0.0 h,
        table-stands (types ++ declared_type s ∷ []) program (taken + inputs_in s) (names ++ seen.tree ∷ []) (base + length seen.passes) more typed.1
            (next inputs drafts program taken names base s more h),
      )

  -- ---- each entry has an array of its own

  -- a number of later statements: an input's behind those taken, or a pass's behind those made
  abbrev IsAhead : ℕ → ℕ → ℕ → Type 0
  IsAhead taken base n = ((taken ≤ n) × (n < length inputs)) ⊎ (base ≤ n)

  ahead-weaker : (taken taken' base base' n : ℕ) → taken ≤ taken' → base ≤ base' → IsAhead taken' base' n → IsAhead taken base n
  ahead-weaker taken taken' base base' n low less h = elim h [ inl a ↦ inl (omega (arith, a.0), a.1) | inr b ↦ inr (omega (arith, b)) ]

  numbers-ahead : (program : List Statement) (taken : ℕ) (names : List (TreeOver Leaf)) (base : ℕ) (stmts : List Statement)
      → AreLast inputs drafts program taken names base stmts → All (IsAhead taken base) (numbers program taken names base stmts)
  numbers-ahead program taken names base [] h = All-nil (IsAhead taken base)
  numbers-ahead program taken names base (Input name elem shape ∷ more) h =
      let s = Input name elem shape in
      let seen = statement_of program taken names base s in
      let rest = numbers program (taken + inputs_in s) (names ++ seen.tree ∷ []) (base + length seen.passes) more in
      let type : ArrayType = record { elem = elem; shape = shape } in
      let within : taken < length inputs = omega (arith, h.taken_is, ap length h.inputs_are, length-append h.before (type ∷ input_types more)) in
      All-cons (IsAhead taken base) taken rest (inl (omega arith, within))
      (All-weaker (IsAhead (taken + 1) base) (IsAhead taken base) (λ n a. ahead-weaker taken (taken + 1) base base n (omega arith) (omega arith) a) rest
      (subst (λ (b : ℕ). All (IsAhead (taken + 1) b) rest) (omega arith)
      (numbers-ahead program (taken + inputs_in s) (names ++ seen.tree ∷ []) (base + length seen.passes) more
      (next inputs drafts program taken names base s more h))))
  numbers-ahead program taken names base (Let name value ∷ more) h =
      let s = Let name value in
      let seen = statement_of program taken names base s in
      let rest = numbers program (taken + inputs_in s) (names ++ seen.tree ∷ []) (base + length seen.passes) more in
      All-weaker (IsAhead (taken + 0) (base + length seen.passes)) (IsAhead taken base)
      (λ n a. ahead-weaker taken (taken + 0) base (base + length seen.passes) n (omega arith) (omega arith) a) rest
      (numbers-ahead program (taken + inputs_in s) (names ++ seen.tree ∷ []) (base + length seen.passes) more
      (next inputs drafts program taken names base s more h))
  numbers-ahead program taken names base (Output name value ∷ more) h =
      let s = Output name value in
      let seen = statement_of program taken names base s in
      let rest = numbers program (taken + inputs_in s) (names ++ seen.tree ∷ []) (base + length seen.passes) more in
      All-cons (IsAhead taken base) (base + length (own_of names base value).passes) rest (inr (omega arith))
      (All-weaker (IsAhead (taken + 0) (base + length seen.passes)) (IsAhead taken base)
      (λ n a. ahead-weaker taken (taken + 0) base (base + length seen.passes) n (omega arith) (omega arith) a) rest
      (numbers-ahead program (taken + inputs_in s) (names ++ seen.tree ∷ []) (base + length seen.passes) more
      (next inputs drafts program taken names base s more h)))

  pub numbers-own : (program : List Statement) (taken : ℕ) (names : List (TreeOver Leaf)) (base : ℕ) (stmts : List Statement)
      → AreLast inputs drafts program taken names base stmts → AllPairs (λ a b. a ≢ b) (numbers program taken names base stmts)
  numbers-own program taken names base [] h = λ i j d below low. absurd (omega arith)
  numbers-own program taken names base (Input name elem shape ∷ more) h =
      let s = Input name elem shape in
      let seen = statement_of program taken names base s in
      let rest = numbers program (taken + inputs_in s) (names ++ seen.tree ∷ []) (base + length seen.passes) more in
      let type : ArrayType = record { elem = elem; shape = shape } in
      let within : taken < length inputs = omega (arith, h.taken_is, ap length h.inputs_are, length-append h.before (type ∷ input_types more)) in
      let after = next inputs drafts program taken names base s more h in
      pairs_cons (λ (a b : ℕ). a ≢ b) taken rest
      (All-weaker (IsAhead (taken + inputs_in s) (base + length seen.passes)) (λ n. taken ≢ n)
      (λ n a e. elim a [ inl low ↦ absurd (omega (arith, low.0, e)) | inr far ↦ absurd (omega (arith, far, e, within, h.base_is)) ]) rest
      (numbers-ahead program (taken + inputs_in s) (names ++ seen.tree ∷ []) (base + length seen.passes) more after))
      (numbers-own program (taken + inputs_in s) (names ++ seen.tree ∷ []) (base + length seen.passes) more after)
  numbers-own program taken names base (Let name value ∷ more) h =
      let s = Let name value in
      let seen = statement_of program taken names base s in
      numbers-own program (taken + inputs_in s) (names ++ seen.tree ∷ []) (base + length seen.passes) more
      (next inputs drafts program taken names base s more h)
  numbers-own program taken names base (Output name value ∷ more) h =
      let s = Output name value in
      let own = own_of names base value in
      let seen = statement_of program taken names base s in
      let rest = numbers program (taken + inputs_in s) (names ++ seen.tree ∷ []) (base + length seen.passes) more in
      let after = next inputs drafts program taken names base s more h in
      let many = length-append own.passes (draft_of own ∷ []) in
      pairs_cons (λ (a b : ℕ). a ≢ b) (base + length own.passes) rest
      (All-weaker (IsAhead (taken + inputs_in s) (base + length seen.passes)) (λ n. base + length own.passes ≢ n)
      (λ n a e. elim a [ inl low ↦ absurd (omega (arith, low.1, e, h.base_is)) | inr far ↦ absurd (omega (arith, far, e, many)) ]) rest
      (numbers-ahead program (taken + inputs_in s) (names ++ seen.tree ∷ []) (base + length seen.passes) more after))
      (numbers-own program (taken + inputs_in s) (names ++ seen.tree ∷ []) (base + length seen.passes) more after)
