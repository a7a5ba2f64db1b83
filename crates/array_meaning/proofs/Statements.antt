-- What the loop over statements keeps, and the outputs in the end.
use Rattle.std.proofs.Common.{◌≡◌, ◌≢◌, ℕ, zero, suc, ◌+◌, ◌<◌, ◌≤◌, List, [], ◌∷◌, ◌++◌, length, take, drop, get_or, refl, sym, ap, ◌∙◌, subst, arith, Contains, None, Some, Option, length-append, append_assoc}
use Rattle.std.specs.List.{AllPairs, AllZip}
use Rattle.std.specs.Prelude.{MatchOption, is_some, Bool, true, false, IsTrue, Result, IfOk}
use Rattle.std.proofs.Common.{inl, inr, Ok, Err}
use Rattle.std.proofs.lemmas.List.{append-nil, take_more, take_all, drop_more, length-map, length-take, get_or-map, get_or-take, map-append}
use Rattle.std.proofs.lemmas.List.Elements.{Contains-append_left, Contains-push, Contains-append_cases}
use Rattle.ven_base.specs.declared.elem.Elem.{Elem}
use Rattle.ven_base.specs.Extent.{Extent}
use Rattle.ven_base.specs.Grid.{Grid, IsGrid}
use Rattle.ven_base.specs.Pairs.{Pairs, names_of as pair_names}
use Rattle.shape_check.specs.declared.typed.ArrayType.{ArrayType}
use Rattle.shape_check.specs.declared.typed.Typed.{Typed}
use Rattle.shape_check.specs.declared.checked.StmtKind.{StmtKind}
use Rattle.shape_check.specs.declared.checked.StmtKind.TheVariants as kinds
use Rattle.shape_check.specs.declared.checked.CheckedStmt.{CheckedStmt}
use Rattle.shape_check.specs.Node.{Node, elem_of, is_literal}
use Rattle.shape_check.specs.Typed.{node_of}
use Rattle.shape_check.specs.Statement.{Statement, Input, Let, Output, name_of, names_of}
use Rattle.shape_check.specs.Checked.{statement_with, statement_of, program_of, IsWhole, HasValue, IsCheckedProgram}
use Rattle.shape_check.specs.Rules.{declared_type, IsTypedStatement, AreTyped}
use Rattle.shape_check.specs.Laws.{Stands}
use Rattle.shape_check.specs.Meaning.{array_of, statement_array, arrays_from, arrays_of, outputs_of, FitsStatement, FitInputs}
use Rattle.shape_check.proofs.Plain.{elem_with}
use Rattle.shape_check.proofs.Loops.{name_with}
use Rattle.shape_check.proofs.Meanings.{array_of-IsGrid, Stands-push, statement_array-IsArrayIn}
use Rattle.array_meaning.specs.declared.store.Stored.{Stored}
use Rattle.array_meaning.specs.declared.store.Stored.TheVariants as stores
use Rattle.array_meaning.specs.declared.operand.Operand.{Operand}
use Rattle.array_meaning.specs.Operand.{IsValueOf, IsReady, IsStatementReady, array_with}
use Rattle.array_meaning.specs.Store.{grid_of, grids_of, HasOwn, IsArrayFor, AreWorkedOut, AreOutputs, output_with}
use Rattle.array_meaning.proofs.Values.{whole_list}

-- ---- the arrays so far

pub arrays_more : (inputs : Pairs) (before : List Grid) (program : List Statement) (s : Statement) → arrays_from inputs before (program ++ s ∷ []) ≡ arrays_from inputs before program ++ statement_array inputs (arrays_from inputs before program) s ∷ []
arrays_more inputs before [] s = refl
arrays_more inputs before (t ∷ program) s = arrays_more inputs (before ++ statement_array inputs before t ∷ []) program s

nothing_stands : Stands [] []
nothing_stands = record { counted = omega arith; each = λ k t d found. absurd (cc) }

push_counted : {X Y : Type 0} (xs : List X) (ys : List Y) (x : X) (y : Y) → length xs ≡ length ys → length (xs ++ x ∷ []) ≡ length (ys ++ y ∷ [])
push_counted xs ys x y h = omega (arith, length-append xs (x ∷ []), length-append ys (y ∷ []))

-- the names before a statement have their arrays
ready_from : (inputs : Pairs) (types : List ArrayType) (before : List Grid) (program : List Statement) (k : ℕ) (s : Statement) → length before ≡ length types → Stands types before → AreTyped types program → FitInputs program inputs → k < length program → get_or program k s ≡ s
    → IsStatementReady (arrays_from inputs before (take k program)) s
ready_from inputs types before [] k s counted h typed fit below is = absurd (omega arith)
ready_from inputs types before (t ∷ program) zero s counted h typed fit below is = record { types = types; stands = h; typed = subst (λ (u : Statement). IsTypedStatement types u) is typed.0 }
ready_from inputs types before (t ∷ program) (suc k) s counted h typed fit below is =
    let a = statement_array inputs before t in
    ready_from inputs (types ++ declared_type t ∷ []) (before ++ a ∷ []) program k s (push_counted before types a (declared_type t) counted)
    (Stands-push types before (declared_type t) a counted h (statement_array-IsArrayIn inputs types before t h typed.0 fit.0)) typed.1 fit.1 (omega arith) is

pub ready_at : (inputs : Pairs) (program : List Statement) (k : ℕ) (s : Statement) → AreTyped [] program → FitInputs program inputs → k < length program → get_or program k s ≡ s → IsStatementReady (arrays_of inputs (take k program)) s
ready_at inputs program k s typed fit below is = ready_from inputs [] [] program k s refl nothing_stands typed fit below is

pub fits_at : (inputs : Pairs) (program : List Statement) (k : ℕ) (s : Statement) → FitInputs program inputs → k < length program → get_or program k s ≡ s → FitsStatement inputs s
fits_at inputs [] k s fit below is = absurd (omega arith)
fits_at inputs (t ∷ program) zero s fit below is = subst (FitsStatement inputs) is fit.0
fits_at inputs (t ∷ program) (suc k) s fit below is = fits_at inputs program k s fit.1 (omega arith) is

program_length : (stmts : List CheckedStmt) → length (program_of stmts) ≡ length stmts
program_length stmts = length-map stmts statement_of

program_at : (stmts : List CheckedStmt) (k : ℕ) (stmt : CheckedStmt) → k < length stmts → stmt ≡ get_or stmts k stmt → get_or (program_of stmts) k (statement_of stmt) ≡ statement_of stmt
program_at stmts k stmt below is = get_or-map statement_of stmts k stmt (statement_of stmt) below ∙ ap statement_of (sym is)

AllZip_push : (xs : List CheckedStmt) (ys : List Stored) (x : CheckedStmt) (y : Stored) → AllZip HasOwn xs ys → HasOwn x y → AllZip HasOwn (xs ++ x ∷ []) (ys ++ y ∷ [])
AllZip_push [] [] x y h r = (r, tt)
AllZip_push [] (b ∷ ys) x y h r = absurd h
AllZip_push (a ∷ xs) [] x y h r = absurd h
AllZip_push (a ∷ xs) (b ∷ ys) x y h r = (h.0, AllZip_push xs ys x y h.1 r)

drop_past : (xs : List CheckedStmt) (k : ℕ) → length xs ≤ k → drop k xs ≡ []
drop_past [] zero h = refl
drop_past [] (suc k) h = refl
drop_past (x ∷ xs) zero h = absurd (omega arith)
drop_past (x ∷ xs) (suc k) h = drop_past xs k (omega arith)

-- ---- the expression of a statement

array_with_kind : (kind : StmtKind) (name : List ℕ) (elem : Elem) (shape : Extent) (value : Typed) (inputs : Pairs) (arrays : List Grid) → kind ≢ kinds.Input → statement_array inputs arrays (statement_with kind name elem shape (Some value)) ≡ array_of arrays (node_of value)
array_with_kind kinds.Input name elem shape value inputs arrays h = absurd (h refl)
array_with_kind kinds.Let name elem shape value inputs arrays h = refl
array_with_kind kinds.Output name elem shape value inputs arrays h = refl

-- an expression that may be worked out, and isn't a literal
record IsReadyArray (arrays : List Grid) (e : Node) : Type 0 where
  ready : IsReady arrays e
  plain : is_literal e ≡ false

ready_with_kind : (kind : StmtKind) (name : List ℕ) (elem : Elem) (shape : Extent) (value : Typed) (arrays : List Grid) → kind ≢ kinds.Input → IsStatementReady arrays (statement_with kind name elem shape (Some value)) → IsReadyArray arrays (node_of value)
ready_with_kind kinds.Input name elem shape value arrays h r = absurd (h refl)
ready_with_kind kinds.Let name elem shape value arrays h r = record { ready = record { types = r.types; stands = r.stands; typed = r.typed.0 }; plain = r.typed.1.no_literal }
ready_with_kind kinds.Output name elem shape value arrays h r = record { ready = record { types = r.types; stands = r.stands; typed = r.typed.0 }; plain = r.typed.1.no_literal }

has_value : (stmt : CheckedStmt) (value : Typed) → IsWhole stmt → stmt.value ≡ Some value → HasValue stmt value
has_value stmt value whole is = subst (λ (o : Option Typed). MatchOption o (stmt.kind ≡ kinds.Input) (HasValue stmt)) is whole

ready_array : (arrays : List Grid) (stmt : CheckedStmt) (value : Typed) → IsWhole stmt → IsStatementReady arrays (statement_of stmt) → stmt.value ≡ Some value → IsReadyArray arrays (node_of value)
ready_array arrays stmt value whole r is =
    ready_with_kind stmt.kind stmt.name stmt.elem stmt.shape value arrays (has_value stmt value whole is).no_input
    (subst (λ (o : Option Typed). IsStatementReady arrays (statement_with stmt.kind stmt.name stmt.elem stmt.shape o)) is r)

operand_array : (arrays : List Grid) (stmt : CheckedStmt) (value : Typed) (o : Operand) → IsWhole stmt → IsStatementReady arrays (statement_of stmt) → stmt.value ≡ Some value → IsValueOf arrays (node_of value) o → array_with stmt.elem o ≡ array_of arrays (node_of value)
operand_array arrays stmt value o whole r is h =
    let e = node_of value in
    let own = ready_array arrays stmt value whole r is in
    let elem : stmt.elem ≡ elem_of e = sym (elem_with value.kind value.elem value.shape ∙ (has_value stmt value whole is).elem_is) in
    let values = whole_list arrays e o own.ready h own.plain in
    λ t. record { elem = elem t; shape = h.shape_is t; values = values t }

pub operand_is_grid : (arrays : List Grid) (stmt : CheckedStmt) (value : Typed) (o : Operand) → IsWhole stmt → IsStatementReady arrays (statement_of stmt) → stmt.value ≡ Some value → IsValueOf arrays (node_of value) o → IsGrid (array_with stmt.elem o)
operand_is_grid arrays stmt value o whole r is h =
    let own = ready_array arrays stmt value whole r is in
    subst IsGrid (sym (operand_array arrays stmt value o whole r is h)) (array_of-IsGrid own.ready.types arrays (node_of value) own.ready.stands own.ready.typed own.plain)

pub operand_for : (inputs : Pairs) (arrays : List Grid) (stmt : CheckedStmt) (value : Typed) (o : Operand) (array : Grid) → IsWhole stmt → IsStatementReady arrays (statement_of stmt) → stmt.value ≡ Some value → IsValueOf arrays (node_of value) o
    → array ≡ array_with stmt.elem o → IsArrayFor inputs arrays stmt (stores.Own array)
operand_for inputs arrays stmt value o array whole r is h made = record {
  is = made ∙ operand_array arrays stmt value o whole r is h
      ∙ sym (array_with_kind stmt.kind stmt.name stmt.elem stmt.shape value inputs arrays (has_value stmt value whole is).no_input)
      ∙ ap (λ (p : Option Typed). statement_array inputs arrays (statement_with stmt.kind stmt.name stmt.elem stmt.shape p)) (sym is);
  own = λ k. tt;
}

-- ---- one statement more is worked out

pub nothing_worked_out : (inputs : Pairs) (stmts : List CheckedStmt) → AreWorkedOut inputs stmts 0 []
nothing_worked_out inputs stmts = record { arrays_are = refl; own = tt }

pub statement_ready : (inputs : Pairs) (stmts : List CheckedStmt) (k : ℕ) (arrays : List Stored) (stmt : CheckedStmt) → IsCheckedProgram (program_of stmts) → FitInputs (program_of stmts) inputs → AreWorkedOut inputs stmts k arrays → k < length stmts → stmt ≡ get_or stmts k stmt
    → IsStatementReady (grids_of arrays) (statement_of stmt)
statement_ready inputs stmts k arrays stmt checked fit h below is =
    subst (λ (grids : List Grid). IsStatementReady grids (statement_of stmt)) (sym h.arrays_are)
    (ready_at inputs (program_of stmts) k (statement_of stmt) checked.typed fit (omega (arith, program_length stmts)) (program_at stmts k stmt below is))

pub statement_fits : (inputs : Pairs) (stmts : List CheckedStmt) (k : ℕ) (stmt : CheckedStmt) → FitInputs (program_of stmts) inputs → k < length stmts → stmt ≡ get_or stmts k stmt → FitsStatement inputs (statement_of stmt)
statement_fits inputs stmts k stmt fit below is =
    fits_at inputs (program_of stmts) k (statement_of stmt) fit (omega (arith, program_length stmts)) (program_at stmts k stmt below is)

pub worked_out_more : (inputs : Pairs) (stmts : List CheckedStmt) (k : ℕ) (arrays after : List Stored) (stmt : CheckedStmt) (stored : Stored) → AreWorkedOut inputs stmts k arrays → k < length stmts → stmt ≡ get_or stmts k stmt
    → IsArrayFor inputs (grids_of arrays) stmt stored → after ≡ arrays ++ stored ∷ [] → AreWorkedOut inputs stmts (k + 1) after
worked_out_more inputs stmts k arrays after stmt stored h below is here pushed =
    let program = program_of stmts in
    let s = statement_of stmt in
    let more : take (k + 1) program ≡ take k program ++ s ∷ [] = take_more program k s (omega (arith, program_length stmts)) ∙ ap (λ t. take k program ++ t ∷ []) (program_at stmts k stmt below is) in
    let stmts_more : take (k + 1) stmts ≡ take k stmts ++ stmt ∷ [] = take_more stmts k stmt below ∙ ap (λ t. take k stmts ++ t ∷ []) (sym is) in
    let array : grid_of stored ≡ statement_array inputs (arrays_of inputs (take k program)) s = here.is ∙ ap (λ (grids : List Grid). statement_array inputs grids s) h.arrays_are in
    record {
      arrays_are =
          ap grids_of pushed ∙ map-append grid_of arrays (stored ∷ []) ∙ (λ t. h.arrays_are t ++ array t ∷ []) ∙ sym (arrays_more inputs [] (take k program) s) ∙ ap (arrays_of inputs) (sym more);
      own =
          subst (λ (xs : List CheckedStmt). AllZip HasOwn xs after) (sym stmts_more)
          (subst (λ (ys : List Stored). AllZip HasOwn (take k stmts ++ stmt ∷ []) ys) (sym pushed) (AllZip_push (take k stmts) arrays stmt stored h.own here.own));
    }

pub all_worked_out : (inputs : Pairs) (stmts : List CheckedStmt) (k : ℕ) (arrays : List Stored) → AreWorkedOut inputs stmts k arrays → length stmts ≤ k → (grids_of arrays ≡ arrays_of inputs (program_of stmts)) × AllZip HasOwn stmts arrays
all_worked_out inputs stmts k arrays h all = (
  h.arrays_are ∙ ap (arrays_of inputs) (take_all k (program_of stmts) (omega (arith, program_length stmts))),
  subst (λ (xs : List CheckedStmt). AllZip HasOwn xs arrays) (take_all k stmts all) h.own,
)

-- ---- the outputs

split_first : (s : Statement) (more : List Statement) (grid : Grid) (grids : List Grid) → outputs_of (s ∷ more) (grid ∷ grids) ≡ output_with s grid ++ outputs_of more grids
split_first (Input name elem shape) more grid grids = refl
split_first (Let name value) more grid grids = refl
split_first (Output name value) more grid grids = refl

at_most_one : (s : Statement) (grid : Grid) → length (output_with s grid) ≤ 1
at_most_one (Input name elem shape) grid = omega arith
at_most_one (Let name value) grid = omega arith
at_most_one (Output name value) grid = omega arith

named_first : (n name : List ℕ) (i : ℕ) → i < 1 → get_or (n ∷ []) i name ≡ name → n ≡ name
named_first n name zero below is = is
named_first n name (suc i) below is = absurd (omega arith)

named_output : (s : Statement) (grid : Grid) (name : List ℕ) → Contains (pair_names (output_with s grid)) name → name_of s ≡ name
named_output (Input n elem shape) grid name h = let below = h.1 in absurd (omega arith)
named_output (Let n value) grid name h = let below = h.1 in absurd (omega arith)
named_output (Output n value) grid name h = named_first n name h.0 h.1 h.2

output_with_kind : (name : List ℕ) (elem : Elem) (shape : Extent) (value : Option Typed) (grid : Grid) → is_some value ≡ true → output_with (statement_with kinds.Output name elem shape value) grid ≡ (name, grid) ∷ []
output_with_kind name elem shape None grid h = absurd (cc)
output_with_kind name elem shape (Some value) grid h = refl

whole_some : (stmt : CheckedStmt) (value : Option Typed) → MatchOption value (stmt.kind ≡ kinds.Input) (HasValue stmt) → stmt.kind ≡ kinds.Output → is_some value ≡ true
whole_some stmt None h output = absurd (cc)
whole_some stmt (Some value) h output = refl

first_is_own : (stmts : List CheckedStmt) (k : ℕ) (stmt : CheckedStmt) (stored : Stored) (rest : List Stored) → AllZip HasOwn (drop k stmts) (stored ∷ rest) → drop k stmts ≡ stmt ∷ drop (k + 1) stmts → HasOwn stmt stored × AllZip HasOwn (drop (k + 1) stmts) rest
first_is_own stmts k stmt stored rest own dropped = subst (λ (xs : List CheckedStmt). AllZip HasOwn xs (stored ∷ rest)) dropped own

pub nothing_put_out : (stmts : List CheckedStmt) (arrays : List Stored) → AllZip HasOwn stmts arrays → AreOutputs stmts arrays 0 [] arrays
nothing_put_out stmts arrays own = record { among = refl; own = own; few = omega arith; earlier = λ name h. let below = h.1 in absurd (omega arith) }

-- there is an array for the next statement
pub array_left : (stmts : List CheckedStmt) (arrays : List Stored) (k : ℕ) (outputs : Pairs) (stmt : CheckedStmt) → AreOutputs stmts arrays k outputs [] → k < length stmts → stmt ≡ get_or stmts k stmt → ⊥
array_left stmts arrays k outputs stmt h below is =
    subst (λ (xs : List CheckedStmt). AllZip HasOwn xs []) (drop_more stmts k stmt below ∙ ap (λ t. t ∷ drop (k + 1) stmts) (sym is)) h.own

names_length : (stmts : List CheckedStmt) → length (names_of (program_of stmts)) ≡ length stmts
names_length stmts = length-map (program_of stmts) name_of ∙ program_length stmts

names_at : (stmts : List CheckedStmt) (k : ℕ) (stmt : CheckedStmt) → k < length stmts → stmt ≡ get_or stmts k stmt → get_or (names_of (program_of stmts)) k stmt.name ≡ stmt.name
names_at stmts k stmt below is =
    get_or-map name_of (program_of stmts) k (statement_of stmt) stmt.name (omega (arith, program_length stmts)) ∙ ap name_of (program_at stmts k stmt below is) ∙ name_with stmt.kind stmt.name stmt.elem stmt.shape stmt.value

-- no output so far has the statement's name
pub name_absent : (stmts : List CheckedStmt) (arrays : List Stored) (k : ℕ) (outputs : Pairs) (rest : List Stored) (stmt : CheckedStmt) → AreOutputs stmts arrays k outputs rest → AllPairs (λ a b. a ≢ b) (names_of (program_of stmts)) → k < length stmts → stmt ≡ get_or stmts k stmt
    → ¬ Contains (pair_names outputs) stmt.name
name_absent stmts arrays k outputs rest stmt h distinct below is there =
    let names = names_of (program_of stmts) in
    let found = h.earlier stmt.name there in
    let i = found.0 in
    let inside : i < length (take k names) = found.1 in
    let before : i < k = omega (arith, length-take k names) in
    let same : get_or names i stmt.name ≡ stmt.name = sym (get_or-take k names i stmt.name before) ∙ found.2 in
    distinct i k stmt.name before (omega (arith, names_length stmts)) (same ∙ sym (names_at stmts k stmt below is))

earlier_more : (stmts : List CheckedStmt) (k : ℕ) (stmt : CheckedStmt) → k < length stmts → stmt ≡ get_or stmts k stmt → take (k + 1) (names_of (program_of stmts)) ≡ take k (names_of (program_of stmts)) ++ stmt.name ∷ []
earlier_more stmts k stmt below is =
    let names = names_of (program_of stmts) in
    take_more names k stmt.name (omega (arith, names_length stmts)) ∙ ap (λ n. take k names ++ n ∷ []) (names_at stmts k stmt below is)

pub put_more : (stmts : List CheckedStmt) (arrays : List Stored) (k : ℕ) (outputs after : Pairs) (rest : List Stored) (stmt : CheckedStmt) (stored : Stored) → AreOutputs stmts arrays k outputs (stored ∷ rest) → k < length stmts → stmt ≡ get_or stmts k stmt
    → after ≡ outputs ++ output_with (statement_of stmt) (grid_of stored) → AreOutputs stmts arrays (k + 1) after rest
put_more stmts arrays k outputs after rest stmt stored h below is pushed =
    let dropped : drop k stmts ≡ stmt ∷ drop (k + 1) stmts = drop_more stmts k stmt below ∙ ap (λ t. t ∷ drop (k + 1) stmts) (sym is) in
    let s = statement_of stmt in
    let more = program_of (drop (k + 1) stmts) in
    let put = output_with s (grid_of stored) in
    let names = names_of (program_of stmts) in
    let name : name_of s ≡ stmt.name = name_with stmt.kind stmt.name stmt.elem stmt.shape stmt.value in
    record {
      among = h.among ∙ ap (λ xs. outputs ++ outputs_of (program_of xs) (grids_of (stored ∷ rest))) dropped ∙ ap (λ p. outputs ++ p) (split_first s more (grid_of stored) (grids_of rest))
          ∙ sym (append_assoc outputs put (outputs_of more (grids_of rest))) ∙ ap (λ p. p ++ outputs_of more (grids_of rest)) (sym pushed);
      own = (first_is_own stmts k stmt stored rest h.own dropped).1;
      few = omega (arith, h.few, ap length pushed, length-append outputs put, at_most_one s (grid_of stored));
      earlier = λ n there.
          let all : pair_names after ≡ pair_names outputs ++ pair_names put = ap pair_names pushed ∙ map-append (λ (p : List ℕ × Grid). p.0) outputs put in
          subst (λ (ns : List (List ℕ)). Contains ns n) (sym (earlier_more stmts k stmt below is))
          (elim (Contains-append_cases (pair_names outputs) (pair_names put) n (subst (λ (ns : List (List ℕ)). Contains ns n) all there)) [
            | inl before ↦ Contains-append_left (take k names) (stmt.name ∷ []) n (h.earlier n before)
            | inr last ↦ subst (λ (m : List ℕ). Contains (take k names ++ stmt.name ∷ []) m) (sym name ∙ named_output s (grid_of stored) n last) (Contains-push (take k names) stmt.name)
          ]);
    }

-- the array of the next statement is its own
pub own_next : (stmts : List CheckedStmt) (arrays : List Stored) (k : ℕ) (outputs : Pairs) (rest : List Stored) (stmt : CheckedStmt) (stored : Stored) → AreOutputs stmts arrays k outputs (stored ∷ rest) → k < length stmts → stmt ≡ get_or stmts k stmt → HasOwn stmt stored
own_next stmts arrays k outputs rest stmt stored h below is =
    (first_is_own stmts k stmt stored rest h.own (drop_more stmts k stmt below ∙ ap (λ t. t ∷ drop (k + 1) stmts) (sym is))).0

-- a name that is new is added
pub output_added : (b : Bool) (stmt : CheckedStmt) (before after : Pairs) (grid : Grid) → (IsTrue b → after ≡ before ++ (stmt.name, grid) ∷ []) → (b ≡ false → Contains (pair_names before) stmt.name × (after ≡ before)) → ¬ Contains (pair_names before) stmt.name
    → IsWhole stmt → stmt.kind ≡ kinds.Output → after ≡ before ++ output_with (statement_of stmt) grid
output_added false stmt before after grid added there is_new whole output = absurd (is_new (there refl).0)
output_added true stmt before after grid added there is_new whole output =
    let pair : output_with (statement_of stmt) grid ≡ (stmt.name, grid) ∷ [] =
    ap (λ kind. output_with (statement_with kind stmt.name stmt.elem stmt.shape stmt.value) grid) output ∙ output_with_kind stmt.name stmt.elem stmt.shape stmt.value grid (whole_some stmt stmt.value whole output) in
    added refl ∙ ap (λ p. before ++ p) (sym pair)

pub ok_same : {E : Type 0} (r : Result Pairs E) (a b : Pairs) → a ≡ b → IfOk r (λ o. o ≡ a) → IfOk r (λ o. o ≡ b)
ok_same (Ok x) a b same h = h ∙ same
ok_same (Err e) a b same h = tt

pub all_put_out : (stmts : List CheckedStmt) (arrays : List Stored) (k : ℕ) (outputs : Pairs) (rest : List Stored) → AreOutputs stmts arrays k outputs rest → length stmts ≤ k → outputs ≡ outputs_of (program_of stmts) (grids_of arrays)
all_put_out stmts arrays k outputs rest h all =
    sym (h.among ∙ ap (λ xs. outputs ++ outputs_of (program_of xs) (grids_of rest)) (drop_past stmts k all) ∙ append-nil outputs)
