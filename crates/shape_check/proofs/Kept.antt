-- What a checked program keeps of the limits of its program.
use Rattle.std.proofs.Common.{◌≡◌, ◌≢◌, ℕ, ◌<◌, ◌≤◌, List, [], ◌∷◌, ◌++◌, length, get_or, refl, sym, ap, ◌∙◌, subst, arith, Some}
use Rattle.std.specs.Prelude.{All, slice_get}
use Rattle.std.specs.List.{AllPairs, sum_by}
use Rattle.std.proofs.lemmas.List.{map-append}
use Rattle.std.proofs.lemmas.List.Elements.{All-nil, All-cons, All-head, All-tail}
use Rattle.std.proofs.lemmas.List.Sums.{sum_by-cons}
use Rattle.std.proofs.lemmas.Option.{slice_get-get_or}
use Rattle.array_syntax.specs.Limits as source
use Rattle.array_syntax.specs.Limits.{IsFreeName, KeepsLimits, KeepsStatement, most_height, nodes, height, program_nodes}
use Rattle.array_syntax.specs.declared.program.Program.{Program}
use Rattle.array_syntax.specs.declared.program.Stmt.{Stmt}
use Rattle.array_syntax.specs.declared.program.Stmt.TheVariants as stmts
use Rattle.array_syntax.specs.Tree.{Tree, Name, Literal, One, Two, Cast, Select, Shift, Rotate, Section, Stretch, Transpose, RowFold, Fold, tree_of}
use Rattle.shape_check.specs.declared.typed.ArrayType.{ArrayType}
use Rattle.shape_check.specs.Node.{Node}
use Rattle.shape_check.specs.Statement.{Statement, name_of, names_of, in_value}
use Rattle.shape_check.specs.Rules.{AreTyped}
use Rattle.shape_check.specs.Scope.{Scope, entry_of, scope_of, scope_names, scope_types}
use Rattle.shape_check.specs.Typing.{Spells, SpellsStatement, AreTypings}
use Rattle.shape_check.specs.Checked.{nodes_of, height_of}
use Rattle.shape_check.specs.Ending.{KeepRules}
use Rattle.shape_check.proofs.Unique.{IsDistinct}
use Rattle.shape_check.proofs.Programs.{typings_distinct, typings_counted, IsDistinct-nil}

-- ---- expressions

spells_nodes : (scope : Scope) (tree : Tree) (e : Node) → Spells scope tree e → nodes_of e ≡ nodes tree
spells_nodes scope (Name at name) e h = ap nodes_of h.is
spells_nodes scope (Literal at n) e h = ap nodes_of h.is
spells_nodes scope (One at op a) e h = let is = ap nodes_of h.is in let rest = spells_nodes scope a h.a h.operand in omega arith
spells_nodes scope (Two at op a b) e h = let is = ap nodes_of h.is in let x = spells_nodes scope a h.a h.left in let y = spells_nodes scope b h.b h.right in omega arith
spells_nodes scope (Cast at elem a) e h = let is = ap nodes_of h.is in let rest = spells_nodes scope a h.a h.operand in omega arith
spells_nodes scope (Select at c p q) e h =
    let is = ap nodes_of h.is in let x = spells_nodes scope c h.c h.condition in let y = spells_nodes scope p h.x h.chosen in let z = spells_nodes scope q h.y h.other in omega arith
spells_nodes scope (Shift at a dr dc fill fill_at) e h = let is = ap nodes_of h.is in let rest = spells_nodes scope a h.a h.operand in omega arith
spells_nodes scope (Rotate at a dr dc) e h = let is = ap nodes_of h.is in let rest = spells_nodes scope a h.a h.operand in omega arith
spells_nodes scope (Section at a r0 nr sr c0 nc sc) e h = let is = ap nodes_of h.is in let rest = spells_nodes scope a h.a h.operand in omega arith
spells_nodes scope (Stretch at a kr kc) e h = let is = ap nodes_of h.is in let rest = spells_nodes scope a h.a h.operand in omega arith
spells_nodes scope (Transpose at a) e h = let is = ap nodes_of h.is in let rest = spells_nodes scope a h.a h.operand in omega arith
spells_nodes scope (RowFold at fold a) e h = let is = ap nodes_of h.is in let rest = spells_nodes scope a h.a h.operand in omega arith
spells_nodes scope (Fold at fold a) e h = let is = ap nodes_of h.is in let rest = spells_nodes scope a h.a h.operand in omega arith

spells_height : (scope : Scope) (tree : Tree) (e : Node) → Spells scope tree e → height_of e ≡ height tree
spells_height scope (Name at name) e h = ap height_of h.is
spells_height scope (Literal at n) e h = ap height_of h.is
spells_height scope (One at op a) e h = let is = ap height_of h.is in let rest = spells_height scope a h.a h.operand in omega arith
spells_height scope (Two at op a b) e h = let is = ap height_of h.is in let x = spells_height scope a h.a h.left in let y = spells_height scope b h.b h.right in omega arith
spells_height scope (Cast at elem a) e h = let is = ap height_of h.is in let rest = spells_height scope a h.a h.operand in omega arith
spells_height scope (Select at c p q) e h =
    let is = ap height_of h.is in let x = spells_height scope c h.c h.condition in let y = spells_height scope p h.x h.chosen in let z = spells_height scope q h.y h.other in omega arith
spells_height scope (Shift at a dr dc fill fill_at) e h = let is = ap height_of h.is in let rest = spells_height scope a h.a h.operand in omega arith
spells_height scope (Rotate at a dr dc) e h = let is = ap height_of h.is in let rest = spells_height scope a h.a h.operand in omega arith
spells_height scope (Section at a r0 nr sr c0 nc sc) e h = let is = ap height_of h.is in let rest = spells_height scope a h.a h.operand in omega arith
spells_height scope (Stretch at a kr kc) e h = let is = ap height_of h.is in let rest = spells_height scope a h.a h.operand in omega arith
spells_height scope (Transpose at a) e h = let is = ap height_of h.is in let rest = spells_height scope a h.a h.operand in omega arith
spells_height scope (RowFold at fold a) e h = let is = ap height_of h.is in let rest = spells_height scope a h.a h.operand in omega arith
spells_height scope (Fold at fold a) e h = let is = ap height_of h.is in let rest = spells_height scope a h.a h.operand in omega arith

-- ---- statements

statement_nodes : (scope : Scope) (stmt : Stmt) (s : Statement) → SpellsStatement scope stmt s → in_value 0 nodes_of s ≡ source.nodes_of stmt
statement_nodes scope (stmts.Input name at elem rows cols shape_at) s h = ap (in_value 0 nodes_of) h
statement_nodes scope (stmts.Let name at value) s h = ap (in_value 0 nodes_of) h.is ∙ spells_nodes scope (tree_of value) h.value h.spells
statement_nodes scope (stmts.Output name at value) s h = ap (in_value 0 nodes_of) h.is ∙ spells_nodes scope (tree_of value) h.value h.spells

statement_low : (scope : Scope) (stmt : Stmt) (s : Statement) → KeepsStatement stmt → SpellsStatement scope stmt s → in_value 0 height_of s ≤ most_height
statement_low scope (stmts.Input name at elem rows cols shape_at) s keeps h = let is = ap (in_value 0 height_of) h in omega arith
statement_low scope (stmts.Let name at value) s keeps h =
    let is : in_value 0 height_of s ≡ height (tree_of value) = ap (in_value 0 height_of) h.is ∙ spells_height scope (tree_of value) h.value h.spells in omega (arith, keeps.1.low)
statement_low scope (stmts.Output name at value) s keeps h =
    let is : in_value 0 height_of s ≡ height (tree_of value) = ap (in_value 0 height_of) h.is ∙ spells_height scope (tree_of value) h.value h.spells in omega (arith, keeps.1.low)

statement_named : (scope : Scope) (stmt : Stmt) (s : Statement) → KeepsStatement stmt → SpellsStatement scope stmt s → IsFreeName (name_of s)
statement_named scope (stmts.Input name at elem rows cols shape_at) s keeps h = subst IsFreeName (sym (ap name_of h)) keeps.0
statement_named scope (stmts.Let name at value) s keeps h = subst IsFreeName (sym (ap name_of h.is)) keeps.0
statement_named scope (stmts.Output name at value) s keeps h = subst IsFreeName (sym (ap name_of h.is)) keeps.0

-- ---- programs

all_nodes : (scope : Scope) (stmts : List Stmt) (xs : List Statement) → AreTypings scope stmts xs → sum_by (in_value 0 nodes_of) xs ≡ program_nodes stmts
all_nodes scope [] [] h = refl
all_nodes scope [] (x ∷ xs) h = absurd h
all_nodes scope (s ∷ rest) [] h = absurd h
all_nodes scope (s ∷ rest) (x ∷ xs) h =
    let more = all_nodes (scope ++ entry_of x ∷ []) rest xs h.1 in
    let here = statement_nodes scope s x h.0.spells in
    let sum = sum_by-cons (in_value 0 nodes_of) x xs in
    omega arith

all_low : (scope : Scope) (stmts : List Stmt) (xs : List Statement) → All KeepsStatement stmts → AreTypings scope stmts xs → All (λ s. in_value 0 height_of s ≤ most_height) xs
all_low scope [] [] keeps h = All-nil (λ s. in_value 0 height_of s ≤ most_height)
all_low scope [] (x ∷ xs) keeps h = absurd h
all_low scope (s ∷ rest) [] keeps h = absurd h
all_low scope (s ∷ rest) (x ∷ xs) keeps h =
    All-cons (λ t. in_value 0 height_of t ≤ most_height) x xs (statement_low scope s x (All-head KeepsStatement s rest keeps) h.0.spells)
    (all_low (scope ++ entry_of x ∷ []) rest xs (All-tail KeepsStatement s rest keeps) h.1)

all_named : (scope : Scope) (stmts : List Stmt) (xs : List Statement) → All KeepsStatement stmts → AreTypings scope stmts xs → All IsFreeName (names_of xs)
all_named scope [] [] keeps h = All-nil IsFreeName
all_named scope [] (x ∷ xs) keeps h = absurd h
all_named scope (s ∷ rest) [] keeps h = absurd h
all_named scope (s ∷ rest) (x ∷ xs) keeps h =
    All-cons IsFreeName (name_of x) (names_of xs) (statement_named scope s x (All-head KeepsStatement s rest keeps) h.0.spells) (all_named (scope ++ entry_of x ∷ []) rest xs (All-tail KeepsStatement s rest keeps) h.1)

all_typed : (scope : Scope) (stmts : List Stmt) (xs : List Statement) → AreTypings scope stmts xs → AreTyped (scope_types scope) xs
all_typed scope [] [] h = tt
all_typed scope [] (x ∷ xs) h = absurd h
all_typed scope (s ∷ rest) [] h = absurd h
all_typed scope (s ∷ rest) (x ∷ xs) h =
    (h.0.typed, subst (λ (types : List ArrayType). AreTyped types xs) (map-append (λ (p : List ℕ × ArrayType). p.1) scope (entry_of x ∷ [])) (all_typed (scope ++ entry_of x ∷ []) rest xs h.1))

names_same : (xs : List Statement) → scope_names (scope_of xs) ≡ names_of xs
names_same [] = refl
names_same (x ∷ xs) = ap (λ rest. name_of x ∷ rest) (names_same xs)

all_distinct : (xs : List Statement) → IsDistinct (scope_of xs) → AllPairs (λ a b. a ≢ b) (names_of xs)
all_distinct xs d i j e less within same =
    let names = names_of xs in
    let at : (k : ℕ) → k < length names → slice_get (scope_names (scope_of xs)) k ≡ Some (get_or names k e) = λ k below. ap (λ all. slice_get all k) (names_same xs) ∙ slice_get-get_or names k e below in
    let first = at i (omega arith) in
    let second = at j within in
    let one : i ≡ j = d.same (get_or names i e) i j first (second ∙ ap Some (sym same)) in
    omega arith

pub keep_rules : (program : Program) (xs : List Statement) → KeepsLimits program → AreTypings [] program.stmts xs → KeepRules xs
keep_rules program xs keeps h = record {
  limits = record {
    statements = omega (arith, keeps.statements, typings_counted [] program.stmts xs h);
    nodes = omega (arith, keeps.nodes, all_nodes [] program.stmts xs h);
    heights = all_low [] program.stmts xs keeps.each h;
  };
  named = all_named [] program.stmts xs keeps.each h;
  distinct = all_distinct xs (typings_distinct [] program.stmts xs IsDistinct-nil h);
  typed = all_typed [] program.stmts xs h;
}
