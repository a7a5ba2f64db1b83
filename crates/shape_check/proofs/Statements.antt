-- The verdict on a statement is its checked statement, or its first fault.
use Rattle.std.proofs.Common.{◌≡◌, ℕ, ◌≤◌, List, [], ◌∷◌, ◌++◌, refl, sym, ap, ◌∙◌, subst, arith, append_assoc, None, Some, Bool, true, false, inl, Ok, Err, Contains}
use Rattle.std.specs.Prelude.{ℤ, Result, All, if◌then◌else◌, map, is_some}
use Rattle.std.proofs.lemmas.List.{map-append}
use Rattle.std.proofs.lemmas.List.Elements.{All-nil, All-cons, All-append, All-map, All-weaker}
use Rattle.ven_base.specs.declared.elem.Elem.{Elem}
use Rattle.ven_base.specs.Extent.{IsExtent}
use Rattle.array_syntax.specs.Limits.{KeepsStatement}
use Rattle.array_syntax.specs.declared.program.Expr.{Expr}
use Rattle.array_syntax.specs.declared.program.Stmt.{Stmt}
use Rattle.array_syntax.specs.declared.program.Stmt.TheVariants as stmts
use Rattle.array_syntax.specs.Tree.{Tree, tree_of}
use Rattle.shape_check.specs.declared.typed.ArrayType.{ArrayType}
use Rattle.shape_check.specs.declared.fault.CheckFault.{CheckFault}
use Rattle.shape_check.specs.declared.fault.CheckFault.TheVariants.{Twice, LiteralAlone, BadShape}
use Rattle.shape_check.specs.Node.{Node, is_literal}
use Rattle.shape_check.specs.Statement.{Statement, Input, Let, Output}
use Rattle.shape_check.specs.Scope.{Scope, scope_of, scope_names}
use Rattle.shape_check.specs.Typing.{IsTyping, extent_of, IsStatementTyping}
use Rattle.shape_check.specs.Faults.{parts_of, literal_place, Site, NameSite, ShapeSite, NodeSite, WholeSite, sites_in, sites_of, BreaksName, BreaksShape, BreaksWhole, Breaks, rank_of}
use Rattle.shape_check.specs.Judge.{Array, Number, Verdict, chain, lone, is_extent, find, judge, judge_input, judge_value, judge_statement}
use Rattle.shape_check.proofs.Decisions.{is_extent-IsExtent}
use Rattle.shape_check.proofs.Lookups.{find-contains, find-absent}
use Rattle.shape_check.proofs.Cleanness.{IsClean, IsFirstPart}
use Rattle.shape_check.proofs.Unique.{IsDistinct, same_typing, array_place, clean_parts}
use Rattle.shape_check.proofs.Judged.{Judged, clean_operand}
use Rattle.shape_check.proofs.Pairs.{judged}

-- ---- sites

pub record IsCleanSite (earlier : List Statement) (site : Site) : Type 0 where
  pub none : (f : CheckFault) → Breaks earlier site f → ⊥

pub record IsFirstSite (earlier : List Statement) (sites : List Site) (f : CheckFault) : Type 0 where
  pub before : List Site
  pub site : Site
  pub after : List Site
  pub is : sites ≡ before ++ site ∷ after
  pub clean : All (IsCleanSite earlier) before
  pub breaks : Breaks earlier site f
  pub first : (g : CheckFault) → Breaks earlier site g → rank_of f ≤ rank_of g

no_name_fault : (scope : Scope) (name : List ℕ) (at : ℕ) → ¬ Contains (scope_names scope) name → (f : CheckFault) → ¬ BreaksName scope name at f
no_name_fault scope name at fresh (Twice p) h = fresh h.1
no_name_fault scope name at fresh f h = h

no_shape_fault : (rows cols : ℤ) (at : ℕ) → IsExtent (extent_of rows cols) → (f : CheckFault) → ¬ BreaksShape rows cols at f
no_shape_fault rows cols at is (BadShape p) h = h.1 is
no_shape_fault rows cols at is f h = h

no_whole_fault : (tree : Tree) → literal_place tree ≡ None → (f : CheckFault) → ¬ BreaksWhole tree f
no_whole_fault tree is (LiteralAlone p) h = let off : None ≡ Some p = sym is ∙ h in cc
no_whole_fault tree is f h = h

name_clean : (earlier : List Statement) (name : List ℕ) (at : ℕ) → ¬ Contains (scope_names (scope_of earlier)) name → IsCleanSite earlier (NameSite name at)
name_clean earlier name at fresh = record { none = no_name_fault (scope_of earlier) name at fresh }

nodes_clean : (earlier : List Statement) (trees : List Tree) → All (IsClean (scope_of earlier)) trees → All (IsCleanSite earlier) (map NodeSite trees)
nodes_clean earlier trees h = All-map (IsCleanSite earlier) NodeSite trees (All-weaker (IsClean (scope_of earlier)) (λ t. IsCleanSite earlier (NodeSite t)) (λ t c. record { none = c.none }) trees h)

-- a checked expression and its name break no rule
value_clean : (earlier : List Statement) → IsDistinct (scope_of earlier) → (name : List ℕ) (at : ℕ) (tree : Tree) (e : Node) → ¬ Contains (scope_names (scope_of earlier)) name → IsTyping (scope_of earlier) tree e → is_literal e ≡ false
    → All (IsCleanSite earlier) (NameSite name at ∷ sites_in tree)
value_clean earlier d name at tree e fresh h array =
    All-cons (IsCleanSite earlier) (NameSite name at) (sites_in tree) (name_clean earlier name at fresh)
    (All-append (IsCleanSite earlier) (map NodeSite (parts_of tree)) (WholeSite tree ∷ []) (nodes_clean earlier (parts_of tree) (clean_parts (scope_of earlier) d tree e h))
    (All-cons (IsCleanSite earlier) (WholeSite tree) [] (record { none = no_whole_fault tree (array_place (scope_of earlier) tree e h.spells array) }) (All-nil (IsCleanSite earlier))))

typed_statement : (types : List ArrayType) (s t : Statement) → s ≡ t → (P : Statement → Type 0) → P s → P t
typed_statement types s t same P h = subst P same h

pub sites_clean : (earlier : List Statement) → IsDistinct (scope_of earlier) → (stmt : Stmt) (s : Statement) → IsStatementTyping (scope_of earlier) stmt s → All (IsCleanSite earlier) (sites_of stmt)
sites_clean earlier d (stmts.Input name at elem rows cols shape_at) s h =
    let t = subst (IsStatementTyping (scope_of earlier) (stmts.Input name at elem rows cols shape_at)) h.spells h in
    All-cons (IsCleanSite earlier) (NameSite name at) (ShapeSite rows cols shape_at ∷ []) (name_clean earlier name at t.is_new)
    (All-cons (IsCleanSite earlier) (ShapeSite rows cols shape_at) [] (record { none = no_shape_fault rows cols shape_at t.typed }) (All-nil (IsCleanSite earlier)))
sites_clean earlier d (stmts.Let name at value) s h =
    let t = subst (IsStatementTyping (scope_of earlier) (stmts.Let name at value)) h.spells.is h in
    value_clean earlier d name at (tree_of value) h.spells.value t.is_new (record { spells = h.spells.spells; typed = t.typed.0 }) t.typed.1.no_literal
sites_clean earlier d (stmts.Output name at value) s h =
    let t = subst (IsStatementTyping (scope_of earlier) (stmts.Output name at value)) h.spells.is h in
    value_clean earlier d name at (tree_of value) h.spells.value t.is_new (record { spells = h.spells.spells; typed = t.typed.0 }) t.typed.1.no_literal

-- ---- one checked statement

pub same_statement : (scope : Scope) → IsDistinct scope → (stmt : Stmt) (s t : Statement) → IsStatementTyping scope stmt s → IsStatementTyping scope stmt t → s ≡ t
same_statement scope d (stmts.Input name at elem rows cols shape_at) s t h l = h.spells ∙ sym l.spells
same_statement scope d (stmts.Let name at value) s t h l =
    let a = subst (IsStatementTyping scope (stmts.Let name at value)) h.spells.is h in
    let b = subst (IsStatementTyping scope (stmts.Let name at value)) l.spells.is l in
    let same = same_typing scope d (tree_of value) h.spells.value l.spells.value (record { spells = h.spells.spells; typed = a.typed.0 }) (record { spells = l.spells.spells; typed = b.typed.0 }) (inl (array_place scope (tree_of value) h.spells.value h.spells.spells a.typed.1.no_literal)) in
    h.spells.is ∙ ap (Let name) same ∙ sym l.spells.is
same_statement scope d (stmts.Output name at value) s t h l =
    let a = subst (IsStatementTyping scope (stmts.Output name at value)) h.spells.is h in
    let b = subst (IsStatementTyping scope (stmts.Output name at value)) l.spells.is l in
    let same = same_typing scope d (tree_of value) h.spells.value l.spells.value (record { spells = h.spells.spells; typed = a.typed.0 }) (record { spells = l.spells.spells; typed = b.typed.0 }) (inl (array_place scope (tree_of value) h.spells.value h.spells.spells a.typed.1.no_literal)) in
    h.spells.is ∙ ap (Output name) same ∙ sym l.spells.is

-- ---- the verdict

abbrev pub StatementJudged : List Statement → Stmt → Result Statement CheckFault → Type 0
StatementJudged earlier stmt (Ok s) = IsStatementTyping (scope_of earlier) stmt s
StatementJudged earlier stmt (Err f) = IsFirstSite earlier (sites_of stmt) f

-- a name that is declared twice
twice_first : (earlier : List Statement) (name : List ℕ) (at : ℕ) (rest : List Site) → Contains (scope_names (scope_of earlier)) name → IsFirstSite earlier (NameSite name at ∷ rest) (Twice at)
twice_first earlier name at rest there = record {
  before = [];
  site = NameSite name at;
  after = rest;
  is = refl;
  clean = All-nil (IsCleanSite earlier);
  breaks = (refl, there);
  first = λ g h. omega arith;
}

input_judged : (earlier : List Statement) (name : List ℕ) (at : ℕ) (elem : Elem) (rows cols : ℤ) (shape_at : ℕ) → ¬ Contains (scope_names (scope_of earlier)) name
    → StatementJudged earlier (stmts.Input name at elem rows cols shape_at) (judge_input name elem (extent_of rows cols) shape_at)
input_judged earlier name at elem rows cols shape_at fresh = by (is_extent (extent_of rows cols)) refl
  where
    by : (b : Bool) → is_extent (extent_of rows cols) ≡ b → StatementJudged earlier (stmts.Input name at elem rows cols shape_at) (if b then Ok (Input name elem (extent_of rows cols)) else Err (BadShape shape_at))
    by true is = record { spells = refl; is_new = fresh; typed = (is_extent-IsExtent (extent_of rows cols)).0 is }
    by false is = record {
      before = NameSite name at ∷ [];
      site = ShapeSite rows cols shape_at;
      after = [];
      is = refl;
      clean = All-cons (IsCleanSite earlier) (NameSite name at) [] (name_clean earlier name at fresh) (All-nil (IsCleanSite earlier));
      breaks = (refl, λ extent. let good = (is_extent-IsExtent (extent_of rows cols)).1 extent in let off : false ≡ true = sym is ∙ good in cc);
      first = λ g h. omega arith;
    }

lone_first : (tree : Tree) (p : ℕ) (g : CheckFault) → BreaksWhole tree g → 1 ≤ rank_of g
lone_first tree p (LiteralAlone q) h = omega arith
lone_first tree p g h = absurd h

-- the fault of an expression behind a name that is new
part_first : (earlier : List Statement) (name : List ℕ) (at : ℕ) (tree : Tree) (f : CheckFault) → ¬ Contains (scope_names (scope_of earlier)) name → IsFirstPart (scope_of earlier) (parts_of tree) f → IsFirstSite earlier (NameSite name at ∷ sites_in tree) f
part_first earlier name at tree f fresh h = record {
  before = NameSite name at ∷ map NodeSite h.before;
  site = NodeSite h.part;
  after = map NodeSite h.after ++ WholeSite tree ∷ [];
  is =
      let parts : map NodeSite (parts_of tree) ≡ map NodeSite h.before ++ NodeSite h.part ∷ map NodeSite h.after = ap (map NodeSite) h.is ∙ map-append NodeSite h.before (h.part ∷ h.after) in
      ap (λ all. NameSite name at ∷ (all ++ WholeSite tree ∷ [])) parts ∙ ap (λ all. NameSite name at ∷ all) (append_assoc (map NodeSite h.before) (NodeSite h.part ∷ map NodeSite h.after) (WholeSite tree ∷ []));
  clean = All-cons (IsCleanSite earlier) (NameSite name at) (map NodeSite h.before) (name_clean earlier name at fresh) (nodes_clean earlier h.before h.clean);
  breaks = h.here.breaks;
  first = h.here.first;
}

whole_first : (earlier : List Statement) → IsDistinct (scope_of earlier) → (name : List ℕ) (at : ℕ) (tree : Tree) (p : ℕ) (n : ℤ) → ¬ Contains (scope_names (scope_of earlier)) name → Judged (scope_of earlier) tree (Ok (Number p n))
    → IsFirstSite earlier (NameSite name at ∷ sites_in tree) (LiteralAlone p)
whole_first earlier d name at tree p n fresh h = record {
  before = NameSite name at ∷ map NodeSite (parts_of tree);
  site = WholeSite tree;
  after = [];
  is = refl;
  clean = All-cons (IsCleanSite earlier) (NameSite name at) (map NodeSite (parts_of tree)) (name_clean earlier name at fresh) (nodes_clean earlier (parts_of tree) (clean_operand (scope_of earlier) d tree (Number p n) h));
  breaks = ap literal_place h;
  first = lone_first tree p;
}

let_judged : (earlier : List Statement) → IsDistinct (scope_of earlier) → (name : List ℕ) (at : ℕ) (value : Expr) (v : Verdict) → ¬ Contains (scope_names (scope_of earlier)) name → Judged (scope_of earlier) (tree_of value) v
    → StatementJudged earlier (stmts.Let name at value) (chain (chain v lone) (λ e. Ok (Let name e)))
let_judged earlier d name at value (Err f) fresh h = part_first earlier name at (tree_of value) f fresh h
let_judged earlier d name at value (Ok (Number p n)) fresh h = whole_first earlier d name at (tree_of value) p n fresh h
let_judged earlier d name at value (Ok (Array e)) fresh h =
    record { spells = record { value = e; is = refl; spells = h.typing.spells }; is_new = fresh; typed = (h.typing.typed, record { no_literal = h.no_literal }) }

output_judged : (earlier : List Statement) → IsDistinct (scope_of earlier) → (name : List ℕ) (at : ℕ) (value : Expr) (v : Verdict) → ¬ Contains (scope_names (scope_of earlier)) name → Judged (scope_of earlier) (tree_of value) v
    → StatementJudged earlier (stmts.Output name at value) (chain (chain v lone) (λ e. Ok (Output name e)))
output_judged earlier d name at value (Err f) fresh h = part_first earlier name at (tree_of value) f fresh h
output_judged earlier d name at value (Ok (Number p n)) fresh h = whole_first earlier d name at (tree_of value) p n fresh h
output_judged earlier d name at value (Ok (Array e)) fresh h =
    record { spells = record { value = e; is = refl; spells = h.typing.spells }; is_new = fresh; typed = (h.typing.typed, record { no_literal = h.no_literal }) }

pub statement_judged : (earlier : List Statement) → IsDistinct (scope_of earlier) → (stmt : Stmt) → KeepsStatement stmt → StatementJudged earlier stmt (judge_statement (scope_of earlier) stmt)
statement_judged earlier d (stmts.Input name at elem rows cols shape_at) keeps = by (is_some (find (scope_of earlier) name)) refl
  where
    by : (b : Bool) → is_some (find (scope_of earlier) name) ≡ b → StatementJudged earlier (stmts.Input name at elem rows cols shape_at) (if b then Err (Twice at) else judge_input name elem (extent_of rows cols) shape_at)
    by true is = twice_first earlier name at (ShapeSite rows cols shape_at ∷ []) (find-contains (scope_of earlier) name is)
    by false is = input_judged earlier name at elem rows cols shape_at (find-absent (scope_of earlier) name is)
statement_judged earlier d (stmts.Let name at value) keeps = by (is_some (find (scope_of earlier) name)) refl
  where
    by : (b : Bool) → is_some (find (scope_of earlier) name) ≡ b → StatementJudged earlier (stmts.Let name at value) (if b then Err (Twice at) else judge_value (scope_of earlier) (tree_of value) (Let name))
    by true is = twice_first earlier name at (sites_in (tree_of value)) (find-contains (scope_of earlier) name is)
    by false is = let_judged earlier d name at value (judge (scope_of earlier) (tree_of value)) (find-absent (scope_of earlier) name is) (judged (scope_of earlier) d (tree_of value) keeps.1.writable)
statement_judged earlier d (stmts.Output name at value) keeps = by (is_some (find (scope_of earlier) name)) refl
  where
    by : (b : Bool) → is_some (find (scope_of earlier) name) ≡ b → StatementJudged earlier (stmts.Output name at value) (if b then Err (Twice at) else judge_value (scope_of earlier) (tree_of value) (Output name))
    by true is = twice_first earlier name at (sites_in (tree_of value)) (find-contains (scope_of earlier) name is)
    by false is = output_judged earlier d name at value (judge (scope_of earlier) (tree_of value)) (find-absent (scope_of earlier) name is) (judged (scope_of earlier) d (tree_of value) keeps.1.writable)
