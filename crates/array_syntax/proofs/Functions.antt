-- The table of functions: how many arguments each takes, and the node that it makes.
use Rattle.std.proofs.Common.{◌≡◌, ℕ, ◌+◌, ◌≤◌, ◌<◌, ◌⊎◌, inl, inr, List, [], ◌∷◌, ◌++◌, length, Option, Some, None, refl, sym, ap, subst, ◌∙◌, arith}
use Rattle.ven_base.specs.declared.ops.Op1.TheVariants as unary
use Rattle.ven_base.specs.declared.ops.Op2.TheVariants as binary
use Rattle.array_syntax.specs.declared.call.Earlier.{Earlier}
use Rattle.array_syntax.specs.declared.call.Earlier.TheVariants as earlier
use Rattle.array_syntax.specs.declared.call.MapCall.{MapCall}
use Rattle.array_syntax.specs.declared.call.Number.{Number}
use Rattle.array_syntax.specs.declared.frames.Frame.{Frame}
use Rattle.array_syntax.specs.declared.frames.Frame.TheVariants as frames
use Rattle.array_syntax.specs.declared.frames.Sign.{Sign}
use Rattle.array_syntax.specs.declared.frames.Sign.TheVariants as prefixes
use Rattle.array_syntax.specs.declared.machine.Part.{Part}
use Rattle.array_syntax.specs.declared.machine.Part.TheVariants as parts
use Rattle.array_syntax.specs.declared.program.Expr.{Expr}
use Rattle.array_syntax.specs.declared.program.ExprKind.{ExprKind}
use Rattle.array_syntax.specs.declared.program.ExprKind.TheVariants as kinds
use Rattle.array_syntax.specs.declared.program.Stmt.{Stmt}
use Rattle.array_syntax.specs.declared.program.Stmt.TheVariants as stmts
use Rattle.array_syntax.specs.declared.word.Binding.{Binding}
use Rattle.array_syntax.specs.declared.word.Binding.TheVariants as bindings
use Rattle.array_syntax.specs.declared.word.Callee.{Callee}
use Rattle.array_syntax.specs.declared.word.Callee.TheVariants as callees
use Rattle.array_syntax.specs.declared.word.Operator.{Operator}
use Rattle.array_syntax.specs.declared.word.Operator.TheVariants as operators
use Rattle.array_syntax.specs.declared.word.Token.{Token}
use Rattle.array_syntax.specs.declared.word.Word.{Word}
use Rattle.array_syntax.specs.declared.word.Word.TheVariants as words
use Rattle.array_syntax.specs.Faults.{nodes_before}
use Rattle.array_syntax.specs.Grammar.{expr, count, followed}
use Rattle.array_syntax.specs.Limits.{nodes}
use Rattle.array_syntax.specs.Table.{operands, numbers, call_of, map_of}
use Rattle.array_syntax.specs.Tree.{tree_of}
use Rattle.array_syntax.proofs.Reducing.{some_is, none_some}
use Rattle.array_syntax.proofs.Trees.{tree_one, tree_two, tree_cast, tree_select, tree_shift, tree_rotate, tree_section, tree_stretch, tree_transpose, tree_row_fold, tree_fold}

pub from_one : (callee : Callee) → 1 ≤ operands callee
from_one (callees.Cast elem) = omega arith
from_one callees.Abs = omega arith
from_one (callees.RowFold op) = omega arith
from_one (callees.Fold op) = omega arith
from_one callees.Min = omega arith
from_one callees.Max = omega arith
from_one callees.SatAdd = omega arith
from_one callees.SatSub = omega arith
from_one callees.Select = omega arith
from_one callees.Shift = omega arith
from_one callees.Rotate = omega arith
from_one callees.Section = omega arith
from_one callees.Stretch = omega arith
from_one callees.Transpose = omega arith

pub up_to_three : (callee : Callee) → operands callee ≤ 3
up_to_three (callees.Cast elem) = omega arith
up_to_three callees.Abs = omega arith
up_to_three (callees.RowFold op) = omega arith
up_to_three (callees.Fold op) = omega arith
up_to_three callees.Min = omega arith
up_to_three callees.Max = omega arith
up_to_three callees.SatAdd = omega arith
up_to_three callees.SatSub = omega arith
up_to_three callees.Select = omega arith
up_to_three callees.Shift = omega arith
up_to_three callees.Rotate = omega arith
up_to_three callees.Section = omega arith
up_to_three callees.Stretch = omega arith
up_to_three callees.Transpose = omega arith

-- where the last operand is there, the call is made, or numbers follow
abbrev pub IsLast : Callee → Earlier → Expr → Type 0
IsLast callee before e = ((kind : ExprKind) × (call_of callee before e ≡ Some kind)) ⊎ ((before ≡ earlier.Nothing) × (operands callee ≡ 1) × (0 < numbers callee))

pub last_operand : (callee : Callee) (before : Earlier) (e : Expr) → count before + 1 ≡ operands callee → IsLast callee before e
last_operand (callees.Cast elem) earlier.Nothing e is = inl (kinds.Cast elem e, refl)
last_operand (callees.Cast elem) (earlier.One a) e is = absurd (omega arith)
last_operand (callees.Cast elem) (earlier.Two c a) e is = absurd (omega arith)
last_operand callees.Abs earlier.Nothing e is = inl (kinds.One unary.Abs e, refl)
last_operand callees.Abs (earlier.One a) e is = absurd (omega arith)
last_operand callees.Abs (earlier.Two c a) e is = absurd (omega arith)
last_operand (callees.RowFold op) earlier.Nothing e is = inl (kinds.RowFold op e, refl)
last_operand (callees.RowFold op) (earlier.One a) e is = absurd (omega arith)
last_operand (callees.RowFold op) (earlier.Two c a) e is = absurd (omega arith)
last_operand (callees.Fold op) earlier.Nothing e is = inl (kinds.Fold op e, refl)
last_operand (callees.Fold op) (earlier.One a) e is = absurd (omega arith)
last_operand (callees.Fold op) (earlier.Two c a) e is = absurd (omega arith)
last_operand callees.Min earlier.Nothing e is = absurd (omega arith)
last_operand callees.Min (earlier.One a) e is = inl (kinds.Two binary.Min a e, refl)
last_operand callees.Min (earlier.Two c a) e is = absurd (omega arith)
last_operand callees.Max earlier.Nothing e is = absurd (omega arith)
last_operand callees.Max (earlier.One a) e is = inl (kinds.Two binary.Max a e, refl)
last_operand callees.Max (earlier.Two c a) e is = absurd (omega arith)
last_operand callees.SatAdd earlier.Nothing e is = absurd (omega arith)
last_operand callees.SatAdd (earlier.One a) e is = inl (kinds.Two binary.SatAdd a e, refl)
last_operand callees.SatAdd (earlier.Two c a) e is = absurd (omega arith)
last_operand callees.SatSub earlier.Nothing e is = absurd (omega arith)
last_operand callees.SatSub (earlier.One a) e is = inl (kinds.Two binary.SatSub a e, refl)
last_operand callees.SatSub (earlier.Two c a) e is = absurd (omega arith)
last_operand callees.Select earlier.Nothing e is = absurd (omega arith)
last_operand callees.Select (earlier.One a) e is = absurd (omega arith)
last_operand callees.Select (earlier.Two c a) e is = inl (kinds.Select c a e, refl)
last_operand callees.Shift earlier.Nothing e is = inr (refl, refl, omega arith)
last_operand callees.Shift (earlier.One a) e is = absurd (omega arith)
last_operand callees.Shift (earlier.Two c a) e is = absurd (omega arith)
last_operand callees.Rotate earlier.Nothing e is = inr (refl, refl, omega arith)
last_operand callees.Rotate (earlier.One a) e is = absurd (omega arith)
last_operand callees.Rotate (earlier.Two c a) e is = absurd (omega arith)
last_operand callees.Section earlier.Nothing e is = inr (refl, refl, omega arith)
last_operand callees.Section (earlier.One a) e is = absurd (omega arith)
last_operand callees.Section (earlier.Two c a) e is = absurd (omega arith)
last_operand callees.Stretch earlier.Nothing e is = inr (refl, refl, omega arith)
last_operand callees.Stretch (earlier.One a) e is = absurd (omega arith)
last_operand callees.Stretch (earlier.Two c a) e is = absurd (omega arith)
last_operand callees.Transpose earlier.Nothing e is = inl (kinds.Transpose e, refl)
last_operand callees.Transpose (earlier.One a) e is = absurd (omega arith)
last_operand callees.Transpose (earlier.Two c a) e is = absurd (omega arith)

-- a call with as many numbers as it takes is made
pub map_made : (callee : Callee) (e : Expr) (values : List Number) → length values ≡ numbers callee → 0 < numbers callee → (kind : ExprKind) × (map_of callee e values ≡ Some kind)
map_made (callees.Cast elem) e values is some = absurd (omega arith)
map_made callees.Abs e values is some = absurd (omega arith)
map_made (callees.RowFold op) e values is some = absurd (omega arith)
map_made (callees.Fold op) e values is some = absurd (omega arith)
map_made callees.Min e values is some = absurd (omega arith)
map_made callees.Max e values is some = absurd (omega arith)
map_made callees.SatAdd e values is some = absurd (omega arith)
map_made callees.SatSub e values is some = absurd (omega arith)
map_made callees.Select e values is some = absurd (omega arith)
map_made callees.Shift e [] is some = absurd (omega arith)
map_made callees.Shift e (p ∷ []) is some = absurd (omega arith)
map_made callees.Shift e (p ∷ q ∷ []) is some = absurd (omega arith)
map_made callees.Shift e (p ∷ q ∷ r ∷ []) is some = (kinds.Shift e p.value q.value r.value r.at, refl)
map_made callees.Shift e (p ∷ q ∷ r ∷ v ∷ more) is some = absurd (omega arith)
map_made callees.Rotate e [] is some = absurd (omega arith)
map_made callees.Rotate e (p ∷ []) is some = absurd (omega arith)
map_made callees.Rotate e (p ∷ q ∷ []) is some = (kinds.Rotate e p.value q.value, refl)
map_made callees.Rotate e (p ∷ q ∷ v ∷ more) is some = absurd (omega arith)
map_made callees.Section e [] is some = absurd (omega arith)
map_made callees.Section e (p ∷ []) is some = absurd (omega arith)
map_made callees.Section e (p ∷ q ∷ []) is some = absurd (omega arith)
map_made callees.Section e (p ∷ q ∷ r ∷ []) is some = absurd (omega arith)
map_made callees.Section e (p ∷ q ∷ r ∷ s ∷ []) is some = absurd (omega arith)
map_made callees.Section e (p ∷ q ∷ r ∷ s ∷ t ∷ []) is some = absurd (omega arith)
map_made callees.Section e (p ∷ q ∷ r ∷ s ∷ t ∷ u ∷ []) is some = (kinds.Section e p.value q.value r.value s.value t.value u.value, refl)
map_made callees.Section e (p ∷ q ∷ r ∷ s ∷ t ∷ u ∷ v ∷ more) is some = absurd (omega arith)
map_made callees.Stretch e [] is some = absurd (omega arith)
map_made callees.Stretch e (p ∷ []) is some = absurd (omega arith)
map_made callees.Stretch e (p ∷ q ∷ []) is some = (kinds.Stretch e p.value q.value, refl)
map_made callees.Stretch e (p ∷ q ∷ v ∷ more) is some = absurd (omega arith)
map_made callees.Transpose e values is some = absurd (omega arith)

-- what a call with numbers says of its function
pub record IsMap (callee : Callee) (values : List Number) : Type 0 where
  pub one_operand : operands callee ≡ 1
  pub all : length values ≡ numbers callee
  pub some : 0 < numbers callee

pub maps : (callee : Callee) (e : Expr) (values : List Number) (kind : ExprKind) → map_of callee e values ≡ Some kind → IsMap callee values
maps callees.Shift e (p ∷ q ∷ r ∷ []) kind is = record { one_operand = refl; all = refl; some = omega arith }
maps callees.Rotate e (p ∷ q ∷ []) kind is = record { one_operand = refl; all = refl; some = omega arith }
maps callees.Section e (p ∷ q ∷ r ∷ s ∷ t ∷ u ∷ []) kind is = record { one_operand = refl; all = refl; some = omega arith }
maps callees.Stretch e (p ∷ q ∷ []) kind is = record { one_operand = refl; all = refl; some = omega arith }
maps _ e _ kind is = absurd (none_some kind is)

pub followed_some : (before : Earlier) (e : Expr) → followed before e ≡ earlier.Nothing → ⊥
followed_some earlier.Nothing e is = cc
followed_some (earlier.One a) e is = cc
followed_some (earlier.Two a b) e is = cc

pub count_followed : (before : Earlier) (e : Expr) → count (followed before e) ≤ count before + 1
count_followed earlier.Nothing e = omega arith
count_followed (earlier.One a) e = omega arith
count_followed (earlier.Two a b) e = omega arith

pub count_follows : (before : Earlier) (e : Expr) → count before + 1 ≤ 2 → count (followed before e) ≡ count before + 1
count_follows earlier.Nothing e le = refl
count_follows (earlier.One a) e le = refl
count_follows (earlier.Two a b) e le = absurd (omega arith)

pub nodes_followed : (before : Earlier) (e : Expr) → count before + 1 ≤ 2 → nodes_before (followed before e) ≡ nodes_before before + nodes (tree_of e)
nodes_followed earlier.Nothing e le = omega arith
nodes_followed (earlier.One a) e le = refl
nodes_followed (earlier.Two a b) e le = absurd (omega arith)

-- the nodes of a call
made_nodes : (at : ℕ) (kind made : ExprKind) (n : ℕ) → nodes (tree_of (expr at made)) ≡ n → Some made ≡ Some kind → nodes (tree_of (expr at kind)) ≡ n
made_nodes at kind made n is same = ap (λ k. nodes (tree_of (expr at k))) (sym (some_is made kind same)) ∙ is

pub call_nodes : (at : ℕ) (callee : Callee) (before : Earlier) (e : Expr) (kind : ExprKind) → call_of callee before e ≡ Some kind → nodes (tree_of (expr at kind)) ≡ nodes_before before + nodes (tree_of e) + 1
call_nodes at (callees.Cast elem) earlier.Nothing e kind is = made_nodes at kind (kinds.Cast elem e) _ (ap nodes (tree_cast at elem e) ∙ omega arith) is
call_nodes at callees.Abs earlier.Nothing e kind is = made_nodes at kind (kinds.One unary.Abs e) _ (ap nodes (tree_one at unary.Abs e) ∙ omega arith) is
call_nodes at (callees.RowFold op) earlier.Nothing e kind is = made_nodes at kind (kinds.RowFold op e) _ (ap nodes (tree_row_fold at op e) ∙ omega arith) is
call_nodes at (callees.Fold op) earlier.Nothing e kind is = made_nodes at kind (kinds.Fold op e) _ (ap nodes (tree_fold at op e) ∙ omega arith) is
call_nodes at callees.Min (earlier.One a) e kind is = made_nodes at kind (kinds.Two binary.Min a e) _ (ap nodes (tree_two at binary.Min a e)) is
call_nodes at callees.Max (earlier.One a) e kind is = made_nodes at kind (kinds.Two binary.Max a e) _ (ap nodes (tree_two at binary.Max a e)) is
call_nodes at callees.SatAdd (earlier.One a) e kind is = made_nodes at kind (kinds.Two binary.SatAdd a e) _ (ap nodes (tree_two at binary.SatAdd a e)) is
call_nodes at callees.SatSub (earlier.One a) e kind is = made_nodes at kind (kinds.Two binary.SatSub a e) _ (ap nodes (tree_two at binary.SatSub a e)) is
call_nodes at callees.Select (earlier.Two c a) e kind is = made_nodes at kind (kinds.Select c a e) _ (ap nodes (tree_select at c a e)) is
call_nodes at callees.Transpose earlier.Nothing e kind is = made_nodes at kind (kinds.Transpose e) _ (ap nodes (tree_transpose at e) ∙ omega arith) is
call_nodes at _ _ e kind is = absurd (none_some kind is)

pub map_nodes : (at : ℕ) (callee : Callee) (e : Expr) (values : List Number) (kind : ExprKind) → map_of callee e values ≡ Some kind → nodes (tree_of (expr at kind)) ≡ nodes (tree_of e) + 1
map_nodes at callees.Shift e (p ∷ q ∷ r ∷ []) kind is = made_nodes at kind (kinds.Shift e p.value q.value r.value r.at) _ (ap nodes (tree_shift at e p.value q.value r.value r.at)) is
map_nodes at callees.Rotate e (p ∷ q ∷ []) kind is = made_nodes at kind (kinds.Rotate e p.value q.value) _ (ap nodes (tree_rotate at e p.value q.value)) is
map_nodes at callees.Section e (p ∷ q ∷ r ∷ s ∷ t ∷ u ∷ []) kind is = made_nodes at kind (kinds.Section e p.value q.value r.value s.value t.value u.value) _ (ap nodes (tree_section at e p.value q.value r.value s.value t.value u.value)) is
map_nodes at callees.Stretch e (p ∷ q ∷ []) kind is = made_nodes at kind (kinds.Stretch e p.value q.value) _ (ap nodes (tree_stretch at e p.value q.value)) is
map_nodes at _ e _ kind is = absurd (none_some kind is)
