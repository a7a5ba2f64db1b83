-- Texts that are made item by item, and numbers in a line.
use Rattle.std.proofs.Common.{◌≡◌, ℕ, ◌+◌, ◌<◌, ◌≤◌, List, [], ◌∷◌, ◌++◌, map, drop, length, get_or, sym, ap, ◌∙◌, append_assoc, arith, max, suc, Option, Some, None}
use Rattle.std.specs.Prelude.{fold, zero, MatchOption}
use Rattle.std.proofs.lemmas.List.{append-nil, drop_more, drop_all}
use Rattle.ven_base.specs.declared.elem.Elem.{Elem}
use Rattle.array_file.specs.Output.{heading_text}
use Rattle.pass_plan.specs.Need.{greatest}
use Rattle.shape_check.specs.declared.checked.CheckedStmt.{CheckedStmt}
use Rattle.shape_check.specs.declared.checked.StmtKind.{StmtKind}
use Rattle.shape_check.specs.declared.checked.StmtKind.TheVariants as kinds
use Rattle.shape_check.specs.declared.typed.Typed.{Typed}
use Rattle.shape_check.specs.Checked.{statement_with, statement_of, IsWhole, HasValue}
use Rattle.shape_check.specs.Node.{shape_of}
use Rattle.shape_check.specs.Typed.{node_of}
use Rattle.shape_check.proofs.Plain.{elem_with, shape_with}
use Rattle.eval_order.specs.Fault.{IsGreatest}
use Rattle.venice_run.specs.Check.{output_line}
use Rattle.venice_run.specs.Lines.{lines_from}

-- a turn of a loop over items, and its end
pub next_lines : {A B : Type 0} (view : A → B) (lines_of : ℕ → B → List ℕ) (item : A) (before now all : List ℕ) (items : List A) (k j : ℕ) → item ≡ get_or items j item → j < length items
    → before ++ lines_from lines_of k (map view (drop j items)) ≡ all → now ≡ before ++ lines_of k (view item)
    → now ++ lines_from lines_of (k + 1) (map view (drop (j + 1) items)) ≡ all
next_lines {A} view lines_of item before now all items k j is_item lt so_far is =
    let rest = lines_from lines_of (k + 1) (map view (drop (j + 1) items)) in
    let cut : drop j items ≡ item ∷ drop (j + 1) items = drop_more items j item lt ∙ ap (λ (x : A). x ∷ drop (j + 1) items) (sym is_item) in
    ap (λ (t : List ℕ). t ++ rest) is
    ∙ append_assoc before (lines_of k (view item)) rest
    ∙ ap (λ (s : List A). before ++ lines_from lines_of k (map view s)) (sym cut)
    ∙ so_far

pub last_lines : {A B : Type 0} (view : A → B) (lines_of : ℕ → B → List ℕ) (now all : List ℕ) (items : List A) (k j : ℕ) → length items ≤ j
    → now ++ lines_from lines_of k (map view (drop j items)) ≡ all → now ≡ all
last_lines {A} view lines_of now all items k j long is =
    sym (append-nil now) ∙ ap (λ (s : List A). now ++ lines_from lines_of k (map view s)) (sym (drop_all j items long)) ∙ is

-- ---- the greatest of some numbers

up_to : (xs : List ℕ) (a n : ℕ) → a ≤ n → ((t : ℕ) → t < length xs → get_or xs t 0 ≤ n) → fold max a xs ≤ n
up_to [] a n le each = le
up_to (x ∷ xs) a n le each =
    let first : x ≤ n = each 0 (omega arith) in
    up_to xs (max a x) n (omega arith) (λ t lt. each (suc t) (omega arith))

from_start : (xs : List ℕ) (a : ℕ) → a ≤ fold max a xs
from_start [] a = omega arith
from_start (x ∷ xs) a = omega (arith, from_start xs (max a x))

from_each : (xs : List ℕ) (a t : ℕ) → t < length xs → get_or xs t 0 ≤ fold max a xs
from_each [] a t lt = absurd (omega arith)
from_each (x ∷ xs) a zero lt = omega (arith, from_start xs (max a x))
from_each (x ∷ xs) a (suc t) lt = from_each xs (max a x) t (omega arith)

pub greatest_is : (n : ℕ) (xs : List ℕ) → IsGreatest n xs → greatest xs ≡ n
greatest_is n xs g = omega (arith, up_to xs 0 n (omega arith) g.most, from_each xs 0 g.one.0 g.one.1, g.one.2)

-- ---- outputs

-- the line of a statement that is an output
output_with : (stmt : CheckedStmt) (value : Option Typed) → stmt.kind ≡ kinds.Output → MatchOption value (stmt.kind ≡ kinds.Input) (HasValue stmt)
    → output_line (statement_with kinds.Output stmt.name stmt.elem stmt.shape value) ≡ heading_text stmt.name stmt.elem stmt.shape
output_with stmt None kind whole = absurd (let e : kinds.Output ≡ kinds.Input = sym kind ∙ whole in cc)
output_with stmt (Some v) kind whole =
    ap (λ (e : Elem). heading_text stmt.name e (shape_of (node_of v))) (elem_with v.kind v.elem v.shape ∙ whole.elem_is)
    ∙ ap (heading_text stmt.name stmt.elem) (shape_with v.kind v.elem v.shape ∙ whole.shape_is)

pub output_is : (stmt : CheckedStmt) → IsWhole stmt → stmt.kind ≡ kinds.Output → output_line (statement_of stmt) ≡ heading_text stmt.name stmt.elem stmt.shape
output_is stmt whole kind = ap (λ (k : StmtKind). output_line (statement_with k stmt.name stmt.elem stmt.shape stmt.value)) kind ∙ output_with stmt stmt.value kind whole
