-- Inner: the verdict on an expression, a statement and a program, from the verdicts on their parts.
use Rattle.std.specs.Prelude.{◌≡◌, ◌+◌, ◌-◌, ◌*◌, ℕ, ℤ, pos, List, [], ◌∷◌, ◌++◌, Option, None, Some, Result, Ok, Err, position, slice_get, Bool, true, ◌&&◌, not, nat_le, nat_lt, ◌==◌, if◌then◌else◌, int_lt, ◌+ℤ◌, neg_ℤ}
use Rattle.std.specs.List.{list_any}
use Rattle.std.specs.Ordering.{int_eq}
use Rattle.std.specs.Option.{option_map, is_some}
use Rattle.std.specs.Str.{bytes_eq}
use Rattle.ven_base.specs.declared.elem.Elem.{Elem}
use Rattle.ven_base.specs.declared.ops.Op1.{Op1}
use Rattle.ven_base.specs.declared.ops.Op2.{Op2}
use Rattle.ven_base.specs.declared.ops.Fold as ops
use Rattle.ven_base.specs.declared.mapping.Mapping.{Mapping}
use Rattle.ven_base.specs.declared.mapping.Mapping.TheVariants as maps
use Rattle.ven_base.specs.Elem.{size_of, least_of, modulus_of}
use Rattle.ven_base.specs.Extent.{Extent, elements_of, element_limit}
use Rattle.ven_base.specs.Mapping.{result_shape}
use Rattle.array_syntax.specs.declared.program.Stmt.{Stmt}
use Rattle.array_syntax.specs.declared.program.Stmt.TheVariants as stmts
use Rattle.array_syntax.specs.Tree.{Tree, Name, Literal, One, Two, Cast, Select, Shift, Rotate, Section, Stretch, Transpose, RowFold, Fold, tree_of}
use Rattle.shape_check.specs.declared.typed.ArrayType.{ArrayType}
use Rattle.shape_check.specs.declared.operand.Operand as code
use Rattle.shape_check.specs.declared.operand.Operand.TheVariants as code_operands
use Rattle.shape_check.specs.declared.fault.CheckFault.{CheckFault}
use Rattle.shape_check.specs.declared.fault.CheckFault.TheVariants.{Twice, Unknown, TypeMismatch, ShapeMismatch, LiteralAlone, LiteralRange, BadShape, BadSection, BadStretch, NoOutput, TooMuchWork, Memory}
use Rattle.shape_check.specs.Node as nodes
use Rattle.shape_check.specs.Node.{Node, elem_of, shape_of}
use Rattle.shape_check.specs.Typed.{node_of}
use Rattle.shape_check.specs.Statement.{Statement, Input, Let, Output, is_output}
use Rattle.shape_check.specs.Rules.{type_of}
use Rattle.shape_check.specs.Scope.{Scope, scope_of, scope_names}
use Rattle.shape_check.specs.Typing.{section_of, stretch_of, extent_of}
use Rattle.shape_check.specs.Checked.{work_of, work_limit}

-- ---- tests

abbrev pub same_elem : Elem → Elem → Bool
same_elem a b = (size_of a == size_of b) && int_eq (least_of a) (least_of b)

abbrev pub same_shape : Extent → Extent → Bool
same_shape a b = (a.rows == b.rows) && (a.cols == b.cols)

abbrev pub is_in : Elem → ℤ → Bool
is_in elem n = not (int_lt n (least_of elem)) && int_lt n (least_of elem +ℤ pos (modulus_of elem))

abbrev pub is_cut : ℕ → ℕ → ℕ → ℕ → Bool
is_cut n first count step = nat_le 1 count && (nat_le 1 step && nat_lt (first + (count - 1) * step) n)

abbrev pub is_extent : Extent → Bool
is_extent shape = nat_le 1 shape.rows && (nat_le 1 shape.cols && nat_le (elements_of shape) element_limit)

abbrev pub is_repeat : ℕ → ℕ → Extent → Bool
is_repeat kr kc shape = nat_le 1 kr && (nat_le 1 kc && nat_le (elements_of shape) element_limit)

abbrev pub is_move : ℤ → Bool
is_move d = not (int_lt d (neg_ℤ (pos 4294967295))) && not (int_lt (pos 4294967295) d)

abbrev pub fits : Mapping → Extent → Bool
fits (maps.Shift dr dc fill) shape = is_move dr && is_move dc
fits (maps.Rotate dr dc) shape = is_move dr && is_move dc
fits (maps.Section r0 nr sr c0 nc sc) shape = is_cut shape.rows r0 nr sr && is_cut shape.cols c0 nc sc
fits (maps.Stretch kr kc) shape = is_repeat kr kc (result_shape (maps.Stretch kr kc) shape)
fits _ shape = true

-- ---- operands

-- a checked array, or a literal at its place, which has no type yet
pub data Operand : Type 0 where
  Array : (e : Node) → Operand
  Number : (at : ℕ) (n : ℤ) → Operand

abbrev pub Verdict : Type 0
Verdict = Result Operand CheckFault

abbrev pub chain : {A B : Type 0} → Result A CheckFault → (A → Result B CheckFault) → Result B CheckFault
chain (Ok a) f = f a
chain (Err fault) f = Err fault

abbrev pub array : Node → Verdict
array e = Ok (Array e)

-- an operand that must be an array
abbrev pub lone : Operand → Result Node CheckFault
lone (Array e) = Ok e
lone (Number at n) = Err (LiteralAlone at)

abbrev pub has_elem : ArrayType → Operand → Bool
has_elem type (Array e) = same_elem (elem_of e) type.elem
has_elem type (Number at n) = true

abbrev pub has_shape : ArrayType → Operand → Bool
has_shape type (Array e) = same_shape (shape_of e) type.shape
has_shape type (Number at n) = true

-- the operand with the type and shape of what stands beside it
abbrev pub with_type : ArrayType → Operand → Result Node CheckFault
with_type type (Array e) = Ok e
with_type type (Number at n) =
    if is_in type.elem n then Ok (nodes.Literal type.elem type.shape n) else Err (LiteralRange at)

-- two operands of one type and shape
pub record Both : Type 0 where
  pub left : Node
  pub right : Node

abbrev pub with_types : ArrayType → Operand → Operand → Result Both CheckFault
with_types type a b =
    chain (with_type type a) (λ x. chain (with_type type b) (λ y. Ok (record { left = x; right = y })))

abbrev pub agree : ℕ → ArrayType → Operand → Operand → Result Both CheckFault
agree at type a b =
    if has_elem type a && has_elem type b
    then (if has_shape type a && has_shape type b then with_types type a b else Err (ShapeMismatch at))
    else Err (TypeMismatch at)

-- the type of the first of two operands that is an array
abbrev pub type_beside : Operand → Operand → Result ArrayType CheckFault
type_beside (Array e) b = Ok (type_of e)
type_beside (Number at n) (Array e) = Ok (type_of e)
type_beside (Number at n) (Number p m) = Err (LiteralAlone at)

-- ---- nodes

-- the number of a name, and its type and shape
abbrev pub find_at : Scope → Option ℕ → Option (ℕ × ArrayType)
find_at scope None = None
find_at scope (Some k) = option_map (λ e. (k, e.1)) (slice_get scope k)

abbrev pub find : Scope → List ℕ → Option (ℕ × ArrayType)
find scope name = find_at scope (position (bytes_eq name) (scope_names scope))

abbrev pub named : ℕ → Option (ℕ × ArrayType) → Verdict
named at None = Err (Unknown at)
named at (Some f) = array (nodes.Name f.1.elem f.1.shape f.0)

abbrev pub on_name : Scope → ℕ → List ℕ → Verdict
on_name scope at name = named at (find scope name)

abbrev pub one_of : Op1 → Node → Node
one_of op e = nodes.One (elem_of e) (shape_of e) op e

abbrev pub two_of : Op2 → ArrayType → Both → Node
two_of op type both = nodes.Two type.elem type.shape op both.left both.right

abbrev pub on_two : ℕ → Op2 → Operand → Operand → Verdict
on_two at op a b = chain (type_beside a b) (λ type. chain (agree at type a b) (λ both. array (two_of op type both)))

abbrev pub cast_of : Elem → Node → Node
cast_of elem e = nodes.Cast elem (shape_of e) e

abbrev pub select_of : Node → Both → Node
select_of e both = nodes.Select (elem_of e) (shape_of e) e both.left both.right

abbrev pub on_select : ℕ → Operand → Operand → Operand → Verdict
on_select at c x y = chain (lone c) (λ e. chain (agree at (type_of e) x y) (λ both. array (select_of e both)))

abbrev pub map_of : Mapping → Node → Node
map_of mapping e = nodes.Map (elem_of e) (result_shape mapping (shape_of e)) mapping e

abbrev pub on_shift : ℤ → ℤ → ℤ → ℕ → Node → Verdict
on_shift dr dc fill fill_at e =
    if is_in (elem_of e) fill then array (map_of (maps.Shift dr dc fill) e) else Err (LiteralRange fill_at)

abbrev pub on_section : ℕ → Mapping → Node → Verdict
on_section at mapping e = if fits mapping (shape_of e) then array (map_of mapping e) else Err (BadSection at)

abbrev pub on_stretch : ℕ → Mapping → Node → Verdict
on_stretch at mapping e = if fits mapping (shape_of e) then array (map_of mapping e) else Err (BadStretch at)

abbrev pub row_fold_of : ops.Fold → Node → Node
row_fold_of fold e = nodes.RowFold (elem_of e) (record { rows = (shape_of e).rows; cols = 1 }) fold e

abbrev pub fold_of : ops.Fold → Node → Node
fold_of fold e = nodes.Fold (elem_of e) (record { rows = 1; cols = 1 }) fold e

-- ---- expressions

-- an operand that must be an array, and what is made of it
abbrev pub of_array : Verdict → (Node → Verdict) → Verdict
of_array verdict f = chain (chain verdict lone) f

abbrev pub judge : Scope → Tree → Verdict
judge scope (Name at name) = on_name scope at name
judge scope (Literal at n) = Ok (Number at n)
judge scope (One at op a) = of_array (judge scope a) (λ e. array (one_of op e))
judge scope (Two at op a b) = chain (judge scope a) (λ x. chain (judge scope b) (λ y. on_two at op x y))
judge scope (Cast at elem a) = of_array (judge scope a) (λ e. array (cast_of elem e))
judge scope (Select at c x y) =
    chain (judge scope c) (λ u. chain (judge scope x) (λ v. chain (judge scope y) (λ w. on_select at u v w)))
judge scope (Shift at a dr dc fill fill_at) = of_array (judge scope a) (on_shift dr dc fill fill_at)
judge scope (Rotate at a dr dc) = of_array (judge scope a) (λ e. array (map_of (maps.Rotate dr dc) e))
judge scope (Section at a r0 nr sr c0 nc sc) = of_array (judge scope a) (on_section at (section_of r0 nr sr c0 nc sc))
judge scope (Stretch at a kr kc) = of_array (judge scope a) (on_stretch at (stretch_of kr kc))
judge scope (Transpose at a) = of_array (judge scope a) (λ e. array (map_of maps.Transpose e))
judge scope (RowFold at fold a) = of_array (judge scope a) (λ e. array (row_fold_of fold e))
judge scope (Fold at fold a) = of_array (judge scope a) (λ e. array (fold_of fold e))

-- ---- statements

abbrev pub judge_input : List ℕ → Elem → Extent → ℕ → Result Statement CheckFault
judge_input name elem shape shape_at = if is_extent shape then Ok (Input name elem shape) else Err (BadShape shape_at)

abbrev pub judge_value : Scope → Tree → (Node → Statement) → Result Statement CheckFault
judge_value scope tree make = chain (chain (judge scope tree) lone) (λ e. Ok (make e))

abbrev pub judge_new : Scope → Stmt → Result Statement CheckFault
judge_new scope (stmts.Input name at elem rows cols shape_at) = judge_input name elem (extent_of rows cols) shape_at
judge_new scope (stmts.Let name at value) = judge_value scope (tree_of value) (Let name)
judge_new scope (stmts.Output name at value) = judge_value scope (tree_of value) (Output name)

abbrev pub stmt_name : Stmt → List ℕ
stmt_name (stmts.Input name at elem rows cols shape_at) = name
stmt_name (stmts.Let name at value) = name
stmt_name (stmts.Output name at value) = name

abbrev pub stmt_place : Stmt → ℕ
stmt_place (stmts.Input name at elem rows cols shape_at) = at
stmt_place (stmts.Let name at value) = at
stmt_place (stmts.Output name at value) = at

abbrev pub judge_statement : Scope → Stmt → Result Statement CheckFault
judge_statement scope stmt =
    if is_some (find scope (stmt_name stmt)) then Err (Twice (stmt_place stmt)) else judge_new scope stmt

-- ---- programs

-- the verdict on statements after these
abbrev pub judge_all : List Statement → List Stmt → Result (List Statement) CheckFault
judge_all earlier [] = Ok earlier
judge_all earlier (stmt ∷ more) =
    chain (judge_statement (scope_of earlier) stmt) (λ s. judge_all (earlier ++ s ∷ []) more)

abbrev pub judge_end : List Statement → Result (List Statement) CheckFault
judge_end program =
    if list_any is_output program
    then (if nat_le (work_of program) work_limit then Ok program else Err (TooMuchWork (work_of program)))
    else Err NoOutput

abbrev pub judge_program : List Stmt → Result (List Statement) CheckFault
judge_program stmts = chain (judge_all [] stmts) judge_end

-- ---- what code answers, against a verdict

abbrev pub operand_of : code.Operand → Operand
operand_of (code_operands.Array typed) = Array (node_of typed)
operand_of (code_operands.Number at n) = Number at n

-- a fault is the verdict's, or that memory is wanting
abbrev pub Refuses : {A : Type 0} → Result A CheckFault → CheckFault → Type 0
Refuses verdict Memory = Unit {0}
Refuses verdict fault = verdict ≡ Err fault

-- an answer is the verdict, seen as a plain value, or that memory is wanting
abbrev pub Answers : {A B : Type 0} → (B → A) → Result A CheckFault → Result B CheckFault → Type 0
Answers view verdict (Ok x) = verdict ≡ Ok (view x)
Answers view verdict (Err fault) = Refuses verdict fault
