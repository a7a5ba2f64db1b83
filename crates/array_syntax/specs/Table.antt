-- The tables of the grammar: binary signs with their levels, and functions with their arguments.
use Rattle.std.specs.Prelude.{◌≡◌, ℕ, ℤ, Bool, true, false, List, [], ◌∷◌, Option, Some, None}
use Rattle.ven_base.specs.declared.ops.Op1.TheVariants as unary
use Rattle.ven_base.specs.declared.ops.Op2.{Op2}
use Rattle.ven_base.specs.declared.ops.Op2.TheVariants as binary
use Rattle.array_syntax.specs.declared.program.Expr.{Expr}
use Rattle.array_syntax.specs.declared.program.ExprKind.{ExprKind}
use Rattle.array_syntax.specs.declared.program.ExprKind.TheVariants as kinds
use Rattle.array_syntax.specs.declared.call.Earlier.{Earlier}
use Rattle.array_syntax.specs.declared.call.Earlier.TheVariants as earlier
use Rattle.array_syntax.specs.declared.call.Number.{Number}
use Rattle.array_syntax.specs.declared.word.Callee.{Callee}
use Rattle.array_syntax.specs.declared.word.Callee.TheVariants as callees
use Rattle.array_syntax.specs.declared.word.Operator.{Operator}
use Rattle.array_syntax.specs.declared.word.Operator.TheVariants as operators

-- the levels of precedence, the tightest first: 0 is an operand, and the loosest is any expression
abbrev pub loosest : ℕ
loosest = 7

-- the level of each binary sign
abbrev pub level : Operator → ℕ
level operators.Times = 1
level operators.Plus = 2
level operators.Minus = 2
level operators.ShiftLeft = 3
level operators.ShiftRight = 3
level operators.And = 4
level operators.Xor = 5
level operators.Or = 6
level operators.Equal = 7
level operators.NotEqual = 7
level operators.Less = 7
level operators.LessOrEqual = 7
level operators.Greater = 7
level operators.GreaterOrEqual = 7

-- the loosest level of its left operand: its own, since signs group to the left; but comparisons don't chain
abbrev pub left_level : Operator → ℕ
left_level operators.Times = 1
left_level operators.Plus = 2
left_level operators.Minus = 2
left_level operators.ShiftLeft = 3
left_level operators.ShiftRight = 3
left_level operators.And = 4
left_level operators.Xor = 5
left_level operators.Or = 6
left_level operators.Equal = 6
left_level operators.NotEqual = 6
left_level operators.Less = 6
left_level operators.LessOrEqual = 6
left_level operators.Greater = 6
left_level operators.GreaterOrEqual = 6

-- the loosest level of its right operand: the next tighter one
abbrev pub right_level : Operator → ℕ
right_level operators.Times = 0
right_level operators.Plus = 1
right_level operators.Minus = 1
right_level operators.ShiftLeft = 2
right_level operators.ShiftRight = 2
right_level operators.And = 3
right_level operators.Xor = 4
right_level operators.Or = 5
right_level operators.Equal = 6
right_level operators.NotEqual = 6
right_level operators.Less = 6
right_level operators.LessOrEqual = 6
right_level operators.Greater = 6
right_level operators.GreaterOrEqual = 6

-- the operation of each
abbrev pub operation : Operator → Op2
operation operators.Times = binary.Mul
operation operators.Plus = binary.Add
operation operators.Minus = binary.Sub
operation operators.ShiftLeft = binary.Shl
operation operators.ShiftRight = binary.Shr
operation operators.And = binary.And
operation operators.Xor = binary.Xor
operation operators.Or = binary.Or
operation operators.Equal = binary.Eq
operation operators.NotEqual = binary.Ne
operation operators.Less = binary.Lt
operation operators.LessOrEqual = binary.Le
operation operators.Greater = binary.Gt
operation operators.GreaterOrEqual = binary.Ge

-- how many expressions a function takes first
abbrev pub operands : Callee → ℕ
operands callees.Min = 2
operands callees.Max = 2
operands callees.SatAdd = 2
operands callees.SatSub = 2
operands callees.Select = 3
operands _ = 1

-- how many numbers it takes behind them
abbrev pub numbers : Callee → ℕ
numbers callees.Shift = 3
numbers callees.Rotate = 2
numbers callees.Section = 6
numbers callees.Stretch = 2
numbers _ = 0

-- whether these numbers may have a sign
abbrev pub takes_sign : Callee → Bool
takes_sign callees.Shift = true
takes_sign callees.Rotate = true
takes_sign _ = false

-- the call of a function with operands alone: those before the last, and the last
abbrev pub call_of : Callee → Earlier → Expr → Option ExprKind
call_of (callees.Cast elem) earlier.Nothing a = Some (kinds.Cast elem a)
call_of callees.Abs earlier.Nothing a = Some (kinds.One unary.Abs a)
call_of (callees.RowFold fold) earlier.Nothing a = Some (kinds.RowFold fold a)
call_of (callees.Fold fold) earlier.Nothing a = Some (kinds.Fold fold a)
call_of callees.Transpose earlier.Nothing a = Some (kinds.Transpose a)
call_of callees.Min (earlier.One a) b = Some (kinds.Two binary.Min a b)
call_of callees.Max (earlier.One a) b = Some (kinds.Two binary.Max a b)
call_of callees.SatAdd (earlier.One a) b = Some (kinds.Two binary.SatAdd a b)
call_of callees.SatSub (earlier.One a) b = Some (kinds.Two binary.SatSub a b)
call_of callees.Select (earlier.Two c a) b = Some (kinds.Select c a b)
call_of _ _ _ = None

-- the call of a function with an operand and numbers
abbrev pub map_of : Callee → Expr → List Number → Option ExprKind
map_of callees.Shift a (dr ∷ dc ∷ fill ∷ []) = Some (kinds.Shift a dr.value dc.value fill.value fill.at)
map_of callees.Rotate a (dr ∷ dc ∷ []) = Some (kinds.Rotate a dr.value dc.value)
map_of callees.Section a (r0 ∷ nr ∷ sr ∷ c0 ∷ nc ∷ sc ∷ []) =
    Some (kinds.Section a r0.value nr.value sr.value c0.value nc.value sc.value)
map_of callees.Stretch a (kr ∷ kc ∷ []) = Some (kinds.Stretch a kr.value kc.value)
map_of _ _ _ = None
