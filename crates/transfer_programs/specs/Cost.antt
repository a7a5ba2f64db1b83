-- How many instructions the code of a program has, and how many steps it takes at most, by exact values.
use Rattle.std.specs.Prelude.{ℕ, ◌+◌, nat_lt, if◌then◌else◌, List, [], ◌∷◌}
use Rattle.venice_isa.specs.Host.{with_number}
use Rattle.host_programs.specs.Expr.{Expr, Number, Variable, Offset, Sum, Difference, Product, Quotient, Remainder, IfLess, value, unless_variable}
use Rattle.host_programs.specs.Program.{Order, IssueTransfer, IssueVector, AwaitReads, AwaitWrites, AwaitLanes, AwaitTag, Program, Idle, Emit, Both, UnlessLess, Let, For, Carry, with_left, in_turn}
use Rattle.host_programs.specs.ProgramCode.{Setting, transfer_settings, vector_settings, turns_steps, carried_steps}

-- ---- instructions, whichever registers are in use

abbrev pub expr_size : Expr → ℕ
expr_size (Number n) = 1
expr_size (Variable r) = 1
expr_size (Offset a n) = unless_variable a 0 (expr_size a) + 1
expr_size (Sum a b) = unless_variable a 0 (expr_size a) + (unless_variable b 0 (expr_size b) + 1)
expr_size (Difference a b) = unless_variable a 0 (expr_size a) + (unless_variable b 0 (expr_size b) + 1)
expr_size (Product a b) = unless_variable a 0 (expr_size a) + (unless_variable b 0 (expr_size b) + 1)
expr_size (Quotient a b) = unless_variable a 0 (expr_size a) + (unless_variable b 0 (expr_size b) + 1)
expr_size (Remainder a b) = unless_variable a 0 (expr_size a) + (unless_variable b 0 (expr_size b) + 3)
expr_size (IfLess a b x y) =
    expr_size x + (unless_variable a 0 (expr_size a) + (unless_variable b 0 (expr_size b) + (1 + expr_size y)))

-- as an operand
abbrev pub bring_size : Expr → ℕ
bring_size e = unless_variable e 0 (expr_size e)

abbrev pub settings_size : List Setting → ℕ
settings_size [] = 0
settings_size (s ∷ rest) = bring_size s.expr + (1 + settings_size rest)

abbrev pub order_size : Order → ℕ
order_size (IssueTransfer write work) = settings_size (transfer_settings work) + (bring_size work.tag + 2)
order_size (IssueVector work) = settings_size (vector_settings work) + 1
order_size (AwaitReads most) = bring_size most + 1
order_size (AwaitWrites most) = bring_size most + 1
order_size AwaitLanes = 1
order_size (AwaitTag tag) = bring_size tag + 1

abbrev pub program_size : Program → ℕ
program_size Idle = 0
program_size (Emit order) = order_size order
program_size (Both p q) = program_size p + program_size q
program_size (UnlessLess a b p) = bring_size a + (bring_size b + (1 + program_size p))
program_size (Let e p) = expr_size e + program_size p
program_size (For e p) = expr_size e + (program_size p + 5)
program_size (Carry e first next p) =
    expr_size e + (expr_size first + (program_size p + (bring_size next + 4)))

-- ---- steps at most, by exact values: x of a choice is worked out in any case, so where y is taken, x counts with all
-- its instructions

abbrev pub most_cost : Expr → (f : ℕ → ℕ) → ℕ
most_cost (Number n) f = 1
most_cost (Variable r) f = 1
most_cost (Offset a n) f = unless_variable a 0 (most_cost a f) + 1
most_cost (Sum a b) f = unless_variable a 0 (most_cost a f) + (unless_variable b 0 (most_cost b f) + 1)
most_cost (Difference a b) f = unless_variable a 0 (most_cost a f) + (unless_variable b 0 (most_cost b f) + 1)
most_cost (Product a b) f = unless_variable a 0 (most_cost a f) + (unless_variable b 0 (most_cost b f) + 1)
most_cost (Quotient a b) f = unless_variable a 0 (most_cost a f) + (unless_variable b 0 (most_cost b f) + 1)
most_cost (Remainder a b) f = unless_variable a 0 (most_cost a f) + (unless_variable b 0 (most_cost b f) + 3)
most_cost (IfLess a b x y) f =
    unless_variable a 0 (most_cost a f) + (unless_variable b 0 (most_cost b f) +
    (1 + (if nat_lt (value a f) (value b f) then most_cost x f else expr_size x + most_cost y f)))

abbrev pub most_bring : Expr → (f : ℕ → ℕ) → ℕ
most_bring e f = unless_variable e 0 (most_cost e f)

abbrev pub most_settings : List Setting → (f : ℕ → ℕ) → ℕ
most_settings [] f = 0
most_settings (s ∷ rest) f = most_bring s.expr f + (1 + most_settings rest f)

abbrev pub most_order : Order → (f : ℕ → ℕ) → ℕ
most_order (IssueTransfer write work) f = most_settings (transfer_settings work) f + (most_bring work.tag f + 2)
most_order (IssueVector work) f = most_settings (vector_settings work) f + 1
most_order (AwaitReads most) f = most_bring most f + 1
most_order (AwaitWrites most) f = most_bring most f + 1
most_order AwaitLanes f = 1
most_order (AwaitTag tag) f = most_bring tag f + 1

abbrev pub most_steps : Program → (d : ℕ) → (f : ℕ → ℕ) → ℕ
most_steps Idle d f = 0
most_steps (Emit order) d f = most_order order f
most_steps (Both p q) d f = most_steps p d f + most_steps q d f
most_steps (UnlessLess a b p) d f =
    most_bring a f + (most_bring b f
    + (1 + (if nat_lt (value a f) (value b f) then 0 else most_steps p d f)))
most_steps (Let e p) d f = most_cost e f + most_steps p (d + 1) (with_number d (value e f) f)
most_steps (For e p) d f =
    let n = value e f in
    most_cost e f + (1 + (2 + turns_steps n 0 (λ t. most_steps p (d + 2) (in_turn f d n t))))
most_steps (Carry e first next p) d f =
    let n = value e f in
    let begin = with_number d n f in
    most_cost e f + (most_cost first begin + (2 + carried_steps n (value first begin)
    (λ left carried. value next (with_left f d left carried))
    (λ left carried. most_steps p (d + 2) (with_left f d left carried)
    + (most_bring next (with_left f d left carried) + 1))))
