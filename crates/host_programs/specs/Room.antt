-- How many registers the code of an expression, an order and a program uses, from its own on.
use Rattle.std.specs.Prelude.{ℕ, ◌+◌, max, List, [], ◌∷◌}
use Rattle.host_programs.specs.Expr.{Expr, Number, Variable, Offset, Sum, Difference, Product, Quotient, Remainder, IfLess}
use Rattle.host_programs.specs.Program.{Order, IssueTransfer, IssueVector, AwaitReads, AwaitWrites, AwaitLanes, AwaitTag, Program, Idle, Emit, Both, UnlessLess, Let, For, Carry}
use Rattle.host_programs.specs.ProgramCode.{Setting, transfer_settings, vector_settings}

abbrev pub room : Expr → ℕ
room (Number n) = 1
room (Variable r) = 1
room (Offset a n) = room a
room (Sum a b) = max (room a) (room b + 1)
room (Difference a b) = max (room a) (room b + 1)
room (Product a b) = max (room a) (room b + 1)
room (Quotient a b) = max (room a) (room b + 1)
room (Remainder a b) = max 3 (max (room a) (room b + 1))
room (IfLess a b x y) = max (max (room x) (room y)) (max (room a + 1) (room b + 2))

abbrev pub settings_room : List Setting → ℕ
settings_room [] = 1
settings_room (s ∷ rest) = max (room s.expr) (settings_room rest)

abbrev pub order_room : Order → ℕ
order_room (IssueTransfer write work) = max (settings_room (transfer_settings work)) (room work.tag)
order_room (IssueVector work) = settings_room (vector_settings work)
order_room (AwaitReads most) = room most
order_room (AwaitWrites most) = room most
order_room AwaitLanes = 0
order_room (AwaitTag tag) = room tag

abbrev pub program_room : Program → ℕ
program_room Idle = 0
program_room (Emit order) = order_room order
program_room (Both p q) = max (program_room p) (program_room q)
program_room (UnlessLess a b p) = max (max (room a) (room b + 1)) (program_room p)
program_room (Let e p) = max (room e) (program_room p + 1)
program_room (For e p) = max (room e) (program_room p + 2)
program_room (Carry e first next p) =
    max (max (room e) (room first + 1)) (max (room next + 2) (program_room p + 2))
