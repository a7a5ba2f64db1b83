-- Expressions, orders and programs of the code as plain values.
use Rattle.host_programs.specs.declared.expr.Expr.{Expr}
use Rattle.host_programs.specs.declared.expr.Expr.TheVariants.{Number, Variable, Offset', Sum', Difference', Product', Quotient', Remainder', IfLess'}
use Rattle.host_programs.specs.declared.program.TransferOrder.{TransferOrder}
use Rattle.host_programs.specs.declared.program.VectorOrder.{VectorOrder}
use Rattle.host_programs.specs.declared.program.Order.{Order}
use Rattle.host_programs.specs.declared.program.Order.TheVariants.{IssueTransfer, IssueVector, AwaitReads, AwaitWrites, AwaitLanes, AwaitTag}
use Rattle.host_programs.specs.declared.program.Program.{Program}
use Rattle.host_programs.specs.declared.program.Program.TheVariants.{Idle, Emit, Both', UnlessLess', Let', For', Carry'}
use Rattle.host_programs.specs.Expr as plain
use Rattle.host_programs.specs.Program as list

abbrev pub expr_of : Expr → plain.Expr
expr_of (Number n) = plain.Number n
expr_of (Variable r) = plain.Variable r
expr_of (Offset' p a n) = plain.Offset (expr_of a) n
expr_of (Sum' p a q b) = plain.Sum (expr_of a) (expr_of b)
expr_of (Difference' p a q b) = plain.Difference (expr_of a) (expr_of b)
expr_of (Product' p a q b) = plain.Product (expr_of a) (expr_of b)
expr_of (Quotient' p a q b) = plain.Quotient (expr_of a) (expr_of b)
expr_of (Remainder' p a q b) = plain.Remainder (expr_of a) (expr_of b)
expr_of (IfLess' p a q b r x s y) = plain.IfLess (expr_of a) (expr_of b) (expr_of x) (expr_of y)

abbrev pub transfer_of : TransferOrder → list.TransferOrder
transfer_of work = record {
  mem = expr_of work.mem;
  spad = expr_of work.spad;
  rows = expr_of work.rows;
  bytes = expr_of work.bytes;
  mem_step = expr_of work.mem_step;
  spad_step = expr_of work.spad_step;
  tag = expr_of work.tag;
}

abbrev pub vector_of : VectorOrder → list.VectorOrder
vector_of work = record {
  kind = work.kind;
  vl = expr_of work.vl;
  rows = expr_of work.rows;
  dst = expr_of work.dst;
  a = expr_of work.a;
  b = expr_of work.b;
  dst_step = expr_of work.dst_step;
  a_step = expr_of work.a_step;
  b_step = expr_of work.b_step;
}

abbrev pub order_of : Order → list.Order
order_of (IssueTransfer write work) = list.IssueTransfer write (transfer_of work)
order_of (IssueVector work) = list.IssueVector (vector_of work)
order_of (AwaitReads most) = list.AwaitReads (expr_of most)
order_of (AwaitWrites most) = list.AwaitWrites (expr_of most)
order_of AwaitLanes = list.AwaitLanes
order_of (AwaitTag tag) = list.AwaitTag (expr_of tag)

abbrev pub program_of : Program → list.Program
program_of Idle = list.Idle
program_of (Emit order) = list.Emit (order_of order)
program_of (Both' p x q y) = list.Both (program_of x) (program_of y)
program_of (UnlessLess' a b p x) = list.UnlessLess (expr_of a) (expr_of b) (program_of x)
program_of (Let' e p x) = list.Let (expr_of e) (program_of x)
program_of (For' e p x) = list.For (expr_of e) (program_of x)
program_of (Carry' e first next p x) = list.Carry (expr_of e) (expr_of first) (expr_of next) (program_of x)
