-- Programs of issues: a small language with names, choices and loops. Its meaning is a list of issues.
use Rattle.std.specs.Prelude.{ℕ, zero, suc, ◌+◌, ◌-◌, nat_lt, if◌then◌else◌, Bool, List, [], ◌∷◌, ◌++◌}
use Rattle.venice_isa.specs.declared.kind.VecKind.{VecKind}
use Rattle.venice_isa.specs.declared.issue.Issue.{Issue}
use Rattle.venice_isa.specs.declared.issue.Issue.TheVariants.{Vector, Read, Write, RWait, WWait, VWait, TWait}
use Rattle.venice_isa.specs.declared.work.VecWork.{VecWork}
use Rattle.venice_isa.specs.declared.work.DmaWork.{DmaWork}
use Rattle.venice_isa.specs.Host.{with_number}
use Rattle.host_programs.specs.Expr.{Expr}

-- ---- one issue, of which each number is an expression

pub record TransferOrder : Type 0 where
  pub mem : Expr
  pub spad : Expr
  pub rows : Expr
  pub bytes : Expr
  pub mem_step : Expr
  pub spad_step : Expr
  pub tag : Expr

pub record VectorOrder : Type 0 where
  pub kind : VecKind
  pub vl : Expr
  pub rows : Expr
  pub dst : Expr
  pub a : Expr
  pub b : Expr
  pub dst_step : Expr
  pub a_step : Expr
  pub b_step : Expr

pub data Order : Type 0 where
  IssueTransfer : (write : Bool) (work : TransferOrder) → Order
  IssueVector : (work : VectorOrder) → Order
  AwaitReads : (most : Expr) → Order
  AwaitWrites : (most : Expr) → Order
  AwaitLanes : Order
  AwaitTag : (tag : Expr) → Order

-- what it issues, where an expression has this value
abbrev pub transfer_by : (Expr → ℕ) → TransferOrder → DmaWork
transfer_by value work = record {
  mem = value work.mem;
  spad = value work.spad;
  rows = value work.rows;
  bytes = value work.bytes;
  mem_step = value work.mem_step;
  spad_step = value work.spad_step;
  tag = value work.tag;
}

abbrev pub vector_by : (Expr → ℕ) → VectorOrder → VecWork
vector_by value work = record {
  kind = work.kind;
  vl = value work.vl;
  rows = value work.rows;
  dst = value work.dst;
  a = value work.a;
  b = value work.b;
  dst_step = value work.dst_step;
  a_step = value work.a_step;
  b_step = value work.b_step;
}

abbrev pub transfer_issue : (write : Bool) → DmaWork → Issue
transfer_issue write work = if write then Write work else Read work

abbrev pub issue_by : (Expr → ℕ) → Order → Issue
issue_by value (IssueTransfer write work) = transfer_issue write (transfer_by value work)
issue_by value (IssueVector work) = Vector (vector_by value work)
issue_by value (AwaitReads most) = RWait (value most)
issue_by value (AwaitWrites most) = WWait (value most)
issue_by value AwaitLanes = VWait
issue_by value (AwaitTag tag) = TWait (value tag)

-- ---- programs

-- a program begins with its first d registers in use, and names new ones by their numbers
pub data Program : Type 0 where
  Idle : Program
  Emit : (order : Order) → Program
  Both : (p q : Program) → Program
  -- the program, unless a is below b
  UnlessLess : (a b : Expr) (p : Program) → Program
  -- register d names the expression
  Let : (e : Expr) (p : Program) → Program
  -- e turns: register d has the number of turns that are left, this one among them, and register d + 1 the turn's
  -- number, from 0
  For : (e : Expr) (p : Program) → Program
  -- e turns: register d has the number of turns that are left, and register d + 1 first the number `first`, and after
  -- each turn the number `next`
  Carry : (e first next : Expr) (p : Program) → Program

-- the registers, where register d has a number, and where two have
abbrev pub with_left : (f : ℕ → ℕ) → (d left carried : ℕ) → (ℕ → ℕ)
with_left f d left carried = with_number (d + 1) carried (with_number d left f)

-- the registers in turn t of n
abbrev pub in_turn : (f : ℕ → ℕ) → (d n t : ℕ) → (ℕ → ℕ)
in_turn f d n t = with_left f d (n - t) t

-- the lists of n turns, of which the next is turn t
abbrev pub turns_list : (n t : ℕ) → (ℕ → List Issue) → List Issue
turns_list zero t turn = []
turns_list (suc n) t turn = turn t ++ turns_list n (t + 1) turn

-- the lists of n turns, where a number is carried from turn to turn
abbrev pub carried_list : (n carried : ℕ) → (next : ℕ → ℕ → ℕ) → (ℕ → ℕ → List Issue) → List Issue
carried_list zero carried next turn = []
carried_list (suc n) carried next turn = turn (suc n) carried ++ carried_list n (next (suc n) carried) next turn

-- a program's list, where `value` says what an expression is, and register r has the number f r
abbrev pub list_by : (value : Expr → (ℕ → ℕ) → ℕ) → Program → (d : ℕ) → (f : ℕ → ℕ) → List Issue
list_by value Idle d f = []
list_by value (Emit order) d f = issue_by (λ e. value e f) order ∷ []
list_by value (Both p q) d f = list_by value p d f ++ list_by value q d f
list_by value (UnlessLess a b p) d f = if nat_lt (value a f) (value b f) then [] else list_by value p d f
list_by value (Let e p) d f = list_by value p (d + 1) (with_number d (value e f) f)
list_by value (For e p) d f = turns_list (value e f) 0 (λ t. list_by value p (d + 2) (in_turn f d (value e f) t))
list_by value (Carry e first next p) d f =
    carried_list (value e f) (value first (with_number d (value e f) f))
    (λ left carried. value next (with_left f d left carried))
    (λ left carried. list_by value p (d + 2) (with_left f d left carried))
