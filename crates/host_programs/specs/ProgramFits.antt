-- Where a program's list is the same by exact values as by the host's numbers.
use Rattle.std.specs.Prelude.{◌≡◌, ℕ, zero, suc, ◌+◌, ◌^◌, ◌<◌, nat_lt, false}
use Rattle.venice_isa.specs.Host.{with_number}
use Rattle.host_programs.specs.Expr.{Expr, value, Fits}
use Rattle.host_programs.specs.Program.{TransferOrder, VectorOrder, Order, IssueTransfer, IssueVector, AwaitReads, AwaitWrites, AwaitLanes, AwaitTag, Program, Idle, Emit, Both, UnlessLess, Let, For, Carry, with_left, in_turn}

abbrev pub FitsWord : Expr → (f : ℕ → ℕ) → Type 0
FitsWord e f = Fits e f × (value e f < 2 ^ 32)

pub record TransferFits (work : TransferOrder) (f : ℕ → ℕ) : Type 0 where
  pub mem : FitsWord work.mem f
  pub spad : FitsWord work.spad f
  pub rows : FitsWord work.rows f
  pub bytes : FitsWord work.bytes f
  pub mem_step : FitsWord work.mem_step f
  pub spad_step : FitsWord work.spad_step f
  pub tag : FitsWord work.tag f

pub record VectorFits (work : VectorOrder) (f : ℕ → ℕ) : Type 0 where
  pub vl : FitsWord work.vl f
  pub rows : FitsWord work.rows f
  pub dst : FitsWord work.dst f
  pub a : FitsWord work.a f
  pub b : FitsWord work.b f
  pub dst_step : FitsWord work.dst_step f
  pub a_step : FitsWord work.a_step f
  pub b_step : FitsWord work.b_step f

abbrev pub OrderFits : Order → (f : ℕ → ℕ) → Type 0
OrderFits (IssueTransfer write work) f = TransferFits work f
OrderFits (IssueVector work) f = VectorFits work f
OrderFits (AwaitReads most) f = FitsWord most f
OrderFits (AwaitWrites most) f = FitsWord most f
OrderFits AwaitLanes f = Unit {0}
OrderFits (AwaitTag tag) f = FitsWord tag f

-- each of n turns fits, where a number is carried from turn to turn
abbrev pub CarriedFits : (n carried : ℕ) → (next : ℕ → ℕ → ℕ) → (ℕ → ℕ → Type 0) → Type 0
CarriedFits zero carried next Fit = Unit {0}
CarriedFits (suc n) carried next Fit = Fit (suc n) carried × CarriedFits n (next (suc n) carried) next Fit

abbrev pub ProgramFits : Program → (d : ℕ) → (f : ℕ → ℕ) → Type 0
ProgramFits Idle d f = Unit {0}
ProgramFits (Emit order) d f = OrderFits order f
ProgramFits (Both p q) d f = ProgramFits p d f × ProgramFits q d f
ProgramFits (UnlessLess a b p) d f =
    FitsWord a f × FitsWord b f × (nat_lt (value a f) (value b f) ≡ false → ProgramFits p d f)
ProgramFits (Let e p) d f = FitsWord e f × ProgramFits p (d + 1) (with_number d (value e f) f)
ProgramFits (For e p) d f =
    FitsWord e f × ((t : ℕ) → t < value e f → ProgramFits p (d + 2) (in_turn f d (value e f) t))
ProgramFits (Carry e first next p) d f =
    FitsWord e f × FitsWord first (with_number d (value e f) f)
    × CarriedFits (value e f) (value first (with_number d (value e f) f))
    (λ left carried. value next (with_left f d left carried))
    (λ left carried. FitsWord next (with_left f d left carried) × ProgramFits p (d + 2) (with_left f d left carried))
