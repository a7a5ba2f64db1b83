-- The host: its state, what its next instruction is to the rest of the machine, and the state after it. Waits and
-- queues are not the host's matter: whether it may go on is for the machine to say. No instruction reads memory or
-- cells.
use Rattle.std.specs.Prelude.{ℕ, zero, suc, ◌+◌, ◌-◌, ◌*◌, ◌/◌, ◌%◌, ◌^◌, ◌==◌, nat_lt, if◌then◌else◌, Bool, true, false, List, [], ◌∷◌, ◌++◌, Option, Some, None, slice_get}
use Rattle.venice_isa.specs.declared.kind.VecKind.{VecKind}
use Rattle.venice_isa.specs.declared.work.VecWork.{VecWork}
use Rattle.venice_isa.specs.declared.work.DmaWork.{DmaWork}
use Rattle.venice_isa.specs.declared.issue.Issue.{Issue}
use Rattle.venice_isa.specs.declared.issue.Issue.TheVariants.{Vector, Read, Write, RWait, WWait, VWait, TWait}
use Rattle.venice_isa.specs.declared.instr.Instr.{Instr}
use Rattle.venice_isa.specs.declared.instr.Instr.TheVariants.{Halt, Li, Addi, Add, Sub, Mul, Div, Bnz, Blt, Jmp, Set, Vec, Dma, Rwait, Wwait, Vwait, Tag, Twait}
use Rattle.venice_isa.specs.declared.host.Deed.{Deed}
use Rattle.venice_isa.specs.declared.host.Deed.TheVariants.{Halts, Moves, Passes}

-- ---- the state

-- registers and parameters by their numbers, the tag, and the place in the code
pub record Host : Type 0 where
  pub register : ℕ → ℕ
  pub parameter : ℕ → ℕ
  pub tag : ℕ
  pub place : ℕ

abbrev pub start : Host
start = record { register = λ r. 0; parameter = λ field. 0; tag = 0; place = 0 }

-- numbers by their numbers, one of which has changed
abbrev pub with_number : ℕ → ℕ → (ℕ → ℕ) → (ℕ → ℕ)
with_number k n numbers = λ q. if q == k then n else numbers q

-- the host goes on to the next instruction, or elsewhere
abbrev pub going_on : Host → Host
going_on host = record host { place = host.place + 1 }

abbrev pub going_to : ℕ → Host → Host
going_to to host = record host { place = to }

abbrev pub setting_register : ℕ → ℕ → Host → Host
setting_register d n host = record host { register = with_number d n host.register; place = host.place + 1 }

abbrev pub setting_parameter : ℕ → ℕ → Host → Host
setting_parameter field n host = record host { parameter = with_number field n host.parameter; place = host.place + 1 }

abbrev pub setting_tag : ℕ → Host → Host
setting_tag n host = record host { tag = n; place = host.place + 1 }

-- ---- arithmetic on 32 bits

abbrev pub sum_of : ℕ → ℕ → ℕ
sum_of x y = (x + y) % 2 ^ 32

abbrev pub difference_of : ℕ → ℕ → ℕ
difference_of x y = (x + (2 ^ 32 - y)) % 2 ^ 32

abbrev pub product_of : ℕ → ℕ → ℕ
product_of x y = (x * y) % 2 ^ 32

abbrev pub quotient_of : ℕ → ℕ → ℕ
quotient_of x y = if y == 0 then 2 ^ 32 - 1 else x / y

-- ---- one instruction

-- the host after it
abbrev pub after_instr : Instr → Host → Host
after_instr Halt host = host
after_instr (Li d n) host = setting_register d n host
after_instr (Addi d a n) host = setting_register d (sum_of (host.register a) n) host
after_instr (Add d a b) host = setting_register d (sum_of (host.register a) (host.register b)) host
after_instr (Sub d a b) host = setting_register d (difference_of (host.register a) (host.register b)) host
after_instr (Mul d a b) host = setting_register d (product_of (host.register a) (host.register b)) host
after_instr (Div d a b) host = setting_register d (quotient_of (host.register a) (host.register b)) host
after_instr (Bnz a to) host = if host.register a == 0 then going_on host else going_to to host
after_instr (Blt a b to) host = if nat_lt (host.register a) (host.register b) then going_to to host else going_on host
after_instr (Jmp to) host = going_to to host
after_instr (Set field a) host = setting_parameter field (host.register a) host
after_instr (Vec kind) host = going_on host
after_instr (Dma write) host = going_on host
after_instr (Rwait a) host = going_on host
after_instr (Wwait a) host = going_on host
after_instr Vwait host = going_on host
after_instr (Tag a) host = setting_tag (host.register a) host
after_instr (Twait a) host = going_on host

-- the works that an issue makes of the parameters, which are numbered in this order: vl, rows, dst, a, b, dstep, astep,
-- bstep, mem, spad, mrows, mbytes, mstep, sstep
abbrev pub vector_work : VecKind → Host → VecWork
vector_work kind host = record {
  kind = kind;
  vl = host.parameter 0;
  rows = host.parameter 1;
  dst = host.parameter 2;
  a = host.parameter 3;
  b = host.parameter 4;
  dst_step = host.parameter 5;
  a_step = host.parameter 6;
  b_step = host.parameter 7;
}

abbrev pub transfer : Host → DmaWork
transfer host = record {
  mem = host.parameter 8;
  spad = host.parameter 9;
  rows = host.parameter 10;
  bytes = host.parameter 11;
  mem_step = host.parameter 12;
  spad_step = host.parameter 13;
  tag = host.tag;
}

-- what it is to the rest of the machine: it ends the run, it passes on an issue or a wait, or neither
abbrev pub deed_of : Instr → Host → Deed
deed_of Halt host = Halts
deed_of (Vec kind) host = Passes (Vector (vector_work kind host))
deed_of (Dma false) host = Passes (Read (transfer host))
deed_of (Dma true) host = Passes (Write (transfer host))
deed_of (Rwait a) host = Passes (RWait (host.register a))
deed_of (Wwait a) host = Passes (WWait (host.register a))
deed_of Vwait host = Passes VWait
deed_of (Twait a) host = Passes (TWait (host.register a))
deed_of instr host = Moves

-- ---- one step in code

-- outside the code there is no instruction: nothing halts, nothing is passed on, and the host stays as it is
abbrev pub deed_at : Option Instr → Host → Deed
deed_at None host = Moves
deed_at (Some instr) host = deed_of instr host

abbrev pub after_at : Option Instr → Host → Host
after_at None host = host
after_at (Some instr) host = after_instr instr host

-- what the host's next instruction is to the rest of the machine, and the host after it
abbrev pub deed : List Instr → Host → Deed
deed instrs host = deed_at (slice_get instrs host.place) host

abbrev pub next : List Instr → Host → Host
next instrs host = after_at (slice_get instrs host.place) host

-- ---- the issue list

-- the host after so many steps, where nothing holds it up; one that has come to HALT stays there
abbrev pub after_steps : List Instr → ℕ → Host → Host
after_steps instrs zero host = host
after_steps instrs (suc n) host = next instrs (after_steps instrs n host)

abbrev pub passed_by : Deed → List Issue
passed_by Halts = []
passed_by Moves = []
passed_by (Passes issue) = issue ∷ []

abbrev pub is_halt : Deed → Bool
is_halt Halts = true
is_halt Moves = false
is_halt (Passes issue) = false

-- the issues and waits that the host passes in so many steps
abbrev pub passed_in : List Instr → ℕ → Host → List Issue
passed_in instrs zero host = []
passed_in instrs (suc n) host = passed_in instrs n host ++ passed_by (deed instrs (after_steps instrs n host))

-- the issues and waits that the host passes up to HALT, where it makes HALT within so many steps; HALT is one of them
unfoldable pub issue_list : List Instr → ℕ → Option (List Issue)
issue_list instrs zero = None
issue_list instrs (suc n) =
    if is_halt (deed instrs (after_steps instrs n start)) then Some (passed_in instrs n start) else None
