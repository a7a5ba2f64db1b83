-- The code of programs, and its steps. Each issue sets all its parameters, so what they were before never matters.
use Rattle.std.specs.Prelude.{ℕ, zero, suc, ◌+◌, nat_lt, if◌then◌else◌, Bool, true, ◌&&◌, List, [], ◌∷◌, ◌++◌}
use Rattle.venice_isa.specs.declared.instr.Instr.TheVariants.{Li, Addi, Set, Vec, Dma, Rwait, Wwait, Vwait, Tag, Twait}
use Rattle.venice_isa.specs.Host.{with_number}
use Rattle.host_programs.specs.Block.{Block, Empty, Do, Then, Unless, Turns}
use Rattle.host_programs.specs.Expr.{Expr, put, bring, register_of, machine_value, cost, bring_cost, is_below}
use Rattle.host_programs.specs.Program.{TransferOrder, VectorOrder, Order, IssueTransfer, IssueVector, AwaitReads, AwaitWrites, AwaitLanes, AwaitTag, Program, Idle, Emit, Both, UnlessLess, Let, For, Carry, with_left, in_turn}

-- ---- the code

-- a parameter by its number, and what it is set to
pub record Setting : Type 0 where
  pub field : ℕ
  pub expr : Expr

abbrev pub setting : ℕ → Expr → Setting
setting field expr = record { field = field; expr = expr }

abbrev pub transfer_settings : TransferOrder → List Setting
transfer_settings work =
    setting 8 work.mem ∷ setting 9 work.spad ∷ setting 10 work.rows ∷ setting 11 work.bytes
    ∷ setting 12 work.mem_step ∷ setting 13 work.spad_step ∷ []

abbrev pub vector_front : VectorOrder → List Setting
vector_front work = setting 0 work.vl ∷ setting 1 work.rows ∷ setting 2 work.dst ∷ setting 3 work.a ∷ []

abbrev pub vector_back : VectorOrder → List Setting
vector_back work = setting 4 work.b ∷ setting 5 work.dst_step ∷ setting 6 work.a_step ∷ setting 7 work.b_step ∷ []

abbrev pub vector_settings : VectorOrder → List Setting
vector_settings work = vector_front work ++ vector_back work

abbrev pub settings_block : List Setting → (d : ℕ) → Block
settings_block [] d = Empty
settings_block (s ∷ rest) d =
    Then (bring s.expr d) (Then (Do (Set s.field (register_of s.expr d))) (settings_block rest d))

abbrev pub order_block : Order → (d : ℕ) → Block
order_block (IssueTransfer write work) d =
    Then (settings_block (transfer_settings work) d)
    (Then (bring work.tag d) (Then (Do (Tag (register_of work.tag d))) (Do (Dma write))))
order_block (IssueVector work) d = Then (settings_block (vector_settings work) d) (Do (Vec work.kind))
order_block (AwaitReads most) d = Then (bring most d) (Do (Rwait (register_of most d)))
order_block (AwaitWrites most) d = Then (bring most d) (Do (Wwait (register_of most d)))
order_block AwaitLanes d = Do Vwait
order_block (AwaitTag tag) d = Then (bring tag d) (Do (Twait (register_of tag d)))

-- a program's, where its first d registers are in use
abbrev pub block_of : Program → (d : ℕ) → Block
block_of Idle d = Empty
block_of (Emit order) d = order_block order d
block_of (Both p q) d = Then (block_of p d) (block_of q d)
block_of (UnlessLess a b p) d =
    Then (bring a d) (Then (bring b (d + 1)) (Unless (register_of a d) (register_of b (d + 1)) (block_of p d)))
block_of (Let e p) d = Then (put e d) (block_of p (d + 1))
block_of (For e p) d =
    Then (put e d) (Then (Do (Li (d + 1) 0)) (Turns d (Then (block_of p (d + 2)) (Do (Addi (d + 1) (d + 1) 1)))))
block_of (Carry e first next p) d =
    Then (put e d) (Then (put first (d + 1)) (Turns d (Then (block_of p (d + 2))
    (Then (bring next (d + 2)) (Do (Addi (d + 1) (register_of next (d + 2)) 0))))))

-- ---- its steps

abbrev pub settings_cost : List Setting → (f : ℕ → ℕ) → ℕ
settings_cost [] f = 0
settings_cost (s ∷ rest) f = bring_cost s.expr f + (1 + settings_cost rest f)

abbrev pub order_cost : Order → (f : ℕ → ℕ) → ℕ
order_cost (IssueTransfer write work) f = settings_cost (transfer_settings work) f + (bring_cost work.tag f + 2)
order_cost (IssueVector work) f = settings_cost (vector_settings work) f + 1
order_cost (AwaitReads most) f = bring_cost most f + 1
order_cost (AwaitWrites most) f = bring_cost most f + 1
order_cost AwaitLanes f = 1
order_cost (AwaitTag tag) f = bring_cost tag f + 1

-- those of so many turns, with what a loop adds to each
abbrev pub turns_steps : (n t : ℕ) → (ℕ → ℕ) → ℕ
turns_steps zero t turn = 0
turns_steps (suc n) t turn = turn t + (3 + turns_steps n (t + 1) turn)

abbrev pub carried_steps : (n carried : ℕ) → (next turn : ℕ → ℕ → ℕ) → ℕ
carried_steps zero carried next turn = 0
carried_steps (suc n) carried next turn =
    turn (suc n) carried + (2 + carried_steps n (next (suc n) carried) next turn)

abbrev pub steps_of : Program → (d : ℕ) → (f : ℕ → ℕ) → ℕ
steps_of Idle d f = 0
steps_of (Emit order) d f = order_cost order f
steps_of (Both p q) d f = steps_of p d f + steps_of q d f
steps_of (UnlessLess a b p) d f =
    bring_cost a f + (bring_cost b f
    + (1 + (if nat_lt (machine_value a f) (machine_value b f) then 0 else steps_of p d f)))
steps_of (Let e p) d f = cost e f + steps_of p (d + 1) (with_number d (machine_value e f) f)
steps_of (For e p) d f =
    let n = machine_value e f in
    cost e f + (1 + (2 + turns_steps n 0 (λ t. steps_of p (d + 2) (in_turn f d n t))))
steps_of (Carry e first next p) d f =
    let n = machine_value e f in
    let begin = with_number d n f in
    cost e f + (cost first begin + (2 + carried_steps n (machine_value first begin)
    (λ left carried. machine_value next (with_left f d left carried))
    (λ left carried. steps_of p (d + 2) (with_left f d left carried)
    + (bring_cost next (with_left f d left carried) + 1))))

-- ---- where it reads registers in use alone

abbrev pub are_below : List Setting → (d : ℕ) → Bool
are_below [] d = true
are_below (s ∷ rest) d = is_below s.expr d && are_below rest d

abbrev pub is_order_closed : Order → (d : ℕ) → Bool
is_order_closed (IssueTransfer write work) d = are_below (transfer_settings work) d && is_below work.tag d
is_order_closed (IssueVector work) d = are_below (vector_settings work) d
is_order_closed (AwaitReads most) d = is_below most d
is_order_closed (AwaitWrites most) d = is_below most d
is_order_closed AwaitLanes d = true
is_order_closed (AwaitTag tag) d = is_below tag d

abbrev pub is_closed : Program → (d : ℕ) → Bool
is_closed Idle d = true
is_closed (Emit order) d = is_order_closed order d
is_closed (Both p q) d = is_closed p d && is_closed q d
is_closed (UnlessLess a b p) d = is_below a d && (is_below b d && is_closed p d)
is_closed (Let e p) d = is_below e d && is_closed p (d + 1)
is_closed (For e p) d = is_below e d && is_closed p (d + 2)
is_closed (Carry e first next p) d =
    is_below e d && (is_below first (d + 1) && (is_below next (d + 2) && is_closed p (d + 2)))
