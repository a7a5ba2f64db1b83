-- How large the parts of a tile's code are, and how many steps they take, whatever the tile.
use Rattle.std.proofs.Common.{◌≡◌, ℕ, zero, suc, ◌+◌, ◌*◌, ◌<◌, ◌≤◌, List, length, get_or, refl, ap, arith, Bool, true, false, cond, eqb, ltb}
use Rattle.std.proofs.lemmas.Bool.{cond_both}
use Rattle.ven_base.specs.Elem.{size_of}
use Rattle.venice_isa.specs.declared.kind.VecKind.{VecKind}
use Rattle.venice_isa.specs.Host.{with_number}
use Rattle.buffer_lifetimes.specs.declared.step.Operand.{Operand}
use Rattle.buffer_lifetimes.specs.declared.step.Operand.TheVariants as operand
use Rattle.buffer_lifetimes.specs.Step.{Step}
use Rattle.host_programs.specs.Expr.{Expr, Number, Variable, Offset, value}
use Rattle.host_programs.specs.Program.{IssueVector, Program, Idle, Both, UnlessLess, Let, Carry, with_left}
use Rattle.host_programs.specs.ProgramCode.{carried_steps}
use Rattle.transfer_programs.specs.Cost.{expr_size, bring_size, order_size, program_size, most_bring, most_steps}
use Rattle.transfer_programs.proofs.CostPrograms.{most_least, bring_least}
use Rattle.transfer_programs.proofs.CostSteps.{is_straight, straight_least, total}
use Rattle.host_codegen.specs.Geometry.{Layout}
use Rattle.host_codegen.specs.Sequence.{each_of, all_of}
use Rattle.host_codegen.specs.StepProgram.{RowsExpr, row_bytes, SourceExpr, parameter_expr, order_with, source_expr, step_order}
use Rattle.host_codegen.proofs.OrderCases.{op_cases}
use Rattle.host_codegen.proofs.Sequences.{between_holds, below_power}
use Rattle.host_codegen.proofs.CostSums.{sum_of_each, sum_from, sums_both, sums_whole, each_sums, sums_over}

-- at most so many instructions, and at most so many steps
pub record Costs (p : Program) (size steps : ℕ) : Type 0 where
  pub sized : program_size p ≤ size
  pub spent : (d : ℕ) (f : ℕ → ℕ) → most_steps p d f ≤ steps

pub straight_costs : (p : Program) (n : ℕ) → is_straight p ≡ true → program_size p ≤ n → Costs p n n
straight_costs p n straight few = record { sized = few; spent = λ d f. omega (arith, straight_least p d f straight, few) }

pub more_costs : (p : Program) (a b m n : ℕ) → a ≤ m → b ≤ n → Costs p a b → Costs p m n
more_costs p a b m n first second c = record { sized = omega (arith, c.sized, first); spent = λ d f. omega (arith, c.spent d f, second) }

pub both_costs : (p q : Program) (a b m n : ℕ) → Costs p a b → Costs q m n → Costs (Both p q) (a + m) (b + n)
both_costs p q a b m n first second = record { sized = omega (arith, first.sized, second.sized); spent = λ d f. omega (arith, first.spent d f, second.spent d f) }

pub let_costs : (e : Expr) (p : Program) (k a b : ℕ) → expr_size e ≤ k → Costs p a b → Costs (Let e p) (k + a) (k + b)
let_costs e p k a b small c = record { sized = omega (arith, small, c.sized); spent = λ d f. omega (arith, most_least e f, small, c.spent (d + 1) (with_number d (value e f) f)) }

pub unless_costs : (u v : Expr) (p : Program) (k a b : ℕ) → bring_size u + bring_size v + 1 ≤ k → Costs p a b → Costs (UnlessLess u v p) (k + a) (k + b)
unless_costs u v p k a b small c = record {
  sized = omega (arith, small, c.sized);
  spent = λ d f.
      let w = cond_both (ltb (value u f) (value v f)) 0 (most_steps p d f) (λ m. m ≤ b) (λ e. omega arith) (λ e. c.spent d f) in
      omega (arith, bring_least u f, bring_least v f, small, w);
}

pub choice_costs : (t : Bool) (p q : Program) (a b : ℕ) → Costs p a b → Costs q a b → Costs (cond t p q) a b
choice_costs true p q a b first second = first
choice_costs false p q a b first second = second

-- a loop whose number of turns is a literal, and carries a number
pub carry_costs : (n : ℕ) (first next : Expr) (p : Program) (i j a b : ℕ) → expr_size first ≤ i → bring_size next ≤ j → Costs p a b
    → Costs (Carry (Number n) first next p) (i + j + 5 + a) (i + 3 + n * (b + j + 3))
carry_costs n first next p i j a b small_first small_next c = record {
  sized = omega (arith, small_first, small_next, c.sized);
  spent = λ d f.
      let begin = with_number d n f in
      let turns = go d f n (value first begin) in
      omega (arith, most_least first begin, small_first, turns);
}
  where
    go : (d : ℕ) (f : ℕ → ℕ) (k v : ℕ) → carried_steps k v (λ left carried. value next (with_left f d left carried))
        (λ left carried. most_steps p (d + 2) (with_left f d left carried) + (most_bring next (with_left f d left carried) + 1)) ≤ k * (b + j + 3)
    go d f zero v = omega arith
    go d f (suc k) v =
        let g = with_left f d (suc k) v in
        omega (arith, c.spent (d + 2) g, bring_least next g, small_next, go d f k (value next g))

-- one program after another
pub each_costs : (each : ℕ → Program) (count : ℕ) (size steps : ℕ → ℕ) → ((n : ℕ) → n < count → Costs (each n) (size n) (steps n))
    → Costs (each_of count each) (sum_of_each count size) (sum_of_each count steps)
each_costs each count size steps all =
    let whole = between_holds each 0 count (λ first n p. Costs p (sum_from first n size) (sum_from first n steps)) count 0 count (record {
      none = λ first. straight_costs Idle 0 refl (omega arith);
      one = λ n above below.
          let here : n + 0 ≡ n = omega arith in
          let a = ap size here in
          let b = ap steps here in
          more_costs (each n) (size n) (steps n) (sum_from n 1 size) (sum_from n 1 steps) (omega (arith, a)) (omega (arith, b)) (all n below);
      both = λ first a b p q is_p is_q.
          more_costs (Both p q) (sum_from first a size + sum_from (first + a) b size) (sum_from first a steps + sum_from (first + a) b steps) (sum_from first (a + b) size) (sum_from first (a + b) steps)
          (omega (arith, sums_both first a b size)) (omega (arith, sums_both first a b steps)) (both_costs p q _ _ _ _ is_p is_q);
    }) (omega arith) (omega arith) (below_power count) in
    more_costs (each_of count each) (sum_from 0 count size) (sum_from 0 count steps) (sum_of_each count size) (sum_of_each count steps) (omega (arith, sums_whole count size)) (omega (arith, sums_whole count steps)) whole

-- the programs of a list, one after another
pub all_costs : (ps : List Program) (a b : ℕ) → total program_size ps ≤ a → ((d : ℕ) (f : ℕ → ℕ) → total (λ p. most_steps p d f) ps ≤ b) → Costs (all_of ps) a b
all_costs ps a b few fast = record {
  sized = omega (arith, few, each_sums program_size refl (λ p q. refl) (λ k. get_or ps k Idle) (length ps), sums_over program_size Idle ps);
  spent = λ d f. omega (arith, fast d f, each_sums (λ p. most_steps p d f) refl (λ p q. refl) (λ k. get_or ps k Idle) (length ps), sums_over (λ p. most_steps p d f) Idle ps);
}

-- ---- a vector instruction

source_small : (layout : Layout) (half : ℕ) (arg : Operand) → bring_size (parameter_expr (source_expr layout half arg)) ≤ 1
source_small layout half (operand.Leaf number) = cond_both (eqb (number * 2 * layout.bytes) 0) (Variable half) (Offset (Variable half) (number * 2 * layout.bytes)) (λ e. bring_size e ≤ 1) (λ e. omega arith) (λ e. omega arith)
source_small layout half (operand.Literal n) = omega arith
source_small layout half (operand.Slot slot) = omega arith

module _ (rows : RowsExpr) (small_rows : bring_size rows.rows ≤ 1) where
  pub order_small : (kind : VecKind) (to : Expr) (a b : SourceExpr) → bring_size to ≤ 1 → bring_size (parameter_expr a) ≤ 1 → bring_size (parameter_expr b) ≤ 1
      → order_size (IssueVector (order_with rows kind to a b)) ≤ 14
  order_small kind to a b small_to small_a small_b =
      let step = cond_both kind.acc (Number (size_of kind.elem)) (row_bytes rows kind.elem) (λ e. bring_size e ≤ 1) (λ e. omega arith) (λ e. omega arith) in
      omega (arith, small_rows, small_to, small_a, small_b, step)

  pub step_small : (layout : Layout) (half : ℕ) (acc : Bool) (step : Step) (to : Expr) → bring_size to ≤ 1 → order_size (IssueVector (step_order layout half rows acc step to)) ≤ 14
  step_small layout half acc step to small =
      op_cases (λ order. order_size (IssueVector order) ≤ 14) (λ a. bring_size (parameter_expr a) ≤ 1) rows to (λ kind a b small_a small_b. order_small kind to a b small small_a small_b)
      (λ n. omega arith) (source_expr layout half) (source_small layout half) step.op step.args acc step.elem step.from
