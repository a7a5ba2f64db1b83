-- How large the instructions of a tile are, by the kind of its pass, and how many steps they take.
use Rattle.std.proofs.Common.{ℕ, ◌+◌, ◌*◌, ◌≤◌, List, [], ◌∷◌, length, refl, arith, Bool, true, false, cond, eqb}
use Rattle.ven_base.specs.declared.elem.Elem.{Elem}
use Rattle.ven_base.specs.declared.ops.Op2.TheVariants as op2
use Rattle.ven_base.specs.declared.ops.Fold.TheVariants as fold
use Rattle.ven_base.specs.Elem.{size_of}
use Rattle.pass_plan.specs.declared.pass.PassKind.{PassKind}
use Rattle.pass_plan.specs.declared.pass.PassKind.TheVariants.{Map, Reduce}
use Rattle.buffer_lifetimes.specs.Step.{Step}
use Rattle.vector_codegen.specs.Kind.{two_kind}
use Rattle.host_programs.specs.Expr.{Expr, Number, Variable, Sum, Difference, Product, Quotient}
use Rattle.host_programs.specs.Program.{VectorOrder, IssueVector, Program, Both, UnlessLess, Let}
use Rattle.transfer_programs.specs.Cost.{expr_size, bring_size, order_size, program_size, most_steps}
use Rattle.transfer_programs.proofs.CostSizes.{bring_scaled}
use Rattle.host_codegen.specs.Sequence.{all_of}
use Rattle.host_codegen.specs.Geometry.{Layout, slot_cell, partial_cell, first_or_later}
use Rattle.host_codegen.specs.StepProgram.{with_row, Buffer, step_order}
use Rattle.host_codegen.specs.RootProgram.{column_register, rows_register, columns_register, half_cells_register, output_register, all_elements, all_rows, one_column, emit, flat_program, row_sums_program, joining_order, joined_sums_program, sum_program, halving_order, halving_turns, halvings_program, last_order, halved_program, first_best_program, best_program, root_program, steps_programs, works_program}
use Rattle.host_codegen.specs.CodeRoom.{step_share, root_share}
use Rattle.transfer_programs.proofs.CostSteps.{total}
use Rattle.host_codegen.proofs.CostParts.{Costs, straight_costs, more_costs, both_costs, let_costs, unless_costs, choice_costs, carry_costs, all_costs, order_small, step_small}

emit_costs : (order : VectorOrder) (n : ℕ) → order_size (IssueVector order) ≤ n → Costs (emit order) n n
emit_costs order n small = straight_costs (emit order) n refl small

row_costs : (cols : Expr) (r : ℕ) (p : Program) (a b : ℕ) → expr_size cols ≤ 1 → Costs p a b → Costs (with_row cols r p) (3 + a) (3 + b)
row_costs cols r p a b small c =
    let four = Sum (Variable (r + 1)) (Variable (r + 1)) in
    let two = Sum (Variable r) (Variable r) in
    more_costs (with_row cols r p) (1 + (1 + (1 + a))) (1 + (1 + (1 + b))) (3 + a) (3 + b) (omega arith) (omega arith)
    (let_costs cols (Let two (Let four p)) 1 (1 + (1 + a)) (1 + (1 + b)) small (let_costs two (Let four p) 1 (1 + a) (1 + b) (omega arith) (let_costs four p 1 a b (omega arith) c)))

module _ (layout : Layout) where
  flat_costs : (step : Step) (to : Expr) → bring_size to ≤ 1 → Costs (flat_program layout step to) 14 14
  flat_costs step to small = emit_costs (step_order layout half_cells_register all_elements false step to) 14 (step_small all_elements (omega arith) layout half_cells_register false step to small)

  sums_costs : (step : Step) (to : Expr) → bring_size to ≤ 1 → Costs (row_sums_program layout step to) 14 14
  sums_costs step to small = emit_costs (step_order layout half_cells_register all_rows true step to) 14 (step_small all_rows (omega arith) layout half_cells_register true step to small)

  first_or_later_costs : (first later : Program) (a b m n : ℕ) → Costs first a b → Costs later m n → Costs (first_or_later layout column_register first later) (4 + a + m) (4 + b + n)
  first_or_later_costs first later a b m n c e =
      let one = unless_costs (Number 0) (Variable column_register) first 2 a b (omega arith) c in
      let other = unless_costs (Variable column_register) (Number 1) later 2 m n (omega arith) e in
      choice_costs (eqb layout.per_row 1) first (Both (UnlessLess (Number 0) (Variable column_register) first) (UnlessLess (Variable column_register) (Number 1) later)) (4 + a + m) (4 + b + n)
      (more_costs first a b (4 + a + m) (4 + b + n) (omega arith) (omega arith) c)
      (more_costs _ ((2 + a) + (2 + m)) ((2 + b) + (2 + n)) (4 + a + m) (4 + b + n) (omega arith) (omega arith) (both_costs _ _ (2 + a) (2 + b) (2 + m) (2 + n) one other))

  -- ---- sums

  joined_costs : (step : Step) → Costs (joined_sums_program layout step) 31 31
  joined_costs step =
      let joining = emit_costs (joining_order layout step.elem) 14 (order_small one_column (omega arith) (two_kind op2.Add step.elem false false false) (Variable output_register)
      (Buffer (Variable output_register)) (Buffer (Number (partial_cell layout))) (omega arith) (omega arith) (omega arith)) in
      both_costs (row_sums_program layout step (Number (partial_cell layout))) (with_row (Variable rows_register) 17 (emit (joining_order layout step.elem))) 14 14 17 17
      (sums_costs step (Number (partial_cell layout)) (omega arith)) (row_costs (Variable rows_register) 17 (emit (joining_order layout step.elem)) 14 14 (omega arith) joining)

  sum_costs : (step : Step) → Costs (sum_program layout step) 49 49
  sum_costs step = first_or_later_costs (row_sums_program layout step (Variable output_register)) (joined_sums_program layout step) 14 14 31 31 (sums_costs step (Variable output_register) (omega arith)) (joined_costs step)

  -- ---- least and greatest values

  halving_small : (least : Bool) (elem : Elem) (slot : ℕ) → order_size (IssueVector (halving_order layout least elem slot (Difference (Variable 18) (Variable 19)))) ≤ 15
  halving_small least elem slot = omega (arith, bring_scaled (Difference (Variable 18) (Variable 19)) (size_of elem))

  -- at most 32 turns, however many columns a tile has
  few_turns : (n : ℕ) → halving_turns n ≤ 32
  few_turns n = omega arith

  halvings_costs : (least : Bool) (elem : Elem) (slot left : ℕ) → Costs (halvings_program layout least elem slot left) 28 804
  halvings_costs least elem slot left =
      let order = halving_order layout least elem slot (Difference (Variable 18) (Variable 19)) in
      let half = Quotient (Variable 18) (Number 2) in
      let turn = unless_costs (Variable 18) (Number (left + 1)) (Let half (emit order)) 2 17 17 (omega arith)
      (let_costs half (emit order) 2 15 15 (omega arith) (emit_costs order 15 (halving_small least elem slot))) in
      let turns = halving_turns layout.tile.w in
      more_costs (halvings_program layout least elem slot left) (1 + 3 + 5 + (2 + 17)) (1 + 3 + turns * ((2 + 17) + 3 + 3)) 28 804 (omega arith) (omega (arith, few_turns layout.tile.w))
      (carry_costs turns (Variable columns_register) (Difference (Variable 18) half) (UnlessLess (Variable 18) (Number (left + 1)) (Let half (emit order))) 1 3 (2 + 17) (2 + 17) (omega arith) (omega arith) turn)

  last_small : (least : Bool) (elem : Elem) (first : Bool) (slot : ℕ) → order_size (IssueVector (last_order layout least elem first slot)) ≤ 14
  last_small least elem true slot = omega arith
  last_small least elem false slot = omega arith

  halved_costs : (least first : Bool) (step : Step) → Costs (halved_program layout least first step) 56 832
  halved_costs least first step =
      let flat = flat_costs step (Number (slot_cell layout step.to)) (omega arith) in
      let halvings = halvings_costs least step.elem step.to (cond first 2 1) in
      let last = emit_costs (last_order layout least step.elem first step.to) 14 (last_small least step.elem first step.to) in
      both_costs _ _ 14 14 42 818 flat (both_costs _ _ 28 804 14 14 halvings last)

  first_best_costs : (least : Bool) (step : Step) → Costs (first_best_program layout least step) 74 850
  first_best_costs least step =
      both_costs _ _ 16 16 58 834
      (unless_costs (Number 1) (Variable columns_register) (flat_program layout step (Variable output_register)) 2 14 14 (omega arith) (flat_costs step (Variable output_register) (omega arith)))
      (unless_costs (Variable columns_register) (Number 2) (halved_program layout least true step) 2 56 832 (omega arith) (halved_costs least true step))

  best_costs : (least : Bool) (step : Step) → Costs (best_program layout least step) 134 1686
  best_costs least step = first_or_later_costs (first_best_program layout least step) (halved_program layout least false step) 74 850 56 832 (first_best_costs least step) (halved_costs least false step)

-- ---- any root

abbrev pub root_steps : PassKind → ℕ
root_steps Map = 14
root_steps (Reduce fold.Sum) = 54
root_steps (Reduce fold.Min) = 1690
root_steps (Reduce fold.Max) = 1690

root_costs : (kind : PassKind) (layout : Layout) (step : Step) → Costs (root_program kind layout step) (root_share kind) (root_steps kind)
root_costs Map layout step = flat_costs layout step (Variable output_register) (omega arith)
root_costs (Reduce fold.Sum) layout step =
    more_costs _ 52 52 54 54 (omega arith) (omega arith) (row_costs (Variable columns_register) 14 (sum_program layout step) 49 49 (omega arith) (sum_costs layout step))
root_costs (Reduce fold.Min) layout step =
    more_costs _ 137 1689 140 1690 (omega arith) (omega arith) (row_costs (Variable columns_register) 14 (best_program layout true step) 134 1686 (omega arith) (best_costs layout true step))
root_costs (Reduce fold.Max) layout step =
    more_costs _ 137 1689 140 1690 (omega arith) (omega arith) (row_costs (Variable columns_register) 14 (best_program layout false step) 134 1686 (omega arith) (best_costs layout false step))

-- ---- all steps

-- each step but the last is one instruction
steps_sized : (kind : PassKind) (layout : Layout) (steps : List Step) → total program_size (steps_programs kind layout steps) ≤ step_share * length steps + root_share kind
steps_sized kind layout [] = omega arith
steps_sized kind layout (step ∷ []) = omega (arith, (root_costs kind layout step).sized)
steps_sized kind layout (step ∷ next ∷ steps) =
    omega (arith, (flat_costs layout step (Number (slot_cell layout step.to)) (omega arith)).sized, steps_sized kind layout (next ∷ steps))

steps_spent : (kind : PassKind) (layout : Layout) (d : ℕ) (f : ℕ → ℕ) (steps : List Step) → total (λ p. most_steps p d f) (steps_programs kind layout steps) ≤ step_share * length steps + root_steps kind
steps_spent kind layout d f [] = omega arith
steps_spent kind layout d f (step ∷ []) = omega (arith, (root_costs kind layout step).spent d f)
steps_spent kind layout d f (step ∷ next ∷ steps) =
    omega (arith, (flat_costs layout step (Number (slot_cell layout step.to)) (omega arith)).spent d f, steps_spent kind layout d f (next ∷ steps))

pub works_costs : (kind : PassKind) (layout : Layout) (steps : List Step) → Costs (works_program kind layout steps) (3 + (step_share * length steps + root_share kind)) (3 + (step_share * length steps + root_steps kind))
works_costs kind layout steps =
    row_costs (Product (Variable rows_register) (Variable columns_register)) 11 (all_of (steps_programs kind layout steps)) _ _ (omega arith)
    (all_costs (steps_programs kind layout steps) (step_share * length steps + root_share kind) (step_share * length steps + root_steps kind) (steps_sized kind layout steps) (λ d f. steps_spent kind layout d f steps))
