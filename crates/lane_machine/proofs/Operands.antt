-- What operands give, and that they lie in the cells and go on.
use Rattle.std.proofs.Common.{◌≡◌, ℕ, ◌+◌, ◌*◌, ◌^◌, ◌<◌, ◌≤◌, ap, sym, ◌∙◌, subst, arith, Bool, false, cond, List, ℤ}
use Rattle.std.proofs.lemmas.Bool.{cond-true, cond-false}
use Rattle.ven_base.specs.declared.elem.Elem.{Elem}
use Rattle.ven_base.specs.Elem.{size_of, IsElement}
use Rattle.ven_base.proofs.Wrapped.{IsElement-wrapped}
use Rattle.ven_base.specs.Cell.{Cell}
use Rattle.spad_store.specs.Cells.{flag_at}
use Rattle.venice_isa.specs.declared.region.Region.{Region}
use Rattle.venice_isa.specs.Region.{place_in}
use Rattle.venice_isa.specs.Element.{number_at}
use Rattle.venice_isa.specs.Walk.{IsWalk}
use Rattle.venice_isa.proofs.Walks.{walk_on, walk_next_row, walk_row, walk_place, walk_fits}
use Rattle.lane_machine.specs.declared.operand.Operand.{Operand}
use Rattle.lane_machine.specs.declared.operand.Operand.TheVariants.{Number, Elements}
use Rattle.lane_machine.specs.Operand.{number_in, flag_in, end_in, IsOperand, CanGoOn, CanTurn, a_group_on, at_next_row}

module _ (number : ℤ) (is_number : Bool) (region : Region) (group row first : ℕ) where
  -- ---- what it gives

  module _ (elem : Elem) (size : region.size ≡ size_of elem) where
    next_element : (walk : _) → IsWalk region group row first walk → (k : ℕ) → walk.next_place + k * size_of elem ≡ place_in region row (first + k)
    next_element walk is k =
        let sizes : k * region.size ≡ k * size_of elem = ap (λ n. k * n) size in
        omega (arith, sizes, walk_place region group row first walk is k)

    pub operand_number : (operand : Operand) → IsOperand number is_number region group row first operand → (cells : List Cell) (k : ℕ) → number_in elem operand cells k ≡ cond is_number number (number_at elem cells (place_in region row (first + k)))
    operand_number (Number n) is cells k = is.1 ∙ sym (cond-true is_number _ _ is.0)
    operand_number (Elements walk) is cells k = ap (number_at elem cells) (next_element walk is.1 k) ∙ sym (cond-false is_number _ _ is.0)

    pub operand_in_type : (operand : Operand) → IsOperand number is_number region group row first operand → IsElement elem number → (cells : List Cell) (k : ℕ) → IsElement elem (number_in elem operand cells k)
    operand_in_type (Number n) is in_type cells k = subst (IsElement elem) (sym is.1) in_type
    operand_in_type (Elements walk) is in_type cells k = IsElement-wrapped elem _

    pub operand_flag : (operand : Operand) → IsOperand number is_number region group row first operand → is_number ≡ false → (cells : List Cell) (k : ℕ) → flag_in elem operand cells k ≡ flag_at cells (place_in region row (first + k))
    operand_flag (Number n) is vector cells k = cc
    operand_flag (Elements walk) is vector cells k = ap (flag_at cells) (next_element walk is.1 k)

    pub operand_ends : (operand : Operand) → IsOperand number is_number region group row first operand → (count end : ℕ) → (is_number ≡ false → place_in region row first + count * region.size ≤ end) → end_in elem operand count ≤ end
    operand_ends (Number n) is count end below = omega arith
    operand_ends (Elements walk) is count end below =
        let sizes : count * region.size ≡ count * size_of elem = ap (λ n. count * n) size in
        let walk_is = is.1 in
        omega (arith, sizes, below is.0, walk_is.next_place_is)

  -- ---- how it goes on

  pub operand_on : (operand : Operand) → IsOperand number is_number region group row first operand → IsOperand number is_number region group row (first + group) (a_group_on operand)
  operand_on (Number n) is = is
  operand_on (Elements walk) is = (is.0, walk_on region group row first walk is.1)

  pub operand_turned : (operand : Operand) → IsOperand number is_number region group row first operand → IsOperand number is_number region group (row + 1) 0 (at_next_row operand)
  operand_turned (Number n) is = is
  operand_turned (Elements walk) is = (is.0, walk_next_row region group row first walk is.1)

  pub operand_can_go : (operand : Operand) → IsOperand number is_number region group row first operand → (is_number ≡ false → place_in region row 0 < 2 ^ 32) → region.size ≤ 4 → first < 2 ^ 32 → CanGoOn operand
  operand_can_go (Number n) is small few_bytes few = tt
  operand_can_go (Elements walk) is small few_bytes few = walk_fits region group row first walk is.1 (small is.0) few_bytes few

  pub operand_can_turn : (operand : Operand) → IsOperand number is_number region group row first operand → (is_number ≡ false → place_in region row 0 < 2 ^ 32) → CanTurn operand
  operand_can_turn (Number n) is small = tt
  operand_can_turn (Elements walk) is small = omega (arith, small is.0, walk_row region group row first walk is.1)
