-- Inner: how far a work has come.
use Rattle.std.specs.Prelude.{◌≡◌, ℕ, ◌+◌, ◌-◌, ◌*◌, ◌<◌, ◌≤◌, ◌^◌, min, nat_le, if◌then◌else◌, ℤ, pos, neg_ℤ, ◌≤ℤ◌, Bool, not, ◌||◌}
use Rattle.ven_base.specs.Wrap.{wrapped}
use Rattle.venice_isa.specs.declared.work.VecWork.{VecWork}
use Rattle.venice_isa.specs.Mode.{uses_b}
use Rattle.venice_isa.specs.Footprint.{source_a, source_b, destination}
use Rattle.venice_isa.specs.Beat.{Progress, lane_group_items}
use Rattle.venice_isa.specs.Walk.{HasCome, IsWalk}
use Rattle.lane_machine.specs.declared.current.Current.{Current}
use Rattle.lane_machine.specs.Elements.{wider}
use Rattle.lane_machine.specs.Operand.{IsOperand, CanGoOn, CanTurn, a_group_on, at_next_row}

-- the progress of the work
abbrev pub progress_of : Current → Progress
progress_of current = record { done = current.done; sum = current.sum }

-- how many elements the next beat takes
abbrev pub next_count : VecWork → Current → ℕ
next_count work current = min current.group_items (work.vl - current.first)

-- a sum of so many elements' results, which lie below 2 ^ 32 either way
pub record IsBounded (count : ℕ) (sum : ℤ) : Type 0 where
  pub from_least : neg_ℤ (pos (count * 2 ^ 32)) ≤ℤ sum
  pub to_greatest : sum ≤ℤ pos (count * 2 ^ 32)

-- B is one number where it is a scalar or isn't used
abbrev pub has_number_for_b : VecWork → Bool
has_number_for_b work = not (uses_b work.kind.op) || work.kind.b_scalar

-- the operands have come to element `first` of row `row`, in groups of so many elements
pub record IsPlaced (work : VecWork) (current : Current) : Type 0 where
  pub in_rows : current.row < work.rows
  pub in_row : current.first < work.vl
  pub some : 0 < current.group_items
  pub few : current.group_items * wider work.kind.elem work.kind.from ≤ 16
  pub a_is : IsOperand (wrapped work.kind.from (pos work.a)) work.kind.a_scalar (source_a work)
      current.group_items current.row current.first current.a
  pub b_is : IsOperand (wrapped work.kind.elem (pos work.b)) (has_number_for_b work) (source_b work)
      current.group_items current.row current.first current.b
  pub dst_is : IsWalk (destination work) current.group_items current.row current.first current.dst

-- the work is under way
pub record IsAt (work : VecWork) (current : Current) : Type 0 where
  pub come : HasCome work.rows work.vl current.group_items current.done current.row current.first
  pub placed : IsPlaced work current
  pub bounded : IsBounded current.first current.sum

-- it is under way on so many lanes
pub record IsUnderWay (lanes : ℕ) (work : VecWork) (current : Current) : Type 0 where
  pub at : IsAt work current
  pub group_items_is : current.group_items ≡ lane_group_items work.kind lanes

-- the work is under way, one beat on; the row's sum ends with the row
pub record IsNext (work : VecWork) (current : Current) (sum : ℤ) (next : Current) : Type 0 where
  pub at : IsAt work next
  pub group_items_is : next.group_items ≡ current.group_items
  pub done_is : next.done ≡ current.done + 1
  pub sum_is : next.sum ≡ (if nat_le work.vl (current.first + next_count work current) then pos 0 else sum)

-- ---- what changes

-- a group on in the row
abbrev pub gone_on : Current → ℤ → Current
gone_on current sum = record current {
  a = a_group_on current.a;
  b = a_group_on current.b;
  dst = record current.dst { next_place = current.dst.next_place + current.dst.group_bytes };
  first = current.first + current.group_items;
  done = current.done + 1;
  sum = sum;
}

pub record CanGo (current : Current) : Type 0 where
  pub a : CanGoOn current.a
  pub b : CanGoOn current.b
  pub dst : current.dst.next_place < 2 ^ 63
  pub first : current.first + current.group_items < 2 ^ 32
  pub done : current.done + 1 < 2 ^ 64

-- at the next row
abbrev pub turned : Current → Current
turned current = record current {
  a = at_next_row current.a;
  b = at_next_row current.b;
  dst = record current.dst {
    row_place = current.dst.row_place + current.dst.step;
    next_place = current.dst.row_place + current.dst.step;
  };
  row = current.row + 1;
  first = 0;
  done = current.done + 1;
  sum = pos 0;
}

pub record CanGoToNextRow (current : Current) : Type 0 where
  pub a : CanTurn current.a
  pub b : CanTurn current.b
  pub dst : current.dst.row_place < 2 ^ 32
  pub row : current.row + 1 < 2 ^ 32
  pub done : current.done + 1 < 2 ^ 64
