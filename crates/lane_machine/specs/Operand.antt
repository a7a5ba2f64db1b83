-- Inner: what an operand gives, and how it goes on.
use Rattle.std.specs.Prelude.{◌≡◌, ℕ, ◌+◌, ◌*◌, ◌<◌, ◌≤◌, ◌^◌, ℤ, Bool, true, false, List}
use Rattle.ven_base.specs.declared.elem.Elem.{Elem}
use Rattle.ven_base.specs.Elem.{size_of}
use Rattle.ven_base.specs.Cell.{Cell}
use Rattle.spad_store.specs.Cells.{flag_at}
use Rattle.venice_isa.specs.declared.region.Region.{Region}
use Rattle.venice_isa.specs.Element.{number_at}
use Rattle.venice_isa.specs.Walk.{IsWalk}
use Rattle.lane_machine.specs.declared.operand.Operand.{Operand}
use Rattle.lane_machine.specs.declared.operand.Operand.TheVariants.{Number, Elements}

-- the number for the k-th of the next elements
abbrev pub number_in : Elem → Operand → List Cell → ℕ → ℤ
number_in elem (Number n) cells k = n
number_in elem (Elements walk) cells k = number_at elem cells (walk.next_place + k * size_of elem)

-- the flag of that element's first byte, which a number doesn't have
abbrev pub flag_in : Elem → Operand → List Cell → ℕ → Bool
flag_in elem (Number n) cells k = false
flag_in elem (Elements walk) cells k = flag_at cells (walk.next_place + k * size_of elem)

-- where so many of the next elements end; a number takes no place
abbrev pub end_in : Elem → Operand → ℕ → ℕ
end_in elem (Number n) count = 0
end_in elem (Elements walk) count = walk.next_place + count * size_of elem

-- the operand is a number, where it is to be one, or the way has come to an element of the region
abbrev pub IsOperand : (number : ℤ) (is_number : Bool) (region : Region) (group_items row first : ℕ) → Operand
    → Type 0
IsOperand number is_number region group_items row first (Number n) = (is_number ≡ true) × (n ≡ number)
IsOperand number is_number region group_items row first (Elements walk) =
    (is_number ≡ false) × IsWalk region group_items row first walk

-- a group on
abbrev pub a_group_on : Operand → Operand
a_group_on (Number n) = Number n
a_group_on (Elements walk) = Elements (record walk { next_place = walk.next_place + walk.group_bytes })

abbrev pub CanGoOn : Operand → Type 0
CanGoOn (Number n) = Unit {0}
CanGoOn (Elements walk) = walk.next_place < 2 ^ 63

-- at the beginning of the next row
abbrev pub at_next_row : Operand → Operand
at_next_row (Number n) = Number n
at_next_row (Elements walk) =
    Elements (record walk { row_place = walk.row_place + walk.step; next_place = walk.row_place + walk.step })

abbrev pub CanTurn : Operand → Type 0
CanTurn (Number n) = Unit {0}
CanTurn (Elements walk) = walk.row_place < 2 ^ 32
