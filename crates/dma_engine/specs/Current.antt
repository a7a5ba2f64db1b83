-- Inner: how far a transfer has come.
use Rattle.std.specs.Prelude.{◌≡◌, ℕ, ◌+◌, ◌-◌, ◌*◌, ◌/◌, ◌%◌, ◌<◌, min, map, Bool, true, false, pos}
use Rattle.ven_base.specs.Store.{Store}
use Rattle.ven_base.specs.Job.{Job}
use Rattle.venice_isa.specs.declared.work.DmaWork.{DmaWork}
use Rattle.venice_isa.specs.Cell.{byte_of, clear, part, overwritten}
use Rattle.venice_isa.specs.Beat.{Progress, beats_of_row, transfer_beats}
use Rattle.dma_engine.specs.declared.current.Current.{Current}
use Rattle.dma_engine.specs.declared.direction.Direction.{Direction}
use Rattle.dma_engine.specs.declared.direction.Direction.TheVariants.{IntoCells, IntoMemory}

-- the beats done: those of the rows behind, and those of the row
unfoldable pub done_of : Current → ℕ
done_of current = current.row * beats_of_row current.work.bytes 16 + current.column / 16

abbrev pub job_of : Current → Job DmaWork Progress
job_of current = record { work = current.work; progress = record { done = done_of current; sum = pos 0 } }

-- how many bytes the next beat moves
abbrev pub beat_bytes_of : Current → ℕ
beat_bytes_of current = min 16 (current.work.bytes - current.column)

-- there is a next byte, and a beat begins with it
pub record IsUnderWay (current : Current) : Type 0 where
  pub in_rows : current.row < current.work.rows
  pub in_row : current.column < current.work.bytes
  pub begins_beat : current.column % 16 ≡ 0

-- the transfer is one beat on
pub record IsNext (current next : Current) : Type 0 where
  pub same_work : next.work ≡ current.work
  pub under_way : IsUnderWay next
  pub one_more : done_of next ≡ done_of current + 1

-- or that beat was its last
abbrev pub HasAdvanced : Current → Bool → Current → Type 0
HasAdvanced current true next = IsNext current next
HasAdvanced current false next = done_of current + 1 ≡ transfer_beats current.work

-- so many bytes go from memory, from a place on, to the cells from a cell on, whose flags are cleared, or back
abbrev pub moved : Direction → (cell place count : ℕ) → Store → Store
moved IntoCells cell place count store =
    record store { cells = overwritten store.cells cell (map clear (part store.memory place count)) }
moved IntoMemory cell place count store =
    record store { memory = overwritten store.memory place (map byte_of (part store.cells cell count)) }
