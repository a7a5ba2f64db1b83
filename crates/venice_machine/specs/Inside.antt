-- Inner: what the machine of the code is made of, and what it keeps.
use Rattle.std.specs.Prelude.{◌≡◌, ℕ, ◌+◌, ◌<◌, ◌≤◌, List, length, All}
use Rattle.ven_base.specs.Store.{store_of, store_size}
use Rattle.ven_base.specs.declared.entry.Entry.{Entry}
use Rattle.image_loader.specs.Table.{array_bytes}
use Rattle.image_loader.specs.Image.{raw_entry, IsImage, ImageContents}
use Rattle.venice_machine.specs.declared.machine.Machine.TheInside.{Inside as MachineInside}
use Rattle.venice_machine.specs.Run.{step_limit}
use Rattle.venice_machine.specs.Machine.{MachineContents}
use Rattle.venice_machine.specs.Kept.{AllNumbered, AllLieIn}

abbrev pub contents_of : MachineInside → MachineContents
contents_of machine = record {
  setup = record { code = machine.code; table = machine.table.items; lane_count = machine.works.lane_count };
  host = machine.host;
  queues = machine.works.queues;
  cells = machine.cells;
  memory = machine.memory;
  issues = machine.issues;
  steps = machine.steps;
  cycles = machine.cycles;
  end = machine.end;
}

-- each array of a table lies in a memory of this size
abbrev pub AllStandIn : ℕ → List Entry → Type 0
AllStandIn size table = All (λ entry. entry.place + array_bytes (raw_entry entry) ≤ size) table

-- code, table and memory are those of an image
pub record IsOfImage (machine : MachineContents) : Type 0 where
  pub image : ImageContents
  pub is_image : IsImage image
  pub code_is : machine.setup.code ≡ image.code
  pub table_is : machine.setup.table ≡ image.arrays
  pub memory_is : length machine.memory ≡ image.memory

-- the machine is of an image, every work has its number and lies in cells and memory, the host is in the code, and the
-- counts have room to grow
pub record IsMachine (machine : MachineContents) : Type 0 where
  pub of_image : IsOfImage machine
  pub numbered : AllNumbered machine.queues
  pub in_range : AllLieIn (store_size (store_of machine.cells machine.memory)) machine.queues
  pub in_code : machine.host.place < length machine.setup.code.instrs
  pub few_steps : machine.steps ≤ step_limit
  pub few_issues : machine.issues ≤ machine.steps
